-- a claim's reading by its kinds alone
use Rattle.std.specs.Prelude.{◌≡◌, List, [], length}
use Rattle.std.proofs.Math.Path.{refl}
use Prim.Native.Nat.{ℕ}
use Rattle.std.proofs.lemmas.List.{length-replicate}
use Rattle.formula.specs.Claim.{Claim}
use Rattle.proof_files.specs.ProofParts.{kind_claim}
use Rattle.proofs.specs.ProofKinds.{Kinds, by_kinds}
use Rattle.writing.specs.RecordBytes.{proof_head}
use Rattle.writing.specs.Writing.{ProofRecords, proof_file, proof_reading}

-- it looks at the kinds of the entries and the number of the goals alone
pub by_kinds_alone : (k : Claim) (d : ProofRecords) {ks : List ℕ} {n : ℕ} → Kinds k.entries ks n
    → proof_reading k.form d k ≡ proof_reading k.form d (kind_claim k.form ks n (length k.goals))
unfolding proof_reading
by_kinds_alone k d kinds =
    rw (by_kinds k kinds (proof_file k.form d), by_kinds k kinds (proof_head k.form d.count), length-replicate {A = List ℕ} (length k.goals) []) refl
