-- a claim file and a proof file by the runs of which they are stored
use Rattle.std.specs.Prelude.{◌≡◌, length, drop}
use Rattle.std.proofs.Math.Path.{refl, ap}
use Rattle.std.proofs.Common.{◌∙◌, arith}
use mathlib.Core.List.{List, [], ◌∷◌, ◌++◌, append_assoc}
use Prim.Native.Nat.{ℕ, suc, ◌+◌, ◌≤◌}
use Rattle.std.proofs.lemmas.List.{length-map}
use Rattle.std.proofs.lemmas.List.Edits.{sets}
use Rattle.verdict.specs.Lists.{values_from, values_from_length, written}
use Rattle.formula.specs.Records.{NodeRecord}
use Rattle.formula.specs.Claim.{Form, clm1, clm2, SpelledClaim, Derivation}
use Rattle.formula.specs.Plain.{plain_entry, table_of}
use Rattle.encoding.specs.Encode.{encode_two}
use Rattle.claim_files.specs.ClaimFile.{claim_opening, encode_goal_count, encode_claim}
use Rattle.proof_files.specs.ProofFile.{proof_opening, encode_roots, encode_proof}
use Rattle.writing.specs.RecordBytes.{split}
use Rattle.writing.specs.Goals.{roots_of, split_count}
use Rattle.writing.specs.Spelling.{spelled_as, spelled_claim}
use Rattle.writing.specs.ProofEnds.{nodes_over}
use Rattle.writing.specs.Held.{plain_record, records_of}
use Rattle.laying.specs.Laying.{Put, sets_written, entries_left, nodes_left}
use Rattle.laying.specs.Goals.{goals_left}

-- the claim that stands in the columns, as it is spelled, and the proof
abbrev pub claim_of : Form → List ℕ → List ℕ → List ℕ → ℕ → List (List ℕ) → SpelledClaim
claim_of f ks xs ys n goals = spelled_claim f (table_of ks xs ys n) goals

abbrev pub proof_of : Form → List ℕ → List ℕ → List ℕ → List ℕ → List ℕ → ℕ → Derivation
proof_of f os rs ls ns cs n = record { roots = roots_of f os; nodes = nodes_over (records_of rs ls ns n) cs }

-- a claim file: opening and count, entries, goal count, goals
module _ (f : Form) (ks xs ys : List ℕ) (n : ℕ) (gs ms : List ℕ) where
  abbrev pub goal_parts : List ℕ
  goal_parts = encode_goal_count f (length gs) ++ goals_left gs ms 0 0

  abbrev pub claim_parts : List ℕ
  claim_parts = (claim_opening f ++ encode_two n) ++ (entries_left ks xs ys 0 n ++ goal_parts)

  pub claim_parts_lem : claim_parts ≡ encode_claim (claim_of f ks xs ys n (split gs ms))
  unfolding table_of
  claim_parts_lem =
      rw (length-map (values_from (plain_entry ks xs ys) 0 n) spelled_as, values_from_length (plain_entry ks xs ys) 0 n, split_count gs ms)
      (append_assoc (claim_opening f) (encode_two n) (entries_left ks xs ys 0 n ++ goal_parts))

  pub claim_fits : (out : List ℕ) → length (encode_claim (claim_of f ks xs ys n (split gs ms))) ≤ length out → 0 + length claim_parts ≤ length out
  claim_fits out h = omega (arith, ap length claim_parts_lem)

-- a proof file: opening and count, roots, nodes
module _ (f : Form) (os rs ls ns cs : List ℕ) (n : ℕ) where
  abbrev pub proof_parts : List ℕ
  proof_parts = (proof_opening f ++ encode_two n) ++ (encode_roots f os ++ nodes_left rs ls ns cs 0 n 0)

  over_length : (vs : List NodeRecord) (cs : List ℕ) → length (nodes_over vs cs) ≡ length vs
  unfolding nodes_over
  over_length [] cs = refl
  over_length (v ∷ vs) cs = ap suc (over_length vs (drop v.count cs))

  roots_same : (f : Form) → encode_roots f (roots_of f os) ≡ encode_roots f os
  roots_same clm1 = refl
  roots_same clm2 = refl

  pub proof_parts_lem : proof_parts ≡ encode_proof f (proof_of f os rs ls ns cs n)
  proof_parts_lem =
      rw (over_length (records_of rs ls ns n) cs, values_from_length (plain_record rs ls ns) 0 n, roots_same f)
      (append_assoc (proof_opening f) (encode_two n) (encode_roots f os ++ nodes_left rs ls ns cs 0 n 0))

  pub proof_fits : (out : List ℕ) → length (encode_proof f (proof_of f os rs ls ns cs n)) ≤ length out → 0 + length proof_parts ≤ length out
  proof_fits out h = omega (arith, ap length proof_parts_lem)

-- a file stored from the front of the slice
pub file_put : {out after parts file : List ℕ} {next : ℕ} → parts ≡ file → length file ≤ length out → Put out 0 parts next after → after ≡ written file out
file_put {out} {after} {parts} {file} e h p = p.stored ∙ ap (sets out 0) e ∙ sets_written file out h
