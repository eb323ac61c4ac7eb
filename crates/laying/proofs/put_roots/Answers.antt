-- Two bytes for each root, or nothing.
use native.Mathlib.Omega.{arith}
use mathlib.Core.Path.{subst}
use Prim.Native.Nat.{◌+◌, ◌≤◌}
use lib.ListN.{length}
use Rattle.formula.specs.Claim.{Form}
use Rattle.proof_files.specs.ProofFile.{encode_roots}
use Rattle.formula.specs.NamedForm.{names_several}
use Rattle.writing.specs.FieldEnds.{numbers_long}
use Rattle.laying.proofs.put_roots.Goals as goal

pub put_numbers-requires : goal.put_numbers-requires
put_numbers-requires c =
    let roots = c.args.roots.now in
    let room = subst (λ (f : Form). 6 + length (encode_roots f roots) ≤ length c.args.out.now) (names_several c.if-form-eq-CLM2.true) c.requires in
    (omega (arith, room, numbers_long roots), omega arith)
