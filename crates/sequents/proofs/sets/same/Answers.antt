-- `same` meets its contract: sets are the same where all eight words are, and only there.
use Rattle.std.proofs.lemmas.Slice.Eq.{slice_eq-Decides}
use Rattle.std.proofs.lemmas.Bool.Decides.{Decides-eqb}
use Rattle.verdict.specs.Tells.{same_test}
use Rattle.sequents.specs.CodeSet.{same_lists}
use Rattle.sequents.proofs.sets.same.Goals as goal

pub returns : goal.returns
returns c l m X Y =
    let a = c.args in
    let words = slice_eq-Decides Decides-eqb a.x.now a.y.now _ c.eq.ensures in
    same_test (record { says = words.0; holds = words.1 }) (same_lists a.x.now a.y.now l m X Y)
