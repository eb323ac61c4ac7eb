-- each return is the law of FileSteps for state count, states and end of the file
use mathlib.Core.Path.{◌≡◌, sym, ap, ◌∙◌}
use mathlib.Core.List.{List}
use Prim.Native.Nat.{ℕ}
use native.Mathlib.Omega.{arith}
use lib.ListN.{get_or}
use Rattle.verdict.proofs.PassedOn.{passed_on}
use Rattle.encoding.specs.Encode.{Counts}
use Rattle.encoding.specs.ListLaws.{range_tells}
use Rattle.encoding.specs.File.{Reading}
use Rattle.encoding.specs.Outcome.{verdict_of}
use Rattle.model_files.specs.ModelFile.{Form, State}
use Rattle.model_files.specs.ReadModel.{form_by, read_form}
use Rattle.model.specs.FileSteps.{count_cut, count_unfit, model_stops, model_follows, model_ends}
use Rattle.model.proofs.judge.judge_body.Goals as goal
use Rattle.model.proofs.judge.judge_body.Goals.{Else-not-count_fits}

answers : (f : Form) (s : List ℕ) {x : Reading (List State)} → read_form f s ≡ x → verdict_of x ≡ verdict_of (read_form f s)
answers f s e = ap verdict_of (sym e)

counts : (c : Else-not-count_fits) → Counts 1 64 (get_or c.args.bytes.now 4 0)
counts c = (range_tells 1 64 _).says (sym c.count_fits.ensures ∙ c.if-not-count_fits.false)

pub returns-then-bytes-lt5 : goal.returns-then-bytes-lt5
returns-then-bytes-lt5 c = rw c.at.ensures (answers _ _ (count_cut (form_by c.args.acts) c.args.bytes.now c.requires c.if-bytes-lt5.true))

pub returns-then-not-count_fits : goal.returns-then-not-count_fits
returns-then-not-count_fits c =
    rw c.at-then-not-count_fits.ensures (answers _ _ (count_unfit (form_by c.args.acts) c.args.bytes.now c.requires (omega arith) (sym c.count_fits.ensures ∙ c.if-not-count_fits.true)))

pub returns-then-at-bytes : goal.returns-then-at-bytes
returns-then-at-bytes c =
    rw c.at-then-at-bytes.ensures
    (answers _ _ (model_follows (form_by c.args.acts) c.args.bytes.now c.requires (omega arith) (counts (goal.at.returns-then-at-bytes c).Else-not-count_fits) c.in_ok-at.ensures.1 c.if-at-bytes.true))

pub returns-in_err-at : goal.returns-in_err-at
returns-in_err-at c =
    rw (passed_on _ c.from_residual.ensures.1)
    (answers _ _ (model_stops (form_by c.args.acts) c.args.bytes.now c.requires (omega arith) (counts (goal.at.returns-in_err-at c).Else-not-count_fits) c.in_err-at.ensures))

pub returns : goal.returns
returns c =
    answers _ _ (model_ends (form_by c.args.acts) c.args.bytes.now c.requires (omega arith) (counts (goal.at.returns c).Else-not-count_fits) c.in_ok-at.ensures.1 c.if-at-bytes.false)
