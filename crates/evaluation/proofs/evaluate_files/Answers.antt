-- a short slice is refused before the files are read
use mathlib.Core.Path.{ap}
use Rattle.std.specs.Prelude.{Err}
use native.Mathlib.Omega.{arith}
use Rattle.encoding.specs.ByteLaws.{lent_bytes}
use Rattle.evaluation.specs.EvaluateStages.{entries_short, words_short, files_evaluated}
use Rattle.evaluation.proofs.evaluate_files.Goals as goal
use Rattle.evaluation.proofs.evaluate_files.Goals.{then-lent-lt256-via-then-lent-lt256, then-lent-lt256-via-else-lent-lt256+then-words-lt256}

pub returns-then-lent-lt256 : goal.returns-then-lent-lt256
returns-then-lent-lt256 c = elim c.then-lent-lt256.branch [
  | then-lent-lt256-via-then-lent-lt256 w ↦
      entries_short c.args.lent c.args.claim.now c.args.model.now c.args.words.now (lent_bytes _ c.type_inv.claim) (lent_bytes _ c.type_inv.model) _ _ _ w.if-lent-lt256.true (ap Err c.at.ensures, omega arith)
  | then-lent-lt256-via-else-lent-lt256+then-words-lt256 w ↦
      words_short c.args.lent c.args.claim.now c.args.model.now c.args.words.now (lent_bytes _ c.type_inv.claim) (lent_bytes _ c.type_inv.model) _ _ _ w.if-words-lt256.true (ap Err c.at.ensures, omega arith)
]

pub returns : goal.returns
returns c =
    files_evaluated c.args.lent c.args.claim.now c.args.model.now c.args.words.now (lent_bytes _ c.type_inv.claim) (lent_bytes _ c.type_inv.model) _ _ _ c.if-lent-lt256.false c.if-words-lt256.false c.after_lengths.ensures
