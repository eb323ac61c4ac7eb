-- the verdict that each answer on a model stands for
use Rattle.verdict.specs.Verdict as verdicts
use Rattle.verdict.specs.Shown.{Answer, shown}

abbrev pub judged : Answer → verdicts.Verdict
judged a = shown a
