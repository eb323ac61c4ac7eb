use Rattle.std.specs.Prelude.{◌≡◌, sum, map}
use Rattle.std.proofs.Common.{rules, ◌∙◌}
use Rattle.vetting.specs.GoalWalk.{total_sum}
use Rattle.vetting.proofs.total.Goals as goal

pub returns : goal.returns
returns c = let s : c.sum.result ≡ sum (map (λ x. x) c.args.sizes.now) = search rules in s ∙ total_sum c.args.sizes.now
