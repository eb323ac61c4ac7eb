use mathlib.Core.Path.{◌≡◌, sym, ◌∙◌}
use mathlib.Core.List.{List}
use Prim.Native.Nat.{ℕ, ◌+◌, ◌<◌}
use native.Mathlib.Omega.{arith}
use lib.ListN.{get_or}
use Rattle.formula.specs.Table.{Table}
use Rattle.formula.specs.PlainNodes.{codes_at_lem, proof_of}
use Rattle.calculus.specs.View.{plain}
use Rattle.calculus.specs.Judge.{states}
use Rattle.sequents.specs.Keys.{RootOver}
use Rattle.sequents.specs.Placed.{Members}
use Rattle.goals.specs.Goals.{GoalsPlaced, GoalsOver}
use Rattle.goals.specs.GoalStages.{one_stated, goals_pass, goals_fail}
use Rattle.goals.proofs.judge_goals.Goals as goal
use Rattle.goals.proofs.judge_goals.Goals.{After-root_is_goal}

-- the members of goal i are entries
members_at : {n : ℕ} {gs ms : List ℕ} {k : ℕ} → GoalsPlaced n gs ms k → (i : ℕ) → i < k → Members n ms (get_or gs i 0) (get_or gs (i + 1) 0)
members_at G i h =
    let (order, long) = G.held.placed i h in
    record { order = order; few = omega (arith, long, G.held.room); long = long; inside = G.inside i h }

-- what is compared at goal i
compared : (c : After-root_is_goal) → let a = c.args in (t : Table)
    → GoalsOver t a.table.now.canon.now a.goals.now.bounds.now a.goals.now.members.now a.goals.now.count a.starts.now a.codes.now a.nodes
    → (rs ls : List ℕ)
    → c.root_is_goal.result
    ≡ states t (plain (proof_of rs ls a.starts.now a.codes.now a.nodes)) (get_or a.goals.now.roots.now c.loop-i.i 0) (codes_at_lem a.goals.now.bounds.now a.goals.now.members.now c.loop-i.i)
compared c t over rs ls =
    let a = c.args in
    let h = c.loop-i-test.true in
    let inside = c.requires.goals.roots.inside _ h in
    let root : RootOver t a.table.now.canon.now (codes_at_lem a.goals.now.bounds.now a.goals.now.members.now c.loop-i.i) (codes_at_lem a.starts.now a.codes.now (get_or a.goals.now.roots.now c.loop-i.i 0)) =
    record { numbers = over.numbers; members = over.members _ h; codes = over.codes _ inside } in
    rw (c.wide.ensures, c.wide-in-loop-i.ensures, c.wide-in-loop-i-2.ensures) at c.root_is_goal.ensures t root rs ls a.nodes inside

pub loop-i-init : goal.loop-i-init
loop-i-init c t over rs ls j h = absurd (omega arith)

pub root_is_goal-requires : goal.root_is_goal-requires
root_is_goal-requires c =
    let h = c.loop-i-test.true in (
      rw (c.wide.ensures, c.wide-in-loop-i.ensures) (members_at c.requires.goals.placed _ h),
      c.requires.by_index _ (omega (arith, c.wide-in-loop-i-2.ensures, c.requires.goals.roots.inside _ h)),
    )

pub returns-then-not-root_is_goal : goal.returns-then-not-root_is_goal
returns-then-not-root_is_goal c t over f rs ls =
    goals_fail t _ _ _ _ _ _ c.requires.goals.roots f rs ls c.loop-i-test.true
    (c.loop-i.invariant t over)
    (sym (compared (goal.at.returns-then-not-root_is_goal c).After-root_is_goal t over rs ls) ∙ c.if-not-root_is_goal.true)

pub loop-i-preserved : goal.loop-i-preserved
loop-i-preserved c t over =
    let a = c.args in
    one_stated t a.goals.now.bounds.now a.goals.now.members.now a.goals.now.roots.now a.starts.now a.codes.now a.nodes
    (c.loop-i.invariant t over)
    (λ rs ls. sym (compared (goal.at.loop-i-preserved c).After-root_is_goal t over rs ls) ∙ c.if-not-root_is_goal.false)

pub returns : goal.returns
returns c t over f rs ls = goals_pass t _ _ _ _ _ _ c.requires.goals.roots f rs ls c.loop-i-test.false (c.loop-i.invariant t over)
