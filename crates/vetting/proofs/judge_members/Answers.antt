use native.Mathlib.Omega.{arith}
use mathlib.Core.Path.{◌≡◌, sym, ap, ◌∙◌}
use mathlib.Core.List.{List, []}
use mathlib.Core.Bool.{Bool}
use Prim.Native.Nat.{ℕ, ◌+◌, ◌*◌, ◌<◌}
use lib.ListN.{length, get_or, take, drop}
use Rattle.formula.specs.Members.{is_formula}
use Rattle.encoding.specs.Parse.{fits_from}
use Rattle.proof_files.specs.ProofParts.{kind_table}
use Rattle.writing.specs.Ends.{next}
use Rattle.vetting.specs.StepLaws.{finds_stop, finds_next}
use Rattle.vetting.specs.WalkLaws.{rising_begins, rising_stop, rising_on, rising-end, part_long, part_at}
use Rattle.vetting.specs.KindTests.{may_follow_fits}
use Rattle.vetting.proofs.judge_members.Goals as goal
use Rattle.vetting.proofs.judge_members.Goals.{After-may_follow, Start}

-- the members that are walked over
module _ (c : Start) where
  abbrev all : List ℕ
  all = take c.args.listed (drop c.args.start c.args.members.now)

  long : length all ≡ c.args.listed
  long = part_long c.args.members.now c.args.start c.args.listed c.requires.1

-- in a turn: the member is read, and the code's test of it is the walk's
module _ (c : After-may_follow) where
  abbrev ok : ℕ → Bool
  ok = is_formula (kind_table c.args.kinds.now c.args.count)

  abbrev here : ℕ
  here = c.loop-i.i

  abbrev walked : List ℕ
  walked = take c.args.listed (drop c.args.start c.args.members.now)

  inside : here < length walked
  inside = omega (arith, part_long c.args.members.now c.args.start c.args.listed c.requires.1)

  read : c.wide-member.result ≡ get_or walked here 0
  read = c.wide-member.ensures ∙ part_at c.args.members.now c.args.start c.args.listed c.requires.1 here c.loop-i-test.true

  fits : fits_from ok c.loop-i.floor c.wide-member.result ≡ c.may_follow.result
  fits = sym (c.may_follow.ensures ∙ may_follow_fits _ [] [] _ c.loop-i.floor c.wide-member.result)

pub loop-i-init : goal.loop-i-init
loop-i-init c = rising_begins _ _ _ _

pub returns-then-not-may_follow : goal.returns-then-not-may_follow
returns-then-not-may_follow c =
    finds_stop (rising_stop c.loop-i.invariant (inside (goal.at.returns-then-not-may_follow c).After-may_follow) c.wide-member.result (read (goal.at.returns-then-not-may_follow c).After-may_follow) (fits (goal.at.returns-then-not-may_follow c).After-may_follow ∙ c.if-not-may_follow.true))
    c.at.ensures

pub loop-i-preserved : goal.loop-i-preserved
loop-i-preserved c =
    rising_on c.loop-i.invariant (inside (goal.at.loop-i-preserved c).After-may_follow) c.wide-member.result (read (goal.at.loop-i-preserved c).After-may_follow) (fits (goal.at.loop-i-preserved c).After-may_follow ∙ c.if-not-may_follow.false)

pub returns : goal.returns
returns c =
    finds_next (rising-end c.loop-i.invariant (omega (arith, long (goal.at.returns c).Start)) ∙ ap (λ (m : ℕ). next (c.args.at + 2 * m)) (long (goal.at.returns c).Start)) (omega arith)
