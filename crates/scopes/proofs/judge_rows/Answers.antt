use mathlib.Core.Path.{◌≡◌, refl, ap, sym, ◌∙◌}
use Prim.Native.Nat.{ℕ, ◌+◌, ◌*◌, ◌<◌, ◌≤◌}
use native.Mathlib.Omega.{arith}
use lib.ListN.{length}
use Rattle.verdict.specs.Shown.{earned}
use Rattle.verdict.proofs.Earned.{earned_some, earned_none}
use Rattle.formula.specs.Columned.{entries}
use Rattle.name_sets.specs.RowWords.{length_row}
use Rattle.scopes.specs.Faults.{fault_at}
use Rattle.scopes.specs.JudgeSteps.{starts, seen, refuses, goes_on, ends}
use Rattle.scopes.proofs.judge_rows.Goals as goal
use Rattle.scopes.proofs.judge_rows.Goals.{After-fault}

number_is : (c : After-fault) → c.fault.result ≡ earned (fault_at (entries c.args.table.now) c.loop-e.e)
number_is c =
    c.fault.ensures _ _ _
    (seen c.loop-e.invariant.2 c.loop-e-test.true c.places_of-first.ensures _ _
    (_, _, c.row.ensures, c.row-in-loop-e.ensures, c.free_names-free.ensures) c.with-passed.ensures
    _ _ c.of_kind-mus.ensures c.of_kind-nus.ensures _ c.row-body.ensures)

-- a row up to the turn's entry has room
room : (place e count given now : ℕ) → place ≤ e → e < count → now ≡ given → 4 * count ≤ given → 4 * place + 3 < now
room place e count given now h l q r = omega arith

-- rows of an unchanged length have room for all entries
long : (count given now : ℕ) → now ≡ given → 4 * count ≤ given → 4 * count ≤ now
long count given now q r = omega arith

pub returns-in-Some : goal.returns-in-Some
returns-in-Some c =
    let (is, some) = earned_some (sym c.in-Some.is ∙ number_is (goal.at.returns-in-Some c).After-fault) in
    refuses c.loop-e.invariant.2 c.loop-e-test.true is (λ z. some (sym is ∙ z))

pub loop-e-preserved : goal.loop-e-preserved
loop-e-preserved c =
    let head = c.loop-e in
    let p = c.put_row.ensures in
    let q = c.put_row-in-loop-e.ensures in (
      ap length p ∙ length_row head.free_rows head.e _ ∙ head.invariant.0,
      ap length q ∙ length_row head.open_rows head.e _ ∙ head.invariant.1,
      rw (p, q)
          (goes_on head.invariant.2 c.loop-e-test.true c.places_of-first.ensures _ _
          (_, _, c.row.ensures, c.row-in-loop-e.ensures, c.free_names-free.ensures) c.with-passed.ensures
          _ (_, _, c.row-body.ensures, c.row-in-loop-e-2.ensures, c.open_names-open.ensures)
          (earned_none (sym c.in_default.is ∙ number_is (goal.at.loop-e-preserved c).After-fault))
          (long _ _ _ head.invariant.0 c.requires.room.0)
          (long _ _ _ head.invariant.1 c.requires.room.1)),
    )

pub returns : goal.returns
returns c = ends c.loop-e.invariant.2 c.loop-e-test.false
