use Rattle.std.specs.Prelude.{◌≡◌, ℕ, ◌+◌, ◌-◌, ◌*◌, ◌^◌, ◌<◌, ◌≤◌, suc}
use Rattle.std.proofs.Common.{arith, pow-suc}
use Rattle.states.specs.WordLaws.{one_small}
use Rattle.states.specs.TopDown.{upper_none}
use Rattle.states.proofs.TopDown.{upper_one, upper_whole}
use Rattle.letters.proofs.word_where.Goals as goal

-- a bit more doubles the bound
doubled : (n s r q : ℕ) → 0 < s → s ≤ n → r < 2 ^ (n - s) → q ≤ 1 + 2 * r → q < 2 ^ (n - (s - 1))
doubled n s r q h k l m =
    let e : n - (s - 1) ≡ suc (n - s) = omega arith in
    rw e (omega (arith, pow-suc 2 (n - s)))

pub loop-s-init : goal.loop-s-init
loop-s-init g c =
    let none : c.args.n - c.args.n ≡ 0 = omega arith in
    (rw none (omega arith), λ A h. upper_none)

pub loop-s-preserved : goal.loop-s-preserved
loop-s-preserved g c =
    let before = c.loop-s.invariant in (
      doubled _ _ _ _ c.loop-s-test.true c.loop-s.auto.s before.0 (omega (arith, c.push-r.ensures, one_small c.holds.result)),
      λ A h. upper_one (before.1 A h) _ _ (omega arith) (h (c.loop-s.s - 1) c.holds.result (omega arith) c.holds.ensures) c.push-r.ensures,
    )

pub returns : goal.returns
returns g c = λ A h. upper_whole (c.loop-s.invariant.1 A h) (omega arith)
