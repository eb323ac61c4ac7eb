use native.Mathlib.Omega.{arith}
use mathlib.Core.Path.{◌≡◌, refl}
use mathlib.Core.Bool.{false}
use Prim.Native.Nat.{ℕ, ◌+◌, ◌*◌}
use borrow.Author.Tests.{le-leb, lt-leb, lt-ltb, le-ltb}
use Rattle.encoding.specs.Parse.{fits_from}
use Rattle.proof_files.specs.ReadProof.{is_node}
use Rattle.writing.specs.Ends.{stop}
use Rattle.writing.specs.FieldEnds.{rising_end}
use Rattle.vetting.specs.StepLaws.{finds_stop, finds_next}
use Rattle.vetting.specs.WalkLaws.{rising_begins, rising_stop, rising_on, rising-end}
use Rattle.vetting.proofs.judge_roots.Goals as goal
use Rattle.vetting.proofs.judge_roots.Goals.{After-wide-root, then-root-least-via-then-root-least, then-root-least-via-else-root-least+then-nodes-root}

-- in a turn: a root that does not fit ends the walk
module _ (c : After-wide-root) where
  abbrev nodes : ℕ
  nodes = c.args.nodes

  abbrev floor : ℕ
  floor = c.loop-i.least

  stops : fits_from (is_node nodes) floor c.wide-root.result ≡ false → rising_end (is_node nodes) 34 c.args.roots.now 6 ≡ stop 34 (6 + 2 * c.loop-i.i)
  stops f = rising_stop c.loop-i.invariant c.loop-i-test.true c.wide-root.result c.wide-root.ensures f

pub loop-i-init : goal.loop-i-init
loop-i-init c = rising_begins _ _ _ _

pub returns-then-root-least : goal.returns-then-root-least
returns-then-root-least c =
    let p = (goal.at.returns-then-root-least c).After-wide-root in
    finds_stop
    (stops p (elim c.then-root-least.branch [
      | then-root-least-via-then-root-least w ↦ rw (lt-leb (floor p) c.wide-root.result w.if-root-least.true) refl
      | then-root-least-via-else-root-least+then-nodes-root w ↦ rw (le-leb (floor p) c.wide-root.result w.if-root-least.false, le-ltb c.wide-root.result (nodes p) w.if-nodes-root.true) refl
    ]))
    c.at.ensures

pub loop-i-preserved : goal.loop-i-preserved
loop-i-preserved c = rising_on c.loop-i.invariant c.loop-i-test.true c.wide-root.result c.wide-root.ensures
    (rw (le-leb c.loop-i.least c.wide-root.result c.if-root-least.false, lt-ltb c.wide-root.result c.args.nodes c.if-nodes-root.false) refl)

pub returns : goal.returns
returns c = finds_next (rising-end c.loop-i.invariant (omega arith)) (omega arith)
