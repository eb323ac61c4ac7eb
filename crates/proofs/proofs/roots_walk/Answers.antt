use native.Mathlib.Omega.{arith}
use mathlib.Core.Path.{◌≡◌}
use mathlib.Core.List.{[]}
use mathlib.Core.Bool.{true, false}
use Prim.Native.Nat.{ℕ, suc, ◌+◌, ◌*◌, ◌<◌, ◌≤◌}
use borrow.Author.Tests.{le-leb, lt-ltb, le-ltb}
use Rattle.encoding.specs.Parse.{fits_from}
use Rattle.encoding.specs.Places.{word_at}
use Rattle.encoding.specs.Walk.{walk_begins, walk_steps, walk_stops, walk_ends}
use Rattle.proof_files.specs.ReadProof.{is_node}
use Rattle.proof_files.specs.ProofParts.{number_from, after_number, numbers_of}
use Rattle.proofs.specs.ProofLaws.{number_cut, number_unfit, number_fits, number_low}
use Rattle.proofs.proofs.roots_walk.Goals as goal

-- a root that rises is tested by the number of nodes
outside : (many least word : ℕ) {root : ℕ} → root ≡ word → least ≤ root → many ≤ root → fits_from (is_node many) least word ≡ false
outside many least word e l h = rw (le-leb least word (omega arith)) (le-ltb word many (omega arith))

inside : (many least word : ℕ) {root : ℕ} → root ≡ word → least ≤ root → root < many → fits_from (is_node many) least word ≡ true
inside many least word e l h = rw (le-leb least word (omega arith)) (lt-ltb word many (omega arith))

pub loop-i-init : goal.loop-i-init
unfolding numbers_of
loop-i-init c = (omega arith, ([], walk_begins _ _ _ _ _ _))

pub returns-then-bytes-at : goal.returns-then-bytes-at
returns-then-bytes-at c =
    rw c.at.ensures
    (walk_stops (number_from (is_node c.args.nodes)) after_number c.loop-i.invariant.1.1 c.loop-i-test.true
    (number_cut (is_node c.args.nodes) c.args.bytes.now _ _ (omega arith) c.if-bytes-at.true))

pub returns-then-root-least : goal.returns-then-root-least
returns-then-root-least c =
    rw c.at-then-root-least.ensures
    (walk_stops (number_from (is_node c.args.nodes)) after_number c.loop-i.invariant.1.1 c.loop-i-test.true
    (number_low (is_node c.args.nodes) c.args.bytes.now _ c.loop-i.least (omega arith) (omega (arith, c.word_at-root.ensures))))

pub returns-then-nodes-root : goal.returns-then-nodes-root
returns-then-nodes-root c =
    rw c.at-then-nodes-root.ensures
    (walk_stops (number_from (is_node c.args.nodes)) after_number c.loop-i.invariant.1.1 c.loop-i-test.true
    (number_unfit (is_node c.args.nodes) c.args.bytes.now _ c.loop-i.least (omega arith)
    (outside c.args.nodes c.loop-i.least (word_at c.args.bytes.now (6 + 2 * c.loop-i.i)) c.word_at-root.ensures c.if-root-least.false c.if-nodes-root.true)))

pub loop-i-preserved : goal.loop-i-preserved
loop-i-preserved c =
    let e : suc (word_at c.args.bytes.now (6 + 2 * c.loop-i.i)) ≡ c.word_at-root.result + 1 = omega (arith, c.word_at-root.ensures) in
    let stepped =
    walk_steps (number_from (is_node c.args.nodes)) after_number c.loop-i.invariant.1.1 c.loop-i-test.true
    (number_fits (is_node c.args.nodes) c.args.bytes.now _ c.loop-i.least (omega arith)
    (inside c.args.nodes c.loop-i.least (word_at c.args.bytes.now (6 + 2 * c.loop-i.i)) c.word_at-root.ensures c.if-root-least.false c.if-nodes-root.false)) in
    let o : 6 + 2 * c.loop-i.i + 2 ≡ 6 + 2 * (c.loop-i.i + 1) = omega arith in
    (omega arith, (_, rw (e, o) at stepped))

pub returns : goal.returns
returns c =
    let e : c.loop-i.i ≡ c.args.goals = omega arith in
    let done = rw e at c.loop-i.invariant.1.1 in (
      _,
      record { found = walk_ends (number_from (is_node c.args.nodes)) after_number done (omega arith); inside = omega arith; near = omega arith },
    )
