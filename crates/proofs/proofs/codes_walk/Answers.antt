use native.Mathlib.Omega.{arith}
use mathlib.Core.Path.{◌≡◌, sym, ap, ◌∙◌}
use mathlib.Core.List.{[]}
use mathlib.Core.Bool.{Bool}
use Prim.Native.Nat.{ℕ, suc, ◌+◌, ◌*◌, ◌≤◌}
use borrow.Author.Tests.{le-leb}
use Rattle.formula.specs.Table.{Table}
use Rattle.encoding.specs.Parse.{fits_from}
use Rattle.encoding.specs.Places.{word_at}
use Rattle.encoding.specs.Walk.{walk_begins, walk_steps, walk_stops, walk_ends}
use Rattle.proof_files.specs.ReadProof.{is_code_lem}
use Rattle.proof_files.specs.ProofParts.{kind_table, number_from, after_number, numbers_of}
use Rattle.proofs.specs.ProofLaws.{number_cut, number_unfit, number_fits, number_low}
use Rattle.proofs.proofs.codes_walk.Goals as goal

-- a code that rises is tested by its entry
rises : (table : Table) (least word : ℕ) {code : ℕ} {fits : Bool} → code ≡ word → least ≤ code → fits ≡ is_code_lem table code
    → fits_from (is_code_lem table) least word ≡ fits
rises table least word e l tested = rw (le-leb least word (omega arith)) (ap (is_code_lem table) (sym e) ∙ sym tested)

pub loop-i-init : goal.loop-i-init
unfolding numbers_of
loop-i-init c = let e : c.args.start + 0 ≡ c.args.start = omega arith in (omega arith, ([], rw e (walk_begins _ _ _ _ _ _)))

pub returns-then-bytes-at : goal.returns-then-bytes-at
returns-then-bytes-at c =
    let table : Table = kind_table c.args.kinds.now c.args.count in
    rw c.at.ensures
    (walk_stops (number_from (is_code_lem table)) after_number c.loop-i.invariant.1.1 c.loop-i-test.true
    (number_cut (is_code_lem table) c.args.bytes.now _ _ (omega arith) c.if-bytes-at.true))

pub returns-then-code-least : goal.returns-then-code-least
returns-then-code-least c =
    let table : Table = kind_table c.args.kinds.now c.args.count in
    rw c.at-then-code-least.ensures
    (walk_stops (number_from (is_code_lem table)) after_number c.loop-i.invariant.1.1 c.loop-i-test.true
    (number_low (is_code_lem table) c.args.bytes.now _ c.loop-i.least (omega arith) (omega (arith, c.word_at-code.ensures))))

pub returns-then-not-is_code : goal.returns-then-not-is_code
returns-then-not-is_code c =
    let table : Table = kind_table c.args.kinds.now c.args.count in
    rw c.at-then-not-is_code.ensures
    (walk_stops (number_from (is_code_lem table)) after_number c.loop-i.invariant.1.1 c.loop-i-test.true
    (number_unfit (is_code_lem table) c.args.bytes.now _ c.loop-i.least (omega arith)
    (rises table c.loop-i.least (word_at c.args.bytes.now (c.args.start + 2 * c.loop-i.i)) c.word_at-code.ensures c.if-code-least.false c.is_code.ensures ∙ c.if-not-is_code.true)))

pub loop-i-preserved : goal.loop-i-preserved
loop-i-preserved c =
    let table : Table = kind_table c.args.kinds.now c.args.count in
    let e : suc (word_at c.args.bytes.now (c.args.start + 2 * c.loop-i.i)) ≡ c.word_at-code.result + 1 = omega (arith, c.word_at-code.ensures) in
    let stepped =
    walk_steps (number_from (is_code_lem table)) after_number c.loop-i.invariant.1.1 c.loop-i-test.true
    (number_fits (is_code_lem table) c.args.bytes.now _ c.loop-i.least (omega arith)
    (rises table c.loop-i.least (word_at c.args.bytes.now (c.args.start + 2 * c.loop-i.i)) c.word_at-code.ensures c.if-code-least.false c.is_code.ensures ∙ c.if-not-is_code.false)) in
    let o : c.args.start + 2 * c.loop-i.i + 2 ≡ c.args.start + 2 * (c.loop-i.i + 1) = omega arith in
    (omega arith, (_, rw (e, o) at stepped))

pub returns : goal.returns
returns c =
    let e : c.loop-i.i ≡ c.args.n = omega arith in
    let done = rw e at c.loop-i.invariant.1.1 in (
      _,
      record { found = walk_ends (number_from (is_code_lem (kind_table _ _))) after_number done (omega arith); inside = omega arith; near = omega arith },
    )
