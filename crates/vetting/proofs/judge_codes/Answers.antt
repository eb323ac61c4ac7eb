use native.Mathlib.Omega.{arith}
use mathlib.Core.Path.{◌≡◌, refl, sym, ap, ◌∙◌}
use mathlib.Core.List.{List}
use mathlib.Core.Bool.{true, false}
use Prim.Native.Nat.{ℕ, ◌+◌, ◌*◌, ◌<◌, ◌≤◌}
use lib.ListN.{length, get_or, take, drop}
use borrow.Author.Tests.{le-leb, lt-leb}
use Rattle.formula.specs.Table.{Table}
use Rattle.encoding.specs.Parse.{fits_from}
use Rattle.proof_files.specs.ReadProof.{is_code_lem}
use Rattle.proof_files.specs.ProofParts.{kind_table}
use Rattle.writing.specs.Ends.{next, stop}
use Rattle.writing.specs.FieldEnds.{rising_end}
use Rattle.vetting.specs.StepLaws.{finds_stop, finds_next}
use Rattle.vetting.specs.WalkLaws.{RisingLeft, rising_begins, rising_stop, rising_on, rising-end, part_long, part_at}
use Rattle.vetting.proofs.judge_codes.Goals as goal
use Rattle.vetting.proofs.judge_codes.Goals.{After-wide-number, then-number-least-via-then-number-least, then-number-least-via-else-number-least+then-not-is_code}

-- in a turn: the code is read, and passes the test or not
module _ (c : After-wide-number) where
  abbrev table : Table
  table = kind_table c.args.kinds.now c.args.entries

  abbrev floor : ℕ
  floor = c.loop-i.least

  abbrev here : ℕ
  here = c.loop-i.i

  abbrev walked : List ℕ
  walked = take c.args.count (drop c.args.start c.args.codes.now)

  inside : here < length walked
  inside = omega (arith, part_long c.args.codes.now c.args.start c.args.count c.requires.1)

  read : c.wide-number.result ≡ get_or walked here 0
  read = c.wide-number.ensures ∙ part_at c.args.codes.now c.args.start c.args.count c.requires.1 here c.loop-i-test.true

  stops : fits_from (is_code_lem table) floor c.wide-number.result ≡ false → rising_end (is_code_lem table) 34 walked c.args.at ≡ stop 34 (c.args.at + 2 * here)
  stops f = rising_stop c.loop-i.invariant inside c.wide-number.result read f

  goes_on : fits_from (is_code_lem table) floor c.wide-number.result ≡ true → RisingLeft (is_code_lem table) 34 walked c.args.at (here + 1) (c.wide-number.result + 1)
  goes_on f = rising_on c.loop-i.invariant inside c.wide-number.result read f

  -- a code that rises is tested by its entry
  tested : floor ≤ c.wide-number.result → fits_from (is_code_lem table) floor c.wide-number.result ≡ is_code_lem table (get_or c.args.codes.now (c.args.start + here) 0)
  tested h = rw (le-leb floor c.wide-number.result h) (ap (is_code_lem table) c.wide-number.ensures)

pub loop-i-init : goal.loop-i-init
loop-i-init c = rising_begins _ _ _ _

pub returns-then-number-least : goal.returns-then-number-least
returns-then-number-least c =
    let p = (goal.at.returns-then-number-least c).After-wide-number in
    finds_stop
    (stops p (elim c.then-number-least.branch [
      | then-number-least-via-then-number-least w ↦ rw (lt-leb (floor p) c.wide-number.result w.if-number-least.true) refl
      | then-number-least-via-else-number-least+then-not-is_code w ↦ tested p w.if-number-least.false ∙ sym w.if-not-is_code.ensures
    ]))
    c.unfit_code.ensures

pub loop-i-preserved : goal.loop-i-preserved
loop-i-preserved c =
    let p = (goal.at.loop-i-preserved c).After-wide-number in
    goes_on p (tested p c.if-number-least.false ∙ sym c.if-not-is_code.ensures)

pub returns : goal.returns
returns c =
    let n = part_long c.args.codes.now c.args.start c.args.count c.requires.1 in
    finds_next (rising-end c.loop-i.invariant (omega arith) ∙ ap (λ (m : ℕ). next (c.args.at + 2 * m)) n) (omega arith)
