-- `clash` meets its contract: the first member and the first that is another are all, and opposite.
use mathlib.Core.Path.{refl, sym, ◌∙◌}
use mathlib.Core.Logic.{◌≢◌}
use Prim.Native.Nat.{◌<◌}
use lib.ListN.{length}
use mathlib.Core.Path.{◌≡◌}
use native.Mathlib.Omega.{arith}
use borrow.Author.Rules.{rules}
use Rattle.verdict.specs.Sets.{elements}
use Rattle.sequents.specs.Keys.{keys_of}
use Rattle.sequents.specs.Part.{fit_at}
use Rattle.axioms.specs.AxiomParts.{clash_alone, clash_pair, keys_few, key_member, other_within, other_none, other_key}
use mathlib.Core.Bool.{◌&&◌, ◌||◌}
use Rattle.formula.specs.Table.{Table}
use Rattle.calculus.specs.Judge.{opposite, clash}
use Rattle.axioms.proofs.clash.Goals as goal
use Rattle.axioms.proofs.clash.Goals.{After-key_of-x, After-key_of-y, After-only, Else-other-codes}

-- the first member, the other, and that it is another
one : (c : After-key_of-x) → let a = c.args in elements (keys_of a.table.now.canon.now a.codes.now) c.key_of-x.result
one c =
    let a = c.args in
    rw c.key_of-x.ensures.1 (key_member a.table.now.canon.now a.codes.now 0 (omega (arith, c.if-codes-lt2.false)))

-- the place found with another member is within
within : (c : Else-other-codes) → c.other_member-other.result < length c.args.codes.now
within c =
    let a = c.args in
    omega (arith, other_within a.table.now.canon.now a.codes.now c.key_of-x.result, c.other_member-other.ensures, c.if-other-codes.false)

-- the first member that is another
two : (c : After-key_of-y) → let a = c.args in elements (keys_of a.table.now.canon.now a.codes.now) c.key_of-y.result
two c =
    let a = c.args in
    rw c.key_of-y.ensures.1 (key_member a.table.now.canon.now a.codes.now c.other_member-other.result (within (goal.at.After-key_of-y c).Else-other-codes))

another : (c : After-key_of-y) → c.key_of-y.result ≢ c.key_of-x.result
another c e =
    let a = c.args in
    let o = c.other_member-other.ensures in
    let w = within (goal.at.After-key_of-y c).Else-other-codes in
    other_key a.table.now.canon.now a.codes.now c.key_of-x.result (omega (arith, o, w)) (rw (← o) (sym c.key_of-y.ensures.1 ∙ e))

pub returns-then-codes-lt2 : goal.returns-then-codes-lt2
returns-then-codes-lt2 c ys n E = sym (clash_alone _ _ _ (keys_few c.args.table.now.canon.now c.args.codes.now c.if-codes-lt2.true))

pub key_of-x-requires : goal.key_of-x-requires
key_of-x-requires c = fit_at c.requires 0 (omega (arith, c.if-codes-lt2.false))

pub returns-then-other-codes : goal.returns-then-other-codes
returns-then-other-codes c ys n E =
    let a = c.args in
    sym (clash_alone _ _ c.key_of-x.result (other_none a.table.now.canon.now a.codes.now _ (omega (arith, c.if-other-codes.true, c.other_member-other.ensures))))

pub offset_bounds-codes-other : goal.offset_bounds-codes-other
offset_bounds-codes-other c = let w = within c in search rules

pub bounds-codes-other : goal.bounds-codes-other
bounds-codes-other c = let w = within (goal.at.bounds-codes-other c).Else-other-codes in search rules

pub key_of-y-requires : goal.key_of-y-requires
key_of-y-requires c = fit_at c.requires c.other_member-other.result (within (goal.at.key_of-y-requires c).Else-other-codes)

-- once the first two members stand, the judge's test is the code's
pair : (c : After-only) → let a = c.args in (t : Table) → clash t (keys_of a.table.now.canon.now a.codes.now)
    ≡ (c.only.result && (opposite t c.key_of-x.result c.key_of-y.result || opposite t c.key_of-y.result c.key_of-x.result))
pair c t =
    rw c.only.ensures (clash_pair t _ _ _ (one (goal.at.After-only c).After-key_of-x) (two (goal.at.After-only c).After-key_of-y) (another (goal.at.After-only c).After-key_of-y))

pub returns-else-only : goal.returns-else-only
returns-else-only c ys n E = rw (pair (goal.at.returns-else-only c).After-only, c.if-only.false) refl

pub returns-then-opposite : goal.returns-then-opposite
returns-then-opposite c ys n E =
    let x = one (goal.at.returns-then-opposite c).After-key_of-x in
    let y = two (goal.at.returns-then-opposite c).After-key_of-y in
    rw (pair (goal.at.returns-then-opposite c).After-only, c.if-only.true, ← c.opposite.ensures ys n (E _ x) (E _ y), c.if-opposite.true) refl

pub returns-else-opposite : goal.returns-else-opposite
returns-else-opposite c ys n E =
    let x = one (goal.at.returns-else-opposite c).After-key_of-x in
    let y = two (goal.at.returns-else-opposite c).After-key_of-y in
    rw (pair (goal.at.returns-else-opposite c).After-only, c.if-only.true, ← c.opposite.ensures ys n (E _ x) (E _ y), c.if-opposite.false)
    (c.opposite-else-opposite.ensures ys n (E _ y) (E _ x))
