-- `truth` meets its contract: the first member is true, and every other is it.
use mathlib.Core.Path.{◌≡◌, refl, sym, ◌∙◌}
use mathlib.Core.Bool.{true, false}
use mathlib.Core.List.{List, [], ◌∷◌}
use Prim.Native.Nat.{ℕ, ◌<◌}
use lib.ListN.{length}
use Rattle.std.specs.Bool.{◌==◌}
use Rattle.verdict.specs.Tests.{each}
use Rattle.verdict.specs.Tells.{fails, eqb_tells}
use native.Mathlib.Omega.{arith}
use borrow.Author.Tests.{eq-eqb, ne_eqb}
use Rattle.verdict.specs.Sets.{elements}
use Rattle.formula.specs.Plain.{table_of_kind}
use Rattle.sequents.specs.Keys.{keys_of}
use Rattle.sequents.specs.Part.{fit_at}
use Rattle.axioms.specs.AxiomParts.{truth_one, none_axiom, key_member}
use Rattle.axioms.proofs.truth.Goals as goal
use Rattle.axioms.proofs.truth.Goals.{After-key_of-x}

-- there is a first code
some : (cs : List ℕ) → (length cs == 0) ≡ false → 0 < length cs
some cs e = omega (arith, fails (eqb_tells (length cs) 0) e)

none : (ns cs : List ℕ) → (length cs == 0) ≡ true → keys_of ns cs ≡ []
unfolding each
none ns [] e = refl
none ns (x ∷ cs) e = absurd (omega (arith, (eqb_tells (length (x ∷ cs)) 0).says e))

-- the first member is one of the members
one : (c : After-key_of-x) → let a = c.args in elements (keys_of a.table.now.canon.now a.codes.now) c.key_of-x.result
one c =
    let a = c.args in
    rw c.key_of-x.ensures.1 (key_member a.table.now.canon.now a.codes.now 0 (some c.args.codes.now (sym c.is_empty.ensures ∙ c.if-is_empty.false)))

pub returns-then-is_empty : goal.returns-then-is_empty
returns-then-is_empty c xs ys n E = rw (none c.args.table.now.canon.now c.args.codes.now (sym c.is_empty.ensures ∙ c.if-is_empty.true)) (sym (none_axiom _).1)

pub key_of-x-requires : goal.key_of-x-requires
key_of-x-requires c = fit_at c.requires 0 (some c.args.codes.now (sym c.is_empty.ensures ∙ c.if-is_empty.false))

pub returns-then-table-entry_of-eq-TRUE : goal.returns-then-table-entry_of-eq-TRUE
returns-then-table-entry_of-eq-TRUE c xs ys n E =
    let a = c.args in
    let x = one (goal.at.returns-then-table-entry_of-eq-TRUE c).After-key_of-x in
    rw (truth_one _ _ _ x, table_of_kind a.table.now.columns.kinds.now xs ys n _ (E _ x), ← c.entry_of.ensures, eq-eqb _ _ c.if-table-entry_of-eq-TRUE.true) c.only.ensures

pub returns-else-table-entry_of-eq-TRUE : goal.returns-else-table-entry_of-eq-TRUE
returns-else-table-entry_of-eq-TRUE c xs ys n E =
    let a = c.args in
    let x = one (goal.at.returns-else-table-entry_of-eq-TRUE c).After-key_of-x in
    rw (truth_one _ _ _ x, table_of_kind a.table.now.columns.kinds.now xs ys n _ (E _ x), ← c.entry_of.ensures, ne_eqb _ _ c.if-table-entry_of-eq-TRUE.false) refl
