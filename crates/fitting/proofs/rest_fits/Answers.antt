-- `rest_fits` meets its contract: rule 3 is tested at the new root, whose side is the rest.
use mathlib.Core.Path.{◌≡◌, sym, ap, ap₂, ◌∙◌}
use mathlib.Core.Bool.{Bool, false}
use mathlib.Core.List.{List, ◌∷◌}
use Prim.Native.Nat.{ℕ, ◌<◌}
use native.Mathlib.Omega.{arith}
use lib.ListN.{length}
use Rattle.verdict.specs.Sets.{elements}
use Rattle.verdict.specs.Tests.{member, each}
use Rattle.formula.specs.Kind
use Rattle.formula.specs.Table.{Table, kind}
use Rattle.formula.specs.Codes.{Formula, code, entry_of_lem, code_entry}
use Rattle.formula.specs.Plain.{table_of, table_of_length, table_of_kind}
use Rattle.sequents.specs.CodeSet.{holds_none}
use Rattle.sequents.specs.Keys.{in_focus as focusAt, key_at_lem}
use Rattle.sequents.specs.Part.{part}
use Rattle.joining.specs.Goals.{holds}
use Rattle.joining.specs.Joined.{in_focus}
use Rattle.fitting.specs.Focused.{column_keys, code_keys, focused_holds}
use Rattle.fitting.specs.RestKept.{root_side, root_kept, root_apart}
use Rattle.fitting.proofs.rest_fits.Goals as goal
use Rattle.fitting.proofs.rest_fits.Goals.{After-has, Start}

-- the table that the function is lent
abbrev table : Start → Table
table s = table_of s.args.table.now.columns.kinds.now s.args.table.now.columns.a.now s.args.table.now.columns.b.now s.args.table.now.columns.count

abbrev found : Start → List ℕ
found s = part s.args.rest.now 0 s.args.count

of_and : (s : Start) → kind (table s) s.args.entry ≡ Kind.AND
of_and s = table_of_kind s.args.table.now.columns.kinds.now s.args.table.now.columns.a.now s.args.table.now.columns.b.now s.args.table.now.columns.count s.args.entry s.requires.0.inside ∙ s.requires.0.of_kind

inside : (s : Start) (e : ℕ) → elements (found s) e → e < length (table s)
inside s e m = omega (arith, s.requires.1.inside e m, table_of_length s.args.table.now.columns.kinds.now s.args.table.now.columns.a.now s.args.table.now.columns.b.now s.args.table.now.columns.count)

is_formula : (s : Start) → Formula (table s) s.args.entry
is_formula s = record {
  inside = omega (arith, s.requires.0.inside, table_of_length s.args.table.now.columns.kinds.now s.args.table.now.columns.a.now s.args.table.now.columns.b.now s.args.table.now.columns.count);
  no_name = λ h. omega (arith, of_and s);
}

-- whether the entry is a member of the rest
told : (c : After-has) → c.has.result ≡ holds (table_of c.args.table.now.columns.kinds.now c.args.table.now.columns.a.now c.args.table.now.columns.b.now c.args.table.now.columns.count) (part c.args.rest.now 0 c.args.count) c.args.entry
told c =
    let t = table_of c.args.table.now.columns.kinds.now c.args.table.now.columns.a.now c.args.table.now.columns.b.now c.args.table.now.columns.count in
    let ms = part c.args.rest.now 0 c.args.count in
    let long = table_of_length c.args.table.now.columns.kinds.now c.args.table.now.columns.a.now c.args.table.now.columns.b.now c.args.table.now.columns.count in
    let N = c.args.table.now.numbers in
    let within : c.args.entry < length t = omega (arith, c.requires.0.inside, long) in
    let here = c.key.ensures.1 ∙ ap (focusAt c.args.table.now.canon.now) c.wide.ensures ∙ key_at_lem N c.args.entry 1 within in
    c.has.ensures (each (focusAt c.args.table.now.canon.now) ms) c.put_goal.ensures
    ∙ ap₂ {C = Bool} member (column_keys t N ms (λ (e : ℕ) (m : elements ms e). omega (arith, c.requires.1.inside e m, long))) here
    ∙ focused_holds t ms c.args.entry

pub put_goal-requires : goal.put_goal-requires
put_goal-requires c =
    let p = c.requires in
    (c.args.table.now.numbers.narrow, record { order = p.1.order; few = p.1.few; long = p.1.long; inside = λ e m. omega (arith, p.1.inside e m, c.args.table.now.columns.few) }, holds_none)

pub returns-then-has : goal.returns-then-has
returns-then-has c l m H = sym (root_apart (table (goal.at.returns-then-has c).Start) c.args.entry (is_formula (goal.at.returns-then-has c).Start) (of_and (goal.at.returns-then-has c).Start) (found (goal.at.returns-then-has c).Start) l m (sym (told (goal.at.returns-then-has c).After-has) ∙ c.if-has.true))

pub and_kept-requires : goal.and_kept-requires
and_kept-requires c =
    let p = c.requires.0 in
    let here : entry_of_lem c.code_of.result ≡ c.args.entry = ap entry_of_lem c.code_of.ensures.1 ∙ code_entry c.args.entry 1 (omega arith) in
    record { well = p.well; numbers = c.args.table.now.numbers; small = c.args.table.now.columns.few; inside = rw here p.inside; no_name = rw here (is_formula (goal.at.and_kept-requires c).Start).no_name }

pub returns : goal.returns
returns c l m H =
    let t = table (goal.at.returns c).Start in
    let e = c.args.entry in
    let apart : holds t (found (goal.at.returns c).Start) e ≡ false = sym (told (goal.at.returns c).After-has) ∙ c.if-has.false in
    let kept = rw c.code_of.ensures.1 at c.and_kept.ensures in
    kept (code e 1 ∷ in_focus (found (goal.at.returns c).Start)) (in_focus l) (in_focus m)
    (root_side t e (is_formula (goal.at.returns c).Start) (of_and (goal.at.returns c).Start) (found (goal.at.returns c).Start) apart (rw (← column_keys t c.args.table.now.numbers (found (goal.at.returns c).Start) (inside (goal.at.returns c).Start)) c.put_goal.ensures))
    (rw (code_keys t l) H.first)
    (rw (code_keys t m) H.second)
    ∙ root_kept t e (is_formula (goal.at.returns c).Start) (of_and (goal.at.returns c).Start) (found (goal.at.returns c).Start) apart l m
