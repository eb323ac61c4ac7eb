-- `join_goals` meets its contract, test by test: the entry, its kind, the size of the rest, and that the rest fits.
use mathlib.Core.Path.{◌≡◌, sym, ap, ◌∙◌}
use mathlib.Core.List.{List}
use Prim.Native.Nat.{ℕ, ◌<◌, ◌≤◌}
use native.Mathlib.Omega.{arith}
use lib.ListN.{get_or}
use Rattle.verdict.specs.Tests.{each}
use Rattle.formula.specs.Kind
use Rattle.formula.specs.Members.{kind_formula}
use Rattle.formula.specs.Table.{Table, kind}
use Rattle.formula.specs.Plain.{table_of, table_of_length, table_of_kind}
use Rattle.sequents.specs.CodeSet.{holds_none}
use Rattle.sequents.specs.Keys.{in_focus}
use Rattle.sequents.specs.Part.{part}
use Rattle.sequents.specs.Placed.{Members}
use Rattle.joining.specs.FitTest.{fits}
use Rattle.fitting.specs.Fitting.{rest_fits_lem, other_entry, many_left, few_left}
use Rattle.fitting.specs.GoalsJoined.{goals_held, rest_many, rest_long, rest_stands, rest_inside, rest_rising, goal_joined}
use Rattle.fitting.proofs.join_goals.Goals as goal
use Rattle.fitting.proofs.join_goals.Goals.{After-find_rest-found, After-rest_fits, After-wide-2, Start}

-- the table that the function is lent, and the two goals
abbrev table : Start → Table
table s = table_of s.args.table.now.columns.kinds.now s.args.table.now.columns.a.now s.args.table.now.columns.b.now s.args.table.now.columns.count

abbrev first : Start → List ℕ
first s = part s.args.members.now s.args.from s.args.to

abbrev second : Start → List ℕ
second s = part s.args.others.now s.args.others_from s.args.others_to

-- an entry past the table is no "A and B"
past : (s : Start) → s.args.table.now.columns.count ≤ s.args.entry → kind (table s) s.args.entry ≡ Kind.AND → ⊥
past s h k =
    omega (
      arith,
      (kind_formula (table s) s.args.entry (λ q. omega (arith, k)) (λ q. omega (arith, k))).inside,
      table_of_length s.args.table.now.columns.kinds.now s.args.table.now.columns.a.now s.args.table.now.columns.b.now s.args.table.now.columns.count,
    )

-- the entry is one of the table
there : (c : After-wide-2) → c.args.entry < c.args.table.now.columns.count
there c = omega (arith, c.wide.ensures, c.if-table-wide.false)

kind_is : (c : After-wide-2) → kind (table_of c.args.table.now.columns.kinds.now c.args.table.now.columns.a.now c.args.table.now.columns.b.now c.args.table.now.columns.count) c.args.entry ≡ get_or c.args.table.now.columns.kinds.now c.wide-2.result 0
kind_is c =
    table_of_kind c.args.table.now.columns.kinds.now c.args.table.now.columns.a.now c.args.table.now.columns.b.now c.args.table.now.columns.count c.args.entry (there c) ∙ ap (λ (e : ℕ). get_or c.args.table.now.columns.kinds.now e 0) (sym c.wide-2.ensures)

-- members of a table are members of one of 256
widen : {n : ℕ} {ms : List ℕ} {i j : ℕ} → n ≤ 256 → Members n ms i j → Members 256 ms i j
widen h m = record { order = m.order; few = m.few; long = m.long; inside = λ e q. omega (arith, m.inside e q) }

-- the second goal as the program holds it
abbrev keys : Start → List ℕ
keys s = each (in_focus s.args.table.now.canon.now) (second s)

pub returns-then-table-wide : goal.returns-then-table-wide
returns-then-table-wide c = other_entry (table (goal.at.returns-then-table-wide c).Start) c.args.entry (first (goal.at.returns-then-table-wide c).Start) (second (goal.at.returns-then-table-wide c).Start) (past (goal.at.returns-then-table-wide c).Start (omega (arith, c.if-table-wide.true, c.wide.ensures)))

pub returns-then-table-wide-ne-AND : goal.returns-then-table-wide-ne-AND
returns-then-table-wide-ne-AND c = other_entry (table (goal.at.returns-then-table-wide-ne-AND c).Start) c.args.entry (first (goal.at.returns-then-table-wide-ne-AND c).Start) (second (goal.at.returns-then-table-wide-ne-AND c).Start) (λ k. c.if-table-wide-ne-AND.true (sym (kind_is (goal.at.returns-then-table-wide-ne-AND c).After-wide-2) ∙ k))

pub put_goal-requires : goal.put_goal-requires
put_goal-requires c = (c.args.table.now.numbers.narrow, widen c.args.table.now.columns.few c.requires.0.first, holds_none)

pub put_goal-requires-2 : goal.put_goal-requires-2
put_goal-requires-2 c = (c.args.table.now.numbers.narrow, widen c.args.table.now.columns.few c.requires.0.second, holds_none)

-- what the entry's kind is told to be
is_and : (k : After-find_rest-found) → kind (table_of k.args.table.now.columns.kinds.now k.args.table.now.columns.a.now k.args.table.now.columns.b.now k.args.table.now.columns.count) k.args.entry ≡ Kind.AND
is_and k =
    table_of_kind k.args.table.now.columns.kinds.now k.args.table.now.columns.a.now k.args.table.now.columns.b.now k.args.table.now.columns.count k.args.entry (omega (arith, k.wide.ensures, k.if-table-wide.false))
    ∙ ap (λ (e : ℕ). get_or k.args.table.now.columns.kinds.now e 0) (sym k.wide-2.ensures) ∙ k.if-table-wide-ne-AND.false

kept_and : (k : After-find_rest-found) → get_or k.args.table.now.columns.kinds.now k.args.entry 0 ≡ Kind.AND
kept_and k = ap (λ (e : ℕ). get_or k.args.table.now.columns.kinds.now e 0) (sym k.wide-2.ensures) ∙ k.if-table-wide-ne-AND.false

-- what the last test says
fit_told : (c : After-rest_fits) → c.rest_fits.result ≡ fits (table_of c.args.table.now.columns.kinds.now c.args.table.now.columns.a.now c.args.table.now.columns.b.now c.args.table.now.columns.count) c.args.entry (part c.args.members.now c.args.from c.args.to) (part c.args.others.now c.args.others_from c.args.others_to)
fit_told c =
    let p = c.requires.0 in
    let t = table_of c.args.table.now.columns.kinds.now c.args.table.now.columns.a.now c.args.table.now.columns.b.now c.args.table.now.columns.count in
    let one = part c.args.members.now c.args.from c.args.to in
    let two = part c.args.others.now c.args.others_from c.args.others_to in
    let found = c.find_rest-found.ensures (each (in_focus c.args.table.now.canon.now) two) c.put_goal-2.ensures in
    let and_there =
    table_of_kind c.args.table.now.columns.kinds.now c.args.table.now.columns.a.now c.args.table.now.columns.b.now c.args.table.now.columns.count c.args.entry (omega (arith, c.wide.ensures, c.if-table-wide.false))
    ∙ ap (λ (e : ℕ). get_or c.args.table.now.columns.kinds.now e 0) (sym c.wide-2.ensures) ∙ c.if-table-wide-ne-AND.false in
    c.rest_fits.ensures one two (goals_held p c.put_goal.ensures c.put_goal-2.ensures)
    ∙ ap (rest_fits_lem t c.args.entry one two) (rest_stands p c.requires.1 found)
    ∙ sym (few_left t c.args.entry one two and_there (omega (arith, rest_many p c.requires.1 found, c.if-found-ge24.false)))

pub returns-then-found-ge24 : goal.returns-then-found-ge24
returns-then-found-ge24 c =
    let p = goal.at.returns-then-found-ge24 c in
    let found = c.find_rest-found.ensures (keys p.Start) c.put_goal-2.ensures in
    many_left (table p.Start) c.args.entry (first p.Start) (second p.Start) (is_and p.After-find_rest-found) (omega (arith, rest_many c.requires.0 c.requires.1 found, c.if-found-ge24.true))

pub rest_fits-requires : goal.rest_fits-requires
rest_fits-requires c =
    let p = c.requires.0 in
    let at = goal.at.rest_fits-requires c in
    let found = c.find_rest-found.ensures (keys at.Start) c.put_goal-2.ensures in
    (record { well = p.well; inside = there at.After-wide-2; of_kind = kept_and at.After-find_rest-found }, rest_inside p c.requires.1 found)

pub returns-then-not-rest_fits : goal.returns-then-not-rest_fits
returns-then-not-rest_fits c = sym (fit_told (goal.at.returns-then-not-rest_fits c).After-rest_fits) ∙ c.if-not-rest_fits.true

pub enter-requires : goal.enter-requires
enter-requires c =
    let found = c.find_rest-found.ensures (keys (goal.at.enter-requires c).Start) c.put_goal-2.ensures in
    (rest_long c.requires.0 c.requires.1 found, c.if-found-ge24.false, rest_rising c.requires.0 c.requires.1 found)

pub returns : goal.returns
returns c =
    let found = c.find_rest-found.ensures (keys (goal.at.returns c).Start) c.put_goal-2.ensures in
    let fit = sym (fit_told (goal.at.returns c).After-rest_fits) ∙ c.if-not-rest_fits.false in
    goal_joined c.requires.0 c.requires.1 found fit c.if-found-ge24.false c.enter.ensures
