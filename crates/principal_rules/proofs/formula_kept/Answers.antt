-- `formula_kept` meets its contract: where the principal belongs, each arm is the test that the rule names.
use mathlib.Core.Path.{◌≡◌, ap, ap₂, subst, ◌∙◌}
use mathlib.Core.Bool.{Bool, true, ◌&&◌}
use mathlib.Core.List.{List, []}
use Prim.Native.Nat.{ℕ, ◌+◌, ◌*◌, ◌<◌, ◌≤◌}
use native.Mathlib.Omega.{arith}
use lib.ListN.{get_or}
use Rattle.verdict.specs.Tests.{member, remove, each}
use Rattle.formula.specs.Rule
use Rattle.formula.specs.Plain.{table_of, table_of_length}
use Rattle.formula.specs.Codes.{entry_of_lem, focus_of}
use Rattle.formula.specs.PlainNodes.{codes_at_lem}
use Rattle.written.specs.Canon.{key}
use Rattle.calculus.specs.Judge.{belongs}
use Rattle.sequents.specs.CodeSet.{Holds, holds_none}
use Rattle.sequents.specs.Keys.{keys_of, key_at_lem, formula_at, IsMember}
use Rattle.sequents.specs.Placed.{family, HoldsKeys, Side, Coded}
use Rattle.sequents.specs.KeptLaws.{was_false, was_true}
use Rattle.sequents.specs.Columned.{numbered}
use Rattle.principal_rules.specs.Judged.{Judged, placed, first_placed, second_placed, keys_here, first_keys_lem, second_keys, coded, belongs_test, keeps_or_here, keeps_and_here, keeps_box_here, keeps_side_here, keeps_alien, past}
use Rattle.std.specs.Prelude.{not}
use Rattle.principal_rules.proofs.formula_kept.Goals as goal
use Rattle.principal_rules.proofs.formula_kept.Goals.{After-has, After-take, After-put_sequent}

-- a number that is none of 2, 3 and 4
beyond : {r : ℕ} → Rule.OR ≤ r → (r ≡ Rule.OR → ⊥) → (r ≡ Rule.AND → ⊥) → (r ≡ Rule.BOX → ⊥) → Rule.MU ≤ r
beyond low a b c = past Rule.BOX (past Rule.AND (past Rule.OR low a) b) c

-- what the function is asked, of a node v whose principal has the key k
module _ {ks xs ys ns : List ℕ} {n : ℕ} {rs ls ss cs : List ℕ} {m v k : ℕ}
    (P : Judged ks xs ys ns n rs ls ss cs m × (v < m) × (Rule.OR ≤ get_or rs v 0) × (get_or rs v 0 ≤ Rule.U) × IsMember ks ns n (get_or ls (4 * v) 0) k) where
  is_coded : Coded ks xs ys ns n (get_or ls (4 * v) 0)
  is_coded = coded P.0 v P.1 P.4.formula

  -- the node's own set
  own_lem : {w l : List ℕ} → l ≡ codes_at_lem ss cs v → Holds w (keys_of ns l) → HoldsKeys (table_of ks xs ys n) w (codes_at_lem ss cs v)
  own_lem {w} e h =
      let held = rw e at h in
      subst (λ (l : List ℕ). Holds w l) (keys_here P.0 v P.1) held

  -- the principal's key
  key_is : k ≡ key (table_of ks xs ys n) (get_or ls (4 * v) 0)
  key_is =
      let C = is_coded in
      P.4.key ∙ key_at_lem C.numbers (entry_of_lem (get_or ls (4 * v) 0)) (focus_of (get_or ls (4 * v) 0)) (omega (arith, C.inside, table_of_length ks xs ys n))

  -- a child's set
  first_lem : {w : List ℕ} {i : ℕ} → i ≡ get_or ls (4 * v + 1) 0 → Holds w (keys_of ns (codes_at_lem ss cs i)) → HoldsKeys (table_of ks xs ys n) w (codes_at_lem ss cs (get_or ls (4 * v + 1) 0))
  first_lem {w} e h =
      let held = rw e at h in
      subst (λ (l : List ℕ). Holds w l) (first_keys_lem P.0 v P.1 P.2 (omega (arith, P.3))) held

  second_lem : {w : List ℕ} {i : ℕ} → get_or rs v 0 ≡ Rule.AND → i ≡ get_or ls (4 * v + 2) 0 → Holds w (keys_of ns (codes_at_lem ss cs i)) → HoldsKeys (table_of ks xs ys n) w (codes_at_lem ss cs (get_or ls (4 * v + 2) 0))
  second_lem {w} two e h =
      let held = rw e at h in
      subst (λ (l : List ℕ). Holds w l) (second_keys P.0 v P.1 two) held

  -- whether the principal belongs
  tested_lem : belongs (table_of ks xs ys n) (family (get_or ls (4 * v) 0) (codes_at_lem ss cs v) (codes_at_lem ss cs (get_or ls (4 * v + 1) 0)) []) 0
      ≡ (formula_at ks n (get_or ls (4 * v) 0) && member (each (key (table_of ks xs ys n)) (codes_at_lem ss cs v)) (key (table_of ks xs ys n) (get_or ls (4 * v) 0)))
  tested_lem = belongs_test ks xs ys n (get_or ls (4 * v) 0) (codes_at_lem ss cs v) _ []

  -- where its key is that of a member, the side is what is left
  sided_lem : {w : List ℕ} → member (each (key (table_of ks xs ys n)) (codes_at_lem ss cs v)) (key (table_of ks xs ys n) (get_or ls (4 * v) 0)) ≡ true
      → Holds w (remove k (each (key (table_of ks xs ys n)) (codes_at_lem ss cs v))) → Side (table_of ks xs ys n) w (get_or ls (4 * v) 0) (codes_at_lem ss cs v)
  sided_lem e h = record {
    belongs = belongs_test ks xs ys n (get_or ls (4 * v) 0) (codes_at_lem ss cs v) [] [] ∙ ap₂ {C = Bool} (λ x y. x && y) P.4.formula e;
    holds = rw (← key_is) h;
  }

-- whether the principal's key is that of a member
belonging : (c : After-has) → let a = c.args in
    let t = numbered a.table.now in
    c.has.result ≡ member (each (key t) (codes_at_lem a.proof.now.starts.now a.proof.now.codes.now a.v)) (key t (get_or a.proof.now.tree.links.now (4 * a.v) 0))
belonging c =
    let a = c.args in
    let t = numbered a.table.now in
    c.has.ensures _ (own_lem c.requires c.codes_of-codes.ensures c.put_part.ensures)
    ∙ ap (member (each (key t) (codes_at_lem a.proof.now.starts.now a.proof.now.codes.now a.v))) (key_is c.requires)

-- where it is, the side is what is left
sided : (c : After-take) → let a = c.args in
    let t = numbered a.table.now in
    Side t c.take.new.set (get_or a.proof.now.tree.links.now (4 * a.v) 0) (codes_at_lem a.proof.now.starts.now a.proof.now.codes.now a.v)
sided c =
    let a = c.args in
    let t = numbered a.table.now in
    let held = own_lem c.requires c.codes_of-codes.ensures c.put_part.ensures in
    let known = c.has.ensures _ held ∙ ap (member (each (key t) (codes_at_lem a.proof.now.starts.now a.proof.now.codes.now a.v))) (key_is c.requires) in
    sided_lem c.requires (was_true known (ap not c.if-not-has.false)) (c.take.ensures _ held)

-- the first child's set
first : (c : After-put_sequent) → let a = c.args in
    let t = numbered a.table.now in
    HoldsKeys t c.put_sequent.new.set (codes_at_lem a.proof.now.starts.now a.proof.now.codes.now (get_or a.proof.now.tree.links.now (4 * a.v + 1) 0))
first c = first_lem c.requires c.wide.ensures c.put_sequent.ensures

pub codes_of-codes-requires : goal.codes_of-codes-requires
codes_of-codes-requires c = placed c.requires.0 _ c.requires.1

pub put_part-requires : goal.put_part-requires
put_part-requires c =
    let p = c.requires in
    rw c.codes_of-codes.ensures ((placed p.0 _ p.1).span.small, holds_none)

pub returns-then-not-has : goal.returns-then-not-has
returns-then-not-has c =
    let p = c.requires in
    keeps_alien p.0 _ p.1 _ p.2 p.3
    (tested_lem p ∙ ap₂ {C = Bool} (λ x y. x && y) p.4.formula (was_false (belonging (goal.at.returns-then-not-has c).After-has) (ap not c.if-not-has.true)))

pub put_sequent-requires : goal.put_sequent-requires
put_sequent-requires c =
    let p = c.requires in
    rw c.wide.ensures (first_placed p.0 _ p.1 p.2 (omega (arith, p.3)), holds_none)

pub or_kept-requires : goal.or_kept-requires
or_kept-requires c = is_coded c.requires

pub put_sequent-requires-in-3 : goal.put_sequent-requires-in-3
put_sequent-requires-in-3 c =
    let p = c.requires in
    rw c.wide-in-3.ensures (second_placed p.0 _ p.1 c.in-3.is, holds_none)

pub and_kept-requires : goal.and_kept-requires
and_kept-requires c = is_coded c.requires

pub box_kept-requires : goal.box_kept-requires
box_kept-requires c =
    let p = c.requires in
    rw c.codes_of-codes.ensures (is_coded p, (placed p.0 _ p.1).span.small, p.0.members c.args.v p.1)

pub side_kept-requires : goal.side_kept-requires
side_kept-requires c =
    let p = c.requires in
    (is_coded p, omega (arith, p.2), p.3)

pub returns-in-2 : goal.returns-in-2
returns-in-2 c =
    let p = c.requires in
    c.or_kept.ensures _ _ (sided (goal.at.returns-in-2 c).After-take) (first (goal.at.returns-in-2 c).After-put_sequent) ∙ keeps_or_here p.0 _ p.1 _ c.in-2.is

pub returns-in-3 : goal.returns-in-3
returns-in-3 c =
    let p = c.requires in
    let two = c.in-3.is in
    let second = second_lem p two c.wide-in-3.ensures c.put_sequent-in-3.ensures in
    c.and_kept.ensures _ _ _ (sided (goal.at.returns-in-3 c).After-take) (first (goal.at.returns-in-3 c).After-put_sequent) second ∙ keeps_and_here p.0 _ p.1 _ two

pub returns-in-4 : goal.returns-in-4
returns-in-4 c =
    let p = c.requires in
    let told = rw c.codes_of-codes.ensures at c.box_kept.ensures in
    told _ (sided (goal.at.returns-in-4 c).After-take).belongs (first (goal.at.returns-in-4 c).After-put_sequent) ∙ keeps_box_here p.0 _ p.1 _ c.in-4.is

pub returns-in_default : goal.returns-in_default
returns-in_default c =
    let p = c.requires in
    c.side_kept.ensures _ _ (sided (goal.at.returns-in_default c).After-take) (first (goal.at.returns-in_default c).After-put_sequent) ∙ keeps_side_here p.0 _ p.1 _ (omega (arith, p.2)) p.3
