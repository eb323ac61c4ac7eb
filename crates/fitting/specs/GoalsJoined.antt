-- the rest as it stands in the array, and the joined goal once the entry has entered
use Rattle.std.specs.Prelude.{◌≡◌, refl, Bool, true, false, ℕ, suc, ◌+◌, ◌-◌, ◌<◌, ◌≤◌, take, drop}
use Rattle.std.proofs.Common.{sym, subst, ◌∙◌, arith}
use Rattle.std.proofs.Math.Path.{ap, ap₂}
use mathlib.Core.List.Memᴰ
use mathlib.Core.List.{List, [], ◌∷◌}
use Rattle.std.proofs.Math.ListN.{length}
use Rattle.std.proofs.Math.Seq.{take_at}
use Rattle.verdict.specs.Lists.{Rising, written}
use Rattle.verdict.specs.Sets.{elements}
use Rattle.verdict.specs.Tests.{member, keep, each}
use Rattle.verdict.specs.WrittenLaws.{written_length}
use Rattle.formula.specs.Table.{Table}
use Rattle.formula.specs.Plain.{table_of_length}
use Rattle.sequents.specs.declared.numbered.NumberedTable.{NumberedTable}
use Rattle.sequents.specs.Columned.{numbered}
use Rattle.sequents.specs.CodeSet.{Holds}
use Rattle.sequents.specs.Keys.{in_focus, key_at_lem}
use Rattle.sequents.specs.Part.{part, part_length}
use Rattle.sequents.specs.Placed.{Members}
use Rattle.joining.specs.Goals.{sift, enter, holds, rest, joined_goal}
use Rattle.joining.specs.GoalLaws.{rest_members, rest_rises, enter_length}
use Rattle.joining.specs.FitTest.{fits}
use Rattle.fitting.specs.Sifting.{Sifted}
use Rattle.fitting.specs.Focused.{column_keys, focused_holds}
use Rattle.fitting.specs.Fitting.{Goals, RestHeld, GoalJoined}

-- tests that agree on a list pass the same of it
sift_same : (ok pass : ℕ → Bool) (l : List ℕ) → ((e : ℕ) → elements l e → ok e ≡ pass e) → sift ok l ≡ sift pass l
unfolding sift
sift_same ok pass [] h = refl
sift_same ok pass (x ∷ l) h = ap₂ {C = List ℕ} (λ b m. keep b x m) (h x (Memᴰ.head refl)) (sift_same ok pass l (λ e m. h e (Memᴰ.tail m)))

sift_fewer : (ok : ℕ → Bool) (l : List ℕ) → length (sift ok l) ≤ length l
unfolding sift
sift_fewer ok [] = omega arith
sift_fewer ok (x ∷ l) = go (ok x) (sift_fewer ok l)
  where
    go : (b : Bool) → length (sift ok l) ≤ length l → length (keep b x (sift ok l)) ≤ suc (length l)
    go true h = omega arith
    go false h = omega arith

module _ {columns : NumberedTable} {ms : List ℕ} {i j : ℕ} {os : List ℕ} {h k : ℕ} (G : Goals columns ms i j os h k) where
  abbrev t : Table
  t = numbered columns

  abbrev ns : List ℕ
  ns = columns.canon.now

  abbrev n : ℕ
  n = columns.columns.count

  abbrev l : List ℕ
  l = part ms i j

  abbrev r : List ℕ
  r = part os h k

  first_inside : (e : ℕ) → elements l e → e < length t
  first_inside e m = omega (arith, G.first.inside e m, table_of_length columns.columns.kinds.now columns.columns.a.now columns.columns.b.now n)

  second_inside : (e : ℕ) → elements r e → e < length t
  second_inside e m = omega (arith, G.second.inside e m, table_of_length columns.columns.kinds.now columns.columns.a.now columns.columns.b.now n)

  pub goals_held : {w v : List ℕ} → Holds w (each (in_focus ns) l) → Holds v (each (in_focus ns) r) → RestHeld t w l v r
  goals_held x y = record { first = rw (← column_keys t columns.numbers l first_inside) x; second = rw (← column_keys t columns.numbers r second_inside) y }

  -- the program's test is whether the second goal holds the formula
  tests_agree : sift (λ e. member (each (in_focus ns) r) (in_focus ns e)) l ≡ rest t l r
  unfolding rest
  tests_agree = sift_same (λ e. member (each (in_focus ns) r) (in_focus ns e)) (holds t r) l (λ e m.
      ap₂ {C = Bool} member (column_keys t columns.numbers r second_inside) (key_at_lem columns.numbers e 1 (first_inside e m)) ∙ focused_holds t r e)

  module _ {old new : List ℕ} {m : ℕ} (room : length old ≡ 24) (s : Sifted (λ e. member (each (in_focus ns) r) (in_focus ns e)) l old m new) where
    pub rest_many : m ≡ length (rest t l r)
    rest_many = s.many ∙ ap length tests_agree

    few : length (rest t l r) ≤ 24
    few =
        let less = sift_fewer (λ e. member (each (in_focus ns) r) (in_focus ns e)) l in
        omega (arith, ap length tests_agree, part_length ms i j G.first.long, G.few)

    stored : new ≡ written (rest t l r) old
    stored = s.stored ∙ ap (λ (d : List ℕ). written d old) tests_agree

    pub rest_long : length new ≡ 24
    rest_long = ap length stored ∙ written_length (rest t l r) old (omega (arith, few)) ∙ room

    stands : take m new ≡ rest t l r
    stands = ap (take m) stored ∙ take_at (rest t l r) (drop (length (rest t l r)) old) m (sym rest_many)

    pub rest_stands : part new 0 m ≡ rest t l r
    rest_stands = let z : m - 0 ≡ m = omega arith in ap (λ (d : ℕ). take d new) z ∙ stands

    pub rest_inside : Members n new 0 m
    rest_inside = record {
      order = omega arith;
      few = omega (arith, few, rest_many);
      long = omega (arith, few, rest_many, rest_long);
      inside = λ e q. G.first.inside e (rest_members t l r e (subst (λ (d : List ℕ). elements d e) rest_stands q));
    }

    pub rest_rising : Rising (take m new)
    rest_rising = rw stands (rest_rises t l r G.rising)

    pub goal_joined : {e : ℕ} {after : List ℕ} → fits t e l r ≡ true → m < 24 → after ≡ written (enter e (take m new)) new → GoalJoined t e l r (m + 1) after
    unfolding joined_goal
    goal_joined {e} {after} fit less q =
        let laid : after ≡ written (enter e (rest t l r)) new = q ∙ ap (λ (d : List ℕ). written (enter e d) new) stands in
        let many : m + 1 ≡ length (enter e (rest t l r)) = omega (arith, rest_many, enter_length e (rest t l r)) in
        record {
          fit = fit;
          many = many;
          stands = ap (take (m + 1)) laid ∙ take_at (enter e (rest t l r)) (drop (length (enter e (rest t l r))) new) (m + 1) (sym many);
          long = ap length laid ∙ written_length (enter e (rest t l r)) new (omega (arith, many, rest_long)) ∙ rest_long;
        }
