-- the part of 73 that is left once the rest is found is rule 3's at the new root, whose side is the rest, unless the entry is a member of it
use Rattle.std.specs.Prelude.{◌≡◌, ◌≢◌, Bool, true, false, ◌&&◌, ◌||◌, ℕ, ◌<◌, eqb}
use Rattle.std.proofs.Math.Path.{refl, ap, ap₂}
use Rattle.std.proofs.Common.{sym, ◌∙◌, arith, eq-eqb, ne_eqb}
use Rattle.std.proofs.Math.Bool.{not}
use Rattle.std.proofs.lemmas.Bool.{false≢true}
use mathlib.Core.List.Memᴰ
use mathlib.Core.List.{List, [], ◌∷◌}
use Rattle.std.proofs.Math.ListN.{length}
use Rattle.verdict.specs.Tests.{any, member, same, keep, remove, each}
use Rattle.verdict.specs.Tells.{tells_self, fails, eqb_tells, ltb_tells, and_tells, not_tells}
use Rattle.verdict.specs.SetTells.{member_tells}
use Rattle.formula.specs.Kind
use Rattle.formula.specs.Table.{Table, kind}
use Rattle.formula.specs.Codes.{Formula, code, entry_of_lem, focus_of, code_entry, code_focus}
use Rattle.formula.specs.Target.{target_a, target_b}
use Rattle.written.specs.Canon.{canon, key}
use Rattle.calculus.specs.View.{View}
use Rattle.calculus.specs.Judge.{keys, sides, belongs, of_kind, and_kept}
use Rattle.sequents.specs.CodeSet.{Holds}
use Rattle.sequents.specs.Placed.{family, Side}
use Rattle.joining.specs.Goals.{holds}
use Rattle.joining.specs.Joined.{in_focus}
use Rattle.joining.specs.FitTest.{same_formulas}
use Rattle.fitting.specs.Focused.{focused_keys, focus_key, code_keys, focused_holds, focused_same}
use Rattle.fitting.specs.Fitting.{rest_fits_lem}

-- a number that is not there is not taken away
remove_absent : (x : ℕ) (l : List ℕ) → member l x ≡ false → remove x l ≡ l
unfolding remove member any
remove_absent x [] h = refl
remove_absent x (y ∷ l) h = go (eqb x y) refl h (remove_absent x l)
  where
    go : (b : Bool) → eqb x y ≡ b → (b || any (λ d. eqb x d) l) ≡ false → (member l x ≡ false → remove x l ≡ l) → keep (not (eqb y x)) y (remove x l) ≡ y ∷ l
    go true e k later = absurd (false≢true (sym k))
    go false e k later =
        ap (λ (b : Bool). keep (not b) y (remove x l)) (ne_eqb y x (λ i. fails (eqb_tells x y) e (sym i)))
        ∙ ap (λ (r : List ℕ). y ∷ r) (later k)

module _ (t : Table) (e : ℕ) (F : Formula t e) (k : kind t e ≡ Kind.AND) (s : List ℕ) where
  here : entry_of_lem (code e 1) ≡ e
  here = code_entry e 1 (omega arith)

  -- the new root: the entry and the rest, all in focus; m and n are the codes of its children
  abbrev root : List ℕ → List ℕ → View
  root m n = family (code e 1) (code e 1 ∷ in_focus s) m n

  belonging : (m n : List ℕ) → belongs t (root m n) 0 ≡ true
  unfolding belongs keys each
  belonging m n =
      let inside : entry_of_lem (code e 1) < length t = rw here F.inside in
      let no_name : kind t (entry_of_lem (code e 1)) ≢ Kind.NAME = rw here F.no_name in
      (and_tells (and_tells (ltb_tells (entry_of_lem (code e 1)) (length t)) (not_tells (eqb_tells (kind t (entry_of_lem (code e 1))) Kind.NAME)))
      (member_tells (each (key t) (code e 1 ∷ in_focus s)) (key t (code e 1)))
      ).holds ((inside, no_name), Memᴰ.head refl)

  root_kind : (m n : List ℕ) → of_kind t (root m n) Kind.AND 0 ≡ true
  unfolding of_kind
  root_kind m n =
      let of_and : kind t (entry_of_lem (code e 1)) ≡ Kind.AND = rw here k in
      (and_tells (tells_self (belongs t (root m n) 0)) (eqb_tells (kind t (entry_of_lem (code e 1))) Kind.AND)).holds (belonging m n, of_and)

  module _ (apart : holds t s e ≡ false) where
    absent : member (each (key t) (in_focus s)) (key t (code e 1)) ≡ false
    absent = ap₂ {C = Bool} member (code_keys t s) (focus_key t e) ∙ focused_holds t s e ∙ apart

    side_is : remove (key t (code e 1)) (each (key t) (code e 1 ∷ in_focus s)) ≡ focused_keys t s
    unfolding remove each
    side_is =
        ap (λ (b : Bool). keep (not b) (key t (code e 1)) (remove (key t (code e 1)) (each (key t) (in_focus s)))) (eq-eqb (key t (code e 1)) (key t (code e 1)) refl)
        ∙ remove_absent (key t (code e 1)) (each (key t) (in_focus s)) absent
        ∙ code_keys t s

    pub root_side : {w : List ℕ} → Holds w (focused_keys t s) → Side t w (code e 1) (code e 1 ∷ in_focus s)
    root_side h = record { belongs = belonging [] []; holds = rw side_is h }

    module _ (l m : List ℕ) where
      sides_are : sides t (root (in_focus l) (in_focus m)) 0 ≡ focused_keys t s
      unfolding sides keys
      sides_are = side_is

      operand : (of : ℕ → ℕ) → key t (code (of (entry_of_lem (code e 1))) (focus_of (code e 1))) ≡ code (canon t (of e)) 1
      operand of = ap₂ {C = ℕ} (λ d f. key t (code (of d) f)) here (code_focus e 1 (omega arith)) ∙ focus_key t (of e)

      child : (g : List ℕ) (of : ℕ → ℕ) → same (each (key t) (in_focus g))
          (key t (code (of (entry_of_lem (code e 1))) (focus_of (code e 1))) ∷ sides t (root (in_focus l) (in_focus m)) 0)
          ≡ same_formulas t g (of e ∷ s)
      unfolding each
      child g of = ap₂ {C = Bool} same (code_keys t g) (ap₂ {C = List ℕ} (λ x r. x ∷ r) (operand of) sides_are) ∙ focused_same t g (of e ∷ s)

      pub root_kept : and_kept t (root (in_focus l) (in_focus m)) 0 ≡ rest_fits_lem t e l m s
      unfolding and_kept keys rest_fits_lem
      root_kept =
          ap₂ {C = Bool} (λ a b. a && b) (root_kind (in_focus l) (in_focus m)) (ap₂ {C = Bool} (λ a b. a && b) (child l (target_a t)) (child m (target_b t)))
          ∙ ap (λ (b : Bool). not b && (same_formulas t l (target_a t e ∷ s) && same_formulas t m (target_b t e ∷ s))) (sym apart)

  pub root_apart : (l m : List ℕ) → holds t s e ≡ true → rest_fits_lem t e l m s ≡ false
  unfolding rest_fits_lem
  root_apart l m h = rw h refl
