-- goals as sets of numbers: each member as the code of its formula's number, in focus. Such codes tell the same as the numbers themselves
use Rattle.std.specs.Prelude.{◌≡◌, ℕ, ◌<◌, length}
use Rattle.std.proofs.Math.Path.{refl, ap₂}
use mathlib.Core.List.{List, [], ◌∷◌}
use Rattle.std.proofs.Common.{arith}
use Rattle.verdict.specs.Sets.{◌⊆◌, elements}
use Rattle.verdict.specs.Tests.{member, same, each}
use Rattle.verdict.specs.Tells.{tells_as, same_test}
use Rattle.verdict.specs.SetTells.{member_tells, lists_self, lists_each}
use Rattle.verdict.proofs.SetTells.{same_tells}
use Rattle.formula.specs.Table.{Table}
use Rattle.formula.specs.Codes.{code, code_entry, code_focus}
use Rattle.written.specs.Canon.{canon, key}
use Rattle.sequents.specs.Keys as keys
use Rattle.sequents.specs.Keys.{Numbers, key_at_lem, each_same}
use Rattle.joining.specs.Goals.{holds}
use Rattle.joining.specs.Joined.{in_focus}
use Rattle.joining.specs.FitTest.{same_formulas}

-- numbers in focus
abbrev focused_numbers : List ℕ → List ℕ
focused_numbers l = each (λ n. code n 1) l

member_focused : (l : List ℕ) (c : ℕ) → member (focused_numbers l) (code c 1) ≡ member l c
member_focused l c = same_test (tells_as into (λ m. (lists_each (λ n. code n 1) l).from (code c 1) (c, m, refl)) (member_tells (focused_numbers l) (code c 1))) (member_tells l c)
  where
    into : elements (focused_numbers l) (code c 1) → elements l c
    into m = let (x, n, i) = (lists_each (λ n. code n 1) l).into (code c 1) m in let j : c ≡ x = omega arith in rw j n

same_focused : (l m : List ℕ) → same (focused_numbers l) (focused_numbers m) ≡ same l m
same_focused l m = same_test
    (tells_as (λ s. record { into = down l m s.into; from = down m l s.from }) (λ s. record { into = up l m s.into; from = up m l s.from })
    (same_tells (focused_numbers l) (lists_self (focused_numbers m))))
    (same_tells l (lists_self m))
  where
    down : (l m : List ℕ) → elements (focused_numbers l) ⊆ elements (focused_numbers m) → elements l ⊆ elements m
    down l m s c k =
        let (x, n, i) = (lists_each (λ n. code n 1) m).into (code c 1) (s (code c 1) ((lists_each (λ n. code n 1) l).from (code c 1) (c, k, refl))) in
        let j : c ≡ x = omega arith in
        rw j n

    up : (l m : List ℕ) → elements l ⊆ elements m → elements (focused_numbers l) ⊆ elements (focused_numbers m)
    up l m s c k = let (x, n, i) = (lists_each (λ n. code n 1) l).into c k in (lists_each (λ n. code n 1) m).from c (x, s x n, i)

module _ (t : Table) where
  -- a list of members
  abbrev pub focused_keys : List ℕ → List ℕ
  focused_keys l = each (λ e. code (canon t e) 1) l

  keys_numbers : (l : List ℕ) → focused_keys l ≡ focused_numbers (each (canon t) l)
  unfolding each
  keys_numbers [] = refl
  keys_numbers (e ∷ l) = ap₂ {C = List ℕ} (λ x m. x ∷ m) refl (keys_numbers l)

  -- as the column of numbers has them
  pub column_keys : {ns : List ℕ} → Numbers t ns → (l : List ℕ) → ((e : ℕ) → elements l e → e < length t) → each (keys.in_focus ns) l ≡ focused_keys l
  column_keys N l h = each_same l (λ e m. key_at_lem N e 1 (h e m))

  -- and as the codes of a root have them
  pub focus_key : (e : ℕ) → key t (code e 1) ≡ code (canon t e) 1
  focus_key e = ap₂ {C = ℕ} (λ d f. code (canon t d) f) (code_entry e 1 (omega arith)) (code_focus e 1 (omega arith))

  pub code_keys : (l : List ℕ) → each (key t) (in_focus l) ≡ focused_keys l
  unfolding each
  code_keys [] = refl
  code_keys (e ∷ l) = ap₂ {C = List ℕ} (λ x m. x ∷ m) (focus_key e) (code_keys l)

  -- whether a list holds a formula, and whether two hold the same ones
  pub focused_holds : (l : List ℕ) (e : ℕ) → member (focused_keys l) (code (canon t e) 1) ≡ holds t l e
  unfolding holds
  focused_holds l e = rw (keys_numbers l) (member_focused (each (canon t) l) (canon t e))

  pub focused_same : (l m : List ℕ) → same (focused_keys l) (focused_keys m) ≡ same_formulas t l m
  unfolding same_formulas
  focused_same l m = rw (keys_numbers l, keys_numbers m) (same_focused (each (canon t) l) (each (canon t) m))
