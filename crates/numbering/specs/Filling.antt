-- One number more keeps a table filled: that of an entry, looked for among those that stand, or that of a name. So a program may place them
-- in any order in which operands, and the fixpoints of free names, come first.
use Rattle.std.specs.Prelude.{◌≡◌, refl, ◌⊎◌, ◌↔◌, Bool, ℕ}
use Rattle.std.proofs.Common.{sym, ap, subst, ◌∙◌, inl, inr}
use Rattle.formula.specs.Table.{Table}
use Rattle.formula.specs.Shape.{Shape, leaf, two, step, fix, name, shape, NoName}
use Rattle.numbering.specs.Filled.{Numbers, Alike, Operands, Filled}
use Rattle.numbering.specs.LevelLaws.{alike_move}

-- what stands, and the number of e₀ with k₀ names bound
abbrev pub With : (ℕ → ℕ → Type 0) → ℕ → ℕ → ℕ → ℕ → Type 0
With on k₀ e₀ k e = on k e ⊎ ((k ≡ k₀) × (e ≡ e₀))

module _ (t : Table) (is_free : ℕ → ℕ → Bool) where
  -- a number n for e₀ with k₀ names bound: that of an entry that stands and is alike one level down
  pub record Taken (rep : Numbers) (on : ℕ → ℕ → Type 0) (k₀ e₀ n : ℕ) : Type 0 where
    pub like : ℕ
    pub stands : on k₀ like
    pub level : Alike t is_free rep k₀ e₀ like
    pub number : n ≡ rep k₀ like

  -- or, where there is none, one that nothing has
  pub record Fresh (rep : Numbers) (on : ℕ → ℕ → Type 0) (k₀ e₀ n : ℕ) : Type 0 where
    pub none_like : (f : ℕ) → on k₀ f → Alike t is_free rep k₀ e₀ f → ⊥
    pub none_has : (f : ℕ) → on k₀ f → n ≡ rep k₀ f → ⊥

  operands_as : (on more : ℕ → ℕ → Type 0) → ((k e : ℕ) → on k e → more k e) → (k e : ℕ) (v : Shape)
      → Operands t is_free on k e v → Operands t is_free more k e v
  operands_as on more f k e (leaf l) A = tt
  operands_as on more f k e (two o a b) (A, B) = (f _ _ A, f _ _ B)
  operands_as on more f k e (step m a) A = f _ _ A
  operands_as on more f k e (fix σ a) A = f _ _ A
  operands_as on more f k e (name x) A = tt

  -- what stands may be told in other words
  pub filled_as : (rep : Numbers) (on too : ℕ → ℕ → Type 0) → ((k e : ℕ) → on k e → too k e) → ((k e : ℕ) → too k e → on k e)
      → Filled t is_free rep on → Filled t is_free rep too
  filled_as rep on too f g F = record {
    closed = λ k e A. operands_as on too f k e (shape t e) (F.closed k e (g k e A));
    level = λ k e h A B. F.level k e h (g k e A) (g k h B);
    free = λ e x A q. let (B, h) = F.free e x (g 0 e A) q in (f 0 x B, h);
    bounds = λ e h x y A B. F.bounds e h x y (g 1 e A) (g 1 h B);
    bound_apart = λ e h x A B. F.bound_apart e h x (g 1 e A) (g 1 h B);
  }

  -- new has what stands in rep, and one number more
  module _ (rep new : Numbers) (on : ℕ → ℕ → Type 0) (F : Filled t is_free rep on) (k₀ e₀ : ℕ) (old : (k e : ℕ) → on k e → new k e ≡ rep k e) where
    -- numbers that stand are equal in both or in neither
    same_old : (k e f : ℕ) → on k e → on k f → (new k e ≡ new k f) ↔ (rep k e ≡ rep k f)
    same_old k e f A B = (λ h. sym (old k e A) ∙ h ∙ old k f B, λ h. old k e A ∙ h ∙ sym (old k f B))

    pub alike_old : (k e f : ℕ) → Operands t is_free on k e (shape t e) → Operands t is_free on k f (shape t f)
        → Alike t is_free new k e f ↔ Alike t is_free rep k e f
    alike_old k e f A B = (alike_move t is_free new rep on (λ k e A. sym (old k e A)) k e f A B, alike_move t is_free rep new on old k e f A B)

    pub level_old : (k e f : ℕ) → on k e → on k f → NoName (shape t e) → NoName (shape t f) → (new k e ≡ new k f) ↔ Alike t is_free new k e f
    level_old k e f A B n m =
        let (says, holds) = F.level k e f A B n m in
        let (number, number_back) = same_old k e f A B in
        let (alike, alike_back) = alike_old k e f (F.closed k e A) (F.closed k f B) in
        (λ h. alike_back (says (number h)), λ l. number_back (holds (alike l)))

    pub free_old : (e x : ℕ) → on 0 e → shape t e ≡ name x → With on k₀ e₀ 0 x × (new 0 e ≡ new 0 x)
    free_old e x A q = let (B, h) = F.free e x A q in (inl B, (same_old 0 e x A B).1 h)

    pub bounds_old : (e f x y : ℕ) → on 1 e → on 1 f → shape t e ≡ name x → shape t f ≡ name y → new 1 e ≡ new 1 f
    bounds_old e f x y A B q r = (same_old 1 e f A B).1 (F.bounds e f x y A B q r)

    pub apart_old : (e f x : ℕ) → on 1 e → on 1 f → shape t e ≡ name x → NoName (shape t f) → new 1 e ≡ new 1 f → ⊥
    apart_old e f x A B q n h = F.bound_apart e f x A B q n ((same_old 1 e f A B).0 h)

    pub closed_with : Operands t is_free on k₀ e₀ (shape t e₀) → (k e : ℕ) → With on k₀ e₀ k e → Operands t is_free (With on k₀ e₀) k e (shape t e)
    closed_with K k e (inl A) = operands_as on (With on k₀ e₀) (λ k e A. inl A) k e (shape t e) (F.closed k e A)
    closed_with K k e (inr (i, j)) = rw (i, j) (operands_as on (With on k₀ e₀) (λ k e A. inl A) k₀ e₀ (shape t e₀) K)

    -- the number of a name: its fixpoint's; where it is bound, one that all bound names have and nothing else
    module _ (x : ℕ) (q : shape t e₀ ≡ name x)
        (of_fixpoint : 0 ≡ k₀ → on 0 x × (new 0 e₀ ≡ rep 0 x))
        (of_bound : 1 ≡ k₀ → (f y : ℕ) → on 1 f → shape t f ≡ name y → new 1 e₀ ≡ rep 1 f)
        (of_none : 1 ≡ k₀ → (f : ℕ) → on 1 f → NoName (shape t f) → new 1 e₀ ≡ rep 1 f → ⊥) where
      pub place_name : Filled t is_free new (With on k₀ e₀)
      place_name = record { closed = closed_with (rw q tt); level = level; free = free; bounds = bounds; bound_apart = bound_apart }
        where
          no_name : {A : Type 0} (e : ℕ) → e ≡ e₀ → NoName (shape t e) → A
          no_name e j n = let z : shape t e ≡ name x = ap (shape t) j ∙ q in absurd (rw z at n)

          level : (k e f : ℕ) → With on k₀ e₀ k e → With on k₀ e₀ k f → NoName (shape t e) → NoName (shape t f)
              → (new k e ≡ new k f) ↔ Alike t is_free new k e f
          level k e f (inr (i, j)) B n m = no_name e j n
          level k e f (inl A) (inr (i, j)) n m = no_name f j m
          level k e f (inl A) (inl B) n m = level_old k e f A B n m

          free : (e y : ℕ) → With on k₀ e₀ 0 e → shape t e ≡ name y → With on k₀ e₀ 0 y × (new 0 e ≡ new 0 y)
          free e y (inl A) r = free_old e y A r
          free e y (inr (i, j)) r =
              let (A, h) = of_fixpoint i in
              let w : name x ≡ name y = sym q ∙ ap (shape t) (sym j) ∙ r in
              let z : x ≡ y = cc in
              (inl (subst (λ (u : ℕ). on 0 u) z A), rw j (h ∙ sym (old 0 x A) ∙ ap (new 0) z))

          bounds : (e f y z : ℕ) → With on k₀ e₀ 1 e → With on k₀ e₀ 1 f → shape t e ≡ name y → shape t f ≡ name z → new 1 e ≡ new 1 f
          bounds e f y z (inl A) (inl B) r s = bounds_old e f y z A B r s
          bounds e f y z (inr (i, j)) (inl B) r s = rw j (of_bound i f z B s ∙ sym (old 1 f B))
          bounds e f y z (inl A) (inr (i, j)) r s = rw j (old 1 e A ∙ sym (of_bound i e y A r))
          bounds e f y z (inr (i, j)) (inr (u, w)) r s = rw (j, w) refl

          bound_apart : (e f y : ℕ) → With on k₀ e₀ 1 e → With on k₀ e₀ 1 f → shape t e ≡ name y → NoName (shape t f) → new 1 e ≡ new 1 f → ⊥
          bound_apart e f y A (inr (i, j)) r n h = no_name f j n
          bound_apart e f y (inl A) (inl B) r n h = apart_old e f y A B r n h
          bound_apart e f y (inr (i, j)) (inl B) r n h = of_none i f B n ((rw j at h) ∙ old 1 f B)
