-- to be alike one level down is an equivalence of entries that are no names, and goes by the numbers of the operands
use Rattle.std.specs.Prelude.{◌≡◌, refl, Bool, ℕ}
use Rattle.std.proofs.Common.{sym, subst, ◌∙◌}
use Rattle.formula.specs.Table.{Table}
use Rattle.formula.specs.Shape.{Shape, leaf, two, step, fix, name, shape, NoName}
use Rattle.numbering.specs.Only.{same_count}
use Rattle.numbering.specs.Forms.{within, in_operand}
use Rattle.numbering.specs.Filled.{Numbers, places, Level, Alike, Operands}

module _ (t : Table) (is_free : ℕ → ℕ → Bool) where
  abbrev In : ℕ → ℕ → ℕ → ℕ
  In a k e = in_operand t is_free a k e

  in_same : (a c k e f : ℕ) → places t is_free a k e ≡ places t is_free c k f → In a k e ≡ In c k f
  in_same a c k e f m = same_count (is_free a) (is_free c) _ _ m

  module _ (rep : Numbers) (k : ℕ) where
    level_refl : (e : ℕ) (v : Shape) → NoName v → Level t is_free rep k e e v v
    level_refl e (leaf l) n = refl
    level_refl e (two o a b) n = (a, b, refl, refl, refl, refl, refl)
    level_refl e (step m a) n = (a, refl, refl)
    level_refl e (fix σ a) n = (a, refl, refl, refl)
    level_refl e (name x) n = absurd n

    level_sym : (e f : ℕ) (v w : Shape) → Level t is_free rep k e f v w → Level t is_free rep k f e w v
    level_sym e f (leaf l) w h = rw h refl
    level_sym e f (two o a b) w (c, d, z, m, n, r, s) =
        rw z (
          a,
          b,
          refl,
          sym m,
          sym n,
          subst (λ (i : ℕ). rep i c ≡ rep i a) (in_same a c k e f m) (sym r),
          subst (λ (i : ℕ). rep i d ≡ rep i b) (in_same b d k e f n) (sym s),
        )
    level_sym e f (step m a) w (c, z, r) = rw z (a, refl, sym r)
    level_sym e f (fix σ a) w (c, z, b, r) = rw z (a, refl, sym b, subst (λ (x : Bool). rep (within x k) c ≡ rep (within x k) a) b (sym r))
    level_sym e f (name x) w h = absurd h

    level_trans : (e f g : ℕ) (v w u : Shape) → Level t is_free rep k e f v w → Level t is_free rep k f g w u → Level t is_free rep k e g v u
    level_trans e f g (leaf l) w u h j = rw h at j
    level_trans e f g (two o a b) w u (c, d, z, m, n, r, s) j =
        let (c2, d2, z2, m2, n2, r2, s2) = rw z at j in (
          c2,
          d2,
          z2,
          m ∙ m2,
          n ∙ n2,
          r ∙ subst (λ (i : ℕ). rep i c ≡ rep i c2) (sym (in_same a c k e f m)) r2,
          s ∙ subst (λ (i : ℕ). rep i d ≡ rep i d2) (sym (in_same b d k e f n)) s2,
        )
    level_trans e f g (step m a) w u (c, z, r) j = let (c2, z2, r2) = rw z at j in (c2, z2, r ∙ r2)
    level_trans e f g (fix σ a) w u (c, z, b, r) j =
        let (c2, z2, b2, r2) = rw z at j in
        (c2, z2, b ∙ b2, r ∙ subst (λ (x : Bool). rep (within x k) c ≡ rep (within x k) c2) (sym b) r2)
    level_trans e f g (name x) w u h j = absurd h

    level_no_name : (e f : ℕ) (v w : Shape) → Level t is_free rep k e f v w → NoName w
    level_no_name e f (leaf l) w h = rw h tt
    level_no_name e f (two o a b) w (c, d, z, m, n, r, s) = rw z tt
    level_no_name e f (step m a) w (c, z, r) = rw z tt
    level_no_name e f (fix σ a) w (c, z, b, r) = rw z tt
    level_no_name e f (name x) w h = absurd h

    pub alike_no_name : (e f : ℕ) → Alike t is_free rep k e f → NoName (shape t f)
    alike_no_name e f = level_no_name e f (shape t e) (shape t f)

    pub alike_refl : (e : ℕ) → NoName (shape t e) → Alike t is_free rep k e e
    alike_refl e = level_refl e (shape t e)

    pub alike_sym : (e f : ℕ) → Alike t is_free rep k e f → Alike t is_free rep k f e
    alike_sym e f = level_sym e f (shape t e) (shape t f)

    pub alike_trans : (e f g : ℕ) → Alike t is_free rep k e f → Alike t is_free rep k f g → Alike t is_free rep k e g
    alike_trans e f g = level_trans e f g (shape t e) (shape t f) (shape t g)

  -- what stands in rep has the same numbers in new
  module _ (rep new : Numbers) (on : ℕ → ℕ → Type 0) (old : (k e : ℕ) → on k e → new k e ≡ rep k e) where
    over : (k a c : ℕ) → on k a → on k c → rep k a ≡ rep k c → new k a ≡ new k c
    over k a c A C h = old k a A ∙ h ∙ sym (old k c C)

    level_move : (k e f : ℕ) (v w : Shape) → Operands t is_free on k e v → Operands t is_free on k f w
        → Level t is_free rep k e f v w → Level t is_free new k e f v w
    level_move k e f (leaf l) w A B h = h
    level_move k e f (two o a b) w (A, A2) B (c, d, z, m, n, r, s) =
        let (C, D) = rw z at B in (
          c,
          d,
          z,
          m,
          n,
          over _ a c A (subst (λ (i : ℕ). on i c) (sym (in_same a c k e f m)) C) r,
          over _ b d A2 (subst (λ (i : ℕ). on i d) (sym (in_same b d k e f n)) D) s,
        )
    level_move k e f (step m a) w A B (c, z, r) = (c, z, over k a c A (rw z at B) r)
    level_move k e f (fix σ a) w A B (c, z, b, r) = (c, z, b, over _ a c A (subst (λ (x : Bool). on (within x k) c) (sym b) (rw z at B)) r)
    level_move k e f (name x) w A B h = absurd h

    pub alike_move : (k e f : ℕ) → Operands t is_free on k e (shape t e) → Operands t is_free on k f (shape t f)
        → Alike t is_free rep k e f → Alike t is_free new k e f
    alike_move k e f = level_move k e f (shape t e) (shape t f)
