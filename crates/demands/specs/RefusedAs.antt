-- the number that a call answers, against the refusal that its input earns
use Rattle.std.specs.Prelude.{◌≡◌, refl, ◌↔◌, ℕ, ◌+◌, ◌*◌, ◌/◌, ◌%◌, ◌<◌, ◌≤◌}
use Rattle.std.proofs.Common.{ap, ◌∙◌, subst, arith}
use Rattle.verdict.specs.Verdict.{Verdict, accepted, refused, packed_by, packed_wide, Within}

-- r tells this refusal and this place, and no others
abbrev pub Decoded : ℕ → ℕ → ℕ → ℕ → Type 0
Decoded unit r n q = (r / unit ≡ n) × (r % unit ≡ q)

-- the two forms of answer: refusal × 65,536 + place, and refusal × 2^32 + place
pub narrow_decoded : (n q : ℕ) → q < 65536 → Decoded 65536 (n * 65536 + q) n q
narrow_decoded n q h = (omega arith, omega arith)

pub wide_decoded : (n q : ℕ) → q < 4294967296 → Decoded 4294967296 (n * 4294967296 + q) n q
wide_decoded n q h = (omega arith, omega arith)

-- E n q: the input earns refusal n at place q
pub record RefusedAs (unit : ℕ) (E : ℕ → ℕ → Type 0) (r : ℕ) : Type 0 where
  -- what is earned is answered
  pub answered : {n q : ℕ} → E n q → r ≡ packed_by unit (refused n q)
  -- and what is answered, unless it is 0, is earned
  pub earned : (r ≡ 0 → ⊥) → (n : ℕ) × (q : ℕ) × E n q × (r ≡ packed_by unit (refused n q))
  -- the number is decoded to that refusal and that place
  pub decoded : {n q : ℕ} → E n q → Decoded unit r n q

-- from a verdict that is exact, with a place below the unit
module _ (unit : ℕ) (decodes : (n q : ℕ) → q < unit → Decoded unit (n * unit + q) n q) where
  pub refused_as : {E : ℕ → ℕ → Type 0} (v : Verdict) → ((n q : ℕ) → (v ≡ refused n q) ↔ E n q) → (r : ℕ) → r ≡ packed_by unit v → Within unit v → RefusedAs unit E r
  refused_as {E} v exact r h w = record {
    answered = λ {n} {q} x. h ∙ ap (packed_by unit) ((exact n q).1 x);
    earned = go v exact h;
    decoded = λ {n} {q} x. let e = (exact n q).1 x in rw (h, e) (decodes n q (subst (Within unit) e w));
  }
    where
      go : (v : Verdict) → ((n q : ℕ) → (v ≡ refused n q) ↔ E n q) → r ≡ packed_by unit v → (r ≡ 0 → ⊥) → (n : ℕ) × (q : ℕ) × E n q × (r ≡ packed_by unit (refused n q))
      go accepted f e k = absurd (k e)
      go (refused n q) f e k = (n, q, (f n q).0 refl, e)

-- 0 for accepted, and for nothing else, where every refusal's number is at least 1
pub zero_accepts : (v : Verdict) → ((n q : ℕ) → v ≡ refused n q → 1 ≤ n) → packed_wide v ≡ 0 → v ≡ accepted
zero_accepts accepted f z = refl
zero_accepts (refused n q) f z = absurd (omega (arith, f n q refl))
