-- a value that is known already: it takes no byte, where a parser of a list asks for a count, or where one form of a file writes nothing
use Rattle.std.specs.Prelude.{◌≡◌, refl, List, [], ℕ, ◌+◌}
use Rattle.std.proofs.Common.{sym, subst, ap, arith}
use Rattle.encoding.specs.Encode.{Bytes}
use Rattle.encoding.specs.Parse.{got, Parser}
use Rattle.encoding.specs.Stages.{raw}
use Rattle.encoding.specs.GotLaws.{same_value, same_left}
use Rattle.encoding.specs.ParseLaws.{Exact, Wrote}
use Rattle.encoding.specs.Widths.{Takes}
use Rattle.encoding.specs.FaultLaws.{Refuses, raw_refuses}

abbrev pub known : {A : Type 0} → A → Parser A
known x s at = got x s at

abbrev pub nothing : {A : Type 0} → A → List ℕ
nothing x = []

module _ {A : Type 0} where
  pub known_exact : (x : A) → Exact (known x) nothing (λ y. y ≡ x)
  known_exact x = record { reads = reads; wrote = wrote }
    where
      reads : (y : A) → y ≡ x → (s : List ℕ) (at : ℕ) → got x s at ≡ got y s (at + 0)
      reads y h s at = let i : at + 0 ≡ at = omega arith in rw (i, h) refl

      wrote : (s : List ℕ) (at : ℕ) (y : A) (r : List ℕ) (o : ℕ) → Bytes s → got x s at ≡ got y r o → Wrote nothing (λ (y : A). y ≡ x) y s r
      wrote s at y r o b h = record { fits = sym (same_value h); split = same_left h; left = subst Bytes (same_left h) b }

  pub known_takes : (early : ℕ) (x : A) → Takes early (known x) 0
  known_takes early x = record {
    cut = λ s at h. absurd (omega arith);
    whole = λ s at h. (x, s, ap (λ (o : ℕ). got x s o) (omega arith), omega arith);
  }

  pub known_refuses : (early : ℕ) (x : A) → Refuses early (known x) (raw 0)
  known_refuses early x = raw_refuses (known_takes early x)
