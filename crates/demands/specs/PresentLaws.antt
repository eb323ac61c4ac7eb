-- presenting by the lengths of the lent slices, and what a granted permit holds
use Rattle.std.specs.Prelude.{◌≡◌, ◌⊎◌, Bool, List, ℕ, ◌<◌, ◌≤◌, length}
use Rattle.std.proofs.Math.Path.{refl}
use Rattle.std.proofs.Common.{inl, inr, arith}
use Rattle.std.proofs.Math.Bool.{true, false}
use Rattle.std.proofs.Math.Decide.{dec_lt}
use Rattle.verdict.specs.Verdict.{accepted, refused}
use Rattle.verdict.specs.Tells.{Tells, or_tells, ltb_tells, fails, fails_holds}
use Rattle.reader.specs.Files.{files}
use Rattle.permit.specs.GateState.{Gate, opened, holding}
use Rattle.demands.specs.Slices.{Lent, short, LongEnough}
use Rattle.demands.specs.Check.{verdict}
use Rattle.demands.specs.Present.{presented_by, if_long, presenting}

-- refusal 1's test says what it should, both ways
module _ (l : Lent) where
  short_tells : Tells (short l) ((length l.entries < 256) ⊎ ((length l.nodes < 1024) ⊎ (length l.codes < 24576)))
  short_tells = or_tells (ltb_tells (length l.entries) 256) (or_tells (ltb_tells (length l.nodes) 1024) (ltb_tells (length l.codes) 24576))

  not_under : LongEnough l → (length l.entries < 256) ⊎ ((length l.nodes < 1024) ⊎ (length l.codes < 24576)) → ⊥
  not_under k (inl h) = omega (arith, k.entries)
  not_under k (inr (inl h)) = omega (arith, k.nodes)
  not_under k (inr (inr h)) = omega (arith, k.codes)

  at_least : (n k : ℕ) → (k < n → ⊥) → n ≤ k
  at_least n k f = go (dec_lt k n)
    where
      go : Dec (k < n) → n ≤ k
      go (yes h) = absurd (f h)
      go (no h) = omega arith

  pub long_not_short : LongEnough l → short l ≡ false
  long_not_short k = fails_holds short_tells (not_under k)

  pub not_short_long : short l ≡ false → LongEnough l
  not_short_long h =
      let none = fails short_tells h in
      record {
        entries = at_least 256 _ (λ u. none (inl u));
        nodes = at_least 1024 _ (λ u. none (inr (inl u)));
        codes = at_least 24576 _ (λ u. none (inr (inr u)));
      }

module _ (tag : ℕ) (claim proof : List ℕ) (l : Lent) where
  -- 1 comes before the files
  pub presented_short : (LongEnough l → ⊥) → (presenting opened tag claim proof l).answer ≡ refused 1 0
  unfolding presenting
  presented_short h = go (short l) refl
    where
      go : (b : Bool) → short l ≡ b → (if_long b l (presented_by (files claim proof) tag l)).answer ≡ refused 1 0
      go true e = refl
      go false e = absurd (h (not_short_long l e))

  -- what presenting says when it accepts: the gate was open, the verdict accepts, and the tag is held
  pub record Granted (g : Gate) : Type 0 where
    pub was_open : g ≡ opened
    pub long : LongEnough l
    pub accepts : verdict claim proof ≡ accepted
    pub holds : (presenting g tag claim proof l).gate ≡ holding tag
