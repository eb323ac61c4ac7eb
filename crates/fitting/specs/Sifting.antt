-- the members of a list that pass, stored one after the other
use Rattle.std.specs.Prelude.{◌≡◌, refl, Bool, true, false, ℕ, ◌+◌, ◌<◌, set}
use Rattle.std.proofs.Common.{sym, ◌∙◌, arith}
use Rattle.std.proofs.Math.Path.{ap}
use mathlib.Core.List.{List, [], ◌∷◌, ◌++◌, append_assoc, append-nil}
use Rattle.std.proofs.Math.ListN.{length, length-append}
use Rattle.verdict.specs.Lists.{written}
use Rattle.verdict.specs.WrittenLaws.{written_more}
use Rattle.joining.specs.Goals.{sift}

-- so many passed, and they stand in front of the array, which is unchanged beyond them
pub record Sifted (ok : ℕ → Bool) (l old : List ℕ) (n : ℕ) (new : List ℕ) : Type 0 where
  pub many : n ≡ length (sift ok l)
  pub stored : new ≡ written (sift ok l) old

-- of the list some have been stored, and what is left is still to be tested
pub record Sifting (ok : ℕ → Bool) (l left old : List ℕ) (n : ℕ) (new : List ℕ) : Type 0 where
  pub done : List ℕ
  pub many : n ≡ length done
  pub whole : sift ok l ≡ done ++ sift ok left
  pub stored : new ≡ written done old

module _ {ok : ℕ → Bool} {l old : List ℕ} where
  pub sifting_begins : Sifting ok l l old 0 old
  sifting_begins = record { done = []; many = refl; whole = refl; stored = refl }

  module _ {x : ℕ} {left new : List ℕ} {n : ℕ} (s : Sifting ok l (x ∷ left) old n new) where
    pub sifting_keeps : n < length old → ok x ≡ true → Sifting ok l left old (n + 1) (set new n x)
    unfolding sift
    sifting_keeps room e = record {
      done = s.done ++ (x ∷ []);
      many = omega (arith, s.many, length-append s.done (x ∷ []));
      whole = s.whole ∙ rw e (sym (append_assoc s.done (x ∷ []) (sift ok left)));
      stored = rw (s.stored, s.many) (written_more s.done old x (omega (arith, s.many)));
    }

    pub sifting_drops : ok x ≡ false → Sifting ok l left old n new
    unfolding sift
    sifting_drops e = record { done = s.done; many = s.many; whole = s.whole ∙ rw e refl; stored = s.stored }

  pub sifting_ends : {left new : List ℕ} {n : ℕ} → Sifting ok l left old n new → left ≡ [] → Sifted ok l old n new
  unfolding sift
  sifting_ends s e =
      let whole : sift ok l ≡ s.done = s.whole ∙ rw e (append-nil s.done) in
      record { many = s.many ∙ ap length (sym whole); stored = s.stored ∙ ap (λ (d : List ℕ). written d old) (sym whole) }
