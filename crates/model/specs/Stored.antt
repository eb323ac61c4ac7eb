-- what is stored of each state, 64 times, with that of no state past the last
use Rattle.std.specs.Prelude.{◌≡◌, refl, ◌≢◌, ℕ, ◌<◌, ◌≤◌, get_or, replicate}
use Rattle.std.proofs.Math.Path.{sym, ap}
use Rattle.std.proofs.Common.{◌∙◌, arith}
use mathlib.Core.List.{List, [], ◌∷◌, ◌++◌}
use Rattle.std.proofs.Math.Decide.{dec_lt}
use Rattle.std.proofs.Math.ListN.{length, set, length-append, get_or-append, get_or-eq_default}
use Rattle.std.proofs.lemmas.List.{get_or_at}
use Rattle.verdict.specs.Lists.{values_from, values_from_at}
use Rattle.model_files.specs.ModelFile.{State}
use Rattle.model_files.specs.Described.{blank, state, mark, row, successor_table}
use Rattle.model_files.specs.Decoded.{mask_table}
use Rattle.model.specs.Values.{values_same, values_set}
use Rattle.model.specs.Rows.{row_of}

module _ {A : Type 0} (f : State → A) where
  unfoldable pub stored : List State → List A
  unfolding values_from
  stored m = values_from (λ s. f (state m s)) 0 64

  pub stored_none : replicate 64 (f blank) ≡ stored []
  unfolding stored
  stored_none = sym (values_same (f blank) 0 64)

  pub stored_more : (m : List State) (x : State) (i : ℕ) → length m ≡ i → i < 64 → set (stored m) i (f x) ≡ stored (m ++ (x ∷ []))
  unfolding stored
  stored_more m x i e h =
      ap (λ (y : State). set (values_from (λ s. f (state m s)) 0 64) i (f y)) (sym (get_or_at m x [] blank i e))
      ∙ values_set (λ s. f (state m s)) (λ s. f (state (m ++ (x ∷ [])) s)) 64 i h (λ j n. ap f (other j n (dec_lt j (length m))))
    where
      other : (j : ℕ) → j ≢ i → Dec (j < length m) → state (m ++ (x ∷ [])) j ≡ state m j
      other j n (yes l) = get_or-append m (x ∷ []) blank j l
      other j n (no l) =
          get_or-eq_default (m ++ (x ∷ [])) blank (omega (arith, length-append m (x ∷ [])))
          ∙ sym (get_or-eq_default m blank (omega arith))

  pub stored_past : (m : List State) (d : A) (i : ℕ) → length m ≤ i → i < 64 → get_or (stored m) i d ≡ f blank
  unfolding stored
  stored_past m d i l h =
      values_from_at (λ s. f (state m s)) d 0 64 i h
      ∙ ap f (get_or-eq_default m blank (omega arith))

-- the masks and the successor table are stored so
pub masks_stored : (m : List State) → mask_table m ≡ stored (λ s. s.mask) m
unfolding mask_table stored
masks_stored m = refl

pub marks_stored : (m : List State) → successor_table m ≡ stored (λ s. row_of s.lists) m
unfolding successor_table row mark row_of stored
marks_stored m = refl
