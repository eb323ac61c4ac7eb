-- a list that is written over another from the front, one element more; and a run of stores after what is written already
use Rattle.std.specs.Prelude.{◌≡◌, refl, List, [], ◌∷◌, ◌++◌, ℕ, suc, ◌+◌, ◌-◌, ◌<◌, ◌≤◌, length, get_or, drop, set}
use Rattle.std.proofs.Common.{sym, ap, ◌∙◌, append_assoc, arith, length-append, length-drop, drop-cons, drop-drop}
use Rattle.std.proofs.Math.Seq.{set-append_seam, take-append_seam, drop-append-add}
use Rattle.std.proofs.lemmas.List.Edits.{sets, sets-eq}
use Rattle.verdict.specs.Lists.{written}

module _ {A : Type 0} where
  pub written_length : (new old : List A) → length new ≤ length old → length (written new old) ≡ length old
  written_length new old h = length-append new (drop (length new) old) ∙ ap (λ (n : ℕ). length new + n) (length-drop (length new) old) ∙ whole
    where
      whole : length new + (length old - length new) ≡ length old
      whole = omega arith

  pub written_more : (new old : List A) (x : A) → length new < length old → set (written new old) (length new) x ≡ written (new ++ (x ∷ [])) old
  written_more new old x h =
      let e : suc (length new) ≡ length (new ++ (x ∷ [])) = omega (arith, length-append new (x ∷ [])) in
      ap (λ (l : List A). set (new ++ l) (length new) x) (drop-cons old (length new) x h)
      ∙ set-append_seam new (get_or old (length new) x) (drop (suc (length new)) old) x
      ∙ sym (append_assoc new (x ∷ []) (drop (suc (length new)) old))
      ∙ ap (λ (n : ℕ). (new ++ (x ∷ [])) ++ drop n old) e

  pub sets_more : (vs l : List A) (i : ℕ) (x : A) → sets l i (vs ++ (x ∷ [])) ≡ set (sets l i vs) (i + length vs) x
  sets_more [] l i x = let e : i ≡ i + 0 = omega arith in ap (λ (k : ℕ). set l k x) e
  sets_more (v ∷ vs) l i x =
      let e : suc i + length vs ≡ i + suc (length vs) = omega arith in
      sets_more vs (set l i v) (suc i) x ∙ ap (λ (k : ℕ). set (sets (set l i v) (suc i) vs) k x) e

  pub written_on : (new vs old : List A) → length new + length vs ≤ length old → sets (written new old) (length new) vs ≡ written (new ++ vs) old
  written_on new vs old h =
      let long = written_length new old (omega arith) in
      let e : length new + length vs ≡ length (new ++ vs) = sym (length-append new vs) in
      sets-eq vs (written new old) (length new) (omega arith)
      ∙ rw (take-append_seam new (drop (length new) old), drop-append-add new (drop (length new) old) (length vs), drop-drop (length vs) (length new) old, e) refl
