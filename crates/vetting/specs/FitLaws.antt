-- a field's test, as the code makes it
use Rattle.std.specs.Prelude.{◌≡◌, refl, Bool, true, false, not, ◌||◌, ℕ}
use Rattle.std.proofs.Common.{sym, ap, ◌∙◌}
use Rattle.std.proofs.lemmas.Bool.{not-true, not-false}
use Rattle.formula.specs.Fields.{has_b, is_modal_lem}
use Rattle.writing.specs.Spelling.{modal_fields}
use Rattle.writing.specs.FieldEnds.{may_hold_lem}

-- a field of a kind or rule that has it or not, and the answer of its test
module _ {has is fits : Bool} (x : ℕ) (e : has ≡ is) (f : fits ≡ may_hold_lem has x) where
  pub field_tested : fits ≡ may_hold_lem is x
  field_tested = f ∙ ap (λ (b : Bool). may_hold_lem b x) e

  pub field_fails : not fits ≡ true → may_hold_lem is x ≡ false
  field_fails h = sym field_tested ∙ not-true fits h

  pub field_passes : not fits ≡ false → may_hold_lem is x ≡ true
  field_passes h = sym field_tested ∙ not-false fits h

-- field B of a box or diamond may hold any action, that of another kind what the kind lets it
module _ (k b : ℕ) where
  pub action_held : is_modal_lem k ≡ true → may_hold_lem (has_b k || is_modal_lem k) b ≡ true
  action_held h = rw (h, (modal_fields k h).1) refl

  pub kind_held : is_modal_lem k ≡ false → may_hold_lem (has_b k || is_modal_lem k) b ≡ may_hold_lem (has_b k) b
  kind_held h = rw h (go (has_b k))
    where
      go : (q : Bool) → may_hold_lem (q || false) b ≡ may_hold_lem q b
      go true = refl
      go false = refl
