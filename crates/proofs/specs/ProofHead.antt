-- a node's head at a place of a file that is indexed: where the file ends early, where map and rule do not fit, and what is read else
use Rattle.std.specs.Prelude.{◌≡◌, List, Bool, true, false, ℕ, ◌+◌, ◌-◌, ◌<◌, ◌≤◌, leb, length, get_or, drop}
use Rattle.std.proofs.Math.Path.{refl, ap}
use Rattle.std.proofs.Common.{◌∙◌, arith, length-drop}
use Rattle.bits.specs.IfSet.{if_set_lem}
use Rattle.formula.specs.Fields.{has_principal_lem, has_first_lem, has_second_lem, has_back_lem, link_width_lem}
use Rattle.encoding.specs.Parse.{Got, fault, got, bind, bytes, field}
use Rattle.encoding.specs.Places.{bytes_at, bytes_end, two_at}
use Rattle.encoding.specs.Walk.{guard_passes, guard_fails, guard_cut}
use Rattle.proof_files.specs.ProofFile.{Links}
use Rattle.proof_files.specs.ReadProof.{early, rule_fits, rule_of, fields}
use Rattle.proof_files.specs.NodeFaults.{fields_take}
use Rattle.proof_files.specs.ProofParts.{heading, field_at, first_place, second_place, back_place, links_at}

-- a field that fits into the file, whether it stands or not
pub field_whole : (s : List ℕ) (b : Bool) (at : ℕ) → at + if_set_lem b 2 ≤ length s → field early b (drop at s) at ≡ got (field_at b s at) (drop (at + if_set_lem b 2) s) (at + if_set_lem b 2)
field_whole s true at h = two_at early s at (omega arith)
field_whole s false at h = let e : at ≡ at + 0 = omega arith in ap (λ (o : ℕ). got 0 (drop o s) o) e

module _ (r : ℕ) (s : List ℕ) (at : ℕ) where
  pub fields_cut : at ≤ length s → length s < at + link_width_lem r → fields r (drop at s) at ≡ fault early (length s)
  fields_cut h k =
      let e : length (drop at s) ≡ length s - at = length-drop at s in
      let i : at + length (drop at s) ≡ length s = omega arith in
      (fields_take r).cut (drop at s) at (omega arith) ∙ ap (fault early) i

  pub fields_whole : at + link_width_lem r ≤ length s → fields r (drop at s) at ≡ got (links_at r s at) (drop (at + link_width_lem r) s) (at + link_width_lem r)
  fields_whole h =
      let e : back_place r at + if_set_lem (has_back_lem r) 2 ≡ at + link_width_lem r = omega arith in
      rw (
        field_whole s (has_principal_lem r) at (omega arith),
        field_whole s (has_first_lem r) (first_place r at) (omega arith),
        field_whole s (has_second_lem r) (second_place r at) (omega arith),
        field_whole s (has_back_lem r) (back_place r at) (omega arith),
        e,
      ) refl

module _ (s : List ℕ) (at : ℕ) where
  then_fields : Got (ℕ × Bool) → Got ((ℕ × Bool) × Links)
  then_fields g = bind g (λ h r o. bind (fields h.0 r o) (λ v t z. got (h, v) t z))

  pub head_cut : at ≤ length s → length s < at + 2 → heading (drop at s) at ≡ fault early (length s)
  unfolding then_fields
  head_cut h k = ap (λ (g : Got (ℕ × ℕ)). then_fields (bind g (λ x r o. got (rule_of x) r o))) (guard_cut rule_fits 33 (bytes early) (drop at s) at (bytes_end early s at h k))

  module _ (inside : at + 1 < length s) where
    pub head_unfit : rule_fits (get_or s at 0, get_or s (at + 1) 0) ≡ false → heading (drop at s) at ≡ fault 33 at
    unfolding then_fields
    head_unfit k = ap (λ (g : Got (ℕ × ℕ)). then_fields (bind g (λ x r o. got (rule_of x) r o))) (guard_fails rule_fits 33 (bytes early) (drop at s) at (bytes_at early s at inside) k)

    module _ (fits : rule_fits (get_or s at 0, get_or s (at + 1) 0) ≡ true) where
      rule : ℕ
      rule = get_or s (at + 1) 0

      past_rule : heading (drop at s) at ≡ then_fields (got (rule, leb 16 (get_or s at 0)) (drop (at + 2) s) (at + 2))
      unfolding then_fields rule
      past_rule = ap (λ (g : Got (ℕ × ℕ)). then_fields (bind g (λ x r o. got (rule_of x) r o))) (guard_passes rule_fits 33 (bytes early) (drop at s) at (bytes_at early s at inside) fits)

      pub head_short : length s < at + 2 + link_width_lem (get_or s (at + 1) 0) → heading (drop at s) at ≡ fault early (length s)
      unfolding then_fields rule
      head_short k = past_rule ∙ rw (fields_cut rule s (at + 2) (omega arith) k) refl

      pub head_whole : (o : ℕ) → o ≡ at + 2 + link_width_lem (get_or s (at + 1) 0) → o ≤ length s
          → heading (drop at s) at ≡ got ((get_or s (at + 1) 0, leb 16 (get_or s at 0)), links_at (get_or s (at + 1) 0) s (at + 2)) (drop o s) o
      unfolding then_fields rule
      head_whole o e k = rw e (past_rule ∙ rw (fields_whole rule s (at + 2) (omega arith)) refl)
