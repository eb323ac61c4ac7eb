-- a link that is told by its numbers lies below the leaf, so the index is good
use mathlib.Core.Path.{sym, ◌∙◌}
use mathlib.Core.Bool.{false≢true}
use borrow.Author.Tests.{le-ltb}
use Rattle.companions.specs.CompanionLaws.{link_below, no_ancestor, some_ancestor}
use Rattle.companions.proofs.companion.Goals as goal
use Rattle.companions.proofs.companion.Goals.{then-link-v, else-link-v}

pub returns-then-is_spanned : goal.returns-then-is_spanned
returns-then-is_spanned c = elim c.if-link-v.branch [
  | then-link-v w ↦ record {
    above = λ _. rw (← c.wide-link.ensures) w.if-link-v.true;
    fits = λ ss cs n h A.
        let spanned = sym w.is_spanned.ensures ∙ sym w.value-is ∙ c.if-is_spanned.true in
        sym (rw c.wide-link.ensures (some_ancestor _ _ ss cs n _ h _ _ A (rw c.wide-link.ensures at w.if-link-v.true) (rw c.wide-link.ensures at spanned)));
  }
  | else-link-v w ↦ absurd (false≢true (sym (le-ltb _ _ w.if-link-v.false) ∙ sym w.value-is ∙ c.if-is_spanned.true))
]

pub returns-else-is_spanned : goal.returns-else-is_spanned
returns-else-is_spanned c = rw c.if-is_spanned.false (record {
  above = λ e. absurd (false≢true e);
  fits = λ ss cs n h A. sym (elim c.if-link-v.branch [
    | then-link-v w ↦
        let spanned = sym w.is_spanned.ensures ∙ sym w.value-is ∙ c.if-is_spanned.false in
        no_ancestor _ _ ss cs n _ h _ _ A (rw c.wide-link.ensures at w.if-link-v.true) (rw c.wide-link.ensures at spanned)
    | else-link-v w ↦ link_below _ _ ss cs n _ h (rw c.wide-link.ensures at w.if-link-v.false)
  ]);
})
