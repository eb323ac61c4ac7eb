-- Two bytes, and two for each field whose bit stands in the map that the writer gives.
use mathlib.Core.Path.{◌≡◌, refl, sym, ◌∙◌}
use mathlib.Core.Bool.{Bool, true, false, not, ◌&&◌, false≢true}
use Prim.Native.Nat.{ℕ, ◌+◌}
use native.Mathlib.Omega.{arith}
use borrow.Author.Tests.{eq-eqb}
use Rattle.std.proofs.Common.{eqb-true}
use Rattle.std.proofs.lemmas.Bool.{not-true, not-false}
use lib.Dec.{eqb}
use Rattle.verdict.specs.Tells.{and_tells, leb_tells, tells_self, fails_holds}
use Rattle.bits.specs.IfSet.{if_set_lem}
use Rattle.formula.specs.Kind
use Rattle.formula.specs.Fields.{has_a_lem, has_b, is_modal_lem}
use Rattle.writing.specs.Spelling.{modal_fields, bits_stand}
use Rattle.writing.specs.EntryEnds.{entry_width_lem}
use Rattle.vetting.proofs.entry_width.Goals as goal
use Rattle.vetting.proofs.entry_width.Goals.{then-has_b, else-has_b+then-is_modal, else-has_b+else-is_modal}

module _ (k b : ℕ) where
  -- a box or diamond with an action other than 0
  acting : is_modal_lem k ≡ true → eqb b 0 ≡ false → 6 ≡ entry_width_lem k b
  acting m z = rw (m, z) refl

  -- any other entry has the fields of its kind
  plain : is_modal_lem k && not (eqb b 0) ≡ false → {p q : Bool} → has_a_lem k ≡ p → has_b k ≡ q → 2 + (if_set_lem p 2 + if_set_lem q 2) ≡ entry_width_lem k b
  plain h i j =
      let (a, c) = bits_stand (has_a_lem k) (has_b k) in
      rw (h, a, c, i, j) refl

  other : is_modal_lem k ≡ false → {p q : Bool} → has_a_lem k ≡ p → has_b k ≡ q → 2 + (if_set_lem p 2 + if_set_lem q 2) ≡ entry_width_lem k b
  other m = plain (rw m refl)

  -- a kind with B has A too, and is no box or diamond
  widest : has_b k ≡ true → 6 ≡ entry_width_lem k b
  widest h =
      let (low, high) = (and_tells (leb_tells Kind.OR k) (leb_tells k Kind.AND)).says h in
      let a : has_a_lem k ≡ true = (and_tells (leb_tells Kind.LETTER k) (leb_tells k Kind.NAME)).holds (omega arith, omega arith) in
      let m : is_modal_lem k ≡ false = fails_holds (and_tells (leb_tells Kind.DIAMOND k) (leb_tells k Kind.BOX)) (λ w. omega (arith, w.0)) in
      other m a h

  -- one without A is no box or diamond either
  bare : has_a_lem k ≡ false → has_b k ≡ false → 2 ≡ entry_width_lem k b
  bare a h = other (fails_holds (tells_self (is_modal_lem k)) (λ m. false≢true (sym a ∙ (modal_fields k m).0))) a h

  silent : b ≡ 0 → has_a_lem k ≡ true → has_b k ≡ false → 4 ≡ entry_width_lem k b
  silent e a h = plain (rw (eq-eqb b 0 e) (go (is_modal_lem k))) a h
    where
      go : (m : Bool) → m && false ≡ false
      go true = refl
      go false = refl

pub returns-then-b-ne0 : goal.returns-then-b-ne0
returns-then-b-ne0 c =
    let s = c.args in (
      elim c.if-has_b.branch [
        | then-has_b w ↦ widest s.kind s.b (sym c.has_b.ensures ∙ w.if-has_b.true)
        | else-has_b+then-is_modal w ↦ acting s.kind s.b (sym w.is_modal.ensures ∙ w.if-is_modal.true) (not-true (eqb s.b 0) (sym w.value-is ∙ c.if-b-ne0.true))
        | else-has_b+else-is_modal w ↦ absurd (false≢true (sym w.if-is_modal.false ∙ sym w.value-is ∙ c.if-b-ne0.true))
      ],
      omega arith,
    )

pub returns-then-has_a : goal.returns-then-has_a
returns-then-has_a c =
    let s = c.args in (
      elim c.if-has_b.branch [
        | then-has_b w ↦ absurd (false≢true (sym c.if-b-ne0.false ∙ w.value-is ∙ w.if-has_b.true))
        | else-has_b+then-is_modal w ↦ silent s.kind s.b (eqb-true s.b 0 (not-false (eqb s.b 0) (sym w.value-is ∙ c.if-b-ne0.false))) (sym c.has_a.ensures ∙ c.if-has_a.true) (sym c.has_b.ensures ∙ w.if-has_b.false)
        | else-has_b+else-is_modal w ↦ other s.kind s.b (sym w.is_modal.ensures ∙ w.if-is_modal.false) (sym c.has_a.ensures ∙ c.if-has_a.true) (sym c.has_b.ensures ∙ w.if-has_b.false)
      ],
      omega arith,
    )

pub returns-else-has_a : goal.returns-else-has_a
returns-else-has_a c =
    let s = c.args in (
      elim c.if-has_b.branch [
        | then-has_b w ↦ absurd (false≢true (sym c.if-b-ne0.false ∙ w.value-is ∙ w.if-has_b.true))
        | else-has_b+then-is_modal w ↦ bare s.kind s.b (sym c.has_a.ensures ∙ c.if-has_a.false) (sym c.has_b.ensures ∙ w.if-has_b.false)
        | else-has_b+else-is_modal w ↦ bare s.kind s.b (sym c.has_a.ensures ∙ c.if-has_a.false) (sym c.has_b.ensures ∙ w.if-has_b.false)
      ],
      omega arith,
    )
