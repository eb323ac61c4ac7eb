-- one parent's step over rules and links in plain numbers, as the code takes it
use Rattle.std.specs.Prelude.{◌≡◌, Bool, true, false, List, ℕ, ◌+◌, ◌*◌, ◌<◌, get_or, set}
use Rattle.std.proofs.Common.{sym, ◌∙◌}
use Rattle.std.proofs.lemmas.Bool.{false≢true}
use Rattle.formula.specs.Fields.{has_first_lem, has_second_lem}
use Rattle.tree.specs.Owners.{unowned, TakenBy, OneChild, OneParent}
use Rattle.tree.specs.OwnerLaws.{parent_of, none_fit, none_owned, first_unfit, one_fit, one_owned, two_fit, two_owned}

module _ (roots rs ls owners : List ℕ) (n v : ℕ) (h : v < n) (O : TakenBy roots rs ls n v owners) where
  abbrev a : ℕ
  a = get_or ls (4 * v + 1) 0

  abbrev b : ℕ
  b = get_or ls (4 * v + 2) 0

  abbrev r : ℕ
  r = get_or rs v 0

  pub adopts_none : has_first_lem r ≡ false → OneParent roots rs ls n v true owners
  adopts_none none = record {
    answers = λ ss cs. sym (none_fit roots _ n v r a b owners (parent_of rs ls ss cs n v h) (O ss cs) none);
    taken = λ _ ss cs. none_owned roots _ n v r a b owners (parent_of rs ls ss cs n v h) (O ss cs) none;
  }

  module _ (one : has_first_lem r ≡ true) {x : Bool} {left : List ℕ} (first : OneChild owners n v a x left) where
    pub first_refused : x ≡ false → OneParent roots rs ls n v false left
    first_refused bad = record {
      answers = λ ss cs. sym (first_unfit roots _ n v r a b owners (parent_of rs ls ss cs n v h) (O ss cs) one (sym first.answers ∙ bad));
      taken = λ e. absurd (false≢true e);
    }

    module _ (good : x ≡ true) where
      abbrev fits : unowned owners n v a ≡ true
      fits = sym first.answers ∙ good

      pub adopts_one : has_second_lem r ≡ false → OneParent roots rs ls n v true left
      adopts_one single = record {
        answers = λ ss cs. sym (one_fit roots _ n v r a b owners (parent_of rs ls ss cs n v h) (O ss cs) one fits single);
        taken = λ _ ss cs. rw (first.marked good) (one_owned roots _ n v r a b owners (parent_of rs ls ss cs n v h) (O ss cs) one fits single);
      }

      pub adopts_two : has_second_lem r ≡ true → {y : Bool} {rest : List ℕ} → OneChild left n v b y rest → OneParent roots rs ls n v y rest
      adopts_two double {y} {rest} second = record {
        answers = λ ss cs. unmarked ∙ sym (two_fit roots _ n v r a b owners (parent_of rs ls ss cs n v h) (O ss cs) one fits double);
        taken = λ e ss cs. rw (second.marked e, first.marked good) (two_owned roots _ n v r a b owners (parent_of rs ls ss cs n v h) (O ss cs) one fits double (sym unmarked ∙ e));
      }
        where
          unmarked : y ≡ unowned (set owners a (v + 1)) n v b
          unmarked = rw (first.marked good) at second.answers
