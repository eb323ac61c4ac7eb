-- a reading that gives exactly what has a property, and refuses exactly as is earned
use Rattle.std.specs.Prelude.{◌≡◌, refl, ◌⊎◌, ℕ}
use Rattle.std.proofs.Common.{sym, ap, ◌∙◌, inl, inr, ⊎_elim}
use Rattle.verdict.specs.Verdict as verdicts
use Rattle.verdict.specs.Verdict.{Verdict, accepted}
use Rattle.encoding.specs.File.{Reading, refused, good}
use Rattle.encoding.specs.FileLaws.{refused_not_good, good_same, refused_same}
use Rattle.reader.specs.Files.{firstly, and_then}

-- E n q: refusal n is earned at place q
pub record Exactly {A : Type 0} (r : Reading A) (P : A → Type 0) (E : ℕ → ℕ → Type 0) : Type 0 where
  pub gives : (x : A) → P x → r ≡ good x
  pub given : (x : A) → r ≡ good x → P x
  pub refuses : (n q : ℕ) → E n q → r ≡ refused n q
  pub earned : (n q : ℕ) → r ≡ refused n q → E n q

-- in other words
pub exactly_as : {A : Type 0} {r : Reading A} {P Q : A → Type 0} {E F : ℕ → ℕ → Type 0} → Exactly r P E
    → ((x : A) → P x → Q x) → ((x : A) → Q x → P x) → ((n q : ℕ) → E n q → F n q) → ((n q : ℕ) → F n q → E n q) → Exactly r Q F
exactly_as e f g h k = record {
  gives = λ x q. e.gives x (g x q);
  given = λ x z. f x (e.given x z);
  refuses = λ n q z. e.refuses n q (k n q z);
  earned = λ n q z. h n q (e.earned n q z);
}

-- a reading in sight of another
module _ {A B : Type 0} (P : A → Type 0) (E : ℕ → ℕ → Type 0) (Q : A → B → Type 0) (F : A → ℕ → ℕ → Type 0) where
  -- both are given, or one is refused
  abbrev pub Both : B → Type 0
  Both y = (x : A) × P x × Q x y

  abbrev pub Either : ℕ → ℕ → Type 0
  Either n q = E n q ⊎ ((x : A) × P x × F x n q)

  pub then_exactly : {next : A → Reading B} (r : Reading A) → Exactly r P E → ((x : A) → P x → Exactly (next x) (Q x) (F x)) → Exactly (and_then r next) Both Either
  then_exactly {next} r e f = record {
    gives = λ y (x, p, q). ap (λ (r : Reading A). and_then r next) (e.gives x p) ∙ (f x p).gives y q;
    given = given r e;
    refuses = λ n q z. ⊎_elim
        (λ a. ap (λ (r : Reading A). and_then r next) (e.refuses n q a))
        (λ (x, p, b). ap (λ (r : Reading A). and_then r next) (e.gives x p) ∙ (f x p).refuses n q b)
        z;
    earned = earned r e;
  }
    where
      given : (r : Reading A) → Exactly r P E → (y : B) → and_then r next ≡ good y → Both y
      given (refused n q) e y h = absurd (refused_not_good h)
      given (good x) e y h = let p = e.given x refl in (x, p, (f x p).given y h)

      earned : (r : Reading A) → Exactly r P E → (n q : ℕ) → and_then r next ≡ refused n q → Either n q
      earned (refused m o) e n q h = let (i, j) = refused_same h in inl (rw (← i, ← j) (e.earned m o refl))
      earned (good x) e n q h = let p = e.given x refl in inr (x, p, (f x p).earned n q h)

-- a verdict that stands before a value
pub first_exactly : {A : Type 0} (v : Verdict) (x : A) {P : Type 0} {E : ℕ → ℕ → Type 0}
    → (P → v ≡ accepted) → (v ≡ accepted → P) → ((n q : ℕ) → E n q → v ≡ verdicts.refused n q) → ((n q : ℕ) → v ≡ verdicts.refused n q → E n q)
    → Exactly (firstly v (good x)) (λ y. (y ≡ x) × P) E
first_exactly {A} v x {P} {E} f g h k = record {
  gives = λ y (e, p). ap (λ (v : Verdict). firstly v (good x)) (f p) ∙ ap good (sym e);
  given = given v g;
  refuses = λ n q z. ap (λ (v : Verdict). firstly v (good x)) (h n q z);
  earned = earned v k;
}
  where
    given : (v : Verdict) → (v ≡ accepted → P) → (y : A) → firstly v (good x) ≡ good y → (y ≡ x) × P
    given accepted g y e = (sym (good_same e), g refl)
    given (verdicts.refused n q) g y e = absurd (refused_not_good e)

    earned : (v : Verdict) → ((n q : ℕ) → v ≡ verdicts.refused n q → E n q) → (n q : ℕ) → firstly v (good x) ≡ refused n q → E n q
    earned accepted k n q e = absurd (refused_not_good (sym e))
    earned (verdicts.refused m r) k n q e = let (i, j) = refused_same e in rw (← i, ← j) (k m r refl)

-- a value that nothing stands before
pub value_exactly : {A : Type 0} (x : A) → Exactly (good x) (λ y. y ≡ x) (λ n q. ⊥)
value_exactly x = record {
  gives = λ y e. ap good (sym e);
  given = λ y e. sym (good_same e);
  refuses = λ n q z. absurd z;
  earned = λ n q e. refused_not_good (sym e);
}
