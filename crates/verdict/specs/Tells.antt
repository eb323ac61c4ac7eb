-- a Boolean tells a proposition: laws for the connectives and for comparing numbers
use Rattle.std.specs.Prelude.{◌≡◌, refl, ◌⊎◌, Bool, true, false, not, ◌&&◌, ◌||◌, ℕ, ◌<◌, ◌≤◌, eqb, ltb, leb}
use Rattle.std.proofs.Common.{sym, ◌∙◌, inl, inr, true≢false, ltb-true, lt-ltb, leb-true, le-leb, eqb-true, eq-eqb}
use Rattle.std.proofs.lemmas.Bool.{false≢true}

pub record Tells (b : Bool) (P : Type 0) : Type 0 where
  pub says : b ≡ true → P
  pub holds : P → b ≡ true

pub tells_as : {b : Bool} {P Q : Type 0} → (P → Q) → (Q → P) → Tells b P → Tells b Q
tells_as f g x = record { says = λ h. f (x.says h); holds = λ q. x.holds (g q) }

-- a test that fails tells the contrary
pub fails : {b : Bool} {P : Type 0} → Tells b P → b ≡ false → P → ⊥
fails x h q = true≢false (sym (x.holds q) ∙ h)

pub fails_holds : {b : Bool} {P : Type 0} → Tells b P → (P → ⊥) → b ≡ false
fails_holds {b} {P} x n = go b x.says
  where
    go : (c : Bool) → (c ≡ true → P) → c ≡ false
    go true f = absurd (n (f refl))
    go false f = refl

pub tells_self : (b : Bool) → Tells b (b ≡ true)
tells_self b = record { says = λ h. h; holds = λ h. h }

pub true_tells : {P : Type 0} → P → Tells true P
true_tells p = record { says = λ h. p; holds = λ h. refl }

pub false_tells : {P : Type 0} → (P → ⊥) → Tells false P
false_tells n = record { says = λ h. absurd (false≢true h); holds = λ p. absurd (n p) }

pub eqb_tells : (a b : ℕ) → Tells (eqb a b) (a ≡ b)
eqb_tells a b = record { says = eqb-true a b; holds = eq-eqb a b }

pub ltb_tells : (a b : ℕ) → Tells (ltb a b) (a < b)
ltb_tells a b = record { says = ltb-true a b; holds = lt-ltb a b }

pub leb_tells : (a b : ℕ) → Tells (leb a b) (a ≤ b)
leb_tells a b = record { says = leb-true a b; holds = le-leb a b }

-- the second test need tell only where the first passes
pub and_tells_given : {a b : Bool} {P Q : Type 0} → Tells a P → (P → Tells b Q) → Tells (a && b) (P × Q)
and_tells_given {a} {b} {P} {Q} x y = record { says = into a x.says; holds = λ (h, k). from a b (x.holds h) ((y h).holds k) }
  where
    into : (c : Bool) → (c ≡ true → P) → (c && b) ≡ true → P × Q
    into true f h = (f refl, (y (f refl)).says h)
    into false f h = absurd (false≢true h)

    from : (c d : Bool) → c ≡ true → d ≡ true → (c && d) ≡ true
    from true d h k = k
    from false d h k = h

pub and_tells : {a b : Bool} {P Q : Type 0} → Tells a P → Tells b Q → Tells (a && b) (P × Q)
and_tells x y = and_tells_given x (λ _. y)

pub or_tells : {a b : Bool} {P Q : Type 0} → Tells a P → Tells b Q → Tells (a || b) (P ⊎ Q)
or_tells {a} {b} {P} {Q} x y = record { says = into a x.says; holds = λ s. from a x.holds s }
  where
    into : (c : Bool) → (c ≡ true → P) → (c || b) ≡ true → P ⊎ Q
    into true f h = inl (f refl)
    into false f h = inr (y.says h)

    from : (c : Bool) → (P → c ≡ true) → P ⊎ Q → (c || b) ≡ true
    from true f s = refl
    from false f (inl h) = absurd (false≢true (f h))
    from false f (inr k) = y.holds k

pub not_tells : {a : Bool} {P : Type 0} → Tells a P → Tells (not a) (P → ⊥)
not_tells {a} {P} x = record { says = λ h q. into a h (x.holds q); holds = from a x.says }
  where
    into : (c : Bool) → not c ≡ true → c ≡ true → ⊥
    into true h k = false≢true h
    into false h k = false≢true k

    from : (c : Bool) → (c ≡ true → P) → (P → ⊥) → not c ≡ true
    from true f n = absurd (n (f refl))
    from false f n = refl

pub if_tells : {a b : Bool} {P Q : Type 0} → Tells a P → Tells b Q → Tells (not a || b) (P → Q)
if_tells {a} {b} {P} {Q} x y = record { says = λ h q. into a (x.holds q) h; holds = from a x.says }
  where
    into : (c : Bool) → c ≡ true → (not c || b) ≡ true → Q
    into true h k = y.says k
    into false h k = absurd (false≢true h)

    from : (c : Bool) → (c ≡ true → P) → (P → Q) → (not c || b) ≡ true
    from true f g = y.holds (g (f refl))
    from false f g = refl

-- two tests of one condition agree
pub same_test : {p q : Bool} {P : Type 0} → Tells p P → Tells q P → p ≡ q
same_test {p} {q} {P} x y = go p q x.says x.holds y.says y.holds
  where
    go : (p q : Bool) → (p ≡ true → P) → (P → p ≡ true) → (q ≡ true → P) → (P → q ≡ true) → p ≡ q
    go true true a b c d = refl
    go true false a b c d = sym (d (a refl))
    go false true a b c d = b (c refl)
    go false false a b c d = refl
