-- a file by its opening and its body: what is read, and which refusal is earned
use Rattle.std.specs.Prelude.{◌≡◌, Bool, eqb}
use Rattle.std.proofs.Math.Path.{refl, ap}
use Rattle.std.proofs.Common.{sym, ◌∙◌, length-append}
use mathlib.Core.List.{List, [], ◌∷◌, ◌++◌, append-nil}
use Rattle.std.proofs.Math.Bool.{true, false}
use Prim.Native.Nat.{ℕ, suc, ◌+◌}
use native.Mathlib.Omega.{arith}
use Rattle.std.proofs.Math.ListN.{length}
use Rattle.verdict.specs.Tells.{Tells, eqb_tells}
use Rattle.encoding.specs.Parse.{Got, fault, got, Parser, pick, bind, letters}
use Rattle.encoding.specs.Stages as Stages
use Rattle.encoding.specs.Stages.{Stages}
use Rattle.encoding.specs.File.{Reading, refused, good, ending, read_file, Encodes, Earned, no_opening, ends_early, wrong, bytes_follow}
use Rattle.encoding.specs.ParseLaws.{Exact}
use Rattle.encoding.specs.FaultLaws.{Refuses}

value_of : {A : Type 0} → A → Reading A → A
value_of x (refused n q) = x
value_of x (good y) = y

number_of : {A : Type 0} → Reading A → ℕ
number_of (refused n q) = n
number_of (good x) = 0

place_of : {A : Type 0} → Reading A → ℕ
place_of (refused n q) = q
place_of (good x) = 0

is_good : {A : Type 0} → Reading A → ℕ
is_good (refused n q) = 0
is_good (good x) = 1

pub refused_not_good : {A : Type 0} {x : A} {n q : ℕ} → refused n q ≡ good x → ⊥
unfolding is_good
refused_not_good h = let z : ◌≡◌ {A = ℕ} 0 1 = ap is_good h in omega arith

pub good_same : {A : Type 0} {x y : A} → good x ≡ good y → x ≡ y
unfolding value_of
good_same {x = x} h = ap (value_of x) h

pub refused_same : {A : Type 0} {n q m r : ℕ} → ◌≡◌ {A = Reading A} (refused n q) (refused m r) → (n ≡ m) × (q ≡ r)
unfolding number_of place_of
refused_same h = (ap number_of h, ap place_of h)

-- these letters stand in front
abbrev pub Opens : List ℕ → List ℕ → Type 0
Opens l s = (r : List ℕ) × (s ≡ l ++ r)

module _ (n from : ℕ) where
  letters_read : (l r : List ℕ) (at : ℕ) → letters l n from (l ++ r) at ≡ got tt r (at + length l)
  unfolding letters
  letters_read [] r at = ap (λ (o : ℕ). got tt r o) (omega arith)
  letters_read (c ∷ l) r at =
      let i : at + suc (length l) ≡ suc at + length l = omega arith in
      rw ((eqb_tells c c).holds refl, i) (letters_read l r (suc at))

  letters_fault : (l s : List ℕ) (at : ℕ) → (Opens l s → ⊥) → letters l n from s at ≡ fault n from
  unfolding letters
  letters_fault [] s at f = absurd (f (s, refl))
  letters_fault (c ∷ l) [] at f = refl
  letters_fault (c ∷ l) (x ∷ s) at f = go (eqb x c) (eqb_tells x c) (λ g. letters_fault l s (suc at) g)
    where
      go : (b : Bool) → Tells b (x ≡ c) → ((Opens l s → ⊥) → letters l n from s (suc at) ≡ fault n from) → pick b (letters l n from s (suc at)) (fault n from) ≡ fault n from
      go true t ih = ih (λ (r, e). f (r, rw (t.says refl, e) refl))
      go false t ih = refl

module _ {A : Type 0} (opening : List ℕ) (number early : ℕ) (body : Parser A) where
  abbrev read : List ℕ → Reading A
  read bytes = read_file opening number early body bytes

  pub opened : (r : List ℕ) → read (opening ++ r) ≡ ending early (body r (length opening))
  unfolding read_file letters
  opened r =
      let i : 0 + length opening ≡ length opening = omega arith in
      ap (λ (g : Got Unit). ending early (bind g (λ _ r o. body r o))) (letters_read number 0 opening r 0) ∙ ap (λ (o : ℕ). ending early (body r o)) i

  pub closed : (s : List ℕ) → (Opens opening s → ⊥) → read s ≡ refused number 0
  unfolding read_file letters
  closed s f = rw (letters_fault number 0 opening s 0 f) refl

  module _ {enc : A → List ℕ} {Ok : A → Type 0} (E : Exact body enc Ok) where
    -- an encoding is decoded
    pub file_good : {bytes : List ℕ} {x : A} → Encodes opening enc Ok bytes x → read bytes ≡ good x
    file_good {bytes} {x} f =
        let o : ℕ = length opening + length (enc x) in
        let v : body (enc x) (length opening) ≡ got x [] o = ap (λ (t : List ℕ). body t (length opening)) (sym (append-nil (enc x))) ∙ E.reads x f.fits [] (length opening) in
        ap read f.encoded ∙ opened (enc x) ∙ ap (ending early) v

    -- one file, one decoding
    pub one_decoding : {bytes : List ℕ} {x y : A} → Encodes opening enc Ok bytes x → Encodes opening enc Ok bytes y → x ≡ y
    one_decoding f g = good_same (sym (file_good f) ∙ file_good g)

    module _ {X : Stages} (R : Refuses early body X) where
      abbrev Fault : List ℕ → ℕ → ℕ → Type 0
      Fault bytes n q = Earned opening number early enc Ok X bytes n q

      -- and each is given where it is earned
      pub earned_refused : {bytes : List ℕ} {n q : ℕ} → Fault bytes n q → read bytes ≡ refused n q
      earned_refused {bytes} (no_opening f) = closed bytes (λ (r, e). f r e)
      earned_refused {bytes} (ends_early σ t u e l) =
          let r : List ℕ = X.done σ ++ t in
          let i : length opening + length r ≡ length bytes = sym (ap length e ∙ length-append opening r) in
          ap read e ∙ opened r
          ∙ ap (ending early) (R.holds r (length opening) early (length opening + length r) (Stages.ends_early σ t u refl l)) ∙ ap (λ (q : ℕ). refused early q) i
      earned_refused {bytes} (wrong σ w t u e k) =
          ap read e ∙ opened _ ∙ ap (ending early) (R.holds (X.done σ ++ (w ++ t)) (length opening) _ _ (Stages.wrong σ w t u refl k))
      earned_refused {bytes} (bytes_follow x y r k e) =
          ap read e ∙ opened (enc x ++ (y ∷ r)) ∙ ap (ending early) (E.reads x k (y ∷ r) (length opening))
