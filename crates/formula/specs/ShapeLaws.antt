-- the shape of each kind by its number, the kind's number by the shape, and the target by the kind
use Rattle.std.specs.Prelude.{◌≡◌, ◌≢◌, ◌⊎◌, ℕ, zero, suc}
use Rattle.std.proofs.Math.Path.{refl, sym, ap}
use Rattle.std.proofs.Common.{◌∙◌, inl, inr, arith}
use Rattle.formula.specs.Kind
use Rattle.formula.specs.Table.{Table, entry, kind, action}
use Rattle.formula.specs.Shape.{Shape, leaf, two, step, fix, name, never, always, letter, negated, or, and, diamond, box, mu, nu, shape_of, shape}
use Rattle.formula.specs.Target.{target_of, target}
use Rattle.formula.specs.TableLaws.{target_at, target_by}

module _ (t : Table) (e : ℕ) where
  pub false_shape : kind t e ≡ Kind.FALSE → shape t e ≡ leaf never
  unfolding shape shape_of
  false_shape q = rw q refl

  pub true_shape : kind t e ≡ Kind.TRUE → shape t e ≡ leaf always
  unfolding shape shape_of
  true_shape q = rw q refl

  pub letter_shape : kind t e ≡ Kind.LETTER → shape t e ≡ leaf (letter (entry t e).a)
  unfolding shape shape_of
  letter_shape q = rw q refl

  pub negated_shape : kind t e ≡ Kind.NEGATED → shape t e ≡ leaf (negated (entry t e).a)
  unfolding shape shape_of
  negated_shape q = rw q refl

  pub or_shape : kind t e ≡ Kind.OR → shape t e ≡ two or (entry t e).a (entry t e).b
  unfolding shape shape_of
  or_shape q = rw q refl

  pub and_shape : kind t e ≡ Kind.AND → shape t e ≡ two and (entry t e).a (entry t e).b
  unfolding shape shape_of
  and_shape q = rw q refl

  pub diamond_shape : kind t e ≡ Kind.DIAMOND → shape t e ≡ step (diamond (action t e)) (entry t e).a
  unfolding shape shape_of
  diamond_shape q = rw q refl

  pub box_shape : kind t e ≡ Kind.BOX → shape t e ≡ step (box (action t e)) (entry t e).a
  unfolding shape shape_of
  box_shape q = rw q refl

  pub mu_shape : kind t e ≡ Kind.MU → shape t e ≡ fix mu (entry t e).a
  unfolding shape shape_of
  mu_shape q = rw q refl

  pub nu_shape : kind t e ≡ Kind.NU → shape t e ≡ fix nu (entry t e).a
  unfolding shape shape_of
  nu_shape q = rw q refl

  pub name_shape : kind t e ≡ Kind.NAME → shape t e ≡ name (entry t e).a
  unfolding shape shape_of
  name_shape q = rw q refl

-- the number of a shape's kind, and its field A, or d where the kind has none
abbrev pub kind_of : Shape → ℕ
kind_of (leaf never) = Kind.FALSE
kind_of (leaf always) = Kind.TRUE
kind_of (leaf (letter p)) = Kind.LETTER
kind_of (leaf (negated p)) = Kind.NEGATED
kind_of (two or a b) = Kind.OR
kind_of (two and a b) = Kind.AND
kind_of (step (diamond n) a) = Kind.DIAMOND
kind_of (step (box n) a) = Kind.BOX
kind_of (fix mu a) = Kind.MU
kind_of (fix nu a) = Kind.NU
kind_of (name x) = Kind.NAME

field_a : Shape → ℕ → ℕ
field_a (leaf never) d = d
field_a (leaf always) d = d
field_a (leaf (letter p)) d = p
field_a (leaf (negated p)) d = p
field_a (two o a b) d = a
field_a (step m a) d = a
field_a (fix σ a) d = a
field_a (name x) d = x

-- the action of a modal step, or d
action_of : Shape → ℕ → ℕ
action_of (leaf l) d = d
action_of (two o a b) d = d
action_of (step (diamond n) a) d = n
action_of (step (box n) a) d = n
action_of (fix σ a) d = d
action_of (name x) d = d

-- v tells the kind k, unless it is false, which any number past the last kind stands for too, the field a, and of a modal step the action b
abbrev Tells-back : Shape → ℕ → ℕ → ℕ → Type 0
Tells-back v k a b = ((kind_of v ≡ Kind.FALSE) ⊎ (k ≡ kind_of v)) × (field_a v a ≡ a) × (action_of v b ≡ b)

shape_back : (k a b : ℕ) → Tells-back (shape_of (record { kind = k; a = a; b = b })) k a b
unfolding shape_of field_a action_of
shape_back zero a b = (inl refl, refl, refl)
shape_back (suc zero) a b = (inr refl, refl, refl)
shape_back (suc (suc zero)) a b = (inr refl, refl, refl)
shape_back (suc (suc (suc zero))) a b = (inr refl, refl, refl)
shape_back (suc (suc (suc (suc zero)))) a b = (inr refl, refl, refl)
shape_back (suc (suc (suc (suc (suc zero))))) a b = (inr refl, refl, refl)
shape_back (suc (suc (suc (suc (suc (suc zero)))))) a b = (inr refl, refl, refl)
shape_back (suc (suc (suc (suc (suc (suc (suc zero))))))) a b = (inr refl, refl, refl)
shape_back (suc (suc (suc (suc (suc (suc (suc (suc zero)))))))) a b = (inr refl, refl, refl)
shape_back (suc (suc (suc (suc (suc (suc (suc (suc (suc zero))))))))) a b = (inr refl, refl, refl)
shape_back (suc (suc (suc (suc (suc (suc (suc (suc (suc (suc zero)))))))))) a b = (inr refl, refl, refl)
shape_back (suc (suc (suc (suc (suc (suc (suc (suc (suc (suc (suc k))))))))))) a b = (inl refl, refl, refl)

-- the kind by the shape, and field A
module _ (t : Table) (e : ℕ) where
  kind_of_lem : {v : Shape} → shape t e ≡ v → (kind_of v ≡ Kind.FALSE → ⊥) → kind t e ≡ kind_of v
  unfolding shape
  kind_of_lem {v} q n = go (shape_back (entry t e).kind (entry t e).a (entry t e).b).0
    where
      go : (kind_of (shape t e) ≡ Kind.FALSE) ⊎ (kind t e ≡ kind_of (shape t e)) → kind t e ≡ kind_of v
      go (inl z) = absurd (n (sym (ap kind_of q) ∙ z))
      go (inr z) = z ∙ ap kind_of q

  field_of : {v : Shape} → shape t e ≡ v → (entry t e).a ≡ field_a v (entry t e).a
  unfolding shape
  field_of q = sym (shape_back (entry t e).kind (entry t e).a (entry t e).b).1 ∙ ap (λ (v : Shape). field_a v (entry t e).a) q

  action_of_lem : {v : Shape} → shape t e ≡ v → action t e ≡ action_of v (action t e)
  unfolding shape
  action_of_lem q = sym (shape_back (entry t e).kind (entry t e).a (entry t e).b).2 ∙ ap (λ (v : Shape). action_of v (action t e)) q

  pub true_kind : shape t e ≡ leaf always → kind t e ≡ Kind.TRUE
  true_kind q = kind_of_lem q (λ z. omega arith)

  pub letter_kind : {p : ℕ} → shape t e ≡ leaf (letter p) → (kind t e ≡ Kind.LETTER) × ((entry t e).a ≡ p)
  unfolding field_a
  letter_kind q = (kind_of_lem q (λ z. omega arith), field_of q)

  pub negated_kind : {p : ℕ} → shape t e ≡ leaf (negated p) → (kind t e ≡ Kind.NEGATED) × ((entry t e).a ≡ p)
  unfolding field_a
  negated_kind q = (kind_of_lem q (λ z. omega arith), field_of q)

  pub box_kind : {n a : ℕ} → shape t e ≡ step (box n) a → (kind t e ≡ Kind.BOX) × ((entry t e).a ≡ a) × (action t e ≡ n)
  unfolding field_a action_of
  box_kind q = (kind_of_lem q (λ z. omega arith), field_of q, action_of_lem q)

  pub name_kind : {x : ℕ} → shape t e ≡ name x → kind t e ≡ Kind.NAME
  name_kind q = kind_of_lem q (λ z. omega arith)

-- the operand's fixpoint if it is a name
pub target_name : (t : Table) (e : ℕ) → kind t e ≡ Kind.NAME → target t e ≡ (entry t e).a
unfolding target_of
target_name t e q = target_at t e (name_shape t e q)

-- else the operand
pub target_other : (t : Table) (e : ℕ) → kind t e ≢ Kind.NAME → target t e ≡ e
target_other t e n = target_by t e (λ d. d ≡ e) (λ _. refl) (λ x q. absurd (n (name_kind t e q)))
