-- what an entry's word is formed of, and how forming keeps sameness, the direction of a fixpoint and the own meanings
use Rattle.std.specs.Prelude.{◌≡◌, refl, ◌⊎◌, ℕ}
use Rattle.std.proofs.Common.{inl, inr}
use Rattle.formula.specs.Table.{Table}
use Rattle.formula.specs.Shape.{Shape, leaf, two, step, fix, name, Fix, shape, Operand}
use Rattle.conditions.specs.WellFormed.{WellFormed}
use Rattle.meaning.specs.States.{Model, StateSet, SameStates, leaf_set}
use Rattle.meaning.specs.StateLaws.{same_sym, same_trans, two_same, step_same, Toward}
use Rattle.meaning.specs.Meaning.{own}
use Rattle.meaning.specs.OwnLaws.{closed, own_target}
use Rattle.meaning.proofs.OwnLaws.{own_law}
use Rattle.forming.specs.TowardLaws.{toward_refl, toward_two, toward_step}
use Rattle.forming.specs.Settled.{formed}

-- c is an operand, the body or the name's fixpoint
abbrev pub Reads : Shape → ℕ → Type 0
Reads (leaf l) c = ⊥
Reads (two o a b) c = (c ≡ a) ⊎ (c ≡ b)
Reads (step m a) c = c ≡ a
Reads (fix σ a) c = c ≡ a
Reads (name x) c = c ≡ x

pub operand_reads : (v : Shape) (c : ℕ) → Operand v c → Reads v c
operand_reads (leaf l) c o = o
operand_reads (two p a b) c o = o
operand_reads (step m a) c o = o
operand_reads (fix σ a) c o = o
operand_reads (name x) c o = absurd o

-- what is read is an operand, or the name's fixpoint
pub reads_either : (v : Shape) (c : ℕ) → Reads v c → Operand v c ⊎ (v ≡ name c)
reads_either (leaf l) c r = absurd r
reads_either (two p a b) c r = inl r
reads_either (step m a) c r = inl r
reads_either (fix σ a) c r = inl r
reads_either (name x) c r = inr (rw r refl)

pub formed_same : (M : Model) (W U : ℕ → StateSet) (v : Shape) → ((c : ℕ) → Reads v c → SameStates M.size (W c) (U c))
    → SameStates M.size (formed M W W v) (formed M U U v)
unfolding formed
formed_same M W U (leaf l) h = λ s m. refl
formed_same M W U (two o a b) h = two_same o (h a (inl refl)) (h b (inr refl))
formed_same M W U (step m a) h = step_same M m (h a refl)
formed_same M W U (fix σ a) h = h a refl
formed_same M W U (name x) h = h x refl

pub formed_toward : (M : Model) (σ : Fix) (W U : ℕ → StateSet) (v : Shape) → ((c : ℕ) → Reads v c → Toward M.size σ (W c) (U c))
    → Toward M.size σ (formed M W W v) (formed M U U v)
unfolding formed
formed_toward M σ W U (leaf l) h = toward_refl M.size σ (leaf_set M l)
formed_toward M σ W U (two o a b) h = toward_two M.size σ o _ _ _ _ (h a (inl refl)) (h b (inr refl))
formed_toward M σ W U (step m a) h = toward_step M σ m _ _ (h a refl)
formed_toward M σ W U (fix τ a) h = h a refl
formed_toward M σ W U (name x) h = h x refl

-- the own meanings are formed of each other
pub formed_own : (M : Model) (t : Table) → WellFormed t → (e : ℕ) (v : Shape) → shape t e ≡ v → SameStates M.size (own M t e) (formed M (own M t) (own M t) v)
unfolding formed closed
formed_own M t wf e (leaf l) q = own_law M t wf e (leaf l) q
formed_own M t wf e (two o a b) q = same_trans (own_law M t wf e (two o a b) q) (two_same o (same_sym (own_target M t wf a)) (same_sym (own_target M t wf b)))
formed_own M t wf e (step m a) q = same_trans (own_law M t wf e (step m a) q) (step_same M m (same_sym (own_target M t wf a)))
formed_own M t wf e (fix σ a) q = same_trans (own_law M t wf e (fix σ a) q) (same_sym (own_target M t wf a))
formed_own M t wf e (name x) q = own_law M t wf e (name x) q

-- formed of own meanings, a set is the own meaning
pub formed_right : (M : Model) (t : Table) → WellFormed t → (W : ℕ → StateSet) (e : ℕ) → ((c : ℕ) → Reads (shape t e) c → SameStates M.size (W c) (own M t c))
    → SameStates M.size (formed M W W (shape t e)) (own M t e)
formed_right M t wf W e h = same_trans (formed_same M W (own M t) (shape t e) h) (same_sym (formed_own M t wf e (shape t e) refl))
