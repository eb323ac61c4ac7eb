-- the columns mark a 0 that is written out as an action above 15: the table that they hold is judged as the claim is, and where it passes,
-- it is the table of the claim's records
use Rattle.std.specs.Prelude.{◌≡◌, refl, ◌⊎◌, List, [], ◌∷◌, Bool, true, false, ◌&&◌, ◌||◌, ℕ, suc, ◌≤◌, eqb, leb}
use Rattle.std.proofs.Math.Path.{sym}
use Rattle.std.proofs.Common.{ap, ◌∙◌, inl, inr, arith}
use Rattle.std.proofs.Math.Decide.{ℕ_discrete}
use Rattle.verdict.specs.Tells.{Tells, and_tells, leb_tells, tells_self}
use Rattle.verdict.specs.Tests.{choose}
use Rattle.formula.specs.Kind
use Rattle.formula.specs.Table.{Entry}
use Rattle.formula.specs.Shape.{shape_of, shape}
use Rattle.formula.specs.Spelled.{Spelled, b_stands_lem, record_of, marked, records_of, marked_of, table_by, by_length, spelled, zeros, zero_written, records-at, marked_at}
use Rattle.conditions.specs.Formed.{Unwritten}
use Rattle.conditions.specs.Judge.{far_step, far, plainly, judge_table}
use Rattle.conditions.specs.Actions.{still}
use Rattle.conditions.proofs.Actions.{judge_same}

-- a 0 is written out only of a box or diamond
zero_modal : (s : Spelled) → zero_written s ≡ true → (Kind.DIAMOND ≤ s.kind) × (s.kind ≤ Kind.BOX)
zero_modal s h = (both.says h).0
  where
    written : Bool
    written = b_stands_lem s.map && eqb s.b 0

    both : Tells (zero_written s) (((Kind.DIAMOND ≤ s.kind) × (s.kind ≤ Kind.BOX)) × (written ≡ true))
    both = and_tells (and_tells (leb_tells Kind.DIAMOND s.kind) (leb_tells s.kind Kind.BOX)) (tells_self written)

-- an entry as it is held has the same shape but for the action, which is above 15 where a 0 is written out
record Held (s : Spelled) : Type 0 where
  shaped : still (shape_of (marked s)) ≡ still (shape_of (record_of s))
  acting : (far (shape_of (marked s)) || false) ≡ (far (shape_of (record_of s)) || zero_written s)

-- by whether a 0 is written out
held_by : (s : Spelled) {b : Bool} → zero_written s ≡ b → marked s ≡ record { kind = s.kind; a = s.a; b = choose b 65535 s.b }
held_by s h = ap (λ (b : Bool). record { kind = s.kind; a = s.a; b = choose b 65535 s.b }) h

plain_held : (s : Spelled) → zero_written s ≡ false → marked s ≡ record_of s
plain_held s h = held_by s h

or-true : (b : Bool) → true ≡ (b || true)
or-true true = refl
or-true false = refl

held : (s : Spelled) → Held s
unfolding shape_of far far_step
held s = go (zero_written s) refl
  where
    at : (k : ℕ) → (k ≡ Kind.DIAMOND) ⊎ (k ≡ Kind.BOX) → (b : ℕ)
        → (still (shape_of (record { kind = k; a = s.a; b = 65535 })) ≡ still (shape_of (record { kind = k; a = s.a; b = b })))
        × ((far (shape_of (record { kind = k; a = s.a; b = 65535 })) || false) ≡ (far (shape_of (record { kind = k; a = s.a; b = b })) || true))
    at k (inl e) b = rw e (refl, or-true (leb 16 b))
    at k (inr e) b = rw e (refl, or-true (leb 16 b))

    which : zero_written s ≡ true → Dec (s.kind ≡ Kind.DIAMOND) → (s.kind ≡ Kind.DIAMOND) ⊎ (s.kind ≡ Kind.BOX)
    which h (yes e) = inl e
    which h (no n) = let (l, m) = zero_modal s h in inr (omega arith)

    by : {b : Bool} (h : zero_written s ≡ b) (x : Entry) → marked s ≡ x → still (shape_of x) ≡ still (shape_of (record_of s))
        → (far (shape_of x) || false) ≡ (far (shape_of (record_of s)) || b) → Held s
    by h x e p q = record {
      shaped = ap (λ (x : Entry). still (shape_of x)) e ∙ p;
      acting = ap (λ (x : Entry). far (shape_of x) || false) e ∙ q ∙ ap (λ (b : Bool). far (shape_of (record_of s)) || b) (sym h);
    }

    go : (b : Bool) → zero_written s ≡ b → Held s
    go true h = let (p, q) = at s.kind (which h (ℕ_discrete s.kind Kind.DIAMOND)) s.b in by h _ (held_by s h) p q
    go false h = by h _ (plain_held s h) refl refl

module _ (ss : List Spelled) where
  pub held_judged : judge_table plainly (marked_of ss) ≡ judge_table (zeros ss) (records_of ss)
  unfolding shape
  held_judged =
      judge_same plainly (zeros ss) (marked_of ss) (records_of ss) (by_length marked ss ∙ sym (by_length record_of ss))
      (λ e. rw (marked_at ss e, records-at ss e) (held (spelled ss e)).shaped)
      (λ e. rw (marked_at ss e, records-at ss e) (held (spelled ss e)).acting)

pub held_plainly : (ss : List Spelled) → Unwritten (zeros ss) (records_of ss) → marked_of ss ≡ records_of ss
unfolding table_by
held_plainly [] u = refl
held_plainly (s ∷ ss) u = rw (plain_held s (u 0 (omega arith)), held_plainly ss (λ e l. u (suc e) (omega arith))) refl
