-- what the code of the rules' tests goes by: the principal, its kind and its operands' targets in plain numbers
use Rattle.std.specs.Prelude.{◌≡◌, ◌≢◌, ◌⊎◌, List, Bool, true, false, not, ℕ, ◌<◌, ◌≤◌, get_or}
use Rattle.std.proofs.Math.Path.{refl}
use Rattle.std.proofs.Common.{◌∙◌, sym, inl, inr, arith}
use Rattle.std.proofs.Math.Decide.{ℕ_discrete}
use borrow.Author.Tests.{not-true, not-false, eq-eqb, ne_eqb}
use Rattle.formula.specs.Kind
use Rattle.formula.specs.Table.{Table, entry, kind}
use Rattle.formula.specs.Shape.{Shape, Two, two, shape, Operand}
use Rattle.conditions.specs.WellFormed.{WellFormed}
use Rattle.conditions.specs.WellFormedLaws.{operand_below}
use Rattle.formula.specs.Plain.{table_of, table_of_length, table_of_kind, table_of_a, table_of_b}
use Rattle.formula.specs.Target.{target}
use Rattle.formula.specs.ShapeLaws.{or_shape, and_shape, mu_shape, nu_shape, name_shape, target_name, target_other}
use Rattle.formula.specs.Codes.{code, entry_of_lem}
use Rattle.written.specs.Canon.{key}
use Rattle.calculus.specs.Judge.{keys, belongs, of_kind}
use Rattle.sequents.specs.Keys.{key_at, key_code}
use Rattle.sequents.specs.Placed.{family, Within, Coded, Belonging}

-- a call's answer that was tested by `!`
pub was_false : {r b : Bool} → r ≡ b → not r ≡ true → b ≡ false
was_false {r} e h = sym e ∙ not-true r h

pub was_true : {r b : Bool} → r ≡ b → not r ≡ false → b ≡ true
was_true {r} e h = sym e ∙ not-false r h

-- whether the principal belongs does not hang on the children
pub belongs_so : (t : Table) (p : ℕ) (l m j : List ℕ) → Belonging t p l → belongs t (family p l m j) 0 ≡ true
unfolding belongs keys
belongs_so t p l m j b = b

-- a principal that belongs, and the kind that stands at its entry e
module _ {ks xs ys ns : List ℕ} {n p : ℕ} (C : Coded ks xs ys ns n p) (l m j : List ℕ) (b : Belonging (table_of ks xs ys n) p l) {e k : ℕ} (i : e ≡ entry_of_lem p) where
  pub this_kind : get_or ks e 0 ≡ k → of_kind (table_of ks xs ys n) (family p l m j) k 0 ≡ true
  unfolding of_kind
  this_kind q = rw (belongs_so (table_of ks xs ys n) p l m j b, table_of_kind ks xs ys n (entry_of_lem p) C.inside, ← i, eq-eqb _ _ q) refl

  pub other_kind : get_or ks e 0 ≢ k → of_kind (table_of ks xs ys n) (family p l m j) k 0 ≡ false
  unfolding of_kind
  other_kind d = rw (belongs_so (table_of ks xs ys n) p l m j b, table_of_kind ks xs ys n (entry_of_lem p) C.inside, ← i, ne_eqb _ _ d) refl

-- targets of operands within are codes of a set
pub target_small : {ks xs : List ℕ} {o : ℕ} (ys : List ℕ) (n : ℕ) → Within ks xs o → o < n → target (table_of ks xs ys n) o < 256
target_small {ks} {xs} {o} ys n W h = go (ℕ_discrete (get_or ks o 0) Kind.NAME)
  where
    go : Dec (get_or ks o 0 ≡ Kind.NAME) → target (table_of ks xs ys n) o < 256
    go (yes q) = rw (target_name (table_of ks xs ys n) o (table_of_kind ks xs ys n o h ∙ q), table_of_a ks xs ys n o h) (W.named q)
    go (no d) = rw (target_other (table_of ks xs ys n) o (λ k. d (sym (table_of_kind ks xs ys n o h) ∙ k))) W.small

-- an operand of entry e, which its record gives as x, stands in a column; it and its target are entries
pub record Operand-in (ks xs col : List ℕ) (n e x : ℕ) : Type 0 where
  pub is : x ≡ get_or col e 0
  pub inside : get_or col e 0 < n
  pub within : Within ks xs (get_or col e 0)

-- a table that has passed 20 to 23
module _ (ks xs ys : List ℕ) (n : ℕ) (small : n ≤ 256) (wf : WellFormed (table_of ks xs ys n)) where
  pub target_within : (o : ℕ) → o < n → Within ks xs o
  target_within o h = record { small = omega arith; named = named }
    where
      named : get_or ks o 0 ≡ Kind.NAME → get_or xs o 0 < 256
      named q =
          let up = (wf.names_above o _ (name_shape (table_of ks xs ys n) o (table_of_kind ks xs ys n o h ∙ q))).1 in
          omega (arith, table_of_a ks xs ys n o h, table_of_length ks xs ys n)

  -- an operand's target is an entry
  pub target_inside : (o : ℕ) → o < n → target (table_of ks xs ys n) o < n
  target_inside o h = go (ℕ_discrete (kind (table_of ks xs ys n) o) Kind.NAME)
    where
      go : Dec (kind (table_of ks xs ys n) o ≡ Kind.NAME) → target (table_of ks xs ys n) o < n
      go (yes q) =
          let up = (wf.names_above o _ (name_shape (table_of ks xs ys n) o q)).1 in
          omega (arith, target_name (table_of ks xs ys n) o q, up, table_of_length ks xs ys n)
      go (no d) = omega (arith, target_other (table_of ks xs ys n) o d)

  -- operands lie below their entry
  module _ (e : ℕ) (h : e < n) {s : Shape} (q : shape (table_of ks xs ys n) e ≡ s) where
    pub a_operand : Operand s (entry (table_of ks xs ys n) e).a → Operand-in ks xs xs n e (entry (table_of ks xs ys n) e).a
    a_operand o =
        let below : get_or xs e 0 < n = omega (arith, operand_below (table_of ks xs ys n) wf e _ q o, table_of_a ks xs ys n e h) in
        record { is = table_of_a ks xs ys n e h; inside = below; within = target_within _ below }

    pub b_operand : Operand s (entry (table_of ks xs ys n) e).b → Operand-in ks xs ys n e (entry (table_of ks xs ys n) e).b
    b_operand o =
        let below : get_or ys e 0 < n = omega (arith, operand_below (table_of ks xs ys n) wf e _ q o, table_of_b ks xs ys n e h) in
        record { is = table_of_b ks xs ys n e h; inside = below; within = target_within _ below }

-- the target of an operand, as a member
pub operand_member : {ks xs ys ns col : List ℕ} {n p e x f : ℕ} → Coded ks xs ys ns n p → Operand-in ks xs col n e x → f < 2
    → key_at ns (target (table_of ks xs ys n) (get_or col e 0)) f ≡ key (table_of ks xs ys n) (code (target (table_of ks xs ys n) x) f)
operand_member {ks} {xs} {ys} {n = n} {f = f} C o h =
    rw o.is (key_code C.numbers _ f h (omega (arith, target_inside ks xs ys n C.small C.well _ o.inside, table_of_length ks xs ys n)))

-- both operands of entry e
pub record Operands (ks xs ys : List ℕ) (n e : ℕ) : Type 0 where
  pub a : Operand-in ks xs xs n e (entry (table_of ks xs ys n) e).a
  pub b : Operand-in ks xs ys n e (entry (table_of ks xs ys n) e).b

-- the operands of a principal at whose entry e the kind that the rule names stands
module _ {ks xs ys ns : List ℕ} {n p : ℕ} (C : Coded ks xs ys ns n p) {e : ℕ} (i : e ≡ entry_of_lem p) where
  kind_is : {k : ℕ} → get_or ks e 0 ≡ k → kind (table_of ks xs ys n) (entry_of_lem p) ≡ k
  kind_is q = table_of_kind ks xs ys n (entry_of_lem p) C.inside ∙ rw i at q

  both : {o : Two} → shape (table_of ks xs ys n) (entry_of_lem p) ≡ two o (entry (table_of ks xs ys n) (entry_of_lem p)).a (entry (table_of ks xs ys n) (entry_of_lem p)).b → Operands ks xs ys n (entry_of_lem p)
  both q = record {
    a = a_operand ks xs ys n C.small C.well _ C.inside q (inl refl);
    b = b_operand ks xs ys n C.small C.well _ C.inside q (inr refl);
  }

  pub or_operands : get_or ks e 0 ≡ Kind.OR → Operands ks xs ys n (entry_of_lem p)
  or_operands q = both (or_shape _ _ (kind_is q))

  pub and_operands : get_or ks e 0 ≡ Kind.AND → Operands ks xs ys n (entry_of_lem p)
  and_operands q = both (and_shape _ _ (kind_is q))

  -- a fixpoint's body
  pub body : {k : ℕ} → (k ≡ Kind.MU) ⊎ (k ≡ Kind.NU) → get_or ks e 0 ≡ k
      → Operand-in ks xs xs n (entry_of_lem p) (entry (table_of ks xs ys n) (entry_of_lem p)).a
  body (inl k) q = a_operand ks xs ys n C.small C.well _ C.inside (mu_shape _ _ (kind_is (q ∙ k))) refl
  body (inr k) q = a_operand ks xs ys n C.small C.well _ C.inside (nu_shape _ _ (kind_is (q ∙ k))) refl
