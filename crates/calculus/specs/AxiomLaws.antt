-- the tests of the two axioms are exact on a list of keys that stands for the sequent
use Rattle.std.specs.Prelude.{◌≡◌, refl, ◌⊎◌, List, ℕ}
use Rattle.std.proofs.Common.{sym, ap, subst, ◌∙◌, inl, inr, arith}
use Rattle.formula.specs.Kind
use Rattle.verdict.specs.Sets.{Set, Same, ◌⊆◌, none, elements, ◌plus◌}
use Rattle.formula.specs.Table.{Table, entry, kind}
use Rattle.formula.specs.Codes.{entry_of_lem}
use Rattle.formula.specs.Members.{kind_formula}
use Rattle.conditions.specs.WellFormed.{WellFormed}
use Rattle.written.specs.Written.{SameFormula}
use Rattle.written.specs.Canon.{key}
use Rattle.written.proofs.SameKind.{true_like, letter_like, negated_like}
use Rattle.calculus.specs.Sequents.{Member, read}
use Rattle.calculus.specs.Judge.{opposite, clash, truth}
use Rattle.verdict.specs.Tells.{Tells, tells_as, eqb_tells, and_tells, or_tells}
use Rattle.verdict.specs.SetTells.{any_tells, all_tells}
use Rattle.calculus.specs.KeyLaws.{Good, Keys, key_good, key_read, key_holds, keys_self, keys_out}

-- c is a letter and d its negation
pub record Opposite (t : Table) (c d : ℕ) : Type 0 where
  pub plain_kind : kind t (entry_of_lem c) ≡ Kind.LETTER
  pub negated_kind : kind t (entry_of_lem d) ≡ Kind.NEGATED
  pub one_letter : (entry t (entry_of_lem c)).a ≡ (entry t (entry_of_lem d)).a

pub record Two (t : Table) (S : Set Member) : Type 0 where
  pub plain : ℕ
  pub negated : ℕ
  pub opposed : Opposite t plain negated
  pub exactly : Same S (none plus read t plain plus read t negated)

pub record One (t : Table) (S : Set Member) : Type 0 where
  pub only : ℕ
  pub of_kind : kind t (entry_of_lem only) ≡ Kind.TRUE
  pub exactly : Same S (none plus read t only)

module _ (t : Table) (wf : WellFormed t) {l : List ℕ} {S : Set Member} (K : Keys t l S) where
  opposite_tells : (c d : ℕ) → Tells (opposite t c d) (Opposite t c d)
  unfolding opposite
  opposite_tells c d = tells_as
      (λ (a, (b, e)). record { plain_kind = a; negated_kind = b; one_letter = e })
      (λ z. (z.plain_kind, (z.negated_kind, z.one_letter)))
      (and_tells (eqb_tells _ _) (and_tells (eqb_tells _ _) (eqb_tells _ _)))

  -- the entry of a key has the formula of the code's
  key_same : (c : ℕ) → Good t c → SameFormula t (entry_of_lem c) (entry_of_lem (key t c))
  key_same c C = ap (λ (m : Member). m.0) (sym (key_read t c C))

  -- so the keys of a letter and its negation are a letter and its negation
  opposite_keys : (c d : ℕ) → Opposite t c d → Opposite t (key t c) (key t d)
  opposite_keys c d z =
      let C = kind_formula t (entry_of_lem c) (omega (arith, z.plain_kind)) (omega (arith, z.plain_kind)) in
      let D = kind_formula t (entry_of_lem d) (omega (arith, z.negated_kind)) (omega (arith, z.negated_kind)) in
      let (p, a) = letter_like t wf (entry_of_lem c) (entry_of_lem (key t c)) z.plain_kind (key_good t c C) (key_same c C) in
      let (q, b) = negated_like t wf (entry_of_lem d) (entry_of_lem (key t d)) z.negated_kind (key_good t d D) (key_same d D) in
      record { plain_kind = p; negated_kind = q; one_letter = a ∙ z.one_letter ∙ sym b }

  true_key : (c : ℕ) → kind t (entry_of_lem c) ≡ Kind.TRUE → kind t (entry_of_lem (key t c)) ≡ Kind.TRUE
  true_key c k =
      let C = kind_formula t (entry_of_lem c) (omega arith) (omega arith) in
      true_like t wf (entry_of_lem c) (entry_of_lem (key t c)) k (key_good t c C) (key_same c C)

  -- a member whose key is c
  at_key : (m : Member) (e c : ℕ) → Good t e → m ≡ read t e → key t e ≡ c → m ≡ read t c
  at_key m e c E q r = q ∙ sym (key_read t e E) ∙ ap (read t) r

  abbrev Pair : Type 0
  Pair = (c : ℕ) × elements l c × ((d : ℕ) × elements l d × (Opposite t c d × (elements l ⊆ (λ x. (x ≡ c) ⊎ (x ≡ d)))))

  pair_two : Pair → Two t S
  pair_two (c, m, (d, n, (z, f))) = record { plain = c; negated = d; opposed = z; exactly = record { into = into; from = from } }
    where
      turn : (x : Member) (e : ℕ) → Good t e → x ≡ read t e → (key t e ≡ c) ⊎ (key t e ≡ d) → (none plus read t c plus read t d) x
      turn x e E q (inl r) = inl (inr (at_key x e c E q r))
      turn x e E q (inr r) = inr (at_key x e d E q r)

      into : S ⊆ (none plus read t c plus read t d)
      into x s = let (e, E, q, k) = K.from x s in turn x e E q (f (key t e) k)

      from : (none plus read t c plus read t d) ⊆ S
      from x (inl (inl e)) = absurd e
      from x (inl (inr e)) = subst S (sym e) (keys_self t K c m)
      from x (inr e) = subst S (sym e) (keys_self t K d n)

  two_pair : Two t S → Pair
  two_pair z =
      let a = keys_out t K z.plain (z.exactly.from (read t z.plain) (inl (inr refl))) in
      let b = keys_out t K z.negated (z.exactly.from (read t z.negated) (inr refl)) in
      (key t z.plain, a, (key t z.negated, b, (opposite_keys z.plain z.negated z.opposed, others)))
    where
      turn : (x e : ℕ) → x ≡ key t e → (none plus read t z.plain plus read t z.negated) (read t e) → (x ≡ key t z.plain) ⊎ (x ≡ key t z.negated)
      turn x e q (inl (inl w)) = absurd w
      turn x e q (inl (inr w)) = inl (q ∙ key_holds t e z.plain w)
      turn x e q (inr w) = inr (q ∙ key_holds t e z.negated w)

      others : elements l ⊆ (λ x. (x ≡ key t z.plain) ⊎ (x ≡ key t z.negated))
      others x k = let (e, E, q, s) = K.into x k in turn x e q (z.exactly.into (read t e) s)

  pub clash_tells : Tells (clash t l) (Two t S)
  unfolding clash
  clash_tells = tells_as pair_two two_pair
      (any_tells (λ c. any_tells (λ d. and_tells (opposite_tells c d) (all_tells (λ x. or_tells (eqb_tells x c) (eqb_tells x d)) l)) l) l)

  abbrev Single : Type 0
  Single = (c : ℕ) × elements l c × ((kind t (entry_of_lem c) ≡ Kind.TRUE) × (elements l ⊆ (λ x. x ≡ c)))

  single-one : Single → One t S
  single-one (c, m, (k, f)) = record { only = c; of_kind = k; exactly = record { into = into; from = from } }
    where
      into : S ⊆ (none plus read t c)
      into x s = let (e, E, q, n) = K.from x s in inr (at_key x e c E q (f (key t e) n))

      from : (none plus read t c) ⊆ S
      from x (inl e) = absurd e
      from x (inr e) = subst S (sym e) (keys_self t K c m)

  one_single : One t S → Single
  one_single z = (key t z.only, keys_out t K z.only (z.exactly.from (read t z.only) (inr refl)), (true_key z.only z.of_kind, others))
    where
      turn : (x e : ℕ) → x ≡ key t e → (none plus read t z.only) (read t e) → x ≡ key t z.only
      turn x e q (inl w) = absurd w
      turn x e q (inr w) = q ∙ key_holds t e z.only w

      others : elements l ⊆ (λ x. x ≡ key t z.only)
      others x k = let (e, E, q, s) = K.into x k in turn x e q (z.exactly.into (read t e) s)

  pub truth_tells : Tells (truth t l) (One t S)
  unfolding truth
  truth_tells = tells_as single-one one_single
      (any_tells (λ c. and_tells (eqb_tells (kind t (entry_of_lem c)) Kind.TRUE) (all_tells (λ x. eqb_tells x c) l)) l)
