-- The numbers that stand while the table is filled, and the entry whose turn it is: its operands' numbers stand.
use Rattle.std.specs.Prelude.{◌≡◌, refl, Bool, true, false, ◌||◌, List, ℕ, suc, ◌*◌, ◌<◌, ◌≤◌, eqb, length, get_or}
use Rattle.std.proofs.Common.{sym, ap, ◌∙◌, inl, inr, arith, eq-eqb, ne_eqb}
use Rattle.verdict.specs.Tells.{Tells, fails_holds}
use Rattle.formula.specs.Table.{Table}
use Rattle.formula.specs.Shape.{Shape, leaf, two, step, fix, name, Step, Fix, shape, Operand, Fixpoint, NoName}
use Rattle.formula.specs.Plain.{table_of, table_of_length}
use Rattle.conditions.specs.Free.{Free}
use Rattle.conditions.specs.WellFormed.{WellFormed}
use Rattle.conditions.specs.WellFormedLaws.{operand_below}
use Rattle.numbering.specs.Forms.{within, in_operand, Fits}
use Rattle.numbering.specs.Filled.{Operands, Filled}
use Rattle.numbering.specs.Count.{tally, tally_suc, tally_le, tally_less, tally_local, length_tally, operand_tally, step_tally, body_tally}
use Rattle.one_level.specs.Kinds.{first_of, second_of}
use Rattle.one_level.specs.Fit.{cell}
use Rattle.one_level.specs.LevelTest.{Columns, Index, index_columns}

-- what stands goes by the counts of free names alone
module _ (n : ℕ) (is_free : ℕ → ℕ → Bool) where
  -- the number of e with k names bound stands: bs has the least k that does for each entry
  abbrev pub On : List ℕ → ℕ → ℕ → Type 0
  On bs k e = (e < n) × (get_or bs e 0 ≤ k) × (k ≤ tally (is_free e) n)

  -- in the round of q entry e gets a number more; in the first round, that of n, every entry
  abbrev pub due : ℕ → ℕ → Bool
  due e x = eqb x n || is_free e x

  -- what bs has for e before the round of q is left
  abbrev pub left : ℕ → ℕ → ℕ
  left e q = tally (due e) q

  pub left_is : (e q : ℕ) → q ≤ n → left e q ≡ tally (is_free e) q
  left_is e q h = tally_local (due e) (is_free e) q (λ x l. rw (ne_eqb x n (λ z. omega arith)) refl)

  pub left_skip : (e q : ℕ) → due e q ≡ false → left e (suc q) ≡ left e q
  left_skip e q h = tally_suc (due e) q ∙ rw h refl

  pub left_place : (e q : ℕ) → due e q ≡ true → left e (suc q) ≡ suc (left e q)
  left_place e q h = tally_suc (due e) q ∙ rw h refl

module _ (ks xs ys : List ℕ) (n : ℕ) (is_free : ℕ → ℕ → Bool) where
  pub record Stand (rs bs : List ℕ) : Type 0 where
    pub filled : Filled (table_of ks xs ys n) is_free (cell rs) (On n is_free bs)
    -- the number of an entry that is no name is an entry that stands
    pub homes : (k e : ℕ) → On n is_free bs k e → NoName (shape (table_of ks xs ys n) e) → On n is_free bs k (cell rs k e)
    -- a bound name has 255: entry 255 has no free name, so nothing else has that
    pub bound_names : (e x : ℕ) → On n is_free bs 1 e → shape (table_of ks xs ys n) e ≡ name x → cell rs 1 e ≡ 255

  -- before any
  pub none_stand : (rs bs : List ℕ) → ((e : ℕ) → e < n → get_or bs e 0 ≡ left n is_free e (suc n)) → Stand rs bs
  none_stand rs bs h = record {
    filled = record {
      closed = λ k e O. none k e O;
      level = λ k e f O. none k e O;
      free = λ e x O. none 0 e O;
      bounds = λ e f x y O. none 1 e O;
      bound_apart = λ e f x O. none 1 e O;
    };
    homes = λ k e O. none k e O;
    bound_names = λ e x O. none 1 e O;
  }
    where
      none : {A : Type 0} (k e : ℕ) → On n is_free bs k e → A
      none k e (i, a, b) =
          absurd (omega (arith, h e i, left_place n is_free e n (rw (eq-eqb n n refl) refl), left_is n is_free e n (omega arith)))

  -- entry e is due in the round of q: the entries below it have had this round, those from it on have not
  pub record Turn (rs bs : List ℕ) (q e : ℕ) : Type 0 where
    pub wf : WellFormed (table_of ks xs ys n)
    pub tells : (d x : ℕ) → Tells (is_free d x) (Free (table_of ks xs ys n) d x)
    pub small : n ≤ 256
    pub cells : 256 * n ≤ length rs
    pub bounds : length bs ≡ 256
    pub stand : Stand rs bs
    pub round : q ≤ n
    pub entry : e < q
    pub done : (d : ℕ) → d < e → get_or bs d 0 ≡ left n is_free d q
    pub todo : (d : ℕ) → d < n → e ≤ d → get_or bs d 0 ≡ left n is_free d (suc q)
    pub is_due : due n is_free e q ≡ true

module _ {t : Table} {n : ℕ} {is_free : ℕ → ℕ → Bool} (count : length t ≡ n) where
  pub fits : (k e : ℕ) → e < n → k ≤ tally (is_free e) n → Fits t is_free k e
  fits k e E h = record {
    inside = omega (arith, count);
    enough = omega (arith, length_tally (is_free e) (length t), ap (tally (is_free e)) count);
  }

-- the counts go by a test of the free names
module _ {t : Table} {is_free : ℕ → ℕ → Bool} (wf : WellFormed t) (tells : (e x : ℕ) → Tells (is_free e x) (Free t e x)) where
  -- no name of e lies at e or below
  pub due_late : (n e q : ℕ) → q < n → q ≤ e → due n is_free e q ≡ false
  due_late n e q h l = rw (ne_eqb q n (λ z. omega arith)) (fails_holds (tells e q) (λ r. omega (arith, wf.free_above e q r)))

  pub few : (n e q : ℕ) → e < n → q ≤ n → tally (is_free e) q < n
  few n e q h l =
      let own = fails_holds (tells e e) (λ r. omega (arith, wf.free_above e e r)) in
      omega (arith, tally_less (is_free e) e n h own, tally_le (is_free e) q n l)

module _ {ks xs ys : List ℕ} {n : ℕ} {is_free : ℕ → ℕ → Bool} {rs bs : List ℕ} {q e : ℕ} (t : Turn ks xs ys n is_free rs bs q e) where
  abbrev T : Table
  T = table_of ks xs ys n

  abbrev Stands : ℕ → ℕ → Type 0
  Stands = On n is_free bs

  -- the number is one with so many names bound
  abbrev k : ℕ
  k = left n is_free e q

  count : length T ≡ n
  count = table_of_length ks xs ys n

  pub inside : e < n
  inside = omega (arith, t.entry, t.round)

  q_inside : q ≤ length T
  q_inside = omega (arith, count, t.round)

  pub k-is : k ≡ tally (is_free e) q
  k-is = left_is n is_free e q t.round

  pub here : get_or bs e 0 ≡ suc k
  here = t.todo e inside (omega arith) ∙ left_place n is_free e q t.is_due

  pub k_few : k ≤ tally (is_free e) n
  k_few = omega (arith, k-is, tally_le (is_free e) q n t.round)

  operand_index : (a : ℕ) → a < e → get_or bs a 0 ≡ tally (is_free a) q
  operand_index a h = t.done a h ∙ left_is n is_free a q t.round

  operand_stands : (a : ℕ) → a < e → Stands (tally (is_free a) q) a
  operand_stands a h = (omega (arith, inside), omega (arith, operand_index a h), tally_le (is_free a) q n t.round)

  -- so many names are bound in an operand
  two_count : {v : Shape} (a : ℕ) → shape T e ≡ v → Operand v a → (Fixpoint v → ⊥) → in_operand T is_free a k e ≡ tally (is_free a) q
  two_count a s o none =
      ap (λ (m : ℕ). in_operand T is_free a m e) k-is ∙ operand_tally T t.wf is_free t.tells e a q _ s o none q_inside

  step_count : (m : Step) (a : ℕ) → shape T e ≡ step m a → k ≡ tally (is_free a) q
  step_count m a s = k-is ∙ step_tally T t.wf is_free t.tells e m a q s

  body_count : (σ : Fix) (a : ℕ) → shape T e ≡ fix σ a → tally (is_free a) q ≡ within (is_free a e) k
  body_count σ a s = body_tally T t.wf is_free t.tells e a σ s q t.entry ∙ ap (within (is_free a e)) (sym k-is)

  below : {v : Shape} (a : ℕ) → shape T e ≡ v → Operand v a → a < e
  below a s o = operand_below T t.wf e a s o

  pub kids : Operands T is_free Stands k e (shape T e)
  kids = go (shape T e) refl
    where
      go : (v : Shape) → shape T e ≡ v → Operands T is_free Stands k e v
      go (leaf l) s = tt
      go (two o a b) s =
          rw (two_count a s (inl refl) (λ z. z), two_count b s (inr refl) (λ z. z))
          (operand_stands a (below a s (inl refl)), operand_stands b (below b s (inr refl)))
      go (step m a) s = rw (step_count m a s) (operand_stands a (below a s refl))
      go (fix σ a) s = rw (← body_count σ a s) (operand_stands a (below a s refl))
      go (name x) s = tt

  -- the program's indices of operands: where their numbers stand now
  pub index : (ts us vs : List ℕ) → Columns ks xs ys n is_free ts us vs
      → Index ks xs ys n is_free (get_or bs (get_or xs e 0) 0) (get_or bs (get_or ys e 0) 0) k e (shape T e)
  index ts us vs C = index_columns ks xs ys n is_free ts us vs C e inside (get_or bs) k (shape T e) refl (go (shape T e) refl)
    where
      go : (v : Shape) → shape T e ≡ v → Index ks xs ys n is_free (get_or bs (first_of v) 0) (get_or bs (second_of v) 0) k e v
      go (leaf l) s = tt
      go (two o a b) s = (
        operand_index a (below a s (inl refl)) ∙ sym (two_count a s (inl refl) (λ z. z)),
        operand_index b (below b s (inr refl)) ∙ sym (two_count b s (inr refl) (λ z. z)),
      )
      go (step m a) s = operand_index a (below a s refl) ∙ sym (step_count m a s)
      go (fix σ a) s = operand_index a (below a s refl) ∙ body_count σ a s
      go (name x) s = tt
