-- the block of a fixpoint, gathered: it, and what is reached from it by operands that have a free name and are not settled
use Rattle.std.specs.Prelude.{◌≡◌, refl, Bool, true, false, ◌⊎◌, ℕ, ◌-◌, ◌<◌, ◌≤◌}
use Rattle.std.proofs.Common.{sym, ap, ◌∙◌, subst, true≢false, inl, inr, ⊎_elim, arith}
use Rattle.std.proofs.Math.Path.{subst⁻¹}
use Rattle.std.proofs.Math.Decide.{ℕ_discrete}
use Rattle.formula.specs.Table.{Table}
use Rattle.formula.specs.Shape.{Shape, leaf, two, step, fix, name, Fix, shape, Operand}
use Rattle.conditions.specs.Free.{Free, named, inside}
use Rattle.conditions.specs.WellFormed.{WellFormed}
use Rattle.conditions.specs.WellFormedLaws.{free_fix}
use Rattle.forming.specs.FormedLaws.{reads_either}
use Rattle.blocks.specs.Iteration.{Block}
use Rattle.entry_sets.specs.Counting.{Within, count, count_less, count_most, count_some, measure, measure_less, measure_same}

module _ (t : Table) where
  -- the fixpoint that e is, if it is one, and those free in it are of one kind
  abbrev pub Kin : Fix → ℕ → Type 0
  Kin σ e = (y a : ℕ) (τ : Fix) → (y ≡ e) ⊎ Free t e y → shape t y ≡ fix τ a → τ ≡ σ

  -- c joins the block b, and those of its operands that are in no set are met
  pub record Grown (done b m : ℕ → Bool) (c : ℕ) (b' m' : ℕ → Bool) : Type 0 where
    pub joined : b' c ≡ true
    pub block_old : Within b b'
    pub block_from : (d : ℕ) → b' d ≡ true → (b d ≡ true) ⊎ (d ≡ c)
    pub met_old : Within m m'
    pub met_from : (d : ℕ) → m' d ≡ true → (m d ≡ true) ⊎ (Operand (shape t c) d × (b' d ≡ false))
    pub met_new : (d : ℕ) → Operand (shape t c) d → (b' d ≡ true) ⊎ (m' d ≡ true) ⊎ (done d ≡ true)

  module _ (x : ℕ) (σ : Fix) where
    -- b is the block so far, m has what was met and not yet looked at
    pub record Gathering (done b m : ℕ → Bool) : Type 0 where
      pub self : b x ≡ true
      pub small : (c : ℕ) → b c ≡ true → c ≤ x
      pub kin : (c : ℕ) → b c ≡ true → Kin σ c
      pub free : (c y : ℕ) → b c ≡ true → Free t c y → (b y ≡ true) ⊎ (done y ≡ true)
      pub operands : (e c : ℕ) → b e ≡ true → Operand (shape t e) c → (b c ≡ true) ⊎ (m c ≡ true) ⊎ (done c ≡ true)
      pub met : (c : ℕ) → m c ≡ true → (e : ℕ) × (b e ≡ true) × Operand (shape t e) c
      pub apart : (c : ℕ) → m c ≡ true → b c ≡ false

module _ (t : Table) (wf : WellFormed t) where
  kin_fix : (e a : ℕ) (σ : Fix) → shape t e ≡ fix σ a → Kin t σ e
  kin_fix e a σ q y c τ (inl p) r = ap kind_of_lem (sym r ∙ ap (shape t) p ∙ q)
    where
      kind_of_lem : Shape → Fix
      kind_of_lem (leaf l) = σ
      kind_of_lem (two o a b) = σ
      kind_of_lem (step m a) = σ
      kind_of_lem (fix k a) = k
      kind_of_lem (name x) = σ
  kin_fix e a σ q y c τ (inr f) r = sym (wf.no_alternation e y a c σ τ q f r)

  -- an operand's free name is the entry's, or the entry itself
  pub free_operand : (e c y : ℕ) → Operand (shape t e) c → Free t c y → (y ≡ e) ⊎ Free t e y
  free_operand e c y o f = at (ℕ_discrete y e)
    where
      at : Dec (y ≡ e) → (y ≡ e) ⊎ Free t e y
      at (yes p) = inl p
      at (no ne) = inr (inside _ refl o (λ _. ne) f)

  kin_inside : (e c : ℕ) (σ : Fix) → Kin t σ e → Operand (shape t e) c → (z : ℕ) → Free t c z → Kin t σ c
  kin_inside e c σ k o z g y a τ p r = go p
    where
      free : (y a : ℕ) (τ : Fix) → Free t c y → shape t y ≡ fix τ a → τ ≡ σ
      free y a τ f r = k y a τ (free_operand e c y o f) r

      go : (y ≡ c) ⊎ Free t c y → τ ≡ σ
      go (inl p) =
          let (υ, d, u) = free_fix t wf g in
          wf.no_alternation c z a d τ υ (ap (shape t) (sym p) ∙ r) g u ∙ free z d υ g u
      go (inr f) = free y a τ f r

  module _ (x : ℕ) (σ : Fix) where
    pub met_below : {done b m : ℕ → Bool} → Gathering t x σ done b m → (c : ℕ) → m c ≡ true → c < x
    met_below G c i = let (e, j, o) = G.met c i in let l = wf.operands_below e c o in let k = G.small e j in omega (arith, l, k)

    -- at first the fixpoint alone, its free names settled
    pub gather_first : (a : ℕ) → shape t x ≡ fix σ a → (done b m b' m' : ℕ → Bool) → ((y : ℕ) → Free t x y → done y ≡ true)
        → ((c : ℕ) → b c ≡ false) → ((c : ℕ) → m c ≡ false) → Grown t done b m x b' m' → Gathering t x σ done b' m'
    gather_first a q done b m b' m' F B E G =
        record {
          self = G.joined;
          small = λ c i. let p = is c i in omega (arith, p);
          kin = λ c i. subst⁻¹ (Kin t σ) (is c i) (kin_fix x a σ q);
          free = λ c y i f. inr (F y (subst (λ (z : ℕ). Free t z y) (is c i) f));
          operands = λ e c i o. G.met_new c (subst (λ (z : ℕ). Operand (shape t z) c) (is e i) o);
          met = λ c i. (x, G.joined, (met c i).0);
          apart = λ c i. (met c i).1;
        }
      where
        is : (c : ℕ) → b' c ≡ true → c ≡ x
        is c i = ⊎_elim (λ j. absurd (true≢false (sym j ∙ B c))) (λ p. p) (G.block_from c i)

        met : (c : ℕ) → m' c ≡ true → Operand (shape t x) c × (b' c ≡ false)
        met c i = ⊎_elim (λ j. absurd (true≢false (sym j ∙ E c))) (λ p. p) (G.met_from c i)

    module _ (done b m : ℕ → Bool) (G : Gathering t x σ done b m) (c : ℕ) (i : m c ≡ true) (l : ℕ → Bool) (less : (d : ℕ) → l d ≡ true → (m d ≡ true) × (d ≡ c → ⊥))
        (rest : (d : ℕ) → m d ≡ true → (d ≡ c) ⊎ (l d ≡ true)) where
      -- what was met has a free name: it joins
      pub gather_grown : (z : ℕ) → Free t c z → (b' m' : ℕ → Bool) → Grown t done b l c b' m' → Gathering t x σ done b' m'
      gather_grown z g b' m' N =
          record {
            self = N.block_old x G.self;
            small = λ d j. ⊎_elim (λ k. G.small d k) (λ p. let k = met_below G c i in omega (arith, k, p)) (N.block_from d j);
            kin = λ d j. ⊎_elim (λ k. G.kin d k) (λ p. subst⁻¹ (Kin t σ) p kin_c) (N.block_from d j);
            free = λ d y j f. ⊎_elim (λ k. old (G.free d y k f)) (λ p. free_c y (subst (λ (u : ℕ). Free t u y) p f)) (N.block_from d j);
            operands = λ e d j o. ⊎_elim (λ k. kept d (G.operands e d k o)) (λ p. N.met_new d (subst (λ (u : ℕ). Operand (shape t u) d) p o)) (N.block_from e j);
            met = λ d j. ⊎_elim (λ k. let (e, h, o) = G.met d (less d k).0 in (e, N.block_old e h, o)) (λ p. (c, N.joined, p.0)) (N.met_from d j);
            apart = λ d j. ⊎_elim (λ k. not_in d k (b' d) refl) (λ p. p.1) (N.met_from d j);
          }
        where
          kin_c : Kin t σ c
          kin_c = let (e, j, o) = G.met c i in kin_inside e c σ (G.kin e j) o z g

          old : {y : ℕ} → (b y ≡ true) ⊎ (done y ≡ true) → (b' y ≡ true) ⊎ (done y ≡ true)
          old {y} (inl k) = inl (N.block_old y k)
          old {y} (inr d) = inr d

          free_c : (y : ℕ) → Free t c y → (b' y ≡ true) ⊎ (done y ≡ true)
          free_c y f =
              let (e, j, o) = G.met c i in
              ⊎_elim (λ p. inl (N.block_old y (subst⁻¹ (λ (u : ℕ). b u ≡ true) p j))) (λ k. old (G.free e y j k)) (free_operand e c y o f)

          kept : (d : ℕ) → (b d ≡ true) ⊎ (m d ≡ true) ⊎ (done d ≡ true) → (b' d ≡ true) ⊎ (m' d ≡ true) ⊎ (done d ≡ true)
          kept d (inl k) = inl (N.block_old d k)
          kept d (inr (inr k)) = inr (inr k)
          kept d (inr (inl k)) =
              ⊎_elim (λ p. inl (subst⁻¹ (λ (u : ℕ). b' u ≡ true) p N.joined)) (λ h. inr (inl (N.met_old d h))) (rest d k)

          not_in : (d : ℕ) → l d ≡ true → (j : Bool) → b' d ≡ j → b' d ≡ false
          not_in d k false j = j
          not_in d k true j =
              ⊎_elim (λ h. absurd (true≢false (sym h ∙ G.apart d (less d k).0))) (λ p. absurd ((less d k).1 p)) (N.block_from d j)

      -- it has none: it is evaluated, and more may be settled
      pub gather_settled : (done' : ℕ → Bool) → Within done done' → done' c ≡ true → Gathering t x σ done' b l
      gather_settled done' h s =
          record {
            self = G.self;
            small = G.small;
            kin = G.kin;
            free = λ d y j f. ⊎_elim (λ k. inl k) (λ k. inr (h y k)) (G.free d y j f);
            operands = λ e d j o. kept d (G.operands e d j o);
            met = λ d j. G.met d (less d j).0;
            apart = λ d j. G.apart d (less d j).0;
          }
        where
          kept : (d : ℕ) → (b d ≡ true) ⊎ (m d ≡ true) ⊎ (done d ≡ true) → (b d ≡ true) ⊎ (l d ≡ true) ⊎ (done' d ≡ true)
          kept d (inl k) = inl k
          kept d (inr (inr k)) = inr (inr (h d k))
          kept d (inr (inl k)) = ⊎_elim (λ p. inr (inr (subst⁻¹ (λ (u : ℕ). done' u ≡ true) p s))) (λ r. inr (inl r)) (rest d k)

      -- either way the loop comes nearer to its end: fewer numbers outside the block, or as many and fewer met
      pub grown_nearer : c < 256 → (b' m' : ℕ → Bool) → Grown t done b l c b' m' → measure 256 (256 - count 256 b') m' < measure 256 (256 - count 256 b) m
      grown_nearer k b' m' N =
          let h = count_less 256 b b' N.block_old c k (G.apart c i) N.joined in
          measure_less 256 (256 - count 256 b') (256 - count 256 b) m' m (omega (arith, h, count_most 256 b')) (count_most 256 m') (count_some 256 m c k i)

      pub settled_nearer : c < 256 → measure 256 (256 - count 256 b) l < measure 256 (256 - count 256 b) m
      settled_nearer k = measure_same 256 _ _ l m (omega arith) (count_less 256 l m (λ d j. (less d j).0) c k (gone (l c) refl) i)
        where
          gone : (j : Bool) → l c ≡ j → l c ≡ false
          gone false j = j
          gone true j = absurd ((less c j).1 refl)

    -- nothing is met any more: a block
    pub gather_block : (done b m : ℕ → Bool) → Gathering t x σ done b m → ((c : ℕ) → m c ≡ false) → Block t σ done b
    gather_block done b m G E =
        record {
          reads = λ e c i r. ⊎_elim (λ o. by_operand (G.operands e c i o)) (λ q. G.free e c i (named q)) (reads_either (shape t e) c r);
          kind = λ e a τ i q. G.kin e i e a τ (inl refl) q;
        }
      where
        by_operand : {c : ℕ} → (b c ≡ true) ⊎ (m c ≡ true) ⊎ (done c ≡ true) → (b c ≡ true) ⊎ (done c ≡ true)
        by_operand (inl k) = inl k
        by_operand {c} (inr (inl k)) = absurd (true≢false (sym k ∙ E c))
        by_operand (inr (inr k)) = inr k
