-- the iteration of a block: its words go from the start in one direction, and once each is formed of the others they are the own meanings
use Rattle.std.specs.Prelude.{◌≡◌, Bool, ◌⊎◌, ℕ, ◌*◌, ◌-◌, ◌<◌, ◌≤◌}
use Rattle.std.proofs.Math.Path.{refl, subst⁻¹}
use Rattle.std.proofs.Common.{sym, ap, ◌∙◌, subst, true≢false, inl, inr}
use Rattle.std.proofs.Math.Bool.{true, false, cond}
use native.Mathlib.Omega.{arith}
use Rattle.std.proofs.Math.Decide.{dec_le, ℕ_discrete}
use Rattle.formula.specs.Table.{Table}
use Rattle.formula.specs.Shape.{Shape, fix, Fix, shape}
use Rattle.conditions.specs.WellFormed.{WellFormed}
use Rattle.meaning.specs.States.{Model, StateSet, SameStates, start}
use Rattle.meaning.specs.StateLaws.{same_sym, same_trans, Toward, toward_bounded, toward_both, start_first}
use Rattle.meaning.specs.Bounds.{sum, sum_mono, sum_back}
use Rattle.meaning.specs.Meaning.{own}
use Rattle.bits.specs.Bits.{one}
use Rattle.entry_sets.specs.Counting.{count, count_times}
use Rattle.forming.specs.TowardLaws.{toward_trans, same_toward}
use Rattle.forming.specs.Settled.{formed, Closes, closes_own}
use Rattle.forming.specs.FormedLaws.{Reads, operand_reads, formed_same, formed_toward, formed_own}

-- b says which entries are in the block and done which are settled: what an entry of the block reads is in it or settled, and its fixpoints are of one kind
pub record Block (t : Table) (σ : Fix) (done b : ℕ → Bool) : Type 0 where
  pub reads : (e c : ℕ) → b e ≡ true → Reads (shape t e) c → (b c ≡ true) ⊎ (done c ≡ true)
  pub kind : (e a : ℕ) (τ : Fix) → b e ≡ true → shape t e ≡ fix τ a → τ ≡ σ

module _ (M : Model) (t : Table) (σ : Fix) (done b : ℕ → Bool) where
  -- on the way: what is settled is right, and each set of the block has its own meaning and what it would be formed to ahead of it
  pub record Moving (W : ℕ → StateSet) : Type 0 where
    pub kept : (e : ℕ) → done e ≡ true → b e ≡ false → SameStates M.size (W e) (own M t e)
    pub short : (e : ℕ) → b e ≡ true → Toward M.size σ (W e) (own M t e)
    pub ahead : (e : ℕ) → b e ≡ true → Toward M.size σ (W e) (formed M W W (shape t e))

  -- each entry of the block that does not wait is formed of the others
  abbrev pub Rests : (ℕ → Bool) → (ℕ → StateSet) → Type 0
  Rests waits W = (e : ℕ) → b e ≡ true → waits e ≡ false → SameStates M.size (W e) (formed M W W (shape t e))

  -- what the sets of the block can still change
  unfoldable pub left_at : (ℕ → StateSet) → ℕ → ℕ
  left_at W e = cond (b e) (M.size - (toward_bounded M.size σ).weight (W e)) 0

  unfoldable pub left : ℕ → (ℕ → StateSet) → ℕ
  left n W = sum n (left_at W)

  -- at most every state for each set
  pub left_most : (n : ℕ) (W : ℕ → StateSet) → left n W ≤ M.size * count n b
  unfolding left left_at
  left_most n W = omega (arith, sum_mono n (left_at W) (λ e. M.size * one (b e)) (λ e l. most e (b e) refl), count_times n M.size b)
    where
      most : (e : ℕ) (i : Bool) → b e ≡ i → cond i (M.size - (toward_bounded M.size σ).weight (W e)) 0 ≤ M.size * one i
      most e true q = omega arith
      most e false q = omega arith

module _ (M : Model) (t : Table) (wf : WellFormed t) (σ : Fix) (done b : ℕ → Bool) (K : Block t σ done b) where
  -- by where a set that is read stands
  module _ (P : ℕ → Type 0) (in_block : (c : ℕ) → b c ≡ true → P c) (settled : (c : ℕ) → done c ≡ true → b c ≡ false → P c) where
    at_read : (e c : ℕ) → b e ≡ true → Reads (shape t e) c → P c
    at_read e c i r = go (K.reads e c i r) (b c) refl
      where
        go : (b c ≡ true) ⊎ (done c ≡ true) → (j : Bool) → b c ≡ j → P c
        go z true j = in_block c j
        go (inl z) false j = absurd (true≢false (sym z ∙ j))
        go (inr d) false j = settled c d j

  pub moving_begin : (W : ℕ → StateSet) → ((e : ℕ) → b e ≡ true → SameStates M.size (W e) (start σ))
      → ((e : ℕ) → done e ≡ true → b e ≡ false → SameStates M.size (W e) (own M t e)) → Moving M t σ done b W
  moving_begin W h g = record { kept = g; short = λ e i. first e i _; ahead = λ e i. first e i _ }
    where
      first : (e : ℕ) → b e ≡ true → (A : StateSet) → Toward M.size σ (W e) A
      first e i A = toward_trans M.size σ _ _ _ (same_toward M.size σ _ _ (h e i)) (start_first M.size σ A)

  -- what an entry of the block is formed to lies before its own meaning
  formed_short : (W : ℕ → StateSet) → Moving M t σ done b W → (e : ℕ) → b e ≡ true → Toward M.size σ (formed M W W (shape t e)) (own M t e)
  formed_short W G e i =
      toward_trans M.size σ _ _ _
      (formed_toward M σ W (own M t) (shape t e)
      (λ c. at_read (λ c. Toward M.size σ (W c) (own M t c)) G.short (λ c d j. same_toward M.size σ _ _ (G.kept c d j)) e c i))
      (same_toward M.size σ _ _ (same_sym (formed_own M t wf e (shape t e) refl)))

  -- one entry of the block is formed
  module _ (W U : ℕ → StateSet) (G : Moving M t σ done b W) (e : ℕ) (i : b e ≡ true) (away : (c : ℕ) → (c ≡ e → ⊥) → SameStates M.size (U c) (W c))
      (new : SameStates M.size (U e) (formed M W W (shape t e))) where
    pub onward : (c : ℕ) → b c ≡ true → Toward M.size σ (W c) (U c)
    onward c j = go (ℕ_discrete c e)
      where
        go : Dec (c ≡ e) → Toward M.size σ (W c) (U c)
        go (yes q) =
            subst⁻¹ (λ (z : ℕ). Toward M.size σ (W z) (U z)) q
            (toward_trans M.size σ _ _ _ (G.ahead e i) (same_toward M.size σ _ _ (same_sym new)))
        go (no n) = same_toward M.size σ _ _ (same_sym (away c n))

    other : (c : ℕ) → b c ≡ false → c ≡ e → ⊥
    other c j q = true≢false (sym i ∙ ap b (sym q) ∙ j)

    further : (c : ℕ) → b c ≡ true → Toward M.size σ (formed M W W (shape t c)) (formed M U U (shape t c))
    further c j =
        formed_toward M σ W U (shape t c)
        (λ d. at_read (λ d. Toward M.size σ (W d) (U d)) onward (λ d _ k. same_toward M.size σ _ _ (same_sym (away d (other d k)))) c d j)

    pub moving_formed : Moving M t σ done b U
    moving_formed =
        record {
          kept = λ c d j. same_trans (away c (other c j)) (G.kept c d j);
          short = λ c j. short c j (ℕ_discrete c e);
          ahead = λ c j. ahead c j (ℕ_discrete c e);
        }
      where
        short : (c : ℕ) → b c ≡ true → Dec (c ≡ e) → Toward M.size σ (U c) (own M t c)
        short c j (yes q) =
            subst⁻¹ (λ (z : ℕ). Toward M.size σ (U z) (own M t z)) q
            (toward_trans M.size σ _ _ _ (same_toward M.size σ _ _ new) (formed_short W G e i))
        short c j (no n) = toward_trans M.size σ _ _ _ (same_toward M.size σ _ _ (away c n)) (G.short c j)

        ahead : (c : ℕ) → b c ≡ true → Dec (c ≡ e) → Toward M.size σ (U c) (formed M U U (shape t c))
        ahead c j (yes q) =
            subst⁻¹ (λ (z : ℕ). Toward M.size σ (U z) (formed M U U (shape t z))) q
            (toward_trans M.size σ _ _ _ (same_toward M.size σ _ _ new) (further e i))
        ahead c j (no n) =
            toward_trans M.size σ _ _ _ (same_toward M.size σ _ _ (away c n)) (toward_trans M.size σ _ _ _ (G.ahead c j) (further c j))

  -- e is formed and waits no longer; those of the block that read it wait, unless its set stayed as it was
  module _ (W U : ℕ → StateSet) (e : ℕ) (away : (c : ℕ) → (c ≡ e → ⊥) → SameStates M.size (U c) (W c))
      (new : SameStates M.size (U e) (formed M W W (shape t e))) (p q : ℕ → Bool) (R : Rests M t σ done b p W)
      (still : (c : ℕ) → b c ≡ true → q c ≡ false → (c ≡ e) ⊎ (p c ≡ false)) where
    -- the sets that an entry reads are the same
    keeps : (c : ℕ) → ((d : ℕ) → Reads (shape t c) d → SameStates M.size (U d) (W d)) → (c ≡ e) ⊎ (SameStates M.size (W c) (formed M W W (shape t c)) × (c ≡ e → ⊥))
        → SameStates M.size (U c) (formed M U U (shape t c))
    keeps c h (inl z) =
        same_trans (subst⁻¹ (λ (y : ℕ). SameStates M.size (U y) (formed M W W (shape t y))) z new) (same_sym (formed_same M U W (shape t c) h))
    keeps c h (inr (f, n)) = same_trans (away c n) (same_trans f (same_sym (formed_same M U W (shape t c) h)))

    which : (c : ℕ) → b c ≡ true → q c ≡ false → (c ≡ e) ⊎ (SameStates M.size (W c) (formed M W W (shape t c)) × (c ≡ e → ⊥))
    which c j k = go (ℕ_discrete c e) (still c j k)
      where
        go : Dec (c ≡ e) → (c ≡ e) ⊎ (p c ≡ false) → (c ≡ e) ⊎ (SameStates M.size (W c) (formed M W W (shape t c)) × (c ≡ e → ⊥))
        go (yes z) h = inl z
        go (no n) (inl z) = inl z
        go (no n) (inr r) = inr (R c j r, n)

    pub rests_woken : ((c : ℕ) → b c ≡ true → Reads (shape t c) e → q c ≡ true) → Rests M t σ done b q U
    rests_woken wake c j k = keeps c (λ d r. away d (λ z. true≢false (sym (wake c j (subst (λ (y : ℕ). Reads (shape t c) y) z r)) ∙ k))) (which c j k)

    pub rests_same : SameStates M.size (U e) (W e) → Rests M t σ done b q U
    rests_same s c j k = keeps c (λ d r. at d (ℕ_discrete d e)) (which c j k)
      where
        at : (d : ℕ) → Dec (d ≡ e) → SameStates M.size (U d) (W d)
        at d (yes z) = subst⁻¹ (λ (y : ℕ). SameStates M.size (U y) (W y)) z s
        at d (no n) = away d n

  -- where none waits, block and settled entries are right
  pub moving_end : (W : ℕ → StateSet) → Moving M t σ done b W → ((e : ℕ) → b e ≡ true → SameStates M.size (W e) (formed M W W (shape t e)))
      → (e : ℕ) → (b e ≡ true) ⊎ (done e ≡ true) → SameStates M.size (W e) (own M t e)
  moving_end W G F e h = go h (b e) refl
    where
      where_read : (e c : ℕ) → b e ≡ true → Reads (shape t e) c → (b c ≡ true) ⊎ SameStates M.size (W c) (own M t c)
      where_read = at_read (λ c. (b c ≡ true) ⊎ SameStates M.size (W c) (own M t c)) (λ c j. inl j) (λ c d j. inr (G.kept c d j))

      closes : Closes M t (λ e. b e ≡ true) W
      closes =
          record {
            laws = F;
            toward = λ e a τ i q. subst⁻¹ (λ (k : Fix). Toward M.size k (W e) (own M t e)) (K.kind e a τ i q) (G.short e i);
            operands = λ e c i o. where_read e c i (operand_reads (shape t e) c o);
            names = λ e x i q. where_read e x i (subst⁻¹ (λ (v : Shape). Reads v x) q refl);
          }

      go : (b e ≡ true) ⊎ (done e ≡ true) → (i : Bool) → b e ≡ i → SameStates M.size (W e) (own M t e)
      go z true i = closes_own M t wf (λ e. b e ≡ true) W closes e i
      go (inl z) false i = absurd (true≢false (sym z ∙ i))
      go (inr d) false i = G.kept e d i

  module _ (n : ℕ) (W U : ℕ → StateSet) (O : (c : ℕ) → b c ≡ true → Toward M.size σ (W c) (U c)) where
    lighter_at : (c : ℕ) → left_at M t σ done b U c ≤ left_at M t σ done b W c
    unfolding left_at
    lighter_at c = go (b c) refl
      where
        go : (i : Bool) → b c ≡ i → cond i (M.size - (toward_bounded M.size σ).weight (U c)) 0 ≤ cond i (M.size - (toward_bounded M.size σ).weight (W c)) 0
        go true i = let h = (toward_bounded M.size σ).heavier _ _ (O c i) in omega (arith, h)
        go false i = omega arith

    pub left_down : left M t σ done b n U ≤ left M t σ done b n W
    unfolding left
    left_down = sum_mono n (left_at M t σ done b U) (left_at M t σ done b W) (λ c l. lighter_at c)

    -- less, where a set of the block changes
    pub left_less : (e : ℕ) → e < n → b e ≡ true → (SameStates M.size (W e) (U e) → ⊥) → left M t σ done b n U < left M t σ done b n W
    unfolding left left_at
    left_less e l i k = go (dec_le (left M t σ done b n W) (left M t σ done b n U))
      where
        go : Dec (left M t σ done b n W ≤ left M t σ done b n U) → left M t σ done b n U < left M t σ done b n W
        go (no w) = omega arith
        go (yes w) =
            let B = toward_bounded M.size σ in
            let z : M.size - B.weight (W e) ≤ M.size - B.weight (U e) = rw i at (sum_back n (left_at M t σ done b U) (left_at M t σ done b W) (λ c l. lighter_at c) w e l) in
            absurd (k (toward_both M.size σ _ _ (O e i) (B.back _ _ (O e i) (omega (arith, z, B.most (W e), B.most (U e))))))
