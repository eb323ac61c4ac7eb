-- what entry evaluation and fixpoint iteration are given and leave: what is settled is right, and more becomes so
use Rattle.std.specs.Prelude.{◌≡◌, refl, List, true, false, ◌⊎◌, ℕ, ◌-◌, ◌<◌, ◌≤◌, eqb, length, set, replicate}
use Rattle.std.proofs.Common.{sym, ◌∙◌, ⊎_elim, length-set, get_or-set_same, get_or-set_other}
use Rattle.std.proofs.Math.Path.{ap, subst⁻¹}
use Rattle.std.proofs.Math.Logic.{inl, inr}
use native.Mathlib.Omega.{arith}
use Rattle.std.proofs.Math.Decide.{dec_lt, ℕ_discrete}
use Rattle.std.proofs.Math.ListN.{get_or}
use Rattle.std.proofs.lemmas.List.{length-replicate}
use borrow.Author.Tests.{eq-eqb, ne_eqb, eqb-true}
use Rattle.meaning.specs.Truth.{or-true, true-or}
use Rattle.formula.specs.Table.{Table}
use Rattle.formula.specs.Shape.{leaf, Leaf, shape, Operand}
use Rattle.conditions.specs.Free.{Free, named, inside}
use Rattle.meaning.specs.States.{Model, SameStates}
use Rattle.meaning.specs.Meaning.{own}
use Rattle.bits.specs.Bits.{bit}
use Rattle.states.specs.WordLaws.{word_inside, word_past}
use Rattle.states.specs.StateWords.{sets_of}
use Rattle.states.specs.Rows.{row_model}
use Rattle.meaning.specs.StateLaws.{same_trans}
use Rattle.forming.specs.FormedLaws.{Reads, reads_either, formed_right}
use Rattle.dependencies.specs.Top.{top_clause, top, alone}
use Rattle.dependencies.specs.TopLaws.{top_at, alone_none, not_alone}
use Rattle.dependencies.specs.Tops.{Tops}
use Rattle.blocks.specs.Iteration.{Block}
use Rattle.entry_sets.specs.Counting.{Within, count, measure}
use Rattle.blocks.specs.Gathering.{Grown, Gathering, met_below, gather_first, gather_grown, gather_settled, grown_nearer, settled_nearer, gather_block}
use Rattle.bits.specs.WordSet.{in_set, none_in}
use Rattle.entry_sets.specs.Sets.{in_below, Inserted, inserted_old, inserted_new, Removed, removed_less, removed_rest, Joined}
use Rattle.forming.specs.Claim.{table_from, Claim, leaf_at}
use Rattle.forming.specs.Ready.{Ready, ready_again, formed_word}
use Rattle.dependencies.specs.Operands.{plain_kind, fix_of, fix_of_lem, reads_kind, operand_name, a_operand, b_operand}
use Rattle.blocks.specs.Turn.{start_word_lem, Begun, Iterating, iterating_first, iterating_last}

-- the free names of e are settled
abbrev pub Known : List ℕ → List ℕ → List ℕ → List ℕ → ℕ → Type 0
Known ks xs ys ds e = (y : ℕ) → Free (table_from ks xs ys) e y → in_set ds y ≡ true

module _ (ks xs ys : List ℕ) where
  pub known_more : (e : ℕ) (ds es : List ℕ) → Within (in_set ds) (in_set es) → Known ks xs ys ds e → Known ks xs ys es e
  known_more e ds es h k y f = h y (k y f)

  -- the free names of an operand are settled, if the entry is no fixpoint or the operand has none
  module _ (C : Claim ks xs ys) (ds : List ℕ) (e : ℕ) (l : e < length ks) (K : Known ks xs ys ds e) where
    known_plain : (c : ℕ) → Operand (shape (table_from ks xs ys) e) c → (get_or ks e 0 < 8) ⊎ (alone (table_from ks xs ys) c ≡ true) → Known ks xs ys ds c
    known_plain c o (inr a) y f = absurd (alone_none (table_from ks xs ys) C.formed.well c a y f)
    known_plain c o (inl h) y f = K y (inside _ refl o (λ z _. plain_kind C e l h z) f)

    -- what the entry's kind reads is settled, once its operands are
    pub reads_name : (get_or ks e 0 < 4) ⊎ (9 < get_or ks e 0) → (c : ℕ) → Reads (shape (table_from ks xs ys) e) c → in_set ds c ≡ true
    reads_name h c r = ⊎_elim (λ o. absurd (no_operand o)) (λ q. K c (named q)) (reads_either (shape (table_from ks xs ys) e) c r)
      where
        no_operand : Operand (shape (table_from ks xs ys) e) c → ⊥
        no_operand o = ⊎_elim (λ k. omega (arith, (reads_kind C e l c r).0)) (λ k. omega (arith, operand_name C e l c o)) h

    pub known_a : 3 < get_or ks e 0 → get_or ks e 0 < 10 → (7 < get_or ks e 0 → alone (table_from ks xs ys) (get_or xs e 0) ≡ true) → (a : ℕ) → a ≡ get_or xs e 0 → Known ks xs ys ds a
    known_a h k z a p = subst⁻¹ (Known ks xs ys ds) p (known_plain (get_or xs e 0) (a_operand C e l h k) (which (dec_lt (get_or ks e 0) 8)))
      where
        which : Dec (get_or ks e 0 < 8) → (get_or ks e 0 < 8) ⊎ (alone (table_from ks xs ys) (get_or xs e 0) ≡ true)
        which (yes m) = inl m
        which (no m) = inr (z (omega arith))

    pub known_b : 3 < get_or ks e 0 → get_or ks e 0 < 6 → (b : ℕ) → b ≡ get_or ys e 0 → Known ks xs ys ds b
    known_b h k b p = subst⁻¹ (Known ks xs ys ds) p (known_plain (get_or ys e 0) (b_operand C e l h k) (inl (omega arith)))

  pub reads_one : Claim ks xs ys → (e : ℕ) → e < length ks → 5 < get_or ks e 0 → (a : ℕ) → a ≡ get_or xs e 0 → (ds : List ℕ) → in_set ds a ≡ true
      → (c : ℕ) → Reads (shape (table_from ks xs ys) e) c → in_set ds c ≡ true
  reads_one C e l h a p ds d c r = ⊎_elim (λ q. ap (in_set ds) (q ∙ sym p) ∙ d) (λ q. absurd (omega (arith, q.0))) (reads_kind C e l c r).1

  pub reads_two : Claim ks xs ys → (e : ℕ) → e < length ks → (a b : ℕ) → a ≡ get_or xs e 0 → b ≡ get_or ys e 0 → (ds : List ℕ) → in_set ds a ≡ true → in_set ds b ≡ true
      → (c : ℕ) → Reads (shape (table_from ks xs ys) e) c → in_set ds c ≡ true
  reads_two C e l a b p q ds d g c r = ⊎_elim (λ z. ap (in_set ds) (z ∙ sym p) ∙ d) (λ z. ap (in_set ds) (z.1 ∙ sym q) ∙ g) (reads_kind C e l c r).1

module _ (ks xs ys masks rows : List ℕ) (size : ℕ) where
  abbrev M : Model
  M = row_model masks rows size

  abbrev t : Table
  t = table_from ks xs ys

  -- what is settled is right
  pub record Standing (ws ds : List ℕ) : Type 0 where
    pub ready : Ready ks xs ys rows size ws
    pub done_there : length ds ≡ 4
    pub good : (e : ℕ) → in_set ds e ≡ true → SameStates size (sets_of ws e) (own M t e)

  -- e is settled, and what was settled still is
  pub record Evaluated (e : ℕ) (ds vs es : List ℕ) : Type 0 where
    pub standing : Standing vs es
    pub more : Within (in_set ds) (in_set es)
    pub settled : in_set es e ≡ true

  pub stays : (e : ℕ) (ws ds : List ℕ) → Standing ws ds → in_set ds e ≡ true → Evaluated e ds ws ds
  stays e ws ds S h = record { standing = S; more = λ c d. d; settled = h }

  -- after another evaluation
  pub later : (e : ℕ) (cs ds vs es : List ℕ) → Within (in_set cs) (in_set ds) → Evaluated e ds vs es → Evaluated e cs vs es
  later e cs ds vs es h E = record { standing = E.standing; more = λ c d. E.more c (h c d); settled = E.settled }

  -- its word is formed of what it reads, all of it settled
  module _ (ws ds : List ℕ) (S : Standing ws ds) (e : ℕ) (l : e < length ks) (reads : (c : ℕ) → Reads (shape t e) c → in_set ds c ≡ true) (vs es : List ℕ)
      (p : vs ≡ set ws e (formed_word ks xs ys masks rows size ws e)) (q : Inserted ds e es) where
    at_e : get_or vs e 0 ≡ formed_word ks xs ys masks rows size ws e
    at_e = rw p (get_or-set_same ws e _ 0 (omega (arith, S.ready.words_there, S.ready.claim.few)))

    away : (c : ℕ) → (c ≡ e → ⊥) → get_or vs c 0 ≡ get_or ws c 0
    away c n = rw p (get_or-set_other ws e c _ 0 n)

    right_here : SameStates size (sets_of vs e) (own M t e)
    unfolding formed_word
    right_here =
        same_trans (λ s h. ap (λ (w : ℕ). bit w s) at_e ∙ word_inside size _ s h)
        (formed_right M t S.ready.claim.formed.well (sets_of ws) e (λ c r. S.good c (reads c r)))

    inside_words : (c s : ℕ) → c < length ks → size ≤ s → Dec (c ≡ e) → bit (get_or vs c 0) s ≡ false
    unfolding formed_word
    inside_words c s k h (yes r) = ap (λ (z : ℕ). bit (get_or vs z 0) s) r ∙ ap (λ (w : ℕ). bit w s) at_e ∙ word_past size _ s h
    inside_words c s k h (no n) = ap (λ (w : ℕ). bit w s) (away c n) ∙ S.ready.words_inside c s k h

    pub formed_evaluated : Evaluated e ds vs es
    formed_evaluated =
        record {
          standing = record {
            ready = ready_again vs S.ready (rw p (length-set ws e _) ∙ S.ready.words_there) (λ c s k h. inside_words c s k h (ℕ_discrete c e));
            done_there = q.long ∙ S.done_there;
            good = λ c d. good c (ℕ_discrete c e) (or-true (in_set ds c) (eqb c e) (sym (q.tells c) ∙ d));
          };
          more = inserted_old q;
          settled = inserted_new q;
        }
      where
        good : (c : ℕ) → Dec (c ≡ e) → (in_set ds c ≡ true) ⊎ (eqb c e ≡ true) → SameStates size (sets_of vs c) (own M t c)
        good c (yes r) d = subst⁻¹ (λ (z : ℕ). SameStates size (sets_of vs z) (own M t z)) r right_here
        good c (no n) (inl d) = λ s h. ap (λ (w : ℕ). bit w s) (away c n) ∙ S.good c d s h
        good c (no n) (inr d) = absurd (n (eqb-true c e d))

  -- while the block of x is gathered, since ds
  pub record Meeting (x : ℕ) (ds ws es bs ms : List ℕ) : Type 0 where
    pub standing : Standing ws es
    pub more : Within (in_set ds) (in_set es)
    pub gathering : Gathering t x (fix_of (get_or ks x 0)) (in_set es) (in_set bs) (in_set ms)
    pub block_long : length bs ≡ 4
    pub met_long : length ms ≡ 4

  unfoldable pub unmet : List ℕ → List ℕ → ℕ
  unmet bs ms = measure 256 (256 - count 256 (in_set bs)) (in_set ms)

  module _ (x : ℕ) (l : x < length ks) (ds : List ℕ) where
    pub meeting_first : (ws : List ℕ) → Standing ws ds → Known ks xs ys ds x → 7 < get_or ks x 0 → get_or ks x 0 < 10 → (bs ms : List ℕ)
        → (length bs ≡ length (replicate {A = ℕ} 4 0)) × (length ms ≡ length (replicate {A = ℕ} 4 0)) × Grown t (in_set ds) (in_set (replicate 4 0)) (in_set (replicate 4 0)) x (in_set bs) (in_set ms)
        → Meeting x ds ws ds bs ms
    meeting_first ws S K h k bs ms (p, q, G) =
        record {
          standing = S;
          more = λ c d. d;
          gathering = gather_first t S.ready.claim.formed.well x (fix_of (get_or ks x 0)) (get_or xs x 0) (fix_of_lem S.ready.claim x l h k)
              (in_set ds) (in_set (replicate 4 0)) (in_set (replicate 4 0)) (in_set bs) (in_set ms) K (none_in 4) (none_in 4) G;
          block_long = p ∙ length-replicate {A = ℕ} 4 0;
          met_long = q ∙ length-replicate {A = ℕ} 4 0;
        }

    module _ (ws es bs ms : List ℕ) (I : Meeting x ds ws es bs ms) (c : ℕ) (i : in_set ms c ≡ true) where
      pub met_small : c < x
      met_small = met_below t I.standing.ready.claim.formed.well x (fix_of (get_or ks x 0)) I.gathering c i

      module _ (ns : List ℕ) (R : Removed ms c ns) where
        pub meeting_grown : alone t c ≡ false → (cs os : List ℕ)
            → (length cs ≡ length bs) × (length os ≡ length ns) × Grown t (in_set es) (in_set bs) (in_set ns) c (in_set cs) (in_set os) → Meeting x ds ws es cs os
        meeting_grown a cs os (p, q, G) =
            let (z, f) = not_alone t I.standing.ready.claim.formed.well c a in
            record {
              standing = I.standing;
              more = I.more;
              gathering = gather_grown t I.standing.ready.claim.formed.well x (fix_of (get_or ks x 0)) (in_set es) (in_set bs) (in_set ms) I.gathering c i
                  (in_set ns) (removed_less R) (removed_rest R) z f (in_set cs) (in_set os) G;
              block_long = p ∙ I.block_long;
              met_long = q ∙ R.long ∙ I.met_long;
            }

        pub grown_closer : (cs os : List ℕ)
            → (length cs ≡ length bs) × (length os ≡ length ns) × Grown t (in_set es) (in_set bs) (in_set ns) c (in_set cs) (in_set os) → unmet cs os < unmet bs ms
        unfolding unmet
        grown_closer cs os (p, q, G) =
            grown_nearer t I.standing.ready.claim.formed.well x (fix_of (get_or ks x 0)) (in_set es) (in_set bs) (in_set ms) I.gathering c i
            (in_set ns) (removed_less R) (removed_rest R) (in_below ms I.met_long c i) (in_set cs) (in_set os) G

        pub meeting_settled : (vs gs : List ℕ) → Evaluated c es vs gs → Meeting x ds vs gs bs ns
        meeting_settled vs gs E =
            record {
              standing = E.standing;
              more = λ d h. E.more d (I.more d h);
              gathering = gather_settled t I.standing.ready.claim.formed.well x (fix_of (get_or ks x 0)) (in_set es) (in_set bs) (in_set ms) I.gathering c i
                  (in_set ns) (removed_less R) (removed_rest R) (in_set gs) E.more E.settled;
              block_long = I.block_long;
              met_long = R.long ∙ I.met_long;
            }

        pub settled_closer : unmet bs ns < unmet bs ms
        unfolding unmet
        settled_closer =
            settled_nearer t I.standing.ready.claim.formed.well x (fix_of (get_or ks x 0)) (in_set es) (in_set bs) (in_set ms) I.gathering c i
            (in_set ns) (removed_less R) (removed_rest R) (in_below ms I.met_long c i)

    -- nothing is met any more
    module _ (ws es bs ms : List ℕ) (I : Meeting x ds ws es bs ms) (E : (c : ℕ) → in_set ms c ≡ false) where
      pub met_block : Block t (fix_of (get_or ks x 0)) (in_set es) (in_set bs)
      met_block = gather_block t I.standing.ready.claim.formed.well x (fix_of (get_or ks x 0)) (in_set es) (in_set bs) (in_set ms) I.gathering E

      pub block_there : (c : ℕ) → in_set bs c ≡ true → c < length ks
      block_there c i = let k = I.gathering.small c i in omega (arith, k, l)

      pub iteration_first : (vs : List ℕ) (w : ℕ) → w ≡ start_word_lem size (get_or ks x 0) → Begun bs w ws vs → Iterating ks xs ys masks rows size (fix_of (get_or ks x 0)) es bs vs bs
      unfolding met_block start_word_lem
      iteration_first vs w q B =
          iterating_first ks xs ys masks rows size I.standing.ready.claim (fix_of (get_or ks x 0)) es bs met_block block_there ws vs
          I.standing.ready I.standing.good I.block_long w q B

      -- no entry waits any more: the block is settled
      pub block_evaluated : (vs qs gs : List ℕ) → Iterating ks xs ys masks rows size (fix_of (get_or ks x 0)) es bs vs qs → ((c : ℕ) → in_set qs c ≡ false)
          → Joined es bs gs → Evaluated x ds vs gs
      unfolding met_block
      block_evaluated vs qs gs Y N U =
          record {
            standing = record {
              ready = Y.ready;
              done_there = U.long;
              good = λ c d. iterating_last ks xs ys masks rows size I.standing.ready.claim (fix_of (get_or ks x 0)) es bs met_block block_there vs qs Y N c
                  (swap c (or-true (in_set es c) (in_set bs c) (sym (U.both c (in_below gs U.long c d)) ∙ d)));
            };
            more = λ c d. U.both c (in_below es I.standing.done_there c (I.more c d)) ∙ true-or (in_set es c) (in_set bs c) (inl (I.more c d));
            settled = U.both x (omega (arith, I.standing.ready.claim.few, l)) ∙ true-or (in_set es x) (in_set bs x) (inr I.gathering.self);
          }
        where
          swap : (c : ℕ) → (in_set es c ≡ true) ⊎ (in_set bs c ≡ true) → (in_set bs c ≡ true) ⊎ (in_set es c ≡ true)
          swap c (inl h) = inr h
          swap c (inr h) = inl h

-- the tops tell which entries have no free name
module _ (ks xs ys ts : List ℕ) (T : Tops ks xs ys ts) (e : ℕ) (l : e < length ks) where
  pub top_alone : get_or ts e 0 ≡ 0 → alone (table_from ks xs ys) e ≡ true
  unfolding alone
  top_alone z = eq-eqb _ 0 (sym (T e l) ∙ z)

  pub top_not_alone : (get_or ts e 0 ≡ 0 → ⊥) → alone (table_from ks xs ys) e ≡ false
  unfolding alone
  top_not_alone z = ne_eqb _ 0 (λ q. z (T e l ∙ q))

  -- no free name, so all of them are settled
  pub top_known : Claim ks xs ys → get_or ts e 0 ≡ 0 → (ds : List ℕ) → Known ks xs ys ds e
  top_known C z ds y f = absurd (alone_none (table_from ks xs ys) C.formed.well e (top_alone z) y f)

  -- a leaf has no free name
  pub open_kind : Claim ks xs ys → (get_or ts e 0 ≡ 0 → ⊥) → 3 < get_or ks e 0
  unfolding alone top_clause
  open_kind C z = go (dec_lt (get_or ks e 0) 4)
    where
      go : Dec (get_or ks e 0 < 4) → 3 < get_or ks e 0
      go (yes h) = let (v, q) = leaf_at C e l h in absurd (z (T e l ∙ leaf_top v q))
        where
          leaf_top : (v : Leaf) → shape (table_from ks xs ys) e ≡ leaf v → top (table_from ks xs ys) e ≡ 0
          leaf_top v q = top_at (table_from ks xs ys) C.formed.well e q
      go (no h) = omega arith
