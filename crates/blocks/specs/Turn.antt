-- the turns of a block's iteration in place: an entry that waits is formed, and if its word changed those of the block that read it wait
use Rattle.std.specs.Prelude.{◌≡◌, refl, List, Bool, ◌||◌, ◌&&◌, ◌⊎◌, get_or, set}
use Rattle.std.proofs.Common.{sym, ◌∙◌, true≢false, inl, inr, arith, length-set, get_or-set_same, get_or-set_other, eq-eqb, ne_eqb}
use Rattle.std.proofs.Math.Path.{ap}
use Rattle.std.proofs.Math.Bool.{true, false}
use Rattle.std.proofs.lemmas.Bool.{false≢true}
use Rattle.std.proofs.Math.Logic.{⊎_elim}
use Prim.Native.Nat.{ℕ, ◌+◌, ◌*◌, ◌<◌, ◌≤◌}
use Rattle.std.proofs.Math.Nat.{mul-add, mul-le-mul_left}
use Rattle.std.proofs.Math.Decide.{dec_lt, ℕ_discrete}
use Rattle.std.proofs.Math.ListN.{length}
use Rattle.meaning.specs.Truth.{or-true, true-or}
use Rattle.formula.specs.Table.{Table}
use Rattle.formula.specs.Shape.{Fix, nu, shape}
use Rattle.conditions.specs.WellFormed.{WellFormed}
use Rattle.meaning.specs.States.{Model, SameStates, start}
use Rattle.meaning.specs.StateLaws.{Toward}
use Rattle.meaning.specs.Meaning.{own}
use Rattle.bits.specs.Bits.{bit, no_bit}
use Rattle.states.specs.Words.{word}
use Rattle.states.specs.WordLaws.{word_inside, word_past}
use Rattle.states.specs.BitLaws.{bits_same}
use Rattle.states.specs.StateWords.{sets_of}
use Rattle.states.proofs.StateWords.{by_bits}
use Rattle.states.specs.Rows.{row_model}
use Rattle.forming.specs.Settled.{formed}
use Rattle.blocks.specs.Iteration.{Block, Moving, Rests, left, left_most, moving_begin, moving_formed, onward, rests_woken, rests_same, moving_end, left_down, left_less}
use Rattle.entry_sets.specs.Counting.{Within, count, count_mono, count_less, count_some, measure, measure_less, measure_same}
use Rattle.bits.specs.WordSet.{in_set, past_words}
use Rattle.entry_sets.specs.Sets.{in_below, Removed, removed_less, removed_rest}
use Rattle.dependencies.specs.Users.{Users}
use Rattle.blocks.specs.Waking.{Woken}
use Rattle.forming.specs.Claim.{table_from, Claim}
use Rattle.forming.specs.Ready.{Ready, ready_again, formed_word}
use Rattle.dependencies.specs.Operands.{fix_of}

-- the start of a kind's fixpoints
unfoldable pub start_word_lem : ℕ → ℕ → ℕ
start_word_lem size kind = word size (start (fix_of kind))

pub start_mu : (size kind : ℕ) → kind ≡ 8 → 0 ≡ start_word_lem size kind
unfolding start_word_lem fix_of start
start_mu size kind q = rw (eq-eqb kind 8 q) (by_bits size _ 0 (λ s l. no_bit s) (λ s l. no_bit s))

pub start_nu : (size kind r : ℕ) → (kind ≡ 8 → ⊥) → r ≡ word size (start nu) → r ≡ start_word_lem size kind
unfolding start_word_lem fix_of
start_nu size kind r n q = rw (ne_eqb kind 8 n) q

-- the words of the block at the start
pub record Begun (bs : List ℕ) (w : ℕ) (ws vs : List ℕ) : Type 0 where
  pub long : length vs ≡ length ws
  pub within : (e : ℕ) → in_set bs e ≡ true → get_or vs e 0 ≡ w
  pub beyond : (e : ℕ) → in_set bs e ≡ false → get_or vs e 0 ≡ get_or ws e 0

-- but for those that are left
pub record Beginning (bs : List ℕ) (w : ℕ) (ws ls vs : List ℕ) : Type 0 where
  pub long : length vs ≡ length ws
  pub set_long : length ls ≡ 4
  pub left_in : Within (in_set ls) (in_set bs)
  pub within : (e : ℕ) → in_set bs e ≡ true → (in_set ls e ≡ true) ⊎ (get_or vs e 0 ≡ w)
  pub beyond : (e : ℕ) → in_set bs e ≡ false → get_or vs e 0 ≡ get_or ws e 0

module _ (bs : List ℕ) (w : ℕ) (ws : List ℕ) where
  pub begin_first : length bs ≡ 4 → Beginning bs w ws bs ws
  begin_first l = record { long = refl; set_long = l; left_in = λ e i. i; within = λ e i. inl i; beyond = λ e i. refl }

  pub begin_next : (e : ℕ) (ls vs ms : List ℕ) → Beginning bs w ws ls vs → in_set ls e ≡ true → e < length ws → Removed ls e ms → Beginning bs w ws ms (set vs e w)
  begin_next e ls vs ms B i l R =
      record {
        long = length-set vs e w ∙ B.long;
        set_long = R.long ∙ B.set_long;
        left_in = λ c j. B.left_in c (removed_less R c j).0;
        within = λ c j. at c (ℕ_discrete c e) (B.within c j);
        beyond = λ c j. get_or-set_other vs e c w 0 (λ q. true≢false (sym (B.left_in e i) ∙ ap (in_set bs) (sym q) ∙ j)) ∙ B.beyond c j;
      }
    where
      at : (c : ℕ) → Dec (c ≡ e) → (in_set ls c ≡ true) ⊎ (get_or vs c 0 ≡ w) → (in_set ms c ≡ true) ⊎ (get_or (set vs e w) c 0 ≡ w)
      at c (yes q) z = inr (ap (λ (y : ℕ). get_or (set vs e w) y 0) q ∙ get_or-set_same vs e w 0 (omega (arith, B.long)))
      at c (no n) (inr z) = inr (get_or-set_other vs e c w 0 n ∙ z)
      at c (no n) (inl z) = ⊎_elim (λ q. absurd (n q)) (λ k. inl k) (removed_rest R c z)

  pub begin_nearer : (e : ℕ) (ls ms : List ℕ) → e < 256 → in_set ls e ≡ true → Removed ls e ms → count 256 (in_set ms) < count 256 (in_set ls)
  begin_nearer e ls ms l i R = count_less 256 (in_set ms) (in_set ls) (λ c j. (removed_less R c j).0) e l (gone (in_set ms e) refl) i
    where
      gone : (j : Bool) → in_set ms e ≡ j → in_set ms e ≡ false
      gone false j = j
      gone true j = absurd ((removed_less R e j).1 refl)

  pub begin_last : (ls vs : List ℕ) → Beginning bs w ws ls vs → ((c : ℕ) → in_set ls c ≡ false) → Begun bs w ws vs
  begin_last ls vs B E =
      record {
        long = B.long;
        within = λ e i. ⊎_elim (λ k. absurd (true≢false (sym k ∙ E e))) (λ q. q) (B.within e i);
        beyond = B.beyond;
      }

module _ (ks xs ys masks rows : List ℕ) (size : ℕ) where
  abbrev M : Model
  M = row_model masks rows size

  abbrev t : Table
  t = table_from ks xs ys

  pub record Turned (us bs : List ℕ) (e : ℕ) (ws qs vs rs : List ℕ) : Type 0 where
    pub long : length vs ≡ length ws
    pub away : (c : ℕ) → (c ≡ e → ⊥) → get_or vs c 0 ≡ get_or ws c 0
    pub here : get_or vs e 0 ≡ formed_word ks xs ys masks rows size ws e
    pub set_long : length rs ≡ 4
    pub still : (c : ℕ) → in_set rs c ≡ false → (c ≡ e) ⊎ (in_set qs c ≡ false)
    pub from : (c : ℕ) → in_set rs c ≡ true → (in_set qs c ≡ true) ⊎ (in_set bs c ≡ true)
    pub either : ((get_or vs e 0 ≡ get_or ws e 0) × ((c : ℕ) → in_set rs c ≡ true → (in_set qs c ≡ true) × (c ≡ e → ⊥)))
        ⊎ ((get_or vs e 0 ≡ get_or ws e 0 → ⊥) × ((c : ℕ) → c < 256 → in_set bs c ≡ true → in_set us (256 * e + c) ≡ true → in_set rs c ≡ true))

  module _ (us bs : List ℕ) (e : ℕ) (ws qs ps : List ℕ) (l : length qs ≡ 4) (R : Removed qs e ps) where
    rest_out : (c : ℕ) → in_set ps c ≡ false → (c ≡ e) ⊎ (in_set qs c ≡ false)
    rest_out c i = go (in_set qs c) refl
      where
        go : (j : Bool) → in_set qs c ≡ j → (c ≡ e) ⊎ (in_set qs c ≡ false)
        go false j = inr j
        go true j = ⊎_elim (λ q. inl q) (λ k. absurd (true≢false (sym k ∙ i))) (removed_rest R c j)

    pub turned_quiet : (w : ℕ) → w ≡ formed_word ks xs ys masks rows size ws e → w ≡ get_or ws e 0 → Turned us bs e ws qs ws ps
    turned_quiet w q h =
        record {
          long = refl;
          away = λ c n. refl;
          here = sym h ∙ q;
          set_long = R.long ∙ l;
          still = rest_out;
          from = λ c i. inl (removed_less R c i).0;
          either = inl (refl, removed_less R);
        }

    pub turned_loud : (w : ℕ) → w ≡ formed_word ks xs ys masks rows size ws e → (w ≡ get_or ws e 0 → ⊥) → e < length ws → (rs : List ℕ) → Woken us bs e ps rs
        → Turned us bs e ws qs (set ws e w) rs
    turned_loud w q h k rs N =
        record {
          long = length-set ws e w;
          away = λ c n. get_or-set_other ws e c w 0 n;
          here = at_e ∙ q;
          set_long = N.long;
          still = λ c i. still c i (dec_lt c 256);
          from = λ c i. let m = in_below rs N.long c i in
              ⊎_elim (λ j. inl (removed_less R c j).0) (λ j. inr (and_right (in_set us (256 * e + c)) (in_set bs c) j)) (or-true (in_set ps c) _ (sym (N.waits c m) ∙ i));
          either = inr (λ z. h (sym at_e ∙ z), λ c m i j. N.waits c m ∙ true-or (in_set ps c) _ (inr (rw (i, j) refl)));
        }
      where
        at_e : get_or (set ws e w) e 0 ≡ w
        at_e = get_or-set_same ws e w 0 k

        and_right : (a b : Bool) → (a && b) ≡ true → b ≡ true
        and_right true b z = z
        and_right false b z = absurd (false≢true z)

        or_left : (a b : Bool) → (a || b) ≡ false → a ≡ false
        or_left true b z = z
        or_left false b z = refl

        still : (c : ℕ) → in_set rs c ≡ false → Dec (c < 256) → (c ≡ e) ⊎ (in_set qs c ≡ false)
        still c i (yes m) = rest_out c (or_left (in_set ps c) _ (sym (N.waits c m) ∙ i))
        still c i (no m) = inr (past_words qs c (omega (arith, l)))

  -- after some turns
  pub record Iterating (σ : Fix) (ds bs ws qs : List ℕ) : Type 0 where
    pub ready : Ready ks xs ys rows size ws
    pub moving : Moving M t σ (in_set ds) (in_set bs) (sets_of ws)
    pub rests : Rests M t σ (in_set ds) (in_set bs) (in_set qs) (sets_of ws)
    pub waits : Within (in_set qs) (in_set bs)
    pub set_long : length qs ≡ 4

  -- it falls with each turn, so no more words are formed than it is at first
  unfoldable pub ahead : Fix → List ℕ → List ℕ → List ℕ → List ℕ → ℕ
  ahead σ ds bs ws qs = measure (count 256 (in_set bs)) (left M t σ (in_set ds) (in_set bs) 256 (sets_of ws)) (in_set qs)

  -- b * (s * b + 1) for a block of b entries, all of which wait, over s states
  pub ahead_most : (σ : Fix) (ds bs ws : List ℕ) → let b = count 256 (in_set bs) in ahead σ ds bs ws bs ≤ b * (size * b + 1)
  unfolding ahead measure
  ahead_most σ ds bs ws =
      let b : ℕ = count 256 (in_set bs) in
      omega (arith, mul-le-mul_left b (left_most M t σ (in_set ds) (in_set bs) 256 (sets_of ws)), mul-add b (size * b) 1)

  module _ (C : Claim ks xs ys) (σ : Fix) (ds bs : List ℕ) (K : Block t σ (in_set ds) (in_set bs)) (there : (c : ℕ) → in_set bs c ≡ true → c < length ks) where
    wf : WellFormed t
    wf = C.formed.well

    pub iterating_first : (ws vs : List ℕ) → Ready ks xs ys rows size ws → ((e : ℕ) → in_set ds e ≡ true → SameStates size (sets_of ws e) (own M t e)) → length bs ≡ 4
        → (w : ℕ) → w ≡ word size (start σ) → Begun bs w ws vs → Iterating σ ds bs vs bs
    unfolding wf
    iterating_first ws vs R G l w q B =
        record {
          ready = ready_again vs R (B.long ∙ R.words_there) (λ e s m h. inside e s m h (in_set bs e) refl);
          moving = moving_begin M t wf σ (in_set ds) (in_set bs) K (sets_of vs)
              (λ e i s h. ap (λ (u : ℕ). bit u s) (B.within e i ∙ q) ∙ word_inside size (start σ) s h)
              (λ e d i s h. ap (λ (u : ℕ). bit u s) (B.beyond e i) ∙ G e d s h);
          rests = λ e i n. absurd (true≢false (sym i ∙ n));
          waits = λ c i. i;
          set_long = l;
        }
      where
        inside : (e s : ℕ) → e < length ks → size ≤ s → (i : Bool) → in_set bs e ≡ i → bit (get_or vs e 0) s ≡ false
        inside e s m h true i = ap (λ (u : ℕ). bit u s) (B.within e i ∙ q) ∙ word_past size (start σ) s h
        inside e s m h false i = ap (λ (u : ℕ). bit u s) (B.beyond e i) ∙ R.words_inside e s m h

    module _ (us : List ℕ) (U : Users ks xs ys us) (e : ℕ) (ws qs vs rs : List ℕ) (I : Iterating σ ds bs ws qs) (i : in_set qs e ≡ true)
        (T : Turned us bs e ws qs vs rs) where
      in_block : in_set bs e ≡ true
      in_block = I.waits e i

      same_away : (c : ℕ) → (c ≡ e → ⊥) → SameStates size (sets_of vs c) (sets_of ws c)
      same_away c n s h = ap (λ (u : ℕ). bit u s) (T.away c n)

      same_here : SameStates size (sets_of vs e) (formed M (sets_of ws) (sets_of ws) (shape t e))
      unfolding formed_word
      same_here s h = ap (λ (u : ℕ). bit u s) T.here ∙ word_inside size _ s h

      inside : (c s : ℕ) → c < length ks → size ≤ s → Dec (c ≡ e) → bit (get_or vs c 0) s ≡ false
      unfolding formed_word
      inside c s m h (yes q) = ap (λ (z : ℕ). bit (get_or vs z 0) s) q ∙ ap (λ (u : ℕ). bit u s) T.here ∙ word_past size _ s h
      inside c s m h (no n) = ap (λ (u : ℕ). bit u s) (T.away c n) ∙ I.ready.words_inside c s m h

      ready_next : Ready ks xs ys rows size vs
      ready_next = ready_again vs I.ready (T.long ∙ I.ready.words_there) (λ c s m h. inside c s m h (ℕ_discrete c e))

      pub iterating_next : Iterating σ ds bs vs rs
      unfolding wf
      iterating_next =
          record {
            ready = ready_next;
            moving = moving_formed M t wf σ (in_set ds) (in_set bs) K (sets_of ws) (sets_of vs) I.moving e in_block same_away same_here;
            rests = rests;
            waits = λ c j. ⊎_elim (λ k. I.waits c k) (λ k. k) (T.from c j);
            set_long = T.set_long;
          }
        where
          rests : Rests M t σ (in_set ds) (in_set bs) (in_set rs) (sets_of vs)
          rests = ⊎_elim
              (λ z. rests_same M t wf σ (in_set ds) (in_set bs) K (sets_of ws) (sets_of vs) e same_away same_here (in_set qs) (in_set rs) I.rests (λ c j n. T.still c n)
              (λ s h. ap (λ (u : ℕ). bit u s) z.0))
              (λ z. rests_woken M t wf σ (in_set ds) (in_set bs) K (sets_of ws) (sets_of vs) e same_away same_here (in_set qs) (in_set rs) I.rests (λ c j n. T.still c n)
              (λ c j r. let m = there c j in z.1 c (omega (arith, m, C.few)) j (U.there c e m r)))
              T.either

      -- the same word, if the states are the same
      word_back : SameStates size (sets_of ws e) (sets_of vs e) → get_or vs e 0 ≡ get_or ws e 0
      word_back s = bits_same _ _ (λ k. go k (dec_lt k size))
        where
          go : (k : ℕ) → Dec (k < size) → bit (get_or vs e 0) k ≡ bit (get_or ws e 0) k
          go k (yes h) = sym (s k h)
          go k (no h) = let m = there e in_block in ready_next.words_inside e k m (omega arith) ∙ sym (I.ready.words_inside e k m (omega arith))

      pub iterating_nearer : e < 256 → ahead σ ds bs vs rs < ahead σ ds bs ws qs
      unfolding wf ahead
      iterating_nearer l = ⊎_elim quiet loud T.either
        where
          way : (c : ℕ) → in_set bs c ≡ true → Toward size σ (sets_of ws c) (sets_of vs c)
          way = onward M t wf σ (in_set ds) (in_set bs) K (sets_of ws) (sets_of vs) I.moving e in_block same_away same_here

          gone : (P : (c : ℕ) → in_set rs c ≡ true → (in_set qs c ≡ true) × (c ≡ e → ⊥)) → (j : Bool) → in_set rs e ≡ j → in_set rs e ≡ false
          gone P false j = j
          gone P true j = absurd ((P e j).1 refl)

          quiet : (get_or vs e 0 ≡ get_or ws e 0) × ((c : ℕ) → in_set rs c ≡ true → (in_set qs c ≡ true) × (c ≡ e → ⊥))
              → ahead σ ds bs vs rs < ahead σ ds bs ws qs
          quiet z =
              measure_same _ _ _ (in_set rs) (in_set qs) (left_down M t wf σ (in_set ds) (in_set bs) K 256 (sets_of ws) (sets_of vs) way)
              (count_less 256 (in_set rs) (in_set qs) (λ c j. (z.1 c j).0) e l (gone z.1 (in_set rs e) refl) i)

          loud : (get_or vs e 0 ≡ get_or ws e 0 → ⊥) × ((c : ℕ) → c < 256 → in_set bs c ≡ true → in_set us (256 * e + c) ≡ true → in_set rs c ≡ true)
              → ahead σ ds bs vs rs < ahead σ ds bs ws qs
          loud z =
              measure_less _ _ _ (in_set rs) (in_set qs)
              (left_less M t wf σ (in_set ds) (in_set bs) K 256 (sets_of ws) (sets_of vs) way e l in_block (λ s. z.0 (word_back s)))
              (count_mono 256 (in_set rs) (in_set bs) iterating_next.waits) (count_some 256 (in_set qs) e l i)

    pub iterating_last : (ws qs : List ℕ) → Iterating σ ds bs ws qs → ((c : ℕ) → in_set qs c ≡ false)
        → (e : ℕ) → (in_set bs e ≡ true) ⊎ (in_set ds e ≡ true) → SameStates size (sets_of ws e) (own M t e)
    unfolding wf
    iterating_last ws qs I E = moving_end M t wf σ (in_set ds) (in_set bs) K (sets_of ws) I.moving (λ e i. I.rests e i (E e))
