-- what one step of the evaluator is given, and the word that it makes
use Rattle.std.specs.Prelude.{◌≡◌, refl, List, [], ◌∷◌, ◌&&◌, ◌||◌, ℕ, ◌+◌, ◌*◌, ◌-◌, ◌<◌, ◌≤◌, eqb, get_or, take, drop}
use Rattle.std.proofs.Math.Path.{sym, ap}
use Rattle.std.proofs.Common.{◌∙◌, arith, length-drop, take_all, get_or-drop}
use Rattle.std.proofs.Math.Bool.{not}
use Rattle.std.proofs.Math.Decide.{dec_lt, ℕ_discrete}
use Rattle.std.specs.Int.Bits.{bit_and, bit_or}
use Rattle.std.proofs.Math.ListN.{length}
use Rattle.formula.specs.Shape.{Shape, leaf, two, step, fix, name, Leaf, never, always, letter, negated, or, and, diamond, box, nu, shape}
use Rattle.meaning.specs.Truth.{some, every}
use Rattle.meaning.specs.States.{leaf_set, two_set, step_set, start}
use Rattle.bits.specs.Bits.{digit, bit, or_bit, and_bit, no_bit}
use Rattle.states.specs.Words.{word}
use Rattle.states.specs.BitLaws.{zero_digit}
use Rattle.states.specs.StateWords.{Inside, sets_of}
use Rattle.states.proofs.StateWords.{by_bits, word_same}
use Rattle.states.specs.Rows.{row_model}
use Rattle.forming.specs.Settled.{formed}
use Rattle.forming.specs.Claim.{table_from, Claim, false_at, true_at, letter_at, negated_at, or_at, and_at, fix_at, name_at, a_entry, b_below}

-- a claim, the rows of a model of `size` states by each action that the claim has, and a word for each entry
pub record Ready (ks xs ys rows : List ℕ) (size : ℕ) (ws : List ℕ) : Type 0 where
  pub claim : Claim ks xs ys
  pub states : size ≤ 64
  pub rows_there : (e : ℕ) → e < length ks → 5 < get_or ks e 0 → get_or ks e 0 < 8 → 64 * get_or ys e 0 + 64 ≤ length rows
  pub rows_inside : Inside size (length rows) rows
  pub words_there : length ws ≡ 256
  pub words_inside : Inside size (length ks) ws

pub ready_again : {ks xs ys rows : List ℕ} {size : ℕ} {ws : List ℕ} (vs : List ℕ) → Ready ks xs ys rows size ws
    → length vs ≡ 256 → Inside size (length ks) vs → Ready ks xs ys rows size vs
ready_again vs R p q =
    record { claim = R.claim; states = R.states; rows_there = R.rows_there; rows_inside = R.rows_inside; words_there = p; words_inside = q }

-- the word of an entry, from the words as they stand
unfoldable pub formed_word : List ℕ → List ℕ → List ℕ → List ℕ → List ℕ → ℕ → List ℕ → ℕ → ℕ
formed_word ks xs ys masks rows size ws e = word size (formed (row_model masks rows size) (sets_of ws) (sets_of ws) (shape (table_from ks xs ys) e))

-- the leaf of a kind below 4
unfoldable pub leaf_of : ℕ → ℕ → Leaf
leaf_of kind p = get_or (never ∷ always ∷ letter p ∷ negated p ∷ []) kind never

-- where a leaf holds; the successors play no part
unfoldable pub leaf_word_lem : List ℕ → ℕ → ℕ → ℕ → ℕ
leaf_word_lem masks size kind p = word size (leaf_set (row_model masks [] size) (leaf_of kind p))

module _ (masks : List ℕ) (size kind p : ℕ) where
  pub word_false : kind ≡ 0 → 0 ≡ leaf_word_lem masks size kind p
  unfolding leaf_word_lem leaf_of leaf_set
  word_false q = rw q (by_bits size _ 0 (λ s l. no_bit s) (λ s l. no_bit s))

  pub word_true : (r : ℕ) → kind ≡ 1 → r ≡ word size (start nu) → r ≡ leaf_word_lem masks size kind p
  unfolding leaf_word_lem leaf_of leaf_set start
  word_true r q h = rw q h

  pub word_letter : (r : ℕ) → kind ≡ 2 → r ≡ word size (λ s. eqb (digit (get_or masks s 0) p) 1) → r ≡ leaf_word_lem masks size kind p
  unfolding leaf_word_lem leaf_of leaf_set bit
  word_letter r q h = rw q h

  pub word_negated : (r : ℕ) → kind ≡ 3 → r ≡ word size (λ s. eqb (digit (get_or masks s 0) p) 0) → r ≡ leaf_word_lem masks size kind p
  unfolding leaf_word_lem leaf_of leaf_set
  word_negated r q h = rw q (h ∙ word_same size _ _ (λ s l. zero_digit (get_or masks s 0) p))

leaf_rows : (masks rows : List ℕ) (size : ℕ) (v : Leaf) → leaf_set (row_model masks [] size) v ≡ leaf_set (row_model masks rows size) v
unfolding leaf_set
leaf_rows masks rows size never = refl
leaf_rows masks rows size always = refl
leaf_rows masks rows size (letter p) = refl
leaf_rows masks rows size (negated p) = refl

leaf_shape : {ks xs ys : List ℕ} → Claim ks xs ys → (e : ℕ) → e < length ks → get_or ks e 0 < 4
    → shape (table_from ks xs ys) e ≡ leaf (leaf_of (get_or ks e 0) (get_or xs e 0))
unfolding leaf_of
leaf_shape {ks} {xs} {ys} C e l h = go (ℕ_discrete (get_or ks e 0) 0) (ℕ_discrete (get_or ks e 0) 1) (ℕ_discrete (get_or ks e 0) 2)
  where
    go : Dec (get_or ks e 0 ≡ 0) → Dec (get_or ks e 0 ≡ 1) → Dec (get_or ks e 0 ≡ 2) → shape (table_from ks xs ys) e ≡ leaf (leaf_of (get_or ks e 0) (get_or xs e 0))
    go (yes q) y z = false_at C e l q ∙ rw q refl
    go (no x) (yes q) z = true_at C e l q ∙ rw q refl
    go (no x) (no y) (yes q) = letter_at C e l q ∙ rw q refl
    go (no x) (no y) (no z) = let q : get_or ks e 0 ≡ 3 = omega arith in negated_at C e l q ∙ rw q refl

-- the rows from the first of action n on, as the code cuts them off
abbrev pub action_rows : List ℕ → ℕ → List ℕ
action_rows rows n = take (length rows - 64 * n) (drop (64 * n) rows)

rest-is : (rows : List ℕ) (n : ℕ) → action_rows rows n ≡ drop (64 * n) rows
rest-is rows n = take_all (length rows - 64 * n) (drop (64 * n) rows) (omega (arith, length-drop (64 * n) rows))

rest_at : (rows : List ℕ) (n s : ℕ) → get_or (action_rows rows n) s 0 ≡ get_or rows (64 * n + s) 0
rest_at rows n s = ap (λ (l : List ℕ). get_or l s 0) (rest-is rows n) ∙ get_or-drop (64 * n) rows s 0

-- a box or a diamond has the rows of its action
module _ {ks xs ys rows : List ℕ} {size : ℕ} {ws : List ℕ} (R : Ready ks xs ys rows size ws) (e : ℕ) (l : e < length ks)
    (h : 5 < get_or ks e 0) (k : get_or ks e 0 < 8) (n : ℕ) (p : n ≡ get_or ys e 0) where
  pub action_room : 64 * n + size ≤ length rows
  action_room = omega (arith, p, R.rows_there e l h k, R.states)

  pub action_long : size ≤ length (action_rows rows n)
  action_long = rw (rest-is rows n) (omega (arith, length-drop (64 * n) rows, action_room))

  pub action_inside : Inside size size (action_rows rows n)
  action_inside s u m past = ap (λ (w : ℕ). bit w u) (rest_at rows n s) ∙ R.rows_inside (64 * n + s) u (omega (arith, action_room)) past

module _ {ks xs ys rows : List ℕ} {size : ℕ} {ws : List ℕ} (R : Ready ks xs ys rows size ws) (masks : List ℕ) (e : ℕ) where
  formed_by : {v : Shape} (r : ℕ) → shape (table_from ks xs ys) e ≡ v → r ≡ word size (formed (row_model masks rows size) (sets_of ws) (sets_of ws) v)
      → r ≡ formed_word ks xs ys masks rows size ws e
  unfolding formed_word
  formed_by r q h = rw q h

  -- the word of an entry of the table
  keeps_bits : (c : ℕ) → c < length ks → get_or ws c 0 ≡ word size (sets_of ws c)
  keeps_bits c l = by_bits size _ _ (λ s h. refl) (λ s h. R.words_inside c s l h)

  pub formed_leaf : (l : e < length ks) → get_or ks e 0 < 4 → (r : ℕ) → r ≡ leaf_word_lem masks size (get_or ks e 0) (get_or xs e 0)
      → r ≡ formed_word ks xs ys masks rows size ws e
  unfolding formed leaf_word_lem
  formed_leaf l k r h = formed_by r (leaf_shape R.claim e l k) (h ∙ ap (word size) (leaf_rows masks rows size (leaf_of (get_or ks e 0) (get_or xs e 0))))

  module _ (l : e < length ks) (a b : ℕ) (p : a ≡ get_or xs e 0) (q : b ≡ get_or ys e 0) where
    a_in : 3 < get_or ks e 0 → a < length ks
    a_in h = omega (arith, p, a_entry R.claim e l h)

    b_in : 3 < get_or ks e 0 → get_or ks e 0 < 6 → b < length ks
    b_in h k = omega (arith, q, b_below R.claim e l h k)

    pub formed_or : get_or ks e 0 ≡ 4 → bit_or (get_or ws a 0) (get_or ws b 0) ≡ formed_word ks xs ys masks rows size ws e
    unfolding formed two_set
    formed_or k =
        formed_by _ (or_at R.claim e l k ∙ sym (λ i. two or (p i) (q i))) (by_bits size _ _ (λ s h. or_bit (get_or ws a 0) (get_or ws b 0) s)
        (λ s h. or_bit (get_or ws a 0) (get_or ws b 0) s ∙ rw (R.words_inside a s (a_in (omega arith)) h, R.words_inside b s (b_in (omega arith) (omega arith)) h) refl))

    pub formed_and : get_or ks e 0 ≡ 5 → bit_and (get_or ws a 0) (get_or ws b 0) ≡ formed_word ks xs ys masks rows size ws e
    unfolding formed two_set
    formed_and k =
        formed_by _ (and_at R.claim e l k ∙ sym (λ i. two and (p i) (q i))) (by_bits size _ _ (λ s h. and_bit (get_or ws a 0) (get_or ws b 0) s)
        (λ s h. and_bit (get_or ws a 0) (get_or ws b 0) s ∙ rw (R.words_inside a s (a_in (omega arith)) h) refl))

  -- the rows of action n, from its first on
  pub formed_diamond : (n a r : ℕ) → shape (table_from ks xs ys) e ≡ step (diamond n) a
      → r ≡ word size (λ s. some size (λ u. bit (get_or (action_rows rows n) s 0) u && bit (get_or ws a 0) u)) → r ≡ formed_word ks xs ys masks rows size ws e
  unfolding formed step_set
  formed_diamond n a r q h =
      formed_by r q (h ∙ word_same size _ _ (λ s l. ap (λ (w : ℕ). some size (λ u. bit w u && bit (get_or ws a 0) u)) (rest_at rows n s)))

  pub formed_box : (n a r : ℕ) → shape (table_from ks xs ys) e ≡ step (box n) a
      → r ≡ word size (λ s. every size (λ u. not (bit (get_or (action_rows rows n) s 0) u) || bit (get_or ws a 0) u)) → r ≡ formed_word ks xs ys masks rows size ws e
  unfolding formed step_set
  formed_box n a r q h =
      formed_by r q (h ∙ word_same size _ _ (λ s l. ap (λ (w : ℕ). every size (λ u. not (bit w u) || bit (get_or ws a 0) u)) (rest_at rows n s)))

  -- a fixpoint and a name
  pub formed_above : (l : e < length ks) (x : ℕ) → x ≡ get_or xs e 0 → 7 < get_or ks e 0 → get_or ws x 0 ≡ formed_word ks xs ys masks rows size ws e
  unfolding formed
  formed_above l x p k = go (dec_lt (get_or ks e 0) 10)
    where
      here : x < length ks
      here = omega (arith, p, a_entry R.claim e l (omega arith))

      go : Dec (get_or ks e 0 < 10) → get_or ws x 0 ≡ formed_word ks xs ys masks rows size ws e
      go (yes m) = let (σ, q) = fix_at R.claim e l k m in formed_by _ (q ∙ ap (fix σ) (sym p)) (keeps_bits x here)
      go (no m) = formed_by _ (name_at R.claim e l (omega arith) ∙ ap name (sym p)) (keeps_bits x here)
