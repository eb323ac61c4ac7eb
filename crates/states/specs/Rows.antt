-- the successors of each state as words, those by action a from place 64 * a on, and the model that they are
use Rattle.std.specs.Prelude.{◌≡◌, refl, List, true, false, ℕ, ◌+◌, ◌*◌, ◌<◌, ◌≤◌, length, get_or, set}
use Rattle.std.proofs.Common.{ap, ◌∙◌, sym, true≢false, arith, length-set, get_or-set_same, get_or-set_other}
use Rattle.std.proofs.Math.Decide.{ℕ_discrete}
use Rattle.meaning.specs.States.{Model}
use Rattle.bits.specs.Bits.{bit}
use Rattle.model_files.specs.DescribedLaws.{cell}
use Rattle.states.specs.Words.{word}

-- bit u of word 64 * a + s where action a leads from s to u
abbrev pub row_model : List ℕ → List ℕ → ℕ → Model
row_model masks rows n = record {
  size = n;
  letter = λ s p. bit (get_or masks s 0) p;
  succ = λ a s u. bit (get_or rows (64 * a + s) 0) u;
}

-- the successors of s by action a
abbrev pub row_word_lem : List (List ℕ) → ℕ → ℕ → ℕ → ℕ
row_word_lem marks n a s = word n (λ u. bit (cell marks s u) a)

-- the rows of action a are the words, of the states below p; whatever lies elsewhere is as it was
pub record ActionRows (marks : List (List ℕ)) (n a : ℕ) (old : List ℕ) (p : ℕ) (new : List ℕ) : Type 0 where
  pub long : length new ≡ length old
  pub there : (s : ℕ) → s < p → get_or new (64 * a + s) 0 ≡ row_word_lem marks n a s
  pub away : (i : ℕ) → ((s : ℕ) → s < p → i ≡ 64 * a + s → ⊥) → get_or new i 0 ≡ get_or old i 0

pub rows_none : (marks : List (List ℕ)) (n a : ℕ) (old : List ℕ) → ActionRows marks n a old 0 old
rows_none marks n a old = record { long = refl; there = λ s h. absurd (omega arith); away = λ i h. refl }

-- one state more
pub rows_set : {marks : List (List ℕ)} {n a : ℕ} {old : List ℕ} {p : ℕ} {new : List ℕ} → ActionRows marks n a old p new
    → (w : ℕ) → 64 * a + p < length old → w ≡ row_word_lem marks n a p → ActionRows marks n a old (p + 1) (set new (64 * a + p) w)
rows_set {marks} {n} {a} {old} {p} {new} F w l q =
    record {
      long = length-set new (64 * a + p) w ∙ F.long;
      there = λ s h. go s h (ℕ_discrete s p);
      away = λ i h. get_or-set_other new (64 * a + p) i w 0 (h p (omega arith)) ∙ F.away i (λ s k. h s (omega arith));
    }
  where
    go : (s : ℕ) → s < p + 1 → Dec (s ≡ p) → get_or (set new (64 * a + p) w) (64 * a + s) 0 ≡ row_word_lem marks n a s
    go s h (yes e) = rw e (get_or-set_same new (64 * a + p) w 0 (omega (arith, F.long)) ∙ q)
    go s h (no ne) = get_or-set_other new (64 * a + p) (64 * a + s) w 0 (λ e. ne (omega arith)) ∙ F.there s (omega arith)

-- the same of each action below q that is in a map, with all n states
pub record RowWords (marks : List (List ℕ)) (used n : ℕ) (old : List ℕ) (q : ℕ) (new : List ℕ) : Type 0 where
  pub long : length new ≡ length old
  pub there : (a s : ℕ) → a < q → bit used a ≡ true → s < n → get_or new (64 * a + s) 0 ≡ row_word_lem marks n a s
  pub away : (i : ℕ) → ((a s : ℕ) → a < q → bit used a ≡ true → s < n → i ≡ 64 * a + s → ⊥) → get_or new i 0 ≡ get_or old i 0

pub words_none : (marks : List (List ℕ)) (used n : ℕ) (old : List ℕ) → RowWords marks used n old 0 old
words_none marks used n old = record { long = refl; there = λ a s h. absurd (omega arith); away = λ i h. refl }

module _ {marks : List (List ℕ)} {used n : ℕ} {old : List ℕ} {q : ℕ} {new : List ℕ} (R : RowWords marks used n old q new) where
  -- an action that is not in the map has no rows
  pub words_pass : bit used q ≡ false → RowWords marks used n old (q + 1) new
  words_pass z =
      record {
        long = R.long;
        there = λ a s h b. R.there a s (below a h b) b;
        away = λ i h. R.away i (λ a s k. h a s (omega arith));
      }
    where
      below : (a : ℕ) → a < q + 1 → bit used a ≡ true → a < q
      below a h b = go (ℕ_discrete a q)
        where
          go : Dec (a ≡ q) → a < q
          go (yes e) = absurd (true≢false (sym b ∙ ap (bit used) e ∙ z))
          go (no ne) = omega arith

  -- one that is has them stored
  pub words_more : n ≤ 64 → bit used q ≡ true → (next : List ℕ) → ActionRows marks n q new n next → RowWords marks used n old (q + 1) next
  words_more few b next F =
      record {
        long = F.long ∙ R.long;
        there = λ a s h c l. go a s h c l (ℕ_discrete a q);
        away = λ i h. F.away i (λ s l. h q s (omega arith) b l) ∙ R.away i (λ a s k. h a s (omega arith));
      }
    where
      go : (a s : ℕ) → a < q + 1 → bit used a ≡ true → s < n → Dec (a ≡ q) → get_or next (64 * a + s) 0 ≡ row_word_lem marks n a s
      go a s h c l (yes e) = rw e (F.there s l)
      go a s h c l (no ne) = F.away (64 * a + s) (λ u k e. ne (omega arith)) ∙ R.there a s (omega arith) c l
