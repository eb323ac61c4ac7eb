-- the columns that the numbering goes by, filled entry by entry
use Rattle.std.specs.Prelude.{◌≡◌, refl, List, ℕ, ◌+◌, ◌*◌, ◌<◌, ◌≤◌, length, get_or, set}
use Rattle.std.proofs.Common.{sym, ap, subst, ◌∙◌, arith, length-set, get_or-set_same, get_or-set_other}
use Rattle.std.proofs.Math.Decide.{ℕ_discrete}
use Rattle.formula.specs.Kind
use Rattle.numbering.specs.Count.{tally}
use Rattle.name_sets.specs.NameSets.{holds}
use Rattle.name_sets.specs.Ordered.{Bits}
use Rattle.name_sets.specs.RowWords.{row_of, with_row, length_row, row_same, row_other}
use Rattle.name_sets.specs.declared.Names.{Names}
use Rattle.thinning.specs.Marked.{among}

-- an or, or an and: what has two operands
abbrev pub IsTwo : ℕ → Type 0
IsTwo k = (Kind.OR ≤ k) × (k ≤ Kind.AND)

-- row e has become one of which P is so, and no other has changed
pub record RowMade (us ns : List ℕ) (e : ℕ) (P : Names → Type 0) : Type 0 where
  pub same_length : length ns ≡ length us
  pub others : (d : ℕ) → (d ≡ e → ⊥) → row_of ns d ≡ row_of us d
  pub here : P (row_of ns e)

pub row_put : (us ns : List ℕ) (e : ℕ) (P : Names → Type 0) (x : Names) → 4 * e + 3 < length us → ns ≡ with_row us e x → P x → RowMade us ns e P
row_put us ns e P x room q p = rw q (record {
  same_length = length_row us e x;
  others = row_other us e x;
  here = subst P (sym (row_same us e x room)) p;
})

pub row_left : (us : List ℕ) (e : ℕ) (P : Names → Type 0) → P (row_of us e) → RowMade us us e P
row_left us e P p = record { same_length = refl; others = λ d _. refl; here = p }

pub row_for : {us ns : List ℕ} {e : ℕ} {P : Names → Type 0} {Q : Type 0} → RowMade us ns e P → RowMade us ns e (λ x. Q → P x)
row_for made = record { same_length = made.same_length; others = made.others; here = λ _. made.here }

-- the columns of the first e of n entries with kinds ks and fields xs and ys, fs having their free names: ts counts these, bs holds one more,
-- us and vs have the marks of the operands where there are two
pub record Prepared (ks xs ys : List ℕ) (n : ℕ) (fs ts bs us vs : List ℕ) (e : ℕ) : Type 0 where
  pub total_count : length ts ≡ 256
  pub bound_count : length bs ≡ 256
  pub first_room : 4 * n ≤ length us
  pub second_room : 4 * n ≤ length vs
  pub totals : (d : ℕ) → d < e → get_or ts d 0 ≡ tally (holds (row_of fs d)) n
  pub bounds : (d : ℕ) → d < e → get_or bs d 0 ≡ tally (holds (row_of fs d)) n + 1
  pub firsts : (d : ℕ) → d < e → IsTwo (get_or ks d 0) → get_or xs d 0 < n → Bits (row_of us d) (among (row_of fs d) (row_of fs (get_or xs d 0)) n)
  pub seconds : (d : ℕ) → d < e → IsTwo (get_or ks d 0) → get_or ys d 0 < n → Bits (row_of vs d) (among (row_of fs d) (row_of fs (get_or ys d 0)) n)

-- before the first entry
pub prepared_none : (ks xs ys : List ℕ) (n : ℕ) (fs ts bs us vs : List ℕ)
    → length ts ≡ 256 → length bs ≡ 256 → 4 * n ≤ length us → 4 * n ≤ length vs
    → Prepared ks xs ys n fs ts bs us vs 0
prepared_none ks xs ys n fs ts bs us vs t b u v = record {
  total_count = t;
  bound_count = b;
  first_room = u;
  second_room = v;
  totals = λ d h. absurd (omega arith);
  bounds = λ d h. absurd (omega arith);
  firsts = λ d h. absurd (omega arith);
  seconds = λ d h. absurd (omega arith);
}

-- a row of marks more, of a column of operands xs
module _ (ks xs : List ℕ) (n : ℕ) (fs : List ℕ) where
  abbrev MarksOf : Names → ℕ → Type 0
  MarksOf x d = IsTwo (get_or ks d 0) → get_or xs d 0 < n → Bits x (among (row_of fs d) (row_of fs (get_or xs d 0)) n)

  marks_more : (us ns : List ℕ) (e : ℕ) → ((d : ℕ) → d < e → MarksOf (row_of us d) d) → RowMade us ns e (λ x. MarksOf x e)
      → (d : ℕ) → d < e + 1 → MarksOf (row_of ns d) d
  marks_more us ns e before made d h = go (ℕ_discrete d e)
    where
      go : Dec (d ≡ e) → MarksOf (row_of ns d) d
      go (yes q) = subst (λ (c : ℕ). MarksOf (row_of ns c) c) (sym q) made.here
      go (no q) = rw (made.others d q) (before d (omega arith))

-- a number more
count_more : (ts : List ℕ) (e k : ℕ) (f : ℕ → ℕ) → e < length ts → ((d : ℕ) → d < e → get_or ts d 0 ≡ f d) → k ≡ f e
    → (d : ℕ) → d < e + 1 → get_or (set ts e k) d 0 ≡ f d
count_more ts e k f h before q d l = go (ℕ_discrete d e)
  where
    go : Dec (d ≡ e) → get_or (set ts e k) d 0 ≡ f d
    go (yes z) = rw z (get_or-set_same ts e k 0 h ∙ q)
    go (no z) = get_or-set_other ts e d k 0 z ∙ before d (omega arith)

module _ {ks xs ys : List ℕ} {n : ℕ} {fs ts bs us vs : List ℕ} {e : ℕ} (small : n ≤ 256) (E : e < n)
    (P : Prepared ks xs ys n fs ts bs us vs e) {own : Names} (o : own ≡ row_of fs e) {k : ℕ} (count : k ≡ tally (holds own) n) where
  -- the marks of an operand, over the names of the entry as they were read
  abbrev Read : List ℕ → Names → Type 0
  Read zs x = IsTwo (get_or ks e 0) → get_or zs e 0 < n → Bits x (among own (row_of fs (get_or zs e 0)) n)

  made_own : (zs us ns : List ℕ) → RowMade us ns e (Read zs) → RowMade us ns e (λ x. MarksOf ks zs n fs x e)
  made_own zs us ns made = rw o at made

  pub prepared_more : {us' vs' : List ℕ} → RowMade us us' e (Read xs) → RowMade vs vs' e (Read ys)
      → Prepared ks xs ys n fs (set ts e k) (set bs e (k + 1)) us' vs' (e + 1)
  prepared_more {us'} {vs'} X Y =
      let z : k ≡ tally (holds (row_of fs e)) n = rw o at count in
      let total : ℕ → ℕ = λ d. tally (holds (row_of fs d)) n in
      record {
        total_count = length-set ts e k ∙ P.total_count;
        bound_count = length-set bs e (k + 1) ∙ P.bound_count;
        first_room = omega (arith, X.same_length, P.first_room);
        second_room = omega (arith, Y.same_length, P.second_room);
        totals = count_more ts e k total (omega (arith, P.total_count)) P.totals z;
        bounds = count_more bs e (k + 1) (λ d. total d + 1) (omega (arith, P.bound_count)) P.bounds (ap (λ (m : ℕ). m + 1) z);
        firsts = marks_more ks xs n fs us us' e P.firsts (made_own xs us us' X);
        seconds = marks_more ks ys n fs vs vs' e P.seconds (made_own ys vs vs' Y);
      }
