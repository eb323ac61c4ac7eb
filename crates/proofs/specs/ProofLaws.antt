-- codes, sequents, nodes and roots at a place of a file that is indexed
use Rattle.std.specs.Prelude.{◌≡◌, Bool, length, get_or, drop}
use Rattle.std.proofs.Math.Path.{refl, ap}
use Rattle.std.proofs.Common.{◌∙◌}
use mathlib.Core.List.{List, [], ◌∷◌}
use Rattle.std.proofs.Math.Bool.{true, false, not}
use Prim.Native.Nat.{ℕ, suc, ◌+◌, ◌*◌, ◌-◌, ◌<◌, ◌≤◌}
use native.Mathlib.Omega.{arith}
use borrow.Author.Tests.{eqb-true, eqb-false, le-leb, lt-leb}
use Rattle.std.proofs.Math.Dec.{eqb}
use Rattle.verdict.specs.Tells.{fails_holds}
use Rattle.formula.specs.Kind
use Rattle.formula.specs.Table.{Table}
use Rattle.formula.specs.Codes.{entry_of_lem}
use Rattle.formula.specs.Nodes.{Node}
use Rattle.formula.specs.Claim.{clm1, clm2}
use Rattle.formula.specs.Plain.{table_of_length, table_of_kind}
use Rattle.encoding.specs.Parse.{Parser, Got, fault, got, bind, seq, via, guard, part, byte, two, times, in_range, fits_from}
use Rattle.encoding.specs.Places.{word_at, byte_at, byte_end, two_at, two_end}
use Rattle.formula.specs.Members.{is_formula, formula_tells}
use Rattle.encoding.specs.Walk.{guard_passes, guard_fails, guard_cut, counted_starts, counted_cut}
use Rattle.proof_files.specs.ProofFile.{Links}
use Rattle.proof_files.specs.ReadProof.{early, rule_byte, fields, is_code_lem, is_node, sequent, made, node, roots}
use Rattle.proof_files.specs.ProofParts.{kind_table, heading, number_from, after_number, numbers_of, codes_of, roots_of}

-- three parsers, the third in sight of the first alone: the first two may be taken together
module _ {A B C D : Type 0} (q : A → Parser B) (k : A → Parser C) (f : A × (B × C) → D) where
  ahead : A → Parser (B × C)
  ahead x s at = seq (q x) (λ _. k x) s at

  behind : A × B → Parser D
  behind v s at = bind (k v.0 s at) (λ c u z. got (f (v.0, (v.1, c))) u z)

  regroup : (p : Parser A) (s : List ℕ) (at : ℕ) → via f (seq p ahead) s at ≡ bind (seq p q s at) behind
  unfolding ahead behind
  regroup p s at = first (p s at)
    where
      third : (x : A) (y : B) (g : Got C)
          → bind {A = A × (B × C)} (bind {A = B × C} (bind g (λ c u w. got (y, c) u w)) (λ w t z. got (x, w) t z)) (λ v r o. got (f v) r o)
          ≡ bind g (λ c u z. got (f (x, (y, c))) u z)
      third x y (fault n q) = refl
      third x y (got c u z) = refl

      second : (x : A) (g : Got B)
          → bind {A = A × (B × C)} (bind {A = B × C} (bind g (λ y t z. bind (k x t z) (λ c u w. got (y, c) u w))) (λ w t z. got (x, w) t z)) (λ v r o. got (f v) r o)
          ≡ bind {A = A × B} (bind g (λ y t z. got (x, y) t z)) behind
      second x (fault n q) = refl
      second x (got y t z) = third x y (k x t z)

      first : (g : Got A)
          → bind {A = A × (B × C)} (bind g (λ x r o. bind (ahead x r o) (λ w t z. got (x, w) t z))) (λ v r o. got (f v) r o)
          ≡ bind {A = A × B} (bind g (λ x r o. bind (q x r o) (λ y t z. got (x, y) t z))) behind
      first (fault n q) = refl
      first (got x r o) = second x (q x r o)

module _ (t : Table) where
  then_codes : Got ((ℕ × Bool) × Links) → Got Node
  then_codes g = bind g (λ v r o. bind (part [] v.0.1 (sequent t) r o) (λ cs u z. got (made (v.0, (v.1, cs))) u z))

  past_head : (s : List ℕ) (at : ℕ) → node t s at ≡ then_codes (heading s at)
  unfolding node then_codes ahead behind
  past_head s at = regroup (λ h. fields h.0) (λ h. part [] h.1 (sequent t)) made rule_byte s at

  module _ (s : List ℕ) (at : ℕ) where
    pub node_stops : {n q : ℕ} → heading s at ≡ fault n q → node t s at ≡ fault n q
    unfolding then_codes
    node_stops h = past_head s at ∙ ap then_codes h

    module _ {h : ℕ × Bool} {v : Links} {r : List ℕ} {o : ℕ} (k : heading s at ≡ got (h, v) r o) where
      -- without bit 4 the sequent is empty
      pub node_empty : h.1 ≡ false → node t s at ≡ got (made (h, (v, []))) r o
      unfolding then_codes
      node_empty e = past_head s at ∙ ap then_codes k ∙ rw e refl

      pub node_codes_stop : h.1 ≡ true → {n q : ℕ} → sequent t r o ≡ fault n q → node t s at ≡ fault n q
      unfolding then_codes
      node_codes_stop e i = past_head s at ∙ ap then_codes k ∙ rw (e, i) refl

      pub node_codes : h.1 ≡ true → {cs u : List ℕ} {z : ℕ} → sequent t r o ≡ got cs u z → node t s at ≡ got (made (h, (v, cs))) u z
      unfolding then_codes
      node_codes e i = past_head s at ∙ ap then_codes k ∙ rw (e, i) refl

-- a code whose entry is in range is tested by its kind, one out of range never passes
module _ (ks : List ℕ) (n c : ℕ) where
  pub code_known : entry_of_lem c < n → is_code_lem (kind_table ks n) c ≡ not (eqb (get_or ks (entry_of_lem c) 0) Kind.NAME)
  unfolding is_formula
  code_known h = go (eqb (get_or ks (entry_of_lem c) 0) Kind.NAME) refl
    where
      go : (b : Bool) → eqb (get_or ks (entry_of_lem c) 0) Kind.NAME ≡ b → is_formula (kind_table ks n) (entry_of_lem c) ≡ not b
      go true i = fails_holds (formula_tells (kind_table ks n) (entry_of_lem c)) (λ f. f.no_name (table_of_kind ks [] [] n (entry_of_lem c) h ∙ eqb-true _ _ i))
      go false i =
          (formula_tells (kind_table ks n) (entry_of_lem c)).holds
          (record {
            inside = omega (arith, table_of_length ks [] [] n);
            no_name = λ k. eqb-false (get_or ks (entry_of_lem c) 0) Kind.NAME i (omega (arith, table_of_kind ks [] [] n (entry_of_lem c) h, k));
          })

  pub code_outside : n ≤ entry_of_lem c → is_code_lem (kind_table ks n) c ≡ false
  unfolding is_formula
  code_outside h = fails_holds (formula_tells (kind_table ks n) (entry_of_lem c)) (λ f. omega (arith, f.inside, table_of_length ks [] [] n))

-- a code or a root: a number of two bytes that is to rise and to pass a test
module _ (ok : ℕ → Bool) (s : List ℕ) (at : ℕ) where
  pub number_cut : (c : ℕ) → at ≤ length s → length s < at + 2 → number_from ok c (drop at s) at ≡ fault early (length s)
  number_cut c h k = guard_cut (fits_from ok c) 34 (two early) (drop at s) at (two_end early s at h k)

  module _ (c : ℕ) (inside : at + 1 < length s) where
    pub number_unfit : fits_from ok c (word_at s at) ≡ false → number_from ok c (drop at s) at ≡ fault 34 at
    number_unfit k = guard_fails (fits_from ok c) 34 (two early) (drop at s) at (two_at early s at inside) k

    pub number_fits : fits_from ok c (word_at s at) ≡ true → number_from ok c (drop at s) at ≡ got (word_at s at) (drop (at + 2) s) (at + 2)
    number_fits k = guard_passes (fits_from ok c) 34 (two early) (drop at s) at (two_at early s at inside) k

    -- it is not one above the number before it
    pub number_low : word_at s at < c → number_from ok c (drop at s) at ≡ fault 34 at
    number_low h = number_unfit (rw (lt-leb c (word_at s at) h) refl)

-- of n codes those from the i-th on are read, in sight of any number up to the least
pub record CodesFrom (t : Table) (s : List ℕ) (at n i least : ℕ) : Type 0 where
  pub codes : List ℕ
  pub read : (c : ℕ) → c ≤ least → times (number_from (is_code_lem t)) after_number (n - i) c (drop (at + 2 * i) s) (at + 2 * i) ≡ got codes (drop (at + 2 * n) s) (at + 2 * n)

module _ (t : Table) (s : List ℕ) (at n : ℕ) where
  pub codes_none : (least : ℕ) → CodesFrom t s at n n least
  unfolding times
  codes_none least = record { codes = []; read = λ c h. let e : n - n ≡ 0 = omega arith in rw e refl }

  -- a code that fits, in front of those that are above it
  pub codes_more : {i least : ℕ} → CodesFrom t s at n i least → 0 < i → i ≤ n → at + 2 * n ≤ length s
      → (x : ℕ) → x ≡ word_at s (at + 2 * (i - 1)) → x < least → is_code_lem t x ≡ true → CodesFrom t s at n (i - 1) x
  unfolding times
  codes_more {i} {least} from some few long x is less code = record {
    codes = x ∷ from.codes;
    read = λ c h.
        let e : n - (i - 1) ≡ suc (n - i) = omega arith in
        let o : at + 2 * (i - 1) + 2 ≡ at + 2 * i = omega arith in
        let fits = rw (o, ← is) at (number_fits (is_code_lem t) s (at + 2 * (i - 1)) c (omega arith) (rw (← is, le-leb c x h, code) refl)) in
        rw (e, fits, from.read (suc x) (omega arith)) refl;
  }

  pub codes_all : {least : ℕ} → CodesFrom t s at n 0 least → (l : List ℕ) × (codes_of t n s at ≡ got l (drop (at + 2 * n) s) (at + 2 * n))
  unfolding numbers_of times
  codes_all from =
      let e : n - 0 ≡ n = omega arith in
      let o : at + 2 * 0 ≡ at = omega arith in
      (from.codes, rw (e, o) at (from.read 0 (omega arith)))

module _ (t : Table) (s : List ℕ) (at : ℕ) where
  pub sequent_cut : at ≡ length s → sequent t (drop at s) at ≡ fault early (length s)
  unfolding sequent
  sequent_cut h = counted_cut (number_from (is_code_lem t)) after_number (guard (in_range 1 24) 32 (byte early)) (drop at s) at (guard_cut (in_range 1 24) 32 (byte early) (drop at s) at (byte_end early s at h))

  module _ (inside : at < length s) where
    pub sequent_unfit : in_range 1 24 (get_or s at 0) ≡ false → sequent t (drop at s) at ≡ fault 32 at
    unfolding sequent
    sequent_unfit k =
        counted_cut (number_from (is_code_lem t)) after_number (guard (in_range 1 24) 32 (byte early)) (drop at s) at
        (guard_fails (in_range 1 24) 32 (byte early) (drop at s) at (byte_at early s at inside) k)

    pub sequent_codes : in_range 1 24 (get_or s at 0) ≡ true → sequent t (drop at s) at ≡ codes_of t (get_or s at 0) s (at + 1)
    unfolding sequent numbers_of
    sequent_codes k =
        counted_starts (number_from (is_code_lem t)) after_number (guard (in_range 1 24) 32 (byte early)) (drop at s) at
        (guard_passes (in_range 1 24) 32 (byte early) (drop at s) at (byte_at early s at inside) k)

-- the roots of PRF1 are known, those of PRF2 are numbers of nodes
pub roots_known : (g n : ℕ) (s : List ℕ) → roots_of clm1 g n s ≡ got (0 ∷ []) (drop 6 s) 6
unfolding roots
roots_known g n s = refl

pub roots_written : (g n : ℕ) (s : List ℕ) → roots_of clm2 g n s ≡ numbers_of (is_node n) g s 6
unfolding roots numbers_of times
roots_written g n s = refl
