-- the beginning of a state is read as it is written
use Rattle.std.specs.Prelude.{◌≡◌, ◌≢◌, List, [], ◌∷◌, Bool, true, false, not, ℕ, zero, suc, ◌+◌, ◌<◌, ◌≤◌, eqb, length, get_or}
use Rattle.std.proofs.Math.Path.{refl, subst, ap}
use Rattle.std.proofs.Common.{sym, arith}
use Rattle.verdict.specs.Lists.{Each, none, more, Rising}
use Rattle.verdict.specs.Tells.{fails, not_tells, eqb_tells, ltb_tells}
use Rattle.bits.specs.Bits.{bit}
use Rattle.encoding.specs.Encode.{Bytes, OneByte, encode_byte, encode_part, encode_all, Counts}
use Rattle.encoding.specs.Parse.{got, Parser, seq, times}
use Rattle.encoding.specs.Chain.{Chain, ends, goes}
use Rattle.encoding.specs.GotLaws.{fault_not_got, pick_got}
use Rattle.encoding.specs.ParseLaws.{Exact, Wrote, exact_as, seq_exact, part_exact, byte_exact}
use Rattle.encoding.specs.ChainLaws.{each_as, Numbers}
use Rattle.encoding.proofs.ChainLaws.{rising_chain}
use Rattle.encoding.specs.ListLaws.{times_exact}
use Rattle.encoding.proofs.ListLaws.{rising_exact}
use Rattle.model_files.specs.ModelFile.{Form, has_list, encode_successors, encode_list, FitList}
use Rattle.model_files.specs.HeaderExact.{header_exact}
use Rattle.model_files.specs.ReadModel.{early, header, list_count, list, next_list, lists, begun}
use Rattle.model_files.specs.Begun.{encode_begun, ListFits, FitBegun}

abbrev pub OneByteBelow : ℕ → ℕ → Type 0
OneByteBelow n u = OneByte u × (u < n)

-- numbers below n that rise are at most n
below_few : (n c : ℕ) {l : List ℕ} → Numbers OneByte (λ (u : ℕ). u < n) c l → c ≤ n → c + length l ≤ n
below_few n c ends h = omega arith
below_few n c (goes {x = x} f k) h = omega (arith, f.1, below_few n (suc x) k f.1.1)

module _ (n : ℕ) (c : Counts 1 64 n) where
  -- the number of a state fits a byte
  pub bytes_below : {l : List ℕ} → Each (λ (u : ℕ). u < n) l → Each (OneByteBelow n) l
  bytes_below e = each_as (λ u h. (omega (arith, c), h)) e

  -- there are at most as many successors as states
  pub few_successors : {l : List ℕ} → FitList n l → length l ≤ n
  few_successors f = omega (arith, below_few n 0 (rising_chain f.rising (bytes_below f.in_range)) (omega arith))

-- a count of zero is a fault, wherever that is placed
pub count_exact : (begin : ℕ) → Exact (list_count begin) encode_byte (λ k. OneByte k × (k ≢ 0))
count_exact begin = record { reads = λ k h s at. rw ((byte_exact early).reads k h.0 s at, (not_tells (eqb_tells k 0)).holds h.1) refl; wrote = wrote }
  where
    wrote : (s : List ℕ) (at k : ℕ) (r : List ℕ) (o : ℕ) → Bytes s → list_count begin s at ≡ got k r o → Wrote encode_byte (λ (k : ℕ). OneByte k × (k ≢ 0)) k s r
    wrote [] at k r o b h = absurd (fault_not_got h)
    wrote (x ∷ s) at k r o (more i b) h =
        let (t, e, l) = pick_got (not (eqb x 0)) x s (suc at) 63 begin h in
        rw (← e, ← l) (record { fits = (i, (not_tells (eqb_tells x 0)).says t); split = refl; left = b })

-- a list that is not empty
pub record Some (n : ℕ) (l : List ℕ) : Type 0 where
  pub number : OneByte (length l) × (length l ≢ 0)
  pub rising : Rising l
  pub each : Each (OneByteBelow n) l

pub list_exact : (begin n : ℕ) → Exact (list begin n) encode_successors (Some n)
unfolding times
list_exact begin n =
    exact_as (λ l h. record { number = h.0; rising = h.1; each = h.2 }) (λ l h. (h.number, h.rising, h.each))
    (rising_exact (count_exact begin) (byte_exact early) (λ u. ltb_tells u n) _)

-- the same bytes in other words
exact_by : {A : Type 0} {p : Parser A} {e d : A → List ℕ} {P : A → Type 0} → ((x : A) → P x → e x ≡ d x) → Exact p e P → Exact p d P
exact_by {p = p} f X = record {
  reads = λ x h s at. rw (← (f x h)) (X.reads x h s at);
  wrote = λ s at x r o b h. let W = X.wrote s at x r o b h in record { fits = W.fits; split = rw (← (f x W.fits)) W.split; left = W.left };
}

pub no_list : (l : List ℕ) → has_list l ≡ false → l ≡ []
no_list [] h = refl
no_list (x ∷ l) h = absurd (fails (not_tells (eqb_tells (suc (length l)) 0)) h (λ e. omega arith))

-- a list where its action's bit stands, and else none
abbrev Next : ℕ → Bool → List ℕ → Type 0
Next n true l = Some n l
Next n false l = l ≡ []

module _ (n : ℕ) (c : Counts 1 64 n) where
  next_fits : (b : Bool) (l : List ℕ) → Next n b l → ListFits n b l
  next_fits true l h = record {
    some = (not_tells (eqb_tells (length l) 0)).holds h.number.1;
    fits = record { rising = h.rising; in_range = each_as (λ u q. q.1) h.each };
  }
  next_fits false l h = rw h (record { some = refl; fits = record { rising = λ i j. absurd (omega arith); in_range = none } })

  fits_next : (b : Bool) (l : List ℕ) → ListFits n b l → Next n b l
  fits_next true l h = record {
    number = (omega (arith, few_successors n c h.fits, c), (not_tells (eqb_tells (length l) 0)).says h.some);
    rising = h.fits.rising;
    each = bytes_below n c h.fits.in_range;
  }
  fits_next false l h = no_list l h.some

  pub next_exact : (begin a k : ℕ) → Exact (next_list begin n a k) encode_list (ListFits n (bit a k))
  unfolding times
  next_exact begin a k =
      exact_by (λ l h. ap (λ (b : Bool). encode_part b encode_successors l) (sym h.some))
      (exact_as (next_fits (bit a k)) (fits_next (bit a k)) (part_exact (Next n) (list_exact begin n) refl (λ l h. h) (bit a k)))

  abbrev Fits : ℕ → List (List ℕ) → Type 0
  Fits a ls = (k : ℕ) → k < length ls → ListFits n (bit a k) (get_or ls k [])

  abbrev Chained : ℕ → ℕ → List (List ℕ) → Type 0
  Chained a k ls = Chain (λ k l. ListFits n (bit a k) l) (λ k _. suc k) k ls

  chain_fits : (a k : ℕ) {ls : List (List ℕ)} → Chained a k ls → (i : ℕ) → i < length ls → ListFits n (bit a (k + i)) (get_or ls i [])
  chain_fits a k ends i h = absurd (omega arith)
  chain_fits a k (goes {x = l} f g) zero h = let e : k + 0 ≡ k = omega arith in rw e f
  chain_fits a k (goes f g) (suc i) h = let e : k + suc i ≡ suc k + i = omega arith in rw e (chain_fits a (suc k) g i (omega arith))

  fits_chain : (a k : ℕ) (ls : List (List ℕ)) → ((i : ℕ) → i < length ls → ListFits n (bit a (k + i)) (get_or ls i [])) → Chained a k ls
  fits_chain a k [] f = ends
  fits_chain a k (l ∷ ls) f =
      let e : k + 0 ≡ k = omega arith in
      let first : ListFits n (bit a (k + 0)) l = f 0 (omega arith) in
      goes (rw e at first) (fits_chain a (suc k) ls (λ i h. let j : suc k + i ≡ k + suc i = omega arith in rw j (f (suc i) (omega arith))))

  pub lists_exact : (begin a k : ℕ) → Exact (lists begin n a k) (encode_all encode_list) (λ ls. (length ls ≡ k) × Fits a ls)
  unfolding lists
  lists_exact begin a k =
      exact_as (λ ls h. (h.0, λ i l. subst (λ (k : ℕ). ListFits n (bit a k) (get_or ls i [])) (omega arith) (chain_fits a 0 h.1 i l)))
      (λ ls h. (h.0, fits_chain a 0 ls (λ i l. subst (λ (k : ℕ). ListFits n (bit a k) (get_or ls i [])) (omega arith) (h.1 i l))))
      (times_exact (next_exact begin a) k 0)

  pub begun_exact : (f : Form) (k : ℕ) → Exact (begun f n k) (encode_begun f) (λ w. (length w.1 ≡ k) × FitBegun f n w)
  unfolding begun
  begun_exact f k = record { reads = λ w h s at. (from at).reads w h s at; wrote = λ s at. (from at).wrote s at }
    where
      from : (begin : ℕ) → Exact (seq (header f) (λ h. lists begin n h.1 k)) (encode_begun f) (λ w. (length w.1 ≡ k) × FitBegun f n w)
      from begin =
          exact_as (λ w h. (h.1.0, record { header = h.0; each = h.1.1 })) (λ w h. (h.1.header, (h.0, h.1.each)))
          (seq_exact (header_exact f) (λ h _. lists_exact begin h.1 k))
