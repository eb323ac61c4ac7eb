-- the row of a state in the successor table: for each state u the map of the actions that lead to u
use Rattle.std.specs.Prelude.{◌≡◌, refl, ◌≢◌, List, [], ◌∷◌, ◌++◌, Bool, true, false, ◌||◌, ℕ, zero, suc, ◌+◌, ◌*◌, ◌-◌, ◌%◌, ◌^◌, ◌<◌, eqb, length, get_or, replicate}
use Rattle.std.proofs.Common.{sym, ◌∙◌, arith, lit<, shl_exact, length-append, get_or-append-add, eq-eqb, ne_eqb}
use Rattle.std.proofs.Math.Path.{ap}
use Rattle.std.proofs.Math.Decide.{dec_lt, ℕ_discrete}
use Rattle.std.specs.Int.Bits.{bit_or}
use Rattle.std.proofs.lemmas.Nat.{or_lt}
use Rattle.std.proofs.Math.ListN.{set, get_or-append, get_or-eq_default}
use Rattle.std.proofs.lemmas.List.{get_or_at}
use Rattle.verdict.specs.Lists.{values_from, values_from_at}
use Rattle.verdict.specs.Tests.{any, member}
use Rattle.bits.specs.Bits.{bit, or_bit, one_bit}
use Rattle.model_files.specs.Actions.{ACTIONS, map_of, map_bit, map_small, map_is}
use Rattle.model.specs.Values.{values_same, values_set}

-- the actions that lead to u, by their lists
abbrev leads : List (List ℕ) → ℕ → ℕ → Bool
leads ls u n = member (get_or ls n []) u

abbrev mark_of : List (List ℕ) → ℕ → ℕ
mark_of ls u = map_of ACTIONS (leads ls u)

unfoldable pub row_of : List (List ℕ) → List ℕ
unfolding values_from
row_of ls = values_from (mark_of ls) 0 64

pub row-none : replicate 64 0 ≡ row_of []
unfolding row_of map_of member any
row-none = sym (values_same 0 0 64)

-- rows go by what is listed for each action, and nothing is past the last list
row_same : (ls ks : List (List ℕ)) → ((n : ℕ) → get_or ls n [] ≡ get_or ks n []) → row_of ls ≡ row_of ks
unfolding row_of
row_same ls ks e = λ i. values_from (λ u. map_of ACTIONS (λ n. member (e n i) u)) 0 64

empty_at : (k n : ℕ) → get_or (replicate {A = List ℕ} k []) n [] ≡ []
empty_at zero n = refl
empty_at (suc k) zero = refl
empty_at (suc k) (suc n) = empty_at k n

pub row_rest : (ls : List (List ℕ)) (k : ℕ) → row_of (ls ++ replicate k []) ≡ row_of ls
row_rest ls k = row_same (ls ++ replicate k []) ls (λ n. at n (dec_lt n (length ls)))
  where
    at : (n : ℕ) → Dec (n < length ls) → get_or (ls ++ replicate k []) n [] ≡ get_or ls n []
    at n (yes h) = get_or-append ls (replicate k []) [] n h
    at n (no h) =
        let e : n ≡ length ls + (n - length ls) = omega arith in
        ap (λ (m : ℕ). get_or (ls ++ replicate k []) m []) e
        ∙ get_or-append-add ls (replicate k []) (n - length ls) []
        ∙ empty_at k (n - length ls)
        ∙ sym (get_or-eq_default ls [] (omega arith))

pub row_skips : (ls : List (List ℕ)) → row_of (ls ++ ([] ∷ [])) ≡ row_of ls
row_skips ls = row_rest ls 1

or-true : (b : Bool) → (b || true) ≡ true
or-true true = refl
or-true false = refl

or-false : (b : Bool) → (b || false) ≡ b
or-false true = refl
or-false false = refl

member_more : (l : List ℕ) (u j : ℕ) → member (l ++ (u ∷ [])) j ≡ (member l j || eqb j u)
unfolding member any
member_more [] u j = or-false (eqb j u)
member_more (x ∷ l) u j = first (eqb j x) (member_more l u j)
  where
    first : (b : Bool) → member (l ++ (u ∷ [])) j ≡ (member l j || eqb j u) → (b || member (l ++ (u ∷ [])) j) ≡ ((b || member l j) || eqb j u)
    first true e = refl
    first false e = e

-- one successor more by action c, the last whose list is begun
module _ (ls : List (List ℕ)) (c : ℕ) (many : length ls ≡ c) (few : c < ACTIONS) (l : List ℕ) (u : ℕ) (small : u < 64) where
  abbrev before : List (List ℕ)
  before = ls ++ (l ∷ [])

  abbrev after : List (List ℕ)
  after = ls ++ ((l ++ (u ∷ [])) ∷ [])

  at_last : (x : List ℕ) → get_or (ls ++ (x ∷ [])) c [] ≡ x
  at_last x = get_or_at ls x [] [] c many

  at_other : (x : List ℕ) (n : ℕ) → n ≢ c → get_or (ls ++ (x ∷ [])) n [] ≡ get_or ls n []
  at_other x n h = go (dec_lt n (length ls))
    where
      go : Dec (n < length ls) → get_or (ls ++ (x ∷ [])) n [] ≡ get_or ls n []
      go (yes k) = get_or-append ls (x ∷ []) [] n k
      go (no k) = get_or-eq_default (ls ++ (x ∷ [])) [] (omega (arith, length-append ls (x ∷ []))) ∙ sym (get_or-eq_default ls [] (omega arith))

  lead_other : (j n : ℕ) → n ≢ c → leads after j n ≡ leads before j n
  lead_other j n h = ap (λ (x : List ℕ). member x j) (at_other (l ++ (u ∷ [])) n h ∙ sym (at_other l n h))

  -- another state's mark stays
  mark_other : (j : ℕ) → j ≢ u → mark_of after j ≡ mark_of before j
  mark_other j h = λ i. map_of ACTIONS (λ n. same n (ℕ_discrete n c) i)
    where
      same : (n : ℕ) → Dec (n ≡ c) → leads after j n ≡ leads before j n
      same n (yes e) =
          rw (e, at_last (l ++ (u ∷ [])), at_last l) (member_more l u j ∙ rw (ne_eqb j u h) (or-false (member l j)))
      same n (no k) = lead_other j n k

  abbrev action_bit : ℕ
  action_bit = 1 * 2 ^ c % 2 ^ 16

  action_bit_lem : action_bit ≡ 1 * 2 ^ c
  action_bit_lem = shl_exact 1 c 16 (lit< tt) (omega arith)

  -- that of u gets the action's bit
  mark_more : bit_or (mark_of before u) action_bit ≡ mark_of after u
  mark_more = map_is ACTIONS _ (leads after u) (or_lt 16 (mark_of before u) action_bit (map_small ACTIONS (leads before u)) (omega arith)) bits
    where
      lead : (n : ℕ) → Dec (n ≡ c) → (leads before u n || eqb n c) ≡ leads after u n
      lead n (yes e) =
          rw (e, at_last (l ++ (u ∷ [])), at_last l, eq-eqb c c refl, member_more l u u, eq-eqb u u refl) (or-true (member l u) ∙ sym (or-true (member l u)))
      lead n (no k) = rw (ne_eqb n c k) (or-false (leads before u n) ∙ sym (lead_other u n k))

      bits : (n : ℕ) → n < ACTIONS → bit (bit_or (mark_of before u) action_bit) n ≡ leads after u n
      bits n h =
          or_bit (mark_of before u) action_bit n
          ∙ rw (map_bit ACTIONS (leads before u) n h, action_bit_lem, one_bit c n) (lead n (ℕ_discrete n c))

  pub row_more : set (row_of before) u (bit_or (get_or (row_of before) u 0) action_bit) ≡ row_of after
  unfolding row_of
  row_more =
      ap (λ (x : ℕ). set (row_of before) u (bit_or x action_bit)) (values_from_at (mark_of before) 0 0 64 u small ∙ ap (mark_of before) (omega arith))
      ∙ ap (set (row_of before) u) mark_more
      ∙ values_set (mark_of before) (mark_of after) 64 u small mark_other

-- the row of the lists so far becomes that with one list more
abbrev pub RowMore : ℕ → List ℕ → List ℕ → List ℕ → Type 0
RowMore c row l row' = (ls : List (List ℕ)) → length ls ≡ c → row ≡ row_of ls → row' ≡ row_of (ls ++ (l ∷ []))
