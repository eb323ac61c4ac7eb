-- bytes stored one run after the other, and what is left to be stored
use Rattle.std.specs.Prelude.{◌≡◌, List, [], ◌∷◌, ◌++◌, Bool, true, false, not, ltb, length, get_or, take, drop, set}
use Rattle.std.proofs.Math.Path.{refl, ap}
use Rattle.std.proofs.Common.{sym, ◌∙◌, true≢false, add-one, ltb-true, ltb-false, length-append, length-drop, drop-cons, drop-drop, length-take-le}
use Rattle.std.proofs.lemmas.Bool.{false≢true}
use Prim.Native.Nat.{ℕ, suc, ◌+◌, ◌*◌, ◌-◌, ◌<◌, ◌≤◌}
use native.Mathlib.Omega.{arith}
use Rattle.std.proofs.lemmas.List.Edits.{sets, sets-eq}
use Rattle.std.proofs.Math.Seq.{length-sets}
use Rattle.verdict.specs.Lists.{values_from, written}
use Rattle.formula.specs.Table.{Entry}
use Rattle.formula.specs.Nodes.{Node}
use Rattle.formula.specs.Fields.{has_principal_lem, has_first_lem, has_second_lem, has_back_lem}
use Rattle.formula.specs.Plain.{plain_entry}
use Rattle.encoding.specs.Encode.{encode_two, encode_part, encode_field, encode_all}
use Rattle.claim_files.specs.ClaimFile.{encode_entry}
use Rattle.proof_files.specs.ProofFile.{encode_codes, full, encode_node}
use Rattle.writing.specs.Spelling.{spelled_as, spelling_of}
use Rattle.writing.specs.Held.{plain_record, NodesGiven}
use Rattle.writing.specs.FieldEnds.{numbers_long}
use Rattle.writing.specs.ProofEnds.{nodes_over}

-- one run behind another is one run
pub sets_append : (xs ys l : List ℕ) (i : ℕ) → sets l i (xs ++ ys) ≡ sets (sets l i xs) (i + length xs) ys
sets_append [] ys l i = ap (λ (k : ℕ). sets l k ys) (omega arith)
sets_append (x ∷ xs) ys l i =
    let e : suc i + length xs ≡ i + suc (length xs) = omega arith in
    sets_append xs ys _ (suc i) ∙ ap (λ (k : ℕ). sets (sets l i (x ∷ xs)) k ys) e

pub sets_written : (xs l : List ℕ) → length xs ≤ length l → sets l 0 xs ≡ written xs l
sets_written xs l h = let e : 0 + length xs ≡ length xs = omega arith in sets-eq xs l 0 (omega arith) ∙ ap (λ (k : ℕ). xs ++ drop k l) e

-- the bytes of a run fit behind a place
abbrev pub Fits : List ℕ → ℕ → List ℕ → Type 0
Fits out at xs = at + length xs ≤ length out

-- they are stored there, and the next place is behind them
pub record Put (before : List ℕ) (at : ℕ) (xs : List ℕ) (next : ℕ) (after : List ℕ) : Type 0 where
  pub place : next ≡ at + length xs
  pub stored : after ≡ sets before at xs

-- what is stored and what is left make the whole: once nothing is left, the whole is stored
pub record Left (whole : List ℕ) (from : ℕ) (start : List ℕ) (left : List ℕ) (at : ℕ) (now : List ℕ) : Type 0 where
  pub long : length now ≡ length start
  pub ends : at + length left ≡ from + length whole
  pub same : sets now at left ≡ sets start from whole

pub all_left : (whole start : List ℕ) (from : ℕ) → Left whole from start whole from start
all_left whole start from = record { long = refl; ends = refl; same = refl }

pub none_left : {whole start left now : List ℕ} {from at : ℕ} → left ≡ [] → Left whole from start left at now → Put start from whole at now
none_left {now = now} {at = at} e l = record { place = omega (arith, l.ends, ap length e); stored = ap (sets now at) (sym e) ∙ l.same }

-- a run more is stored
pub less_left : {whole start now after : List ℕ} {from at next : ℕ} (xs ys : List ℕ) → Left whole from start (xs ++ ys) at now → Put now at xs next after → Left whole from start ys next after
less_left {now = now} {at = at} xs ys l p = record {
  long = ap length p.stored ∙ length-sets now at xs ∙ l.long;
  ends = omega (arith, p.place, l.ends, length-append xs ys);
  same = rw (p.stored, p.place) (sym (sets_append xs ys now at) ∙ l.same);
}

-- the numbers that are left, the entries, the nodes with their codes
abbrev pub numbers_left : List ℕ → ℕ → ℕ → List ℕ
numbers_left ns from n = encode_all encode_two (take n (drop from ns))

pub numbers_step : (ns : List ℕ) (from n i : ℕ) → i < n → from + n ≤ length ns
    → numbers_left ns (from + i) (n - i) ≡ encode_two (get_or ns (from + i) 0) ++ numbers_left ns (from + (i + 1)) (n - (i + 1))
unfolding encode_all
numbers_step ns from n i h long =
    let e : n - i ≡ suc (n - (i + 1)) = omega arith in
    let j : suc (from + i) ≡ from + (i + 1) = omega arith in
    rw (e, drop-cons ns (from + i) 0 (omega arith), j) refl

module _ (ks xs ys : List ℕ) where
  abbrev pub entries_left : ℕ → ℕ → List ℕ
  entries_left i k = encode_all encode_entry (spelling_of (values_from (plain_entry ks xs ys) i k))

  pub entries_step : (n i : ℕ) → i < n → entries_left i (n - i) ≡ encode_entry (spelled_as (plain_entry ks xs ys i)) ++ entries_left (i + 1) (n - (i + 1))
  unfolding encode_all values_from
  entries_step n i h =
      let e : n - i ≡ suc (n - (i + 1)) = omega arith in
      let j : suc i ≡ i + 1 = omega arith in
      ap (entries_left i) e ∙ ap (λ (u : ℕ). encode_entry (spelled_as (plain_entry ks xs ys i)) ++ entries_left u (n - (i + 1))) j

-- a node by its rule, its links and its codes
abbrev pub node_at : ℕ → List ℕ → ℕ → List ℕ → ℕ → ℕ → Node
node_at r ls v cs start n = record {
  rule = r;
  principal = get_or ls (4 * v) 0;
  first = get_or ls (4 * v + 1) 0;
  second = get_or ls (4 * v + 2) 0;
  back = get_or ls (4 * v + 3) 0;
  codes = take n (drop start cs);
}

-- the fields of node v
module _ (r : ℕ) (ls : List ℕ) (v : ℕ) where
  abbrev pub principal_bytes : List ℕ
  principal_bytes = encode_field (has_principal_lem r) (get_or ls (4 * v) 0)

  abbrev pub first_bytes : List ℕ
  first_bytes = encode_field (has_first_lem r) (get_or ls (4 * v + 1) 0)

  abbrev pub second_bytes : List ℕ
  second_bytes = encode_field (has_second_lem r) (get_or ls (4 * v + 2) 0)

  abbrev pub back_bytes : List ℕ
  back_bytes = encode_field (has_back_lem r) (get_or ls (4 * v + 3) 0)

  abbrev pub link_bytes : List ℕ
  link_bytes = principal_bytes ++ (first_bytes ++ (second_bytes ++ back_bytes))

-- a count and its codes, or nothing
abbrev pub codes_part : List ℕ → ℕ → ℕ → List ℕ
codes_part cs start n = encode_part (full (take n (drop start cs))) encode_codes (take n (drop start cs))

abbrev pub entry_at : ℕ → ℕ → ℕ → Entry
entry_at k a b = record { kind = k; a = a; b = b }

-- no node has more than 24 codes
abbrev pub FewCodes : List ℕ → ℕ → Type 0
FewCodes ns n = (v : ℕ) → v < n → get_or ns v 0 ≤ 24

-- nodes that can be laid down: given, and none with more than 24 codes
pub record NodeRoom (rs ls ns cs : List ℕ) (n : ℕ) : Type 0 where
  pub given : NodesGiven rs ls ns cs n
  pub few : FewCodes ns n

module _ (rs ls ns cs : List ℕ) where
  abbrev pub nodes_left : ℕ → ℕ → ℕ → List ℕ
  nodes_left v k start = encode_all encode_node (nodes_over (values_from (plain_record rs ls ns) v k) (drop start cs))

  pub nodes_step : (n v start k : ℕ) → k ≡ get_or ns v 0 → v < n
      → nodes_left v (n - v) start ≡ encode_node (node_at (get_or rs v 0) ls v cs start k) ++ nodes_left (v + 1) (n - (v + 1)) (start + k)
  unfolding encode_all values_from nodes_over
  nodes_step n v start k same h =
      let e : n - v ≡ suc (n - (v + 1)) = omega arith in
      let j : suc v ≡ v + 1 = omega arith in
      rw (same, e, ← j, ← (drop-drop (get_or ns v 0) start cs)) refl

-- a run that is left to be stored has room
pub room_left : {whole start now : List ℕ} {from at : ℕ} (xs ys : List ℕ) → Left whole from start (xs ++ ys) at now → from + length whole ≤ length start → at + length xs ≤ length now
room_left xs ys l h = omega (arith, l.ends, l.long, length-append xs ys)

-- one run behind another
pub put_join : {before now after : List ℕ} {at next o : ℕ} (xs ys : List ℕ) → Put before at xs next now → Put now next ys o after → Put before at (xs ++ ys) o after
put_join {before = before} {at = at} xs ys p q = record {
  place = omega (arith, p.place, q.place, length-append xs ys);
  stored = q.stored ∙ rw (p.stored, p.place) (sym (sets_append xs ys before at));
}

-- the two bytes in front of an entry or a node
pub head_put : (out : List ℕ) (at m k : ℕ) → Put out at (m ∷ k ∷ []) (at + 2) (set (set out at m) (at + 1) k)
head_put out at m k = record { place = refl; stored = ap (λ (i : ℕ). set (set out at m) i k) (add-one at) }

-- a field whose bit stands, and one whose bit does not
pub no_field : (b : Bool) (v at : ℕ) (out : List ℕ) → not b ≡ true → Put out at (encode_field b v) at out
no_field false v at out h = record { place = omega arith; stored = refl }
no_field true v at out h = absurd (false≢true h)

pub one_field : (b : Bool) (v at : ℕ) {before after : List ℕ} → not b ≡ false → after ≡ sets before at (encode_two v) → Put before at (encode_field b v) (at + 2) after
one_field true v at h e = record { place = refl; stored = e }
one_field false v at h e = absurd (true≢false h)

pub field_room : (b : Bool) (v at n : ℕ) → not b ≡ false → at + length (encode_field b v) ≤ n → at + 2 ≤ n
field_room true v at n h l = l
field_room false v at n h l = absurd (true≢false h)

-- codes
pub codes_none : (cs : List ℕ) (start n : ℕ) → n ≡ 0 → codes_part cs start n ≡ []
codes_none cs start n h = rw h refl

some_codes : (l : List ℕ) → 1 ≤ length l → full l ≡ true
some_codes [] h = absurd (omega arith)
some_codes (x ∷ l) h = refl

module _ (cs : List ℕ) (start n : ℕ) (long : start + n ≤ length cs) where
  codes_long : length (take n (drop start cs)) ≡ n
  codes_long = length-take-le n (drop start cs) (omega (arith, length-drop start cs))

  pub numbers_length : length (numbers_left cs start n) ≡ 2 * n
  numbers_length = omega (arith, numbers_long (take n (drop start cs)), codes_long)

  pub codes_some : 1 ≤ n → codes_part cs start n ≡ n ∷ numbers_left cs start n
  codes_some h = rw (some_codes (take n (drop start cs)) (omega (arith, codes_long)), codes_long) refl

  -- bit 4 stands where codes follow
  pub full_is : ltb 0 n ≡ full (take n (drop start cs))
  full_is = go (ltb 0 n) refl
    where
      go : (b : Bool) → ltb 0 n ≡ b → b ≡ full (take n (drop start cs))
      go true h = sym (some_codes (take n (drop start cs)) (omega (arith, codes_long, ltb-true 0 n h)))
      go false h = let z : n ≡ 0 = omega (arith, ltb-false 0 n h) in rw z refl

-- the loops begin with all that is to be stored
pub numbers_begin : (ns : List ℕ) (start n from : ℕ) (out : List ℕ) → Left (numbers_left ns start n) from out (numbers_left ns (start + 0) (n - 0)) from out
numbers_begin ns start n from out =
    let e : start + 0 ≡ start = omega arith in
    let i : n - 0 ≡ n = omega arith in
    rw (e, i) (all_left (numbers_left ns start n) out from)

pub numbers-end : (ns : List ℕ) (start n i : ℕ) → n ≤ i → numbers_left ns (start + i) (n - i) ≡ []
unfolding encode_all
numbers-end ns start n i h = let e : n - i ≡ 0 = omega arith in rw e refl

-- all that is left has room, and once it is stored the whole is
pub left-fits : {whole start left now : List ℕ} {from at : ℕ} → Left whole from start left at now → from + length whole ≤ length start → at + length left ≤ length now
left-fits l h = omega (arith, l.ends, l.long)

pub last_left : {whole start now after : List ℕ} {from at next : ℕ} (xs : List ℕ) → Left whole from start xs at now → Put now at xs next after → Put start from whole next after
last_left xs l p = record { place = omega (arith, p.place, l.ends); stored = p.stored ∙ l.same }

pub put_as : {before after : List ℕ} {at next : ℕ} {xs ys : List ℕ} → xs ≡ ys → Put before at xs next after → Put before at ys next after
put_as e p = rw (← e) p

pub put_long : {before after : List ℕ} {at next : ℕ} {xs : List ℕ} → Put before at xs next after → length after ≡ length before
put_long {before} {after} {at} {next} {xs} p = ap length p.stored ∙ length-sets before at xs

-- a column's loop begins with all of its n rows, and ends with none
module _ (ks xs ys : List ℕ) where
  pub entries_begin : (n : ℕ) (out : List ℕ) → Left (entries_left ks xs ys 0 n) 6 out (entries_left ks xs ys 0 (n - 0)) 6 out
  entries_begin n out = let i : n - 0 ≡ n = omega arith in rw i (all_left (entries_left ks xs ys 0 n) out 6)

  pub entries_end_lem : (n i : ℕ) → n ≤ i → entries_left ks xs ys i (n - i) ≡ []
  unfolding encode_all values_from
  entries_end_lem n i h = let e : n - i ≡ 0 = omega arith in rw e refl

module _ (rs ls ns cs : List ℕ) where
  pub nodes_begin : (n from : ℕ) (out : List ℕ) → Left (nodes_left rs ls ns cs 0 n 0) from out (nodes_left rs ls ns cs 0 (n - 0) 0) from out
  nodes_begin n from out = let i : n - 0 ≡ n = omega arith in rw i (all_left (nodes_left rs ls ns cs 0 n 0) out from)

  pub nodes_end_lem : (n v start : ℕ) → n ≤ v → nodes_left rs ls ns cs v (n - v) start ≡ []
  unfolding encode_all values_from nodes_over
  nodes_end_lem n v start h = let e : n - v ≡ 0 = omega arith in rw e refl

-- no byte, and one
pub nothing_put : {xs : List ℕ} (out : List ℕ) (at : ℕ) → xs ≡ [] → Put out at xs at out
nothing_put out at e = rw e (record { place = omega arith; stored = refl })

pub byte_put : (out : List ℕ) (at n : ℕ) → Put out at (n ∷ []) (at + 1) (set out at n)
byte_put out at n = record { place = refl; stored = refl }
