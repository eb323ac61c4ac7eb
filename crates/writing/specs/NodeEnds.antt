-- the bytes that a node's record makes, read: the node, or where it is refused
use Rattle.std.specs.Prelude.{◌≡◌, ◌⊎◌, Bool, not, ◌&&◌, ◌||◌}
use Rattle.std.proofs.Math.Path.{refl, ap}
use Rattle.std.proofs.Common.{sym, ◌∙◌, inl, inr}
use mathlib.Core.List.{List, [], ◌∷◌, ◌++◌, append_assoc}
use Rattle.std.proofs.Math.Bool.{true, false}
use Prim.Native.Nat.{ℕ, suc, ◌+◌, ◌≤◌}
use native.Mathlib.Omega.{arith}
use borrow.Author.Tests.{eqb-true, ne_eqb, le-leb, lt-leb}
use Rattle.std.proofs.Math.Dec.{eqb, leb}
use Rattle.std.proofs.Math.ListN.{length, length-append}
use Rattle.verdict.specs.Tells.{Tells, tells_self, tells_as, and_tells, or_tells, eqb_tells, same_test}
use Rattle.bits.specs.IfSet.{if_set_lem, if_set_le}
use Rattle.formula.specs.Rule
use Rattle.formula.specs.Table.{Table}
use Rattle.formula.specs.Nodes.{Node}
use Rattle.formula.specs.Records.{NodeRecord}
use Rattle.formula.specs.Fields.{has_principal_lem, has_first_lem, has_second_lem, has_back_lem, low_map_lem, link_width_lem, link_width_le}
use Rattle.encoding.specs.Encode.{encode_two, encode_part, encode_field, encode_all, Counts}
use Rattle.encoding.specs.ListLaws.{range_tells}
use Rattle.encoding.specs.Parse.{Got, fault, got, pick, bind, guard, via, seq, part, two, in_range, fits_from, times}
use Rattle.proof_files.specs.ProofFile.{Links, encode_codes, encode_node, full}
use Rattle.proof_files.specs.ReadProof.{early, rule_of, fields, is_code_lem, sequent, made, node}
use Rattle.writing.specs.RecordBytes.{stands, node_bytes}
use Rattle.writing.specs.Ends.{End, next, stop, go_on, walk, got_by, passed, went, next_same}
use Rattle.writing.specs.FieldEnds.{field_meets, field_long, may_hold_lem, held_stands, stands_over, nothing_over, rising_end, rising_met, rising_past, numbers_long}

-- the node that a record stands for, with its codes
abbrev pub node_of_lem : NodeRecord → List ℕ → Node
node_of_lem v cs = record { rule = v.rule; principal = v.principal; first = v.first; second = v.second; back = v.back; codes = cs }

-- 0 in the fields that the rule lacks
abbrev pub links_held : NodeRecord → Bool
links_held v =
    may_hold_lem (has_principal_lem v.rule) v.principal
    && (may_hold_lem (has_first_lem v.rule) v.first && (may_hold_lem (has_second_lem v.rule) v.second && may_hold_lem (has_back_lem v.rule) v.back))

abbrev pub node_fits : NodeRecord → Bool
node_fits v = leb v.rule Rule.BACK && links_held v

-- a count from 1 to 24 and its codes, or nothing
abbrev pub sequent_end : Table → ℕ → List ℕ → ℕ → End
sequent_end t n cs at = pick (eqb n 0) (next at) (go_on (pick (in_range 1 24 n) (next (at + 1)) (stop 32 at)) (λ o. rising_end (is_code_lem t) 34 cs o))

abbrev pub node_end : Table → NodeRecord → List ℕ → ℕ → End
node_end t v cs at = pick (node_fits v) (sequent_end t v.count cs (at + 2 + link_width_lem v.rule)) (stop 33 at)

module _ (v : NodeRecord) where
  abbrev r : ℕ
  r = v.rule

  abbrev coded : Bool
  coded = not (eqb v.count 0)

  abbrev low : ℕ
  low =
      if_set_lem (stands (has_principal_lem r) v.principal) 1 + if_set_lem (stands (has_first_lem r) v.first) 2 + if_set_lem (stands (has_second_lem r) v.second) 4
      + if_set_lem (stands (has_back_lem r) v.back) 8

  abbrev bits : ℕ
  bits = low + if_set_lem coded 16

  abbrev link_bytes : List ℕ
  link_bytes =
      encode_field (stands (has_principal_lem r) v.principal) v.principal
      ++ (encode_field (stands (has_first_lem r) v.first) v.first
      ++ (encode_field (stands (has_second_lem r) v.second) v.second ++ encode_field (stands (has_back_lem r) v.back) v.back))

  abbrev code_bytes : List ℕ → List ℕ
  code_bytes cs = encode_part coded (λ (l : List ℕ). v.count ∷ encode_all encode_two l) cs

  low_small : low_map_lem r ≤ 15
  low_small = omega (arith, if_set_le (has_principal_lem r) 1, if_set_le (has_first_lem r) 2, if_set_le (has_second_lem r) 4, if_set_le (has_back_lem r) 8)

  -- no lacking field holds a value
  abbrev Nothing : Type 0
  Nothing =
      (if_set_lem (not (may_hold_lem (has_principal_lem r) v.principal)) 1 ≡ 0)
      × ((if_set_lem (not (may_hold_lem (has_first_lem r) v.first)) 2 ≡ 0)
      × ((if_set_lem (not (may_hold_lem (has_second_lem r) v.second)) 4 ≡ 0) × (if_set_lem (not (may_hold_lem (has_back_lem r) v.back)) 8 ≡ 0)))

  low_over : low ≡ low_map_lem r + (if_set_lem (not (may_hold_lem (has_principal_lem r) v.principal)) 1 + if_set_lem (not (may_hold_lem (has_first_lem r) v.first)) 2
      + if_set_lem (not (may_hold_lem (has_second_lem r) v.second)) 4 + if_set_lem (not (may_hold_lem (has_back_lem r) v.back)) 8)
  low_over =
      omega (arith, stands_over (has_principal_lem r) v.principal 1, stands_over (has_first_lem r) v.first 2, stands_over (has_second_lem r) v.second 4, stands_over (has_back_lem r) v.back 8)

  over_small : if_set_lem (not (may_hold_lem (has_principal_lem r) v.principal)) 1 + if_set_lem (not (may_hold_lem (has_first_lem r) v.first)) 2
      + if_set_lem (not (may_hold_lem (has_second_lem r) v.second)) 4 + if_set_lem (not (may_hold_lem (has_back_lem r) v.back)) 8 ≤ 15
  over_small =
      omega (
        arith,
        if_set_le (not (may_hold_lem (has_principal_lem r) v.principal)) 1,
        if_set_le (not (may_hold_lem (has_first_lem r) v.first)) 2,
        if_set_le (not (may_hold_lem (has_second_lem r) v.second)) 4,
        if_set_le (not (may_hold_lem (has_back_lem r) v.back)) 8,
      )

  fits_nothing : (c : Bool) → (low + if_set_lem c 16 ≡ low_map_lem r) ⊎ (low + if_set_lem c 16 ≡ low_map_lem r + 16) → Nothing
  fits_nothing true (inl e) = absurd (omega (arith, low_over, low_small))
  fits_nothing true (inr e) = (omega (arith, low_over), (omega (arith, low_over), (omega (arith, low_over), omega (arith, low_over))))
  fits_nothing false (inl e) = (omega (arith, low_over), (omega (arith, low_over), (omega (arith, low_over), omega (arith, low_over))))
  fits_nothing false (inr e) = absurd (omega (arith, low_over, over_small))

  nothing_fits : (c : Bool) → Nothing → (low + if_set_lem c 16 ≡ low_map_lem r) ⊎ (low + if_set_lem c 16 ≡ low_map_lem r + 16)
  nothing_fits true h = inr (omega (arith, low_over, h.0, h.1.0, h.1.1.0, h.1.1.1))
  nothing_fits false h = inl (omega (arith, low_over, h.0, h.1.0, h.1.1.0, h.1.1.1))

  -- the map fits just where none does
  map_held : eqb bits (low_map_lem r) || eqb bits (low_map_lem r + 16) ≡ links_held v
  map_held =
      same_test (tells_as (fits_nothing coded) (nothing_fits coded) (or_tells (eqb_tells bits (low_map_lem r)) (eqb_tells bits (low_map_lem r + 16))))
      (and_tells (nothing_over (may_hold_lem (has_principal_lem r) v.principal) 1 (omega arith))
      (and_tells (nothing_over (may_hold_lem (has_first_lem r) v.first) 2 (omega arith))
      (and_tells (nothing_over (may_hold_lem (has_second_lem r) v.second) 4 (omega arith)) (nothing_over (may_hold_lem (has_back_lem r) v.back) 8 (omega arith)))))

  module _ (h : node_fits v ≡ true) where
    links_held_lem : (may_hold_lem (has_principal_lem r) v.principal ≡ true)
        × ((may_hold_lem (has_first_lem r) v.first ≡ true) × ((may_hold_lem (has_second_lem r) v.second ≡ true) × (may_hold_lem (has_back_lem r) v.back ≡ true)))
    links_held_lem =
        ((and_tells (tells_self (leb r Rule.BACK)) (and_tells (tells_self (may_hold_lem (has_principal_lem r) v.principal)) (and_tells (tells_self (may_hold_lem (has_first_lem r) v.first))
        (and_tells (tells_self (may_hold_lem (has_second_lem r) v.second)) (tells_self (may_hold_lem (has_back_lem r) v.back)))))).says h).1

    abbrev fit_links : List ℕ
    fit_links =
        encode_field (has_principal_lem r) v.principal
        ++ (encode_field (has_first_lem r) v.first ++ (encode_field (has_second_lem r) v.second ++ encode_field (has_back_lem r) v.back))

    pub fit_links_lem : link_bytes ≡ fit_links
    fit_links_lem =
        rw (
          held_stands (has_principal_lem r) v.principal links_held_lem.0,
          held_stands (has_first_lem r) v.first links_held_lem.1.0,
          held_stands (has_second_lem r) v.second links_held_lem.1.1.0,
          held_stands (has_back_lem r) v.back links_held_lem.1.1.1,
        ) refl

    fit_low : low ≡ low_map_lem r
    fit_low =
        rw (
          held_stands (has_principal_lem r) v.principal links_held_lem.0,
          held_stands (has_first_lem r) v.first links_held_lem.1.0,
          held_stands (has_second_lem r) v.second links_held_lem.1.1.0,
          held_stands (has_back_lem r) v.back links_held_lem.1.1.1,
        ) refl

    -- bit 4 stands just where codes follow
    codes_follow : leb 16 bits ≡ coded
    codes_follow = go coded
      where
        go : (c : Bool) → leb 16 (low + if_set_lem c 16) ≡ c
        go true = le-leb 16 (low + 16) (omega arith)
        go false = lt-leb 16 (low + 0) (omega (arith, fit_low, low_small))

    links_read : (rest : List ℕ) (at : ℕ) → fields r (link_bytes ++ rest) at ≡ got (v.principal, (v.first, (v.second, v.back))) rest (at + link_width_lem r)
    links_read rest at =
        let (p, (f, (s, b))) = links_held_lem in
        let i : at + link_width_lem r ≡ at + if_set_lem (has_principal_lem r) 2 + if_set_lem (has_first_lem r) 2 + if_set_lem (has_second_lem r) 2 + if_set_lem (has_back_lem r) 2 = omega arith in
        let one = encode_field (has_principal_lem r) v.principal in
        let two = encode_field (has_first_lem r) v.first in
        let three = encode_field (has_second_lem r) v.second in
        let four = encode_field (has_back_lem r) v.back in
        rw (
          i,
          fit_links_lem,
          append_assoc one (two ++ (three ++ four)) rest,
          append_assoc two (three ++ four) rest,
          append_assoc three four rest,
          field_meets early (has_principal_lem r) v.principal p (two ++ ((three ++ (four ++ rest)))) at,
          field_meets early (has_first_lem r) v.first f (three ++ (four ++ rest)) (at + if_set_lem (has_principal_lem r) 2),
          field_meets early (has_second_lem r) v.second s (four ++ rest) (at + if_set_lem (has_principal_lem r) 2 + if_set_lem (has_first_lem r) 2),
          field_meets early (has_back_lem r) v.back b rest (at + if_set_lem (has_principal_lem r) 2 + if_set_lem (has_first_lem r) 2 + if_set_lem (has_second_lem r) 2),
        ) refl

-- bit 4 stands where codes follow
full_counted : (cs : List ℕ) → not (eqb (length cs) 0) ≡ full cs
full_counted [] = refl
full_counted (x ∷ cs) = ap not (ne_eqb (suc (length cs)) 0 (λ h. omega arith))

codes_encoded : (cs : List ℕ) (b : Bool) → encode_part b (λ (l : List ℕ). length cs ∷ encode_all encode_two l) cs ≡ encode_part b encode_codes cs
codes_encoded cs true = refl
codes_encoded cs false = refl

-- a record that fits has the bytes of a proof file's node
pub node_encoded : (v : NodeRecord) (cs : List ℕ) → node_fits v ≡ true → length cs ≡ v.count → node_bytes v cs ≡ encode_node (node_of_lem v cs)
node_encoded v cs fit same =
    let (p, (f, (s, b))) = links_held_lem v fit in
    rw (
      held_stands (has_principal_lem v.rule) v.principal p,
      held_stands (has_first_lem v.rule) v.first f,
      held_stands (has_second_lem v.rule) v.second s,
      held_stands (has_back_lem v.rule) v.back b,
      ← same,
      full_counted cs,
      codes_encoded cs (full cs),
    ) refl

-- a node is read as its record with its codes, or refused
module _ (t : Table) (v : NodeRecord) (cs : List ℕ) (counted : v.count ≤ 24 → length cs ≡ v.count) where
  module _ (rest : List ℕ) where
    sequent_read : (o : ℕ) → part [] (coded v) (sequent t) (code_bytes v cs ++ rest) o ≡ got_by cs rest (sequent_end t v.count cs o)
    unfolding sequent walk times
    sequent_read o = go (eqb v.count 0) refl
      where
        none : (l : List ℕ) → length l ≡ 0 → l ≡ []
        none [] h = refl
        none (x ∷ l) h = absurd (omega arith)

        codes : ℕ → List ℕ → ℕ → Got (List ℕ)
        codes n r o = times (λ c. guard (fits_from (is_code_lem t) c) 34 (two early)) (λ _ x. suc x) n 0 r o

        some : (b : Bool) → Tells b (Counts 1 24 v.count) → bind (pick b (got v.count (encode_all encode_two cs ++ rest) (suc o)) (fault 32 o)) codes
            ≡ got_by cs rest (go_on (pick b (next (o + 1)) (stop 32 o)) (λ o. rising_end (is_code_lem t) 34 cs o))
        some false T = refl
        some true T =
            let i : suc o ≡ o + 1 = omega arith in
            ap (λ (n : ℕ). codes n (encode_all encode_two cs ++ rest) (suc o)) (sym (counted (T.says refl).1))
            ∙ ap (codes (length cs) (encode_all encode_two cs ++ rest)) i
            ∙ rising_met early (is_code_lem t) 34 cs rest (o + 1)

        go : (b : Bool) → eqb v.count 0 ≡ b → part [] (not b) (sequent t) (encode_part (not b) (λ (l : List ℕ). v.count ∷ encode_all encode_two l) cs ++ rest) o
            ≡ got_by cs rest (pick b (next o) (go_on (pick (in_range 1 24 v.count) (next (o + 1)) (stop 32 o)) (λ o. rising_end (is_code_lem t) 34 cs o)))
        go true h = let z : v.count ≡ 0 = eqb-true v.count 0 h in rw (none cs (counted (omega arith) ∙ z)) refl
        go false h = some (in_range 1 24 v.count) (range_tells 1 24 v.count)

    after_links : ℕ × Bool → Got (Links × List ℕ) → Got Node
    after_links h g = via made (λ _ _. bind g (λ w t z. got (h, w) t z)) [] 0

    after_rule : Got (ℕ × Bool) → Got Node
    unfolding sequent
    after_rule g = via made (λ _ _. bind g (λ h s o. bind (seq (fields h.0) (λ _. part [] h.1 (sequent t)) s o) (λ w u z. got (h, w) u z))) [] 0

    sequent_end_lem : (e : End) → after_links (v.rule, coded v) (bind (got_by cs rest e) (λ l u z. got ((v.principal, (v.first, (v.second, v.back))), l) u z)) ≡ got_by (node_of_lem v cs) rest e
    unfolding after_links
    sequent_end_lem (next o) = refl
    sequent_end_lem (stop n q) = refl

    module _ (at : ℕ) where
      after_bits : Bool → Got Node
      unfolding after_rule
      after_bits b = after_rule (via rule_of (λ _ _. pick b (got (bits v, v.rule) ((link_bytes v ++ code_bytes v cs) ++ rest) (suc (suc at))) (fault 33 at)) [] 0)

      by_rule : (b : Bool) → node_fits v ≡ b → node t (node_bytes v cs ++ rest) at ≡ after_bits b
      unfolding after_bits node
      by_rule b h = ap after_bits (ap (λ (c : Bool). leb v.rule Rule.BACK && c) (map_held v) ∙ h)

      pub node_read : (b : Bool) → node_fits v ≡ b → node t (node_bytes v cs ++ rest) at ≡ got_by (node_of_lem v cs) rest (pick b (sequent_end t v.count cs (at + 2 + link_width_lem v.rule)) (stop 33 at))
      unfolding after_bits walk after_links
      node_read false h = by_rule false h
      node_read true h =
          let i : suc (suc at) ≡ at + 2 = omega arith in
          by_rule true h
          ∙ rw (i, append_assoc (link_bytes v) (code_bytes v cs) rest, codes_follow v h, links_read v h (code_bytes v cs ++ rest) (at + 2), sequent_read (at + 2 + link_width_lem v.rule))
          (sequent_end_lem (sequent_end t v.count cs (at + 2 + link_width_lem v.rule)))

  -- and it ends after its bytes
  sequent_past : (at o : ℕ) → sequent_end t v.count cs at ≡ next o → (o ≡ at + length (code_bytes v cs)) × (v.count ≤ 24) × (o ≤ at + 49)
  unfolding walk
  sequent_past at o h = go (eqb v.count 0) refl h
    where
      go : (b : Bool) → eqb v.count 0 ≡ b → pick b (next at) (go_on (pick (in_range 1 24 v.count) (next (at + 1)) (stop 32 at)) (λ o. rising_end (is_code_lem t) 34 cs o)) ≡ next o
          → (o ≡ at + length (encode_part (not b) (λ (l : List ℕ). v.count ∷ encode_all encode_two l) cs)) × (v.count ≤ 24) × (o ≤ at + 49)
      go true e k = let z : v.count ≡ 0 = eqb-true v.count 0 e in (omega (arith, next_same k), omega arith, omega (arith, next_same k))
      go false e k =
          let w = went (pick (in_range 1 24 v.count) (next (at + 1)) (stop 32 at)) (λ o. rising_end (is_code_lem t) 34 cs o) k in
          let (i, one) = passed (in_range 1 24 v.count) (next (at + 1)) 32 at w.first in
          let few = ((range_tells 1 24 v.count).says i).1 in
          let end = rising_past early (is_code_lem t) 34 cs w.place o w.then in
          (omega (arith, next_same one, end), few, omega (arith, next_same one, end, numbers_long cs, counted few))

  links_long : node_fits v ≡ true → length (link_bytes v) ≡ link_width_lem v.rule
  links_long h =
      let one = encode_field (has_principal_lem v.rule) v.principal in
      let two = encode_field (has_first_lem v.rule) v.first in
      let three = encode_field (has_second_lem v.rule) v.second in
      let four = encode_field (has_back_lem v.rule) v.back in
      omega (
        arith,
        ap length (fit_links_lem v h),
        length-append one (two ++ (three ++ four)),
        length-append two (three ++ four),
        length-append three four,
        field_long (has_principal_lem v.rule) v.principal,
        field_long (has_first_lem v.rule) v.first,
        field_long (has_second_lem v.rule) v.second,
        field_long (has_back_lem v.rule) v.back,
      )

  pub node_past : (at o : ℕ) → node_end t v cs at ≡ next o → (o ≡ at + length (node_bytes v cs)) × (v.count ≤ 24) × (o ≤ at + 57)
  unfolding walk
  node_past at o h =
      let (fit, on) = passed (node_fits v) (sequent_end t v.count cs (at + 2 + link_width_lem v.rule)) 33 at h in
      let (end, few, near) = sequent_past (at + 2 + link_width_lem v.rule) o on in
      (omega (arith, end, links_long fit, length-append (link_bytes v) (code_bytes v cs)), few, omega (arith, near, link_width_le v.rule))
