-- the entries of a claim's records, read: each as the writer spells it, or where it is refused
use Rattle.std.specs.Prelude.{◌≡◌, List, [], ◌∷◌, ◌++◌, Bool, not, ◌&&◌, ◌||◌, ℕ, suc, ◌+◌, ◌*◌, ◌≤◌, eqb, length}
use Rattle.std.proofs.Math.Path.{refl, ap}
use Rattle.std.proofs.Common.{sym, ◌∙◌, append_assoc, arith, length-append}
use Rattle.std.proofs.Math.Bool.{true, false}
use Rattle.std.proofs.lemmas.Bool.{false≢true}
use Rattle.std.proofs.Math.Dec.{leb}
use Rattle.verdict.specs.Tells.{tells_self, and_tells}
use Rattle.verdict.specs.Tests.{choose}
use Rattle.bits.specs.IfSet.{if_set_lem, if_set_le}
use Rattle.formula.specs.Kind
use Rattle.formula.specs.Table.{Entry, Table}
use Rattle.formula.specs.Spelled.{Spelled, a_stands_lem, b_stands_lem}
use Rattle.formula.specs.Claim.{Form, fewest}
use Rattle.formula.specs.Fields.{has_a_lem, has_b, is_modal_lem, map_of}
use Rattle.encoding.specs.Encode.{encode_field, encode_all, Counts}
use Rattle.encoding.specs.ListLaws.{range_tells}
use Rattle.encoding.specs.Parse.{Got, fault, got, pick, bind, via, in_range}
use Rattle.claim_files.specs.ClaimFile.{encode_entry}
use Rattle.claim_files.specs.ReadClaim.{early, kind_fits, fields, made, entry}
use Rattle.writing.specs.RecordBytes.{stands, entry_bytes, table_bytes}
use Rattle.writing.specs.Spelling.{map_for_lem, spelled_as, modal_fields, bits_stand}
use Rattle.writing.specs.Ends.{End, next, stop, go_on, walk, got_by, stop_not_next, passed, went, next_same, Meets, walk_past}
use Rattle.writing.specs.FieldEnds.{field_meets, field_long, may_hold_lem, held_stands, stands_held, count_end}

-- a field that the kind lacks holds 0; B of a box or diamond is its action
abbrev pub entry_fits_lem : Entry → Bool
entry_fits_lem e = leb e.kind Kind.NAME && (may_hold_lem (has_a_lem e.kind) e.a && may_hold_lem (has_b e.kind || is_modal_lem e.kind) e.b)

-- map and kind, and two bytes for each field whose bit stands
abbrev pub entry_width_lem : ℕ → ℕ → ℕ
entry_width_lem k b = 2 + (if_set_lem (a_stands_lem (map_for_lem k b)) 2 + if_set_lem (b_stands_lem (map_for_lem k b)) 2)

abbrev pub entry_end : ℕ → Entry → ℕ → End
entry_end c e at = pick (entry_fits_lem e) (next (at + entry_width_lem e.kind e.b)) (stop 13 at)

pub fields_held : (e : Entry) → entry_fits_lem e ≡ true → (may_hold_lem (has_a_lem e.kind) e.a ≡ true) × (may_hold_lem (has_b e.kind || is_modal_lem e.kind) e.b ≡ true)
fields_held e h =
    ((and_tells (tells_self (leb e.kind Kind.NAME)) (and_tells (tells_self (may_hold_lem (has_a_lem e.kind) e.a)) (tells_self (may_hold_lem (has_b e.kind || is_modal_lem e.kind) e.b)))).says h).1

-- an entry is read as the writer spells its record, or refused at its map
module _ (e : Entry) where
  abbrev a_bit : Bool
  a_bit = stands (has_a_lem e.kind) e.a

  abbrev b_bit : Bool
  b_bit = stands (has_b e.kind) e.b

  abbrev bits : ℕ
  bits = if_set_lem a_bit 1 + if_set_lem b_bit 2

  -- the map fits just where no lacking field holds a value
  map_held : eqb bits (map_of e.kind) || (is_modal_lem e.kind && eqb bits 3) ≡ may_hold_lem (has_a_lem e.kind) e.a && may_hold_lem (has_b e.kind || is_modal_lem e.kind) e.b
  map_held = by (is_modal_lem e.kind) refl
    where
      -- has A, its value is 0; has B, its value is 0
      go : (p w q z : Bool) → eqb (if_set_lem (p || not w) 1 + if_set_lem (q || not z) 2) (if_set_lem p 1 + if_set_lem q 2) || false ≡ (p || w) && ((q || false) || z)
      go true w true z = refl
      go true w false true = refl
      go true w false false = refl
      go false true true z = refl
      go false true false true = refl
      go false true false false = refl
      go false false true z = refl
      go false false false true = refl
      go false false false false = refl

      acting : (z : Bool) → eqb (1 + if_set_lem (not z) 2) 1 || eqb (1 + if_set_lem (not z) 2) 3 ≡ true
      acting true = refl
      acting false = refl

      by : (m : Bool) → is_modal_lem e.kind ≡ m → eqb bits (map_of e.kind) || (m && eqb bits 3) ≡ may_hold_lem (has_a_lem e.kind) e.a && may_hold_lem (has_b e.kind || m) e.b
      by false h = go (has_a_lem e.kind) (eqb e.a 0) (has_b e.kind) (eqb e.b 0)
      by true h = let (p, q) = modal_fields e.kind h in rw (p, q) (acting (eqb e.b 0))

  -- then it is the map that the writer gives
  map_for : entry_fits_lem e ≡ true → bits ≡ map_for_lem e.kind e.b
  map_for h =
      let (p, q) = fields_held e h in
      ap (λ (b : Bool). if_set_lem b 1 + if_set_lem b_bit 2) (held_stands (has_a_lem e.kind) e.a p) ∙ by (is_modal_lem e.kind) refl q
    where
      go : (p q z : Bool) → (q || false) || z ≡ true → if_set_lem p 1 + if_set_lem (q || not z) 2 ≡ if_set_lem p 1 + if_set_lem q 2
      go p true z h = refl
      go p false true h = refl
      go p false false h = absurd (false≢true h)

      acting : (z : Bool) → 1 + if_set_lem (not z) 2 ≡ choose (not z) 3 1
      acting true = refl
      acting false = refl

      by : (m : Bool) → is_modal_lem e.kind ≡ m → may_hold_lem (has_b e.kind || m) e.b ≡ true → if_set_lem (has_a_lem e.kind) 1 + if_set_lem b_bit 2 ≡ choose (m && not (eqb e.b 0)) 3 (map_of e.kind)
      by false h k = go (has_a_lem e.kind) (has_b e.kind) (eqb e.b 0) k
      by true h k = let (p, q) = modal_fields e.kind h in rw (p, q) (acting (eqb e.b 0))

  -- a record that fits has the bytes of a claim file's entry
  pub entry_encoded : entry_fits_lem e ≡ true → entry_bytes e ≡ encode_entry (spelled_as e)
  entry_encoded h =
      let (p, q) = bits_stand a_bit b_bit in
      rw (← (map_for h), p, q) refl

  width_is : (at : ℕ) → entry_fits_lem e ≡ true → at + entry_width_lem e.kind e.b ≡ suc (suc at) + if_set_lem a_bit 2 + if_set_lem b_bit 2
  width_is at h =
      let (p, q) = bits_stand a_bit b_bit in
      rw (← (map_for h), p, q) (omega arith)

  module _ (rest : List ℕ) (at : ℕ) where
    abbrev left : List ℕ
    left = encode_field a_bit e.a ++ encode_field b_bit e.b

    after_kind : Got (ℕ × ℕ) → Got Spelled
    after_kind g = via made (λ _ _. bind g (λ p r o. bind (fields p.0 r o) (λ v t z. got (p, v) t z))) [] 0

    fields_read : fields bits (left ++ rest) (suc (suc at)) ≡ got (e.a, e.b) rest (suc (suc at) + if_set_lem a_bit 2 + if_set_lem b_bit 2)
    fields_read =
        let (p, q) = bits_stand a_bit b_bit in
        rw (
          p,
          q,
          append_assoc (encode_field a_bit e.a) (encode_field b_bit e.b) rest,
          field_meets early a_bit e.a (stands_held (has_a_lem e.kind) e.a) (encode_field b_bit e.b ++ rest) (suc (suc at)),
          field_meets early b_bit e.b (stands_held (has_b e.kind) e.b) rest (suc (suc at) + if_set_lem a_bit 2),
        ) refl

    by_kind : (b : Bool) → entry_fits_lem e ≡ b → entry (entry_bytes e ++ rest) at ≡ after_kind (pick b (got (bits, e.kind) (left ++ rest) (suc (suc at))) (fault 13 at))
    unfolding after_kind
    by_kind b h =
        let i : kind_fits (bits, e.kind) ≡ b = ap (λ (c : Bool). leb e.kind Kind.NAME && c) map_held ∙ h in
        ap (λ (c : Bool). after_kind (pick c (got (bits, e.kind) (left ++ rest) (suc (suc at))) (fault 13 at))) i

    entry_read : (b : Bool) → entry_fits_lem e ≡ b → entry (entry_bytes e ++ rest) at ≡ got_by (spelled_as e) rest (pick b (next (at + entry_width_lem e.kind e.b)) (stop 13 at))
    unfolding after_kind
    entry_read false h = by_kind false h
    entry_read true h = by_kind true h ∙ rw (fields_read, width_is at h) (ap (λ (m : ℕ). got (made ((m, e.kind), (e.a, e.b))) rest (suc (suc at) + if_set_lem a_bit 2 + if_set_lem b_bit 2)) (map_for h))

  entry_past : (at o : ℕ) (b : Bool) → entry_fits_lem e ≡ b → pick b (next (at + entry_width_lem e.kind e.b)) (stop 13 at) ≡ next o → o ≡ at + length (entry_bytes e)
  entry_past at o false h k = absurd (stop_not_next k)
  entry_past at o true h k =
      let i : at + entry_width_lem e.kind e.b ≡ o = cc k in
      omega (arith, width_is at h, length-append (encode_field a_bit e.a) (encode_field b_bit e.b), field_long a_bit e.a, field_long b_bit e.b)

pub entry_meets : (c : ℕ) (e : Entry) → Meets entry entry_bytes spelled_as (entry_end c) e
entry_meets c e = record { reads = λ rest at. entry_read e rest at (entry_fits_lem e) refl; past = λ at o h. entry_past e at o (entry_fits_lem e) refl h }

abbrev pub entries_end : Table → ℕ → End
entries_end es at = walk entry_end (λ _ _. 0) 0 es at

-- the entry count of the form, then the entries
abbrev pub table_end : Form → ℕ → Table → ℕ → End
table_end f n es at = go_on (count_end (fewest f) 256 12 n at) (λ o. entries_end es o)

-- a table that passes ends after its bytes; one that does not is refused by 12 or 13
pub table_past : (f : Form) (n : ℕ) (es : Table) (o : ℕ) → table_end f n es 4 ≡ next o → Counts (fewest f) 256 n × (o ≡ 4 + length (table_bytes n es))
unfolding walk
table_past f n es o h =
    let some = went (count_end (fewest f) 256 12 n 4) (λ o. entries_end es o) h in
    let (a, six) = passed (in_range (fewest f) 256 n) (next 6) 12 4 some.first in
    let end = walk_past (λ _. entry) (λ _ _. 0) entry_bytes spelled_as entry_end (λ _ _. 0) (λ c x. refl) entry_meets es 0 some.place o some.then in
    ((range_tells (fewest f) 256 n).says a, omega (arith, next_same six, end))

pub table_refused : (f : Form) (n : ℕ) (es : Table) {m q : ℕ} → table_end f n es 4 ≡ stop m q → (12 ≤ m) × (m ≤ 13)
unfolding walk
table_refused f n es {m} {q} h = by_count (in_range (fewest f) 256 n) h
  where
    by_entries : (es : Table) (at : ℕ) → entries_end es at ≡ stop m q → m ≡ 13
    by_entries [] at h = absurd (stop_not_next (sym h))
    by_entries (e ∷ es) at h = go (entry_fits_lem e) (by_entries es (at + entry_width_lem e.kind e.b)) h
      where
        go : (b : Bool) → (entries_end es (at + entry_width_lem e.kind e.b) ≡ stop m q → m ≡ 13)
            → go_on (pick b (next (at + entry_width_lem e.kind e.b)) (stop 13 at)) (λ o. entries_end es o) ≡ stop m q → m ≡ 13
        go false later h = cc h
        go true later h = later h

    by_count : (b : Bool) → go_on (pick b (next 6) (stop 12 4)) (λ o. entries_end es o) ≡ stop m q → (12 ≤ m) × (m ≤ 13)
    by_count false h = let i : 12 ≡ m = cc h in (omega arith, omega arith)
    by_count true h = let i : m ≡ 13 = by_entries es 6 h in (omega arith, omega arith)

-- a table's entries take at most six bytes each
entry_near : (e : Entry) → length (entry_bytes e) ≤ 6
entry_near e =
    omega (
      arith,
      length-append (encode_field (a_bit e) e.a) (encode_field (b_bit e) e.b),
      field_long (a_bit e) e.a,
      field_long (b_bit e) e.b,
      if_set_le (a_bit e) 2,
      if_set_le (b_bit e) 2,
    )

pub entries_near : (es : Table) → length (encode_all entry_bytes es) ≤ 6 * length es
unfolding encode_all
entries_near [] = omega arith
entries_near (e ∷ es) = omega (arith, length-append (entry_bytes e) (encode_all entry_bytes es), entry_near e, entries_near es)
