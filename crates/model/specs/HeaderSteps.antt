-- the header of a state at a place of a file that is indexed: what the program's answers tell, and the laws that they rest on
use Rattle.std.specs.Prelude.{◌≡◌, refl, ◌≢◌, List, Bool, true, false, ℕ, ◌+◌, ◌%◌, ◌<◌, ◌≤◌, length, get_or, drop, Result, Ok, Err}
use Rattle.std.proofs.Common.{sym, ap, ◌∙◌, arith, eq-eqb, ne_eqb, le-leb}
use Rattle.std.proofs.lemmas.Bool.{lt-leb}
use Rattle.encoding.specs.Places.{InFile, word_at, byte_at, byte_end, two_at, two_end}
use Rattle.encoding.specs.Parse.{fault, got, Parser, seq, part, byte, four}
use Rattle.encoding.specs.FourPlaces.{double_at, four_at, four_end}
use Rattle.encoding.specs.Sequence.{seq_stops, seq_stops_later, seq_reads}
use Rattle.encoding.specs.Walk.{Reached, guard_passes, guard_fails, guard_cut}
use Rattle.model_files.specs.ModelFile.{Form, mdl1, mdl2}
use Rattle.model_files.specs.Header.{letters_stand, list_stands, MapAndMask}
use Rattle.model_files.specs.ReadModel.{early, map_fits_lem, map, mask_fits, masked, actions, actions_fit, header}
use Rattle.verdict.specs.declared.Refusal.{Refusal}
use Rattle.model.specs.declared.header.Masked.{Masked}
use Rattle.model.specs.declared.header.Header.{Header}

-- a place of the file; those shortly after it still fit four bytes
abbrev pub InModel : List ℕ → ℕ → Type 0
InModel s at = InFile s 70000 at

-- a map that fits stands at a place, with bit 0
pub record MaskFollows (s : List ℕ) (at : ℕ) : Type 0 where
  pub here : at < length s
  pub fits : map_fits_lem (get_or s at 0) ≡ true
  pub odd : get_or s at 0 % 2 ≢ 0

abbrev pub MaskedTells : List ℕ → ℕ → Result Masked (Refusal ℕ) → Type 0
MaskedTells s at (Ok m) = Reached s (at + 5) (masked (drop at s) at) (m.map, m.mask) m.next
MaskedTells s at (Err r) = masked (drop at s) at ≡ fault r.number r.place

-- the map is told no more once the header is read
abbrev pub HeaderRead : Form → List ℕ → ℕ → ℕ → ℕ → ℕ → Type 0
HeaderRead f s at x a o = (m : ℕ) × Reached s (at + 7) (header f (drop at s) at) ((m, x), a) o

abbrev pub HeaderTells : Form → List ℕ → ℕ → Result Header (Refusal ℕ) → Type 0
HeaderTells f s at (Ok h) = HeaderRead f s at h.mask h.actions h.next
HeaderTells f s at (Err r) = header f (drop at s) at ≡ fault r.number r.place

-- map and mask are read, and bit 1 stands
abbrev pub ActionsFollow : List ℕ → ℕ → ℕ → ℕ → Type 0
ActionsFollow s at x o = (m : ℕ) × Reached s (at + 5) (masked (drop at s) at) (m, x) o × (2 ≤ m)

-- the mask in sight of the map, the map of actions in sight of both
abbrev letters : ℕ → Parser ℕ
letters m s at = part 0 (letters_stand m) (four early) s at

abbrev acts : Form → MapAndMask → Parser ℕ
acts f w s at = part 0 (list_stands w.0) (actions f) s at

part_stands : {b : Bool} (p : Parser ℕ) (s : List ℕ) (at : ℕ) → b ≡ true → part 0 b p s at ≡ p s at
part_stands p s at e = rw e refl

part_none : {b : Bool} (p : Parser ℕ) (s : List ℕ) (at : ℕ) → b ≡ false → part 0 b p s at ≡ got 0 s at
part_none p s at e = rw e refl

module _ (s : List ℕ) (at : ℕ) where
  masked_stops : {n q : ℕ} → map (drop at s) at ≡ fault n q → masked (drop at s) at ≡ fault n q
  masked_stops e = guard_cut mask_fits 63 (seq map letters) (drop at s) at (seq_stops map letters (drop at s) at e)

  pub masked_cut : at ≤ length s → length s ≤ at → masked (drop at s) at ≡ fault early (length s)
  masked_cut h k = masked_stops (guard_cut map_fits_lem 63 (byte early) (drop at s) at (byte_end early s at (omega arith)))

  module _ (inside : at < length s) where
    abbrev m : ℕ
    m = get_or s at 0

    pub masked_unfit : map_fits_lem m ≡ false → masked (drop at s) at ≡ fault 63 at
    masked_unfit e = masked_stops (guard_fails map_fits_lem 63 (byte early) (drop at s) at (byte_at early s at inside) e)

    module _ (fits : map_fits_lem m ≡ true) where
      map_read : map (drop at s) at ≡ got m (drop (at + 1) s) (at + 1)
      map_read = guard_passes map_fits_lem 63 (byte early) (drop at s) at (byte_at early s at inside) fits

      pub masked_plain : m % 2 ≡ 0 → Reached s (at + 5) (masked (drop at s) at) (m, 0) (at + 1)
      masked_plain e =
          let none : letters_stand m ≡ false = ne_eqb (m % 2) 1 (λ i. omega arith) in
          let read = seq_reads map letters (drop at s) at map_read (part_none (four early) (drop (at + 1) s) (at + 1) none) in
          record {
            found = guard_passes mask_fits 63 (seq map letters) (drop at s) at read (rw none refl);
            inside = omega arith;
            near = omega arith;
          }

  module _ (f : MaskFollows s at) where
    stands : letters_stand (get_or s at 0) ≡ true
    stands = eq-eqb (get_or s at 0 % 2) 1 (omega (arith, f.odd))

    read : map (drop at s) at ≡ got (get_or s at 0) (drop (at + 1) s) (at + 1)
    read = map_read f.here f.fits

    pub masked_short : length s < at + 5 → masked (drop at s) at ≡ fault early (length s)
    masked_short k =
        guard_cut mask_fits 63 (seq map letters) (drop at s) at
        (seq_stops_later map letters (drop at s) at read
        (part_stands (four early) (drop (at + 1) s) (at + 1) stands ∙ four_end early s (at + 1) (omega (arith, f.here)) (omega arith)))

    module _ (whole : at + 5 ≤ length s) where
      both : seq map letters (drop at s) at ≡ got (get_or s at 0, double_at s (at + 1)) (drop (at + 5) s) (at + 5)
      both =
          let e : at + 1 + 4 ≡ at + 5 = omega arith in
          seq_reads map letters (drop at s) at read
          (part_stands (four early) (drop (at + 1) s) (at + 1) stands
          ∙ four_at early s (at + 1) (omega arith)
          ∙ ap (λ (n : ℕ). got (double_at s (at + 1)) (drop n s) n) e)

      pub masked_zero : double_at s (at + 1) ≡ 0 → masked (drop at s) at ≡ fault 63 at
      masked_zero z = guard_fails mask_fits 63 (seq map letters) (drop at s) at both (rw (stands, z) refl)

      pub masked_whole : {x : ℕ} → x ≡ double_at s (at + 1) → x ≢ 0 → Reached s (at + 5) (masked (drop at s) at) (get_or s at 0, x) (at + 5)
      masked_whole {x} e n =
          let filled : mask_fits (get_or s at 0, double_at s (at + 1)) ≡ true = rw (stands, ne_eqb (double_at s (at + 1)) 0 (λ i. n (e ∙ i))) refl in
          record {
            found = guard_passes mask_fits 63 (seq map letters) (drop at s) at both filled ∙ ap (λ (y : ℕ). got (get_or s at 0, y) (drop (at + 5) s) (at + 5)) (sym e);
            inside = omega arith;
            near = omega arith;
          }

  module _ (f : Form) where
    pub header_stops : {n q : ℕ} → masked (drop at s) at ≡ fault n q → header f (drop at s) at ≡ fault n q
    header_stops e = guard_cut actions_fit 63 (seq masked (acts f)) (drop at s) at (seq_stops masked (acts f) (drop at s) at e)

    module _ {m x o : ℕ} (w : Reached s (at + 5) (masked (drop at s) at) (m, x) o) where
      -- no successors
      pub header_plain : m < 2 → HeaderRead f s at x 0 o
      header_plain l =
          let none : list_stands m ≡ false = lt-leb 2 m l in
          let read = seq_reads masked (acts f) (drop at s) at w.found (part_none (actions f) (drop o s) o none) in (
            m,
            record {
              found = guard_passes actions_fit 63 (seq masked (acts f)) (drop at s) at read (rw none refl);
              inside = w.inside;
              near = omega (arith, w.near);
            },
          )

  -- action 0 alone
  pub header_first : {m x o : ℕ} → Reached s (at + 5) (masked (drop at s) at) (m, x) o → 2 ≤ m → HeaderRead mdl1 s at x 1 o
  header_first {m} {x} {o} w two =
      let stands : list_stands m ≡ true = le-leb 2 m two in
      let read = seq_reads masked (acts mdl1) (drop at s) at w.found (part_stands (actions mdl1) (drop o s) o stands) in (
        m,
        record {
          found = guard_passes actions_fit 63 (seq masked (acts mdl1)) (drop at s) at read (rw stands refl);
          inside = w.inside;
          near = omega (arith, w.near);
        },
      )

  module _ {x o : ℕ} (w : ActionsFollow s at x o) where
    abbrev map_there : ℕ
    map_there = w.0

    listed : list_stands map_there ≡ true
    listed = le-leb 2 map_there w.2

    pub header_short : length s < o + 2 → header mdl2 (drop at s) at ≡ fault early (length s)
    header_short k =
        guard_cut actions_fit 63 (seq masked (acts mdl2)) (drop at s) at
        (seq_stops_later masked (acts mdl2) (drop at s) at w.1.found
        (part_stands (actions mdl2) (drop o s) o listed ∙ two_end early s o w.1.inside k))

    module _ (inside : o + 2 ≤ length s) where
      both_read : seq masked (acts mdl2) (drop at s) at ≡ got ((map_there, x), word_at s o) (drop (o + 2) s) (o + 2)
      both_read = seq_reads masked (acts mdl2) (drop at s) at w.1.found (part_stands (actions mdl2) (drop o s) o listed ∙ two_at early s o (omega arith))

      pub header_zero : word_at s o ≡ 0 → header mdl2 (drop at s) at ≡ fault 63 at
      header_zero z = guard_fails actions_fit 63 (seq masked (acts mdl2)) (drop at s) at both_read (rw (listed, z) refl)

      pub header_whole : {a : ℕ} → a ≡ word_at s o → a ≢ 0 → HeaderRead mdl2 s at x a (o + 2)
      header_whole {a} e n = (
        map_there,
        record {
          found =
              guard_passes actions_fit 63 (seq masked (acts mdl2)) (drop at s) at both_read (rw (listed, ne_eqb (word_at s o) 0 (λ i. n (e ∙ i))) refl)
              ∙ ap (λ (y : ℕ). got ((map_there, x), y) (drop (o + 2) s) (o + 2)) (sym e);
          inside = inside;
          near = omega (arith, w.1.near);
        },
      )
