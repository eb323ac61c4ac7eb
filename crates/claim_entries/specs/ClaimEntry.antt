-- an entry at a place of a claim file, as the program reads it
use Rattle.std.specs.Prelude.{◌≡◌, refl, List, Bool, true, false, not, ◌&&◌, ◌||◌, ℕ, ◌+◌, ◌-◌, ◌<◌, ◌≤◌, eqb, length, get_or, drop, Ok, Err, Result}
use Rattle.std.proofs.Common.{sym, ◌∙◌, arith}
use Rattle.std.proofs.Math.Path.{ap}
use borrow.Author.Tests.{le-leb, lt-leb, eq-eqb, ne_eqb, not-true, not-false}
use Rattle.formula.specs.Kind
use Rattle.verdict.specs.Tests.{choose}
use Rattle.formula.specs.Fields.{is_modal_lem, map_of}
use Rattle.formula.specs.Spelled.{Spelled, a_stands_lem, b_stands_lem, marked}
use Rattle.verdict.specs.declared.Refusal.{Refusal}
use Rattle.encoding.specs.Parse.{Got, fault, got, bind, bytes, field}
use Rattle.encoding.specs.Places.{bytes_at, bytes_end, InFile}
use Rattle.claim_files.specs.ReadClaim.{early, kind_fits, map_and_kind, fields, made, entry}
use Rattle.encoding.specs.Walk.{Reached, guard_passes, guard_fails, guard_cut}
use Rattle.file_parts.specs.Numbers.{field_at}
use Rattle.claim_entries.specs.declared.HeldEntry.{HeldEntry}

unfoldable pub entry_at : List ℕ → ℕ → Got Spelled
entry_at s at = entry (drop at s) at

-- an entry is read, and held as these fields
pub record EntryGot (s : List ℕ) (limit : ℕ) (g : Got Spelled) (k a b o : ℕ) : Type 0 where
  pub entry : Spelled
  pub reached : Reached s limit g entry o
  pub held : marked entry ≡ record { kind = k; a = a; b = b }

abbrev pub EntryTells : List ℕ → ℕ → Got Spelled → Result HeldEntry (Refusal ℕ) → Type 0
EntryTells s limit g (Ok r) = EntryGot s limit g r.kind r.a r.b r.next
EntryTells s limit g (Err e) = g ≡ fault e.number e.place

-- what holds of the answer in an arm that knows which it is
module _ (s : List ℕ) (limit : ℕ) {g : Got Spelled} {r : Result HeldEntry (Refusal ℕ)} (t : EntryTells s limit g r) where
  pub entry_read : {v : HeldEntry} → r ≡ Ok v → EntryGot s limit g v.kind v.a v.b v.next
  entry_read e = rw e at t

  pub entry_refused : {e : Refusal ℕ} → r ≡ Err e → g ≡ fault e.number e.place
  entry_refused e = rw e at t

-- the fields that follow a map and kind
after_kind : Got (ℕ × ℕ) → Got Spelled
after_kind g = bind g (λ k r o. bind (fields k.0 r o) (λ w t z. got (made (k, w)) t z))

after_kind_is : (s : List ℕ) (at : ℕ) → entry_at s at ≡ after_kind (map_and_kind (drop at s) at)
unfolding entry_at after_kind
after_kind_is s at = go (map_and_kind (drop at s) at)
  where
    go : (g : Got (ℕ × ℕ)) → bind (bind g (λ k r o. bind (fields k.0 r o) (λ w t z. got (k, w) t z))) (λ p r o. got (made p) r o) ≡ after_kind g
    go (fault n q) = refl
    go (got k r o) = again (fields k.0 r o)
      where
        again : (h : Got (ℕ × ℕ)) → bind (bind h (λ w t z. got (k, w) t z)) (λ p r o. got (made p) r o) ≡ bind h (λ w t z. got (made (k, w)) t z)
        again (fault n q) = refl
        again (got w t z) = refl

-- then B
after_a : ℕ × ℕ → ℕ → Got ℕ → Got Spelled
after_a k a g = bind g (λ b t z. got (made (k, (a, b))) t z)

after_a_is : (k : ℕ × ℕ) (a : ℕ) (g : Got ℕ) → bind (bind g (λ b t z. got (a, b) t z)) (λ w t z. got (made (k, w)) t z) ≡ after_a k a g
unfolding after_a
after_a_is k a (fault n q) = refl
after_a_is k a (got b t z) = refl

module _ (s : List ℕ) (at : ℕ) {limit : ℕ} (p : InFile s limit at) where
  pub entry_cut : length s - at < 2 → entry_at s at ≡ fault early (length s)
  unfolding after_kind
  entry_cut h = after_kind_is s at ∙ ap after_kind (guard_cut kind_fits 13 (bytes early) (drop at s) at (bytes_end early s at p.within (omega arith)))

  -- with the answers of the tests on map and kind
  module _ (h : 2 ≤ length s - at) {fit : Bool} (test : fit ≡ kind_fits (get_or s at 0, get_or s (at + 1) 0)) where
    abbrev k : ℕ × ℕ
    k = (get_or s at 0, get_or s (at + 1) 0)

    pub entry_unfit : not fit ≡ true → entry_at s at ≡ fault 13 at
    unfolding after_kind
    entry_unfit u =
        after_kind_is s at ∙ ap after_kind (guard_fails kind_fits 13 (bytes early) (drop at s) at (bytes_at early s at (omega arith)) (sym test ∙ not-true fit u))

    module _ (f : not fit ≡ false) {a_stands : Bool} (has_a : a_stands ≡ a_stands_lem (get_or s at 0)) where
      abbrev from_a : Got ℕ → Got Spelled
      from_a g = bind (bind g (λ a r o. bind (field early (b_stands_lem k.0) r o) (λ b t z. got (a, b) t z))) (λ w t z. got (made (k, w)) t z)

      fields_read : entry_at s at ≡ from_a (field_at early a_stands s (at + 2))
      unfolding after_kind field_at
      fields_read =
          let e = guard_passes kind_fits 13 (bytes early) (drop at s) at (bytes_at early s at (omega arith)) (sym test ∙ not-false fit f) in
          after_kind_is s at ∙ ap after_kind e ∙ ap (λ (b : Bool). from_a (field early b (drop (at + 2) s) (at + 2))) (sym has_a)

      pub entry_a_cut : {n q : ℕ} → field_at early a_stands s (at + 2) ≡ fault n q → entry_at s at ≡ fault n q
      entry_a_cut e = fields_read ∙ ap from_a e

      module _ {a o : ℕ} (x : Reached s (at + 2 + 2) (field_at early a_stands s (at + 2)) a o) {b_stands : Bool} (has_b_lem : b_stands ≡ b_stands_lem (get_or s at 0)) where
        b_read : entry_at s at ≡ after_a k a (field_at early b_stands s o)
        unfolding field_at
        b_read =
            fields_read ∙ ap from_a x.found ∙ after_a_is k a (field early (b_stands_lem k.0) (drop o s) o)
            ∙ ap (λ (b : Bool). after_a k a (field early b (drop o s) o)) (sym has_b_lem)

        pub entry_b_cut : {n q : ℕ} → field_at early b_stands s o ≡ fault n q → entry_at s at ≡ fault n q
        unfolding after_a
        entry_b_cut e = b_read ∙ ap (after_a k a) e

        pub entry_whole : {b z : ℕ} → Reached s (o + 2) (field_at early b_stands s o) b z
            → {r : ℕ} → r ≡ choose (is_modal_lem (get_or s (at + 1) 0) && (b_stands && eqb b 0)) 65535 b → EntryGot s (at + 6) (entry_at s at) (get_or s (at + 1) 0) a r z
        unfolding after_a
        entry_whole {b} y h = record {
          entry = made (k, (a, b));
          reached = record { found = b_read ∙ ap (after_a k a) y.found; inside = y.inside; near = omega (arith, x.near, y.near) };
          held = rw (h, has_b_lem) refl;
        }

-- a kind that is not known fits no map
pub kind_unknown : (map : ℕ) {k : ℕ} → Kind.NAME < k → false ≡ kind_fits (map, k)
kind_unknown map {k} h = rw (lt-leb k Kind.NAME h) refl

-- the map of the kind
pub kind_known : (map : ℕ) {k m : ℕ} → k ≤ Kind.NAME → m ≡ map_of k → map ≡ m → true ≡ kind_fits (map, k)
kind_known map {k} h e q = go _ _ _ (le-leb k Kind.NAME h) (eq-eqb map (map_of k) (q ∙ e))
  where
    go : (a b c : Bool) → a ≡ true → b ≡ true → true ≡ (a && (b || c))
    go a b c p q = rw (p, q) refl

-- another: a box or diamond with B
pub kind_acting : (map : ℕ) {k m : ℕ} {modal : Bool} → k ≤ Kind.NAME → m ≡ map_of k → (map ≡ m → ⊥) → modal ≡ is_modal_lem k → (modal && eqb map 3) ≡ kind_fits (map, k)
kind_acting map {k} h e n q = ap (λ (b : Bool). b && eqb map 3) q ∙ go _ _ _ (le-leb k Kind.NAME h) (ne_eqb map (map_of k) (λ z. n (z ∙ sym e)))
  where
    go : (a b c : Bool) → a ≡ true → b ≡ false → c ≡ (a && (b || c))
    go a b c p q = rw (p, q) refl

-- what is held of B: itself where it is not 0, or does not stand; else by the kind
pub held_other : (k : ℕ) (stands : Bool) {b : ℕ} → (b ≡ 0 → ⊥) → b ≡ choose (is_modal_lem k && (stands && eqb b 0)) 65535 b
held_other k stands {b} n = rw (ne_eqb b 0 n) (go (is_modal_lem k) stands)
  where
    go : (m s : Bool) → b ≡ choose (m && (s && false)) 65535 b
    go true true = refl
    go true false = refl
    go false s = refl

pub held_absent : (k : ℕ) (stands : Bool) {b : ℕ} → not stands ≡ true → b ≡ choose (is_modal_lem k && (stands && eqb b 0)) 65535 b
held_absent k stands {b} h = rw (not-true stands h) (go (is_modal_lem k))
  where
    go : (m : Bool) → b ≡ choose (m && false) 65535 b
    go true = refl
    go false = refl

pub held_kind : (k : ℕ) (stands : Bool) {b : ℕ} {modal : Bool} → b ≡ 0 → not stands ≡ false → modal ≡ is_modal_lem k
    → choose modal 65535 b ≡ choose (is_modal_lem k && (stands && eqb b 0)) 65535 b
held_kind k stands {b} e h q = ap (λ (m : Bool). choose m 65535 b) q ∙ rw (not-false stands h, eq-eqb b 0 e) (go (is_modal_lem k))
  where
    go : (m : Bool) → choose m 65535 b ≡ choose (m && true) 65535 b
    go true = refl
    go false = refl
