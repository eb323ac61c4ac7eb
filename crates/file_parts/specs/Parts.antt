-- the part of a file that lists entries or members: what the program's answer tells
use Rattle.std.specs.Prelude.{◌≡◌, List, ℕ, ◌≤◌, length, Ok, Err}
use Rattle.std.proofs.Common.{◌∙◌, arith}
use Rattle.verdict.specs.declared.Refusal.{Refusal}
use Rattle.encoding.specs.Parse.{Got, fault}
use Rattle.encoding.specs.Parsed.{Parsed}
use Rattle.encoding.specs.declared.Read.{Read}
use Rattle.encoding.specs.Walk.{Reached}

-- a list of n was read, no longer than the top, up to a place, and is stored
pub record ListRead {A : Type 0} (s : List ℕ) (limit top : ℕ) (g : Got (List A)) (Stored : List A → Type 0) (n o : ℕ) : Type 0 where
  pub list : List A
  pub many : length list ≡ n
  pub few : n ≤ top
  pub reached : Reached s limit g list o
  pub stored : Stored list

abbrev pub PartTells : {A : Type 0} → List ℕ → ℕ → ℕ → Got (List A) → (List A → Type 0) → Parsed ℕ → Type 0
PartTells s limit top g Stored (Ok r) = ListRead s limit top g Stored r.value r.next
PartTells s limit top g Stored (Err e) = g ≡ fault e.number e.place

-- what holds of the answer in an arm that knows which it is
module _ {A : Type 0} (s : List ℕ) (limit top : ℕ) {g : Got (List A)} (Stored : List A → Type 0) {r : Parsed ℕ} (t : PartTells s limit top g Stored r) where
  pub part_read : {v : Read ℕ} → r ≡ Ok v → ListRead s limit top g Stored v.value v.next
  part_read e = rw e at t

  pub part_refused : {e : Refusal ℕ} → r ≡ Err e → g ≡ fault e.number e.place
  part_refused e = rw e at t

-- said of the whole of which a part was read, up to a wider limit
pub part_as : {A : Type 0} (s : List ℕ) (top : ℕ) {limit wide : ℕ} {g whole : Got (List A)} (Stored : List A → Type 0) (r : Parsed ℕ)
    → limit ≤ wide → whole ≡ g → PartTells s limit top g Stored r → PartTells s wide top whole Stored r
part_as s top Stored (Ok r) l e t =
    record {
      list = t.list;
      many = t.many;
      few = t.few;
      reached = record { found = e ∙ t.reached.found; inside = t.reached.inside; near = omega (arith, t.reached.near) };
      stored = t.stored;
    }
part_as s top Stored (Err r) l e t = e ∙ t
