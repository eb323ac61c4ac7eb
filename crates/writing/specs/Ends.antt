-- a walk over records in sight of the file that they make: where it ends, or where the reader refuses the file
use Rattle.std.specs.Prelude.{◌≡◌, Bool, true, false, ℕ, zero, suc, ◌+◌}
use Rattle.std.proofs.Math.Path.{refl, ap}
use Rattle.std.proofs.Common.{◌∙◌}
use mathlib.Core.List.{List, [], ◌∷◌, ◌++◌, map, append_assoc}
use native.Mathlib.Omega.{arith}
use Rattle.std.proofs.Math.ListN.{length, length-append}
use Rattle.std.proofs.Math.Seq.{drop-append_seam}
use Rattle.encoding.specs.Encode.{encode_all}
use Rattle.encoding.specs.File.{Reading, refused, good, ending, read_file}
use Rattle.encoding.specs.Opening.{opens_tells}
use Rattle.encoding.specs.Walk.{file_opens}
use Rattle.encoding.specs.Parse.{Got, fault, got, Parser, pick, bind, times}

-- the place after what was walked over, or a refusal
pub data End : Type 0 where
  next : ℕ → End
  stop : ℕ → ℕ → End

abbrev pub go_on : End → (ℕ → End) → End
go_on (next o) f = f o
go_on (stop n q) f = stop n q

-- a file that stops where so many things are to follow is whole, if there are none
abbrev pub cut_end : ℕ → ℕ → ℕ → End
cut_end early zero at = next at
cut_end early (suc k) at = stop early at

-- records one after the other, each in sight of a number that the one before sets
unfoldable pub walk : {A : Type 0} → (ℕ → A → ℕ → End) → (ℕ → A → ℕ) → ℕ → List A → ℕ → End
walk step set c [] at = next at
walk step set c (x ∷ l) at = go_on (step c x at) (λ o. walk step set (set c x) l o)

-- what the reader gets of a value's bytes
abbrev pub got_by : {A : Type 0} → A → List ℕ → End → Got A
got_by x rest (next o) = got x rest o
got_by x rest (stop n q) = fault n q

abbrev pub read_by : {A : Type 0} → A → End → Reading A
read_by x (next o) = good x
read_by x (stop n q) = refused n q

-- a file that opens as it should is read from the fifth byte on
pub after_opening : {A : Type 0} (opening : List ℕ) (number early : ℕ) (body : Parser A) (s : List ℕ) → length opening ≡ 4
    → read_file opening number early body (opening ++ s) ≡ ending early (body s 4)
unfolding read_file
after_opening opening number early body s long =
    file_opens opening number early body (opening ++ s) ((opens_tells opening (opening ++ s)).holds (s, refl)) ∙ rw (drop-append_seam opening s, long) refl

is_stop : End → ℕ
is_stop (next o) = 0
is_stop (stop n q) = 1

pub stop_not_next : {n q o : ℕ} → stop n q ≡ next o → ⊥
unfolding is_stop
stop_not_next h = let z : ◌≡◌ {A = ℕ} 1 0 = ap is_stop h in omega arith

-- what passed a test, and what went on
pub passed : (b : Bool) (e : End) (n q : ℕ) {o : ℕ} → pick b e (stop n q) ≡ next o → (b ≡ true) × (e ≡ next o)
passed true e n q h = (refl, h)
passed false e n q h = absurd (stop_not_next h)

pub record Went (e : End) (f : ℕ → End) (o : ℕ) : Type 0 where
  pub place : ℕ
  pub first : e ≡ next place
  pub then : f place ≡ next o

pub went : (e : End) (f : ℕ → End) {o : ℕ} → go_on e f ≡ next o → Went e f o
went (next u) f h = record { place = u; first = refl; then = h }
went (stop n q) f h = absurd (stop_not_next h)

pub next_same : {o u : ℕ} → next o ≡ next u → o ≡ u
next_same h = cc h

-- a parser meets the bytes of a value as the step says, whatever follows them; past it is the place after the bytes
pub record Meets {A B : Type 0} (p : Parser B) (bytes : A → List ℕ) (value : A → B) (step : A → ℕ → End) (x : A) : Type 0 where
  pub reads : (rest : List ℕ) (at : ℕ) → p (bytes x ++ rest) at ≡ got_by (value x) rest (step x at)
  pub past : (at o : ℕ) → step x at ≡ next o → o ≡ at + length (bytes x)

module _ {A B : Type 0} (p : ℕ → Parser B) (set_read : ℕ → B → ℕ) (bytes : A → List ℕ) (value : A → B) (step : ℕ → A → ℕ → End) (set : ℕ → A → ℕ)
    (same : (c : ℕ) (x : A) → set_read c (value x) ≡ set c x) (meets : (c : ℕ) (x : A) → Meets (p c) bytes value (step c) x) where
  then_rest : ℕ → List A → Got B → Got (List B)
  unfolding times
  then_rest c l g = bind g (λ y r o. bind (times p set_read (length l) (set_read c y) r o) (λ m t z. got (y ∷ m) t z))

  -- so many values are read as the walk over them says
  pub times_walk : (l : List A) (c : ℕ) (rest : List ℕ) (at : ℕ) → times p set_read (length l) c (encode_all bytes l ++ rest) at ≡ got_by (map value l) rest (walk step set c l at)
  unfolding times walk encode_all then_rest
  times_walk [] c rest at = refl
  times_walk (x ∷ l) c rest at =
      ap (λ (s : List ℕ). then_rest c l (p c s at)) (append_assoc (bytes x) (encode_all bytes l) rest)
      ∙ ap (then_rest c l) ((meets c x).reads (encode_all bytes l ++ rest) at)
      ∙ go (λ o. times_walk l (set c x) rest o) (step c x at)
    where
      onto : (e : End) → bind (got_by (map value l) rest e) (λ m t z. got (value x ∷ m) t z) ≡ got_by (value x ∷ map value l) rest e
      onto (next o) = refl
      onto (stop n q) = refl

      go : ((o : ℕ) → times p set_read (length l) (set c x) (encode_all bytes l ++ rest) o ≡ got_by (map value l) rest (walk step set (set c x) l o))
          → (e : End) → bind (got_by (value x) (encode_all bytes l ++ rest) e) (λ y r o. bind (times p set_read (length l) (set_read c y) r o) (λ m t z. got (y ∷ m) t z))
          ≡ got_by (value x ∷ map value l) rest (go_on e (λ o. walk step set (set c x) l o))
      go more (stop n q) = refl
      go more (next o) = rw (same c x, more o) (onto (walk step set (set c x) l o))

  -- and the walk ends after their bytes
  pub walk_past : (l : List A) (c at o : ℕ) → walk step set c l at ≡ next o → o ≡ at + length (encode_all bytes l)
  unfolding walk encode_all
  walk_past [] c at o h = let e : at ≡ o = cc h in omega arith
  walk_past (x ∷ l) c at o h = go (λ u k. walk_past l (set c x) u o k) (step c x at) refl h
    where
      go : ((u : ℕ) → walk step set (set c x) l u ≡ next o → o ≡ u + length (encode_all bytes l))
          → (e : End) → step c x at ≡ e → go_on e (λ o. walk step set (set c x) l o) ≡ next o → o ≡ at + length (bytes x ++ encode_all bytes l)
      go more (stop n q) s k = absurd (stop_not_next k)
      go more (next u) s k = omega (arith, (meets c x).past at u s, more u k, length-append (bytes x) (encode_all bytes l))
