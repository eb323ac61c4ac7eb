-- a program's walk over a file that it indexes: what it has found at a place, the list that it has read so far, the file's beginning and end
use Rattle.std.specs.Prelude.{◌≡◌, Bool, true, false, ◌&&◌, ℕ, suc, ◌+◌, ◌-◌, ◌<◌, ◌≤◌, eqb, length, drop}
use Rattle.std.proofs.Math.Path.{refl, ap}
use Rattle.std.proofs.Common.{sym, ◌∙◌}
use mathlib.Core.List.{List, [], ◌∷◌, ◌++◌, append-nil, append_assoc}
use native.Mathlib.Omega.{arith}
use Rattle.std.proofs.Math.ListN.{length-append}
use Rattle.encoding.specs.Parse.{Got, fault, got, Parser, pick, bind, guard, letters, times, counted}
use Rattle.encoding.specs.File.{refused, good, ending, read_file}
use Rattle.encoding.specs.GotLaws.{bind_got, pick_got}
use Rattle.encoding.specs.Places.{drop_all, drop_some}
use Rattle.encoding.specs.Opening.{opens}

-- a value was read, up to a place of the file that is not past a limit
pub record Reached {A : Type 0} (s : List ℕ) (limit : ℕ) (g : Got A) (x : A) (o : ℕ) : Type 0 where
  pub found : g ≡ got x (drop o s) o
  pub inside : o ≤ length s
  pub near : o ≤ limit

-- a value that passes its test, and one that does not
module _ {A : Type 0} (ok : A → Bool) (n : ℕ) (p : Parser A) (s : List ℕ) (at : ℕ) {x : A} {r : List ℕ} {o : ℕ} (h : p s at ≡ got x r o) where
  pub guard_passes : ok x ≡ true → guard ok n p s at ≡ got x r o
  guard_passes k = rw (h, k) refl

  pub guard_fails : ok x ≡ false → guard ok n p s at ≡ fault n at
  guard_fails k = rw (h, k) refl

pub guard_cut : {A : Type 0} (ok : A → Bool) (n : ℕ) (p : Parser A) (s : List ℕ) (at : ℕ) {m q : ℕ} → p s at ≡ fault m q → guard ok n p s at ≡ fault m q
guard_cut ok n p s at h = rw h refl

-- a list that was read before stands in front of what is read next
unfoldable pub onto : {A : Type 0} → List A → Got (List A) → Got (List A)
onto l (fault n q) = fault n q
onto l (got m t z) = got (l ++ m) t z

module _ {A : Type 0} (p : ℕ → Parser A) (next : ℕ → A → ℕ) where
  -- i of n values are read; they are l, and the rest of what the whole will be is read in sight of c from the place at on
  pub record Walking (whole : Got (List A)) (n i : ℕ) (l : List A) (c : ℕ) (s : List ℕ) (at : ℕ) : Type 0 where
    pub ahead : whole ≡ onto l (times p next (n - i) c s at)
    pub many : length l ≡ i

  onto_none : (g : Got (List A)) → g ≡ onto [] g
  unfolding onto
  onto_none (fault n q) = refl
  onto_none (got m t z) = refl

  pub walk_begins : (n c : ℕ) (s : List ℕ) (at : ℕ) → Walking (times p next n c s at) n 0 [] c s at
  walk_begins n c s at = record { ahead = onto_none (times p next n c s at) ∙ ap (λ (k : ℕ). onto [] (times p next k c s at)) (omega arith); many = refl }

  onto_more : (l : List A) (x : A) (g : Got (List A)) → onto l (bind g (λ m t z. got (x ∷ m) t z)) ≡ onto (l ++ (x ∷ [])) g
  unfolding onto
  onto_more l x (fault n q) = refl
  onto_more l x (got m t z) = ap (λ (u : List A). got u t z) (sym (append_assoc l (x ∷ []) m))

  module _ {whole : Got (List A)} {n i : ℕ} {l : List A} {c : ℕ} {s : List ℕ} {at : ℕ} (w : Walking whole n i l c s at) where
    -- before a turn there is one value more to read
    one_more : i < n → whole ≡ onto l (times p next (suc (n - (i + 1))) c s at)
    one_more h = let e : n - i ≡ suc (n - (i + 1)) = omega arith in w.ahead ∙ ap (λ (k : ℕ). onto l (times p next k c s at)) e

    pub walk_steps : i < n → {x : A} {r : List ℕ} {o : ℕ} → p c s at ≡ got x r o → Walking whole n (i + 1) (l ++ (x ∷ [])) (next c x) r o
    unfolding times
    walk_steps h {x} {r} {o} e =
        record {
          ahead =
              one_more h
              ∙ ap (λ (g : Got A). onto l (bind g (λ y u z. bind (times p next (n - (i + 1)) (next c y) u z) (λ m t w. got (y ∷ m) t w)))) e
              ∙ onto_more l x (times p next (n - (i + 1)) (next c x) r o);
          many = length-append l (x ∷ []) ∙ ap (λ (k : ℕ). k + 1) w.many;
        }

    pub walk_stops : i < n → {m q : ℕ} → p c s at ≡ fault m q → whole ≡ fault m q
    unfolding times onto
    walk_stops h e = one_more h ∙ ap (λ (g : Got A). onto l (bind g (λ y u z. bind (times p next (n - (i + 1)) (next c y) u z) (λ m t w. got (y ∷ m) t w)))) e

    pub walk_ends : n ≤ i → whole ≡ got l s at
    unfolding times onto
    walk_ends h =
        let e : n - i ≡ 0 = omega arith in
        w.ahead ∙ ap (λ (k : ℕ). onto l (times p next k c s at)) e ∙ ap (λ (u : List A). got u s at) (append-nil l)

  -- the count is read first
  module _ (number : Parser ℕ) (s : List ℕ) (at : ℕ) where
    pub counted_starts : {n : ℕ} {r : List ℕ} {o : ℕ} → number s at ≡ got n r o → counted number p next s at ≡ times p next n 0 r o
    unfolding times
    counted_starts e = ap (λ (g : Got ℕ). bind g (λ n r o. times p next n 0 r o)) e

    pub counted_cut : {m q : ℕ} → number s at ≡ fault m q → counted number p next s at ≡ fault m q
    unfolding times
    counted_cut e = ap (λ (g : Got ℕ). bind g (λ n r o. times p next n 0 r o)) e

-- the opening letters stand in front, or not
letters_by : (n from : ℕ) (l s : List ℕ) (at : ℕ) → letters l n from s at ≡ pick (opens l s) (got tt (drop (length l) s) (at + length l)) (fault n from)
unfolding letters opens
letters_by n from [] s at = ap (got tt s) (omega arith)
letters_by n from (c ∷ l) [] at = refl
letters_by n from (c ∷ l) (x ∷ s) at = go (eqb x c) (letters_by n from l s (suc at))
  where
    go : (b : Bool)
        → letters l n from s (suc at) ≡ pick (opens l s) (got tt (drop (length l) s) (suc at + length l)) (fault n from)
        → pick b (letters l n from s (suc at)) (fault n from) ≡ pick (b && opens l s) (got tt (drop (length l) s) (at + suc (length l))) (fault n from)
    go true e = let i : suc at + length l ≡ at + suc (length l) = omega arith in e ∙ ap (λ (o : ℕ). pick (opens l s) (got tt (drop (length l) s) o) (fault n from)) i
    go false e = refl

module _ {A : Type 0} (opening : List ℕ) (number early : ℕ) (body : Parser A) (s : List ℕ) where
  pub file_opens : opens opening s ≡ true → read_file opening number early body s ≡ ending early (body (drop (length opening) s) (length opening))
  unfolding read_file letters
  file_opens h = rw (letters_by number 0 opening s 0, h) (ap (λ (o : ℕ). ending early (body (drop (length opening) s) o)) (omega arith))

  pub file_closed : opens opening s ≡ false → read_file opening number early body s ≡ refused number 0
  unfolding read_file letters
  file_closed h = rw (letters_by number 0 opening s 0, h) refl

-- bytes follow, or none do
module _ {A : Type 0} (early : ℕ) (s : List ℕ) (x : A) (o : ℕ) where
  pub bytes_follow : o < length s → ending early (got x (drop o s) o) ≡ refused early o
  bytes_follow h = rw (drop_some s o h) refl

  pub none_follow : length s ≤ o → ending early (got x (drop o s) o) ≡ good x
  none_follow h = rw (drop_all s o h) refl

-- what was read passes the test
pub guard_holds : {A : Type 0} (ok : A → Bool) (n : ℕ) (p : Parser A) (s : List ℕ) (at : ℕ) {x : A} {r : List ℕ} {o : ℕ} → guard ok n p s at ≡ got x r o → ok x ≡ true
guard_holds ok n p s at h =
    let b = bind_got (p s at) (λ x r o. pick (ok x) (got x r o) (fault n at)) h in
    let (t, e, _) = pick_got (ok b.first) b.first b.rest b.place n at b.then in
    rw e at t
