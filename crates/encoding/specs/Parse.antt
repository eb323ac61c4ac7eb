-- reading bytes from a place on: a fault with its number and place, or a value, the bytes left and their place
use Rattle.std.specs.Prelude.{List, [], ◌∷◌, Bool, true, false, ◌&&◌, ℕ, zero, suc, ◌+◌, ◌*◌, eqb, leb}

pub data Got (A : Type 0) : Type 0 where
  fault : ℕ → ℕ → Got A
  got : A → List ℕ → ℕ → Got A

abbrev pub Parser : Type 0 → Type 0
Parser A = List ℕ → ℕ → Got A

abbrev pub pick : {A : Type 0} → Bool → A → A → A
pick true x y = x
pick false x y = y

abbrev pub bind : {A B : Type 0} → Got A → (A → List ℕ → ℕ → Got B) → Got B
bind (fault n q) f = fault n q
bind (got x s o) f = f x s o

-- one after the other
abbrev pub seq : {A B : Type 0} → Parser A → (A → Parser B) → Parser (A × B)
seq p q s at = bind (p s at) (λ x r o. bind (q x r o) (λ y t z. got (x, y) t z))

-- a value that fails the test is a fault at the place where it begins
abbrev pub guard : {A : Type 0} → (A → Bool) → ℕ → Parser A → Parser A
guard ok n p s at = bind (p s at) (λ x r o. pick (ok x) (got x r o) (fault n at))

abbrev pub via : {A B : Type 0} → (A → B) → Parser A → Parser B
via f p s at = bind (p s at) (λ x r o. got (f x) r o)

-- what stands only where its bit does, and else is blank
abbrev pub part : {A : Type 0} → A → Bool → Parser A → Parser A
part blank true p s at = p s at
part blank false p s at = got blank s at

-- these very bytes, or a fault at the place where they should begin
unfoldable pub letters : List ℕ → ℕ → ℕ → Parser Unit
letters [] n from s at = got tt s at
letters (c ∷ l) n from [] at = fault n from
letters (c ∷ l) n from (x ∷ s) at = let rest = letters l n from s (suc at) in pick (eqb x c) rest (fault n from)

-- n values, each read in sight of a number that the one before sets
unfoldable pub times : {A : Type 0} → (ℕ → Parser A) → (ℕ → A → ℕ) → ℕ → ℕ → Parser (List A)
times p next zero c s at = got [] s at
times p next (suc n) c s at = bind (p c s at) (λ x r o. bind (times p next n (next c x) r o) (λ l t z. got (x ∷ l) t z))

-- the count, then as many values
abbrev pub counted : {A : Type 0} → Parser ℕ → (ℕ → Parser A) → (ℕ → A → ℕ) → Parser (List A)
unfolding times
counted number p next s at = bind (number s at) (λ n r o. times p next n 0 r o)

-- values that do not look at each other
abbrev pub listed : {A : Type 0} → Parser ℕ → Parser A → Parser (List A)
unfolding times
listed number p s at = counted number (λ _. p) (λ _ _. 0) s at

-- numbers that pass a test and rise strictly; each is at least one above the one before
abbrev pub fits_from : (ℕ → Bool) → ℕ → ℕ → Bool
fits_from ok c x = leb c x && ok x

abbrev pub rising : Parser ℕ → (ℕ → Bool) → ℕ → Parser ℕ → Parser (List ℕ)
unfolding times
rising number ok n p s at = counted number (λ c. guard (fits_from ok c) n p) (λ _ x. suc x) s at

-- a count: a number from the least to the top
abbrev pub in_range : ℕ → ℕ → ℕ → Bool
in_range least top n = leb least n && leb n top

abbrev pub count : ℕ → ℕ → ℕ → Parser ℕ → Parser ℕ
count least top k p s at = guard (in_range least top) k p s at

-- a number of two bytes: the low one, the high one
abbrev pub word : ℕ × ℕ → ℕ
word p = p.0 + 256 * p.1

abbrev pub double : ℕ × ℕ → ℕ
double p = p.0 + 65536 * p.1

module _ (early : ℕ) where
  -- the file ends early: its length
  abbrev pub byte : Parser ℕ
  byte [] at = fault early at
  byte (x ∷ s) at = got x s (suc at)

  abbrev pub bytes : Parser (ℕ × ℕ)
  bytes s at = seq byte (λ _. byte) s at

  abbrev pub two : Parser ℕ
  two s at = via word bytes s at

  abbrev pub four : Parser ℕ
  four s at = via double (seq two (λ _. two)) s at

  abbrev pub field : Bool → Parser ℕ
  field b s at = part 0 b two s at
