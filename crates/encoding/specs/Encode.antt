-- the bytes that stand for numbers, for fields that may be absent, and for lists with their count
use Rattle.std.specs.Prelude.{◌≡◌, List, [], ◌∷◌, ◌++◌, Bool, true, false, ℕ, ◌/◌, ◌%◌, ◌<◌, ◌≤◌, length}
use Rattle.verdict.specs.Lists.{Each}

abbrev pub Bytes : List ℕ → Type 0
Bytes s = Each (λ (n : ℕ). n < 256) s

-- a byte, a pair of bytes, a number of two bytes
abbrev pub OneByte : ℕ → Type 0
OneByte n = n < 256

abbrev pub PairOfBytes : ℕ × ℕ → Type 0
PairOfBytes p = (p.0 < 256) × (p.1 < 256)

abbrev pub TwoBytes : ℕ → Type 0
TwoBytes n = n < 65536

abbrev pub encode_byte : ℕ → List ℕ
encode_byte n = n ∷ []

abbrev pub encode_pair : ℕ × ℕ → List ℕ
encode_pair p = p.0 ∷ p.1 ∷ []

-- two-byte and four-byte fields are little-endian and unsigned
abbrev pub encode_two : ℕ → List ℕ
encode_two n = n % 256 ∷ n / 256 ∷ []

abbrev pub encode_four : ℕ → List ℕ
encode_four n = encode_two (n % 65536) ++ encode_two (n / 65536)

-- only the fields whose bit stands
abbrev pub encode_part : {A : Type 0} → Bool → (A → List ℕ) → A → List ℕ
encode_part true enc x = enc x
encode_part false enc x = []

abbrev pub encode_field : Bool → ℕ → List ℕ
encode_field b n = encode_part b encode_two n

-- a field is two bytes, or 0 in its record where the kind or rule lacks it
abbrev pub FitField : Bool → ℕ → Type 0
FitField true n = n < 65536
FitField false n = n ≡ 0

-- one after the other
unfoldable pub encode_all : {A : Type 0} → (A → List ℕ) → List A → List ℕ
encode_all enc [] = []
encode_all enc (x ∷ l) = enc x ++ encode_all enc l

-- the count, in the encoding given first, then each
abbrev pub encode_counted : {A : Type 0} → (ℕ → List ℕ) → (A → List ℕ) → List A → List ℕ
encode_counted count enc l = count (length l) ++ encode_all enc l

-- a count's range: from the least to the top
abbrev pub Counts : ℕ → ℕ → ℕ → Type 0
Counts least top n = (least ≤ n) × (n ≤ top)
