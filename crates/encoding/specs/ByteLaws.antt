-- encodings are of bytes
use Rattle.std.specs.Prelude.{List, [], ◌∷◌, ◌++◌, ℕ, suc, ◌/◌, ◌%◌, ◌<◌, length, get_or}
use Rattle.std.proofs.Common.{arith, Fits}
use Rattle.std.specs.Int.{w8}
use Rattle.verdict.specs.Lists.{Each, none, more}
use Rattle.encoding.specs.Encode.{Bytes, OneByte, TwoBytes, encode_byte, encode_two, encode_all}

pub join_bytes : {s t : List ℕ} → Bytes s → Bytes t → Bytes (s ++ t)
join_bytes none c = c
join_bytes (more h b) c = more h (join_bytes b c)

pub one_byte : (n : ℕ) → OneByte n → Bytes (encode_byte n)
one_byte n h = more h none

pub two_bytes : (n : ℕ) → TwoBytes n → Bytes (encode_two n)
two_bytes n h = join_bytes (one_byte (n % 256) (omega arith)) (one_byte (n / 256) (omega arith))

pub all_bytes : {A : Type 0} {P : A → Type 0} {enc : A → List ℕ} {l : List A} → ((x : A) → P x → Bytes (enc x)) → Each P l → Bytes (encode_all enc l)
unfolding encode_all
all_bytes f none = none
all_bytes f (more {x = x} h k) = join_bytes (f x h) (all_bytes f k)

-- a list whose every element is a byte
pub bytes_of : (s : List ℕ) → ((i : ℕ) → i < length s → get_or s i 0 < 256) → Bytes s
bytes_of [] h = none
bytes_of (x ∷ s) h = let first : x < 256 = h 0 (omega arith) in more first (bytes_of s (λ i l. h (suc i) (omega arith)))

-- a lent slice of bytes is a byte string
pub lent_bytes : (s : List ℕ) → ((i : ℕ) → Fits w8 (get_or s i 0)) → Bytes s
lent_bytes s h = bytes_of s (λ i l. (h i).fits)
