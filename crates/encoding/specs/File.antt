-- a whole file: its opening letters, its body, and nothing after
use Rattle.std.specs.Prelude.{◌≡◌, List, [], ◌∷◌, ◌++◌, ℕ, ◌+◌, ◌<◌, length}
use Rattle.encoding.specs.Parse.{Got, fault, got, Parser, bind, letters}
use Rattle.encoding.specs.Stages.{Stages}

-- refused with a number at a place, or decoded
pub data Reading (A : Type 0) : Type 0 where
  refused : ℕ → ℕ → Reading A
  good : A → Reading A

-- bytes that follow: the offset of the first
abbrev pub ending : {A : Type 0} → ℕ → Got A → Reading A
ending early (fault n q) = refused n q
ending early (got x [] o) = good x
ending early (got x (y ∷ r) o) = refused early o

unfoldable pub read_file : {A : Type 0} → List ℕ → ℕ → ℕ → Parser A → List ℕ → Reading A
unfolding letters
read_file opening number early body bytes = ending early (bind (letters opening number 0 bytes 0) (λ _ r o. body r o))

-- the bytes are those of the value
pub record Encodes {A : Type 0} (opening : List ℕ) (enc : A → List ℕ) (Ok : A → Type 0) (bytes : List ℕ) (x : A) : Type 0 where
  pub encoded : bytes ≡ opening ++ enc x
  pub fits : Ok x

-- the refusal that a file earns: its number and its place
pub data Earned {A : Type 0} (opening : List ℕ) (number early : ℕ) (enc : A → List ℕ) (Ok : A → Type 0) (X : Stages) (bytes : List ℕ) : ℕ → ℕ → Type 0 where
  -- wrong or short opening (0)
  no_opening : ((r : List ℕ) → bytes ≡ opening ++ r → ⊥) → Earned opening number early enc Ok X bytes number 0
  -- the file ends early (its length)
  ends_early : (σ : X.Stage) (t : List ℕ) → X.Reached σ → bytes ≡ opening ++ (X.done σ ++ t) → length t < X.width σ
      → Earned opening number early enc Ok X bytes early (length bytes)
  -- what may not come next (its offset)
  wrong : (σ : X.Stage) (w t : List ℕ) {n : ℕ} → X.Reached σ → bytes ≡ opening ++ (X.done σ ++ (w ++ t)) → X.Wrong σ w n
      → Earned opening number early enc Ok X bytes n (length opening + length (X.done σ))
  -- bytes follow (offset of the first)
  bytes_follow : (x : A) (y : ℕ) (r : List ℕ) → Ok x → bytes ≡ opening ++ (enc x ++ (y ∷ r))
      → Earned opening number early enc Ok X bytes early (length opening + length (enc x))
