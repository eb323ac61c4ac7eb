-- Members in plain numbers: a column that has for each entry the number of its formula, and codes by these numbers.
use Rattle.std.specs.Prelude.{◌≡◌, refl, List, [], ◌∷◌, Bool, true, not, ◌&&◌, ℕ, ◌<◌, eqb, ltb, length, get_or}
use Rattle.std.proofs.Common.{sym, ap, ap₂, ◌∙◌}
use mathlib.Core.List.Memᴰ
use Rattle.verdict.specs.Sets.{elements}
use Rattle.verdict.specs.Tests.{each}
use Rattle.formula.specs.Kind
use Rattle.formula.specs.Table.{Table}
use Rattle.formula.specs.Codes.{code, entry_of_lem, focus_of, code_entry, code_focus}
use Rattle.written.specs.Canon.{canon, key}

-- the numbers are of entries of a table of 256, so that a key fits a set
abbrev pub Narrow : List ℕ → Type 0
Narrow ns = (e : ℕ) → get_or ns e 0 < 256

-- the column has the number of each formula of the table
pub record Numbers (t : Table) (ns : List ℕ) : Type 0 where
  pub narrow : Narrow ns
  pub each : (e : ℕ) → e < length t → get_or ns e 0 ≡ canon t e

-- the member that entry e is with focus f, and that the code c stands for
abbrev pub key_at : List ℕ → ℕ → ℕ → ℕ
key_at ns e f = code (get_or ns e 0) f

abbrev pub key_of_lem : List ℕ → ℕ → ℕ
key_of_lem ns c = key_at ns (entry_of_lem c) (focus_of c)

abbrev pub keys_of : List ℕ → List ℕ → List ℕ
keys_of ns l = each (key_of_lem ns) l

-- a member of a goal, in focus
abbrev pub in_focus : List ℕ → ℕ → ℕ
in_focus ns e = key_at ns e 1

-- the code c is of an entry of a table of n that is no name
abbrev pub formula_at : List ℕ → ℕ → ℕ → Bool
formula_at ks n c = ltb (entry_of_lem c) n && not (eqb (get_or ks (entry_of_lem c) 0) Kind.NAME)

-- the code c is of such an entry, and its member has the key k
pub record IsMember (ks ns : List ℕ) (n c k : ℕ) : Type 0 where
  pub formula : formula_at ks n c ≡ true
  pub key : k ≡ key_of_lem ns c

-- lists changed alike element by element are the same
pub each_same : {f g : ℕ → ℕ} (l : List ℕ) → ((x : ℕ) → elements l x → f x ≡ g x) → each f l ≡ each g l
unfolding each
each_same [] h = refl
each_same (x ∷ l) h = ap₂ {C = List ℕ} (λ y m. y ∷ m) (h x (Memᴰ.head refl)) (each_same l (λ y m. h y (Memᴰ.tail m)))

module _ {t : Table} {ns : List ℕ} (N : Numbers t ns) where
  pub key_at_lem : (e f : ℕ) → e < length t → key_at ns e f ≡ code (canon t e) f
  key_at_lem e f h = ap (λ (k : ℕ). code k f) (N.each e h)

  -- what entry e is with focus f is what their code stands for
  pub key_code : (e f : ℕ) → f < 2 → e < length t → key_at ns e f ≡ key t (code e f)
  key_code e f l h = key_at_lem e f h ∙ ap₂ {C = ℕ} (λ d g. code (canon t d) g) (sym (code_entry e f l)) (sym (code_focus e f l))

  pub keys_of_lem : (l : List ℕ) → ((c : ℕ) → elements l c → entry_of_lem c < length t) → keys_of ns l ≡ each (key t) l
  keys_of_lem l h = each_same l (λ c m. key_at_lem (entry_of_lem c) (focus_of c) (h c m))

-- what is asked of a table for a root's list cs and its goal's members ms: the column has its numbers, and both name its entries
pub record RootOver (t : Table) (ns ms cs : List ℕ) : Type 0 where
  pub numbers : Numbers t ns
  pub members : (e : ℕ) → elements ms e → e < length t
  pub codes : (c : ℕ) → elements cs c → entry_of_lem c < length t
