-- two goals: the rest, when they fit at an entry "A and B", and the members of the joined claim
use Rattle.std.specs.Prelude.{◌≡◌, List, [], ◌∷◌, Bool, cond, ℕ, ◌<◌, ltb, length}
use Rattle.verdict.specs.Sets.{Set, Same, ◌plus◌, elements, image}
use Rattle.verdict.specs.Tests.{member, keep, each}
use Rattle.formula.specs.Kind
use Rattle.formula.specs.Table.{Table, kind}
use Rattle.formula.specs.Codes.{Formula}
use Rattle.formula.specs.Target.{target_a, target_b}
use Rattle.written.specs.Form.{Form}
use Rattle.written.specs.Written.{written}
use Rattle.written.specs.Canon.{canon}

-- those of a list that pass
unfoldable pub sift : (ℕ → Bool) → List ℕ → List ℕ
sift ok [] = []
sift ok (e ∷ l) =
    let later = sift ok l in
    keep (ok e) e later

-- e in its place in a rising list
unfoldable pub enter : ℕ → List ℕ → List ℕ
enter e [] = e ∷ []
enter e (x ∷ l) =
    let front = e ∷ x ∷ l in
    let later = x ∷ enter e l in
    cond (ltb e x) front later

module _ (t : Table) where
  -- the members of a goal are formulas
  abbrev pub Members : List ℕ → Type 0
  Members l = (e : ℕ) → elements l e → Formula t e

  -- the formulas of a list of entries
  abbrev pub formulas : List ℕ → Set Form
  formulas l = image (written t) (elements l)

  -- the list holds the formula of entry e
  unfoldable pub holds : List ℕ → ℕ → Bool
  unfolding member each canon
  holds l e = member (each (canon t) l) (canon t e)

  -- every member of the first goal, under its entry number, whose formula the second holds too
  unfoldable pub rest : List ℕ → List ℕ → List ℕ
  unfolding holds sift
  rest l r = sift (holds r) l

  -- the claim of that entry with the rest
  unfoldable pub joined_goal : ℕ → List ℕ → List ℕ → List ℕ
  unfolding enter rest
  joined_goal e l r = enter e (rest l r)

  pub record Fit (e : ℕ) (l r : List ℕ) : Type 0 where
    -- an entry "A and B"
    pub of_kind : kind t e ≡ Kind.AND
    -- the rest with A's target is the first goal, the rest with B's is the second
    pub first : Same (formulas l) (formulas (rest l r) plus written t (target_a t e))
    pub second : Same (formulas r) (formulas (rest l r) plus written t (target_b t e))
    -- the entry is no member of the rest
    pub apart : formulas (rest l r) (written t e) → ⊥
    -- 24 members suffice
    pub few : length (rest l r) < 24
