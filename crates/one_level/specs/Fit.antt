-- what the program compares of two entries, and the test case by case
use Rattle.std.specs.Prelude.{◌≡◌, ◌⊎◌, List, ℕ, ◌+◌, ◌*◌, ◌<◌, ◌≤◌, length, get_or}
use Rattle.std.proofs.Common.{inl, inr, arith}
use Rattle.formula.specs.Kind
use Rattle.name_sets.specs.RowWords.{row_of}
use Rattle.one_level.specs.Agree.{Agree}

-- the number of entry e with k names bound
abbrev pub cell : List ℕ → ℕ → ℕ → ℕ
cell rs k e = get_or rs (256 * k + e) 0

-- a column of rows of four words has row e
abbrev pub InRows : ℕ → List ℕ → Type 0
InRows e ws = 4 * e + 3 < length ws

-- or, and: the numbers of the second operands, and the same of the k bound names in both operands of each
pub record FitTwo (ys rs us vs : List ℕ) (k j e f : ℕ) : Type 0 where
  pub second : cell rs j (get_or ys f 0) ≡ cell rs j (get_or ys e 0)
  pub first_names : Agree (row_of us f) (row_of us e) k
  pub second_names : Agree (row_of vs f) (row_of vs e) k

-- mu, nu: each has its own name in its body, which then has one name more, or neither
abbrev pub FitFix : List ℕ → List ℕ → ℕ → ℕ → Type 0
FitFix xs ts e f = get_or ts (get_or xs f 0) 0 + get_or ts e 0 ≡ get_or ts (get_or xs e 0) 0 + get_or ts f 0

-- entries e and f, k names bound in each, i in the first operand of e, j in the second; ts has the counts of free names, rs the numbers,
-- us and vs the marks of the first and the second operands. In ys a diamond or box has its action
pub record Fit (ks xs ys ts rs us vs : List ℕ) (k i j e f : ℕ) : Type 0 where
  pub kinds : get_or ks f 0 ≡ get_or ks e 0
  pub letters : Kind.LETTER ≤ get_or ks e 0 → get_or ks e 0 ≤ Kind.NEGATED → get_or xs f 0 ≡ get_or xs e 0
  pub first : Kind.OR ≤ get_or ks e 0 → get_or ks e 0 ≤ Kind.NU → cell rs i (get_or xs f 0) ≡ cell rs i (get_or xs e 0)
  pub two : Kind.OR ≤ get_or ks e 0 → get_or ks e 0 ≤ Kind.AND → FitTwo ys rs us vs k j e f
  pub actions : Kind.DIAMOND ≤ get_or ks e 0 → get_or ks e 0 ≤ Kind.BOX → get_or ys f 0 ≡ get_or ys e 0
  pub own : Kind.MU ≤ get_or ks e 0 → get_or ks e 0 ≤ Kind.NU → FitFix xs ts e f

-- kind by kind
module _ {ks xs ys ts rs us vs : List ℕ} {k i j e f : ℕ} (same : get_or ks f 0 ≡ get_or ks e 0) where
  -- a constant, a name, or a number that is no kind
  pub fit_bare : (get_or ks e 0 < Kind.LETTER) ⊎ (Kind.NU < get_or ks e 0) → Fit ks xs ys ts rs us vs k i j e f
  fit_bare (inl h) = record {
    kinds = same;
    letters = λ a b. absurd (omega arith);
    first = λ a b. absurd (omega arith);
    two = λ a b. absurd (omega arith);
    actions = λ a b. absurd (omega arith);
    own = λ a b. absurd (omega arith);
  }
  fit_bare (inr h) = record {
    kinds = same;
    letters = λ a b. absurd (omega arith);
    first = λ a b. absurd (omega arith);
    two = λ a b. absurd (omega arith);
    actions = λ a b. absurd (omega arith);
    own = λ a b. absurd (omega arith);
  }

  pub fit_letter : get_or ks e 0 < Kind.OR → get_or xs f 0 ≡ get_or xs e 0 → Fit ks xs ys ts rs us vs k i j e f
  fit_letter h q = record {
    kinds = same;
    letters = λ a b. q;
    first = λ a b. absurd (omega arith);
    two = λ a b. absurd (omega arith);
    actions = λ a b. absurd (omega arith);
    own = λ a b. absurd (omega arith);
  }

  module _ (least : Kind.OR ≤ get_or ks e 0) (equal : cell rs i (get_or xs f 0) ≡ cell rs i (get_or xs e 0)) where
    pub fit_two : get_or ks e 0 ≤ Kind.AND → FitTwo ys rs us vs k j e f → Fit ks xs ys ts rs us vs k i j e f
    fit_two h t = record {
      kinds = same;
      letters = λ a b. absurd (omega arith);
      first = λ a b. equal;
      two = λ a b. t;
      actions = λ a b. absurd (omega arith);
      own = λ a b. absurd (omega arith);
    }

    pub fit_step : Kind.DIAMOND ≤ get_or ks e 0 → get_or ks e 0 ≤ Kind.BOX → get_or ys f 0 ≡ get_or ys e 0 → Fit ks xs ys ts rs us vs k i j e f
    fit_step h l q = record {
      kinds = same;
      letters = λ a b. absurd (omega arith);
      first = λ a b. equal;
      two = λ a b. absurd (omega arith);
      actions = λ a b. q;
      own = λ a b. absurd (omega arith);
    }

    pub fit_fix : Kind.MU ≤ get_or ks e 0 → FitFix xs ts e f → Fit ks xs ys ts rs us vs k i j e f
    fit_fix h q = record {
      kinds = same;
      letters = λ a b. absurd (omega arith);
      first = λ a b. equal;
      two = λ a b. absurd (omega arith);
      actions = λ a b. absurd (omega arith);
      own = λ a b. q;
    }
