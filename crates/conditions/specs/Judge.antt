-- refusals 20, 71 and 21 to 23 computed
use Rattle.std.specs.Prelude.{List, [], ◌∷◌, Bool, true, false, not, ◌||◌, ℕ, leb, length, get_or}
use Rattle.verdict.specs.Tests.{choose}
use Rattle.formula.specs.Table.{Table}
use Rattle.formula.specs.Shape.{Shape, leaf, two, step, fix, name, Leaf, never, always, letter, negated, Step, diamond, box, mu, nu, shape_of, shape}
use Rattle.conditions.specs.Rows.{Row, has, union, clear, single, up_to, meets}
use Rattle.conditions.specs.Upward.{upward}
use Rattle.verdict.specs.Verdict.{Verdict, accepted, scan}

unfoldable pub is_fix : Shape → Bool
is_fix (leaf l) = false
is_fix (two o a b) = false
is_fix (step m a) = false
is_fix (fix σ a) = true
is_fix (name x) = false

unfoldable pub bad_leaf : Leaf → Bool
bad_leaf never = false
bad_leaf always = false
bad_leaf (letter p) = leb 32 p
bad_leaf (negated p) = leb 32 p

-- 20
unfoldable pub bad : Table → ℕ → Shape → Bool
unfolding bad_leaf is_fix shape
bad t e (leaf l) = bad_leaf l
bad t e (two o a b) = leb e a || leb e b
bad t e (step m a) = leb e a
bad t e (fix σ a) = leb e a
bad t e (name x) = leb x e || (leb (length t) x || not (is_fix (shape t x)))

unfoldable pub far_step : Step → Bool
far_step (diamond n) = leb 16 n
far_step (box n) = leb 16 n

-- 71
unfoldable pub far : Shape → Bool
unfolding far_step
far (leaf l) = false
far (two o a b) = false
far (step m a) = far_step m
far (fix σ a) = false
far (name x) = false

-- the free names of an entry, by those of entries below
unfoldable pub free_row : (ℕ → Row) → ℕ → Shape → Row
unfolding union clear single
free_row f e (leaf l) = []
free_row f e (two o a b) = union (f a) (f b)
free_row f e (step m a) = f a
free_row f e (fix σ a) = clear e (f a)
free_row f e (name y) = single y

-- the names reached through no box or diamond
unfoldable pub open_row : (ℕ → Row) → ℕ → Shape → Row
unfolding union single
open_row f e (leaf l) = []
open_row f e (two o a b) = union (f a) (f b)
open_row f e (step m a) = []
open_row f e (fix σ a) = f a
open_row f e (name y) = single y

unfoldable pub frees : Table → List Row
unfolding upward free_row shape
frees t = upward [] (λ f e. free_row f e (shape t e)) (length t)

unfoldable pub opens : Table → List Row
unfolding upward open_row shape
opens t = upward [] (λ f e. open_row f e (shape t e)) (length t)

abbrev pub is_mu : Shape → Bool
is_mu (leaf l) = false
is_mu (two o a b) = false
is_mu (step m a) = false
is_mu (fix mu a) = true
is_mu (fix nu a) = false
is_mu (name x) = false

abbrev pub is_nu : Shape → Bool
is_nu (leaf l) = false
is_nu (two o a b) = false
is_nu (step m a) = false
is_nu (fix mu a) = false
is_nu (fix nu a) = true
is_nu (name x) = false

-- the entries that pass a test
unfoldable pub marks : (Shape → Bool) → Table → Row
unfolding shape_of
marks g [] = []
marks g (r ∷ t) = g (shape_of r) ∷ marks g t

-- 22, by the rows of free names, of mu entries and of nu entries
unfoldable pub alternates : Row → Row → Row → Shape → Bool
unfolding meets
alternates f ms ns (leaf l) = false
alternates f ms ns (two o a b) = false
alternates f ms ns (step m a) = false
alternates f ms ns (fix mu a) = meets f ns
alternates f ms ns (fix nu a) = meets f ms
alternates f ms ns (name x) = false

-- 23
unfoldable pub own_open : List Row → ℕ → Shape → Bool
unfolding has
own_open o e (leaf l) = false
own_open o e (two p a b) = false
own_open o e (step m a) = false
own_open o e (fix σ a) = has (get_or o a []) e
own_open o e (name x) = false

unfoldable pub low : List Row → ℕ → Bool
unfolding meets up_to
low f e = meets (get_or f e []) (up_to e)

unfoldable pub mixed : Table → List Row → Row → Row → ℕ → Bool
unfolding alternates shape
mixed t f ms ns e = alternates (get_or f e []) ms ns (shape t e)

unfoldable pub loose : Table → List Row → ℕ → Bool
unfolding own_open shape
loose t o e = own_open o e (shape t e)

unfoldable pub judge_by : (ℕ → Bool) → Table → List Row → List Row → Row → Row → Verdict
unfolding low mixed loose bad far scan shape
judge_by z t f o ms ns =
    scan (λ e. not (bad t e (shape t e) || (far (shape t e) || z e))) (λ e. choose (bad t e (shape t e)) 20 71) (length t) 0
    (scan (λ e. not (low f e || (mixed t f ms ns e || loose t o e))) (λ e. choose (low f e) 21 (choose (mixed t f ms ns e) 22 23)) (length t) 0 accepted)

-- no 0 is written out
abbrev pub plainly : ℕ → Bool
plainly e = false

-- z: the entries of which a 0 is written out
unfoldable pub judge_table : (ℕ → Bool) → Table → Verdict
unfolding judge_by frees opens marks
judge_table z t = judge_by z t (frees t) (opens t) (marks is_mu t) (marks is_nu t)
