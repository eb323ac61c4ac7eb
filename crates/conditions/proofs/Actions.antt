-- of a box or diamond the judge looks at the action only for 71: tables that differ in actions alone are judged the same but for it
use Rattle.std.specs.Prelude.{◌≡◌, Bool, ◌||◌, length, get_or}
use Rattle.std.proofs.Math.Path.{refl, ap, fun_ext}
use Rattle.std.proofs.Common.{sym, ◌∙◌, suc-ne-zero}
use mathlib.Core.List.{List, [], ◌∷◌}
use Rattle.std.proofs.Math.Bool.{not}
use Prim.Native.Nat.{ℕ, suc}
use Rattle.verdict.specs.Tests.{choose}
use Rattle.verdict.specs.Verdict.{Verdict, accepted, scan}
use Rattle.formula.specs.Table.{Table}
use Rattle.formula.specs.Shape.{Shape, leaf, two, step, fix, name, mu, nu, shape_of, shape}
use Rattle.conditions.specs.Rows.{Row}
use Rattle.conditions.specs.Upward.{upward}
use Rattle.conditions.specs.Judge.{is_fix, is_mu, is_nu, bad, far, free_row, open_row, frees, opens, marks, alternates, own_open, low, mixed, loose, judge_by, judge_table}
use Rattle.conditions.specs.Actions.{still}

-- a test of the shape that does not look at actions
abbrev Blind : {A : Type 0} → (Shape → A) → Type 0
Blind f = (v : Shape) → f v ≡ f (still v)

blind_same : {A : Type 0} (f : Shape → A) → Blind f → (v w : Shape) → still v ≡ still w → f v ≡ f w
blind_same f b v w e = b v ∙ ap f e ∙ sym (b w)

fix_blind : Blind is_fix
unfolding is_fix
fix_blind (leaf l) = refl
fix_blind (two o a b) = refl
fix_blind (step m a) = refl
fix_blind (fix σ a) = refl
fix_blind (name x) = refl

mu_blind : Blind is_mu
mu_blind (leaf l) = refl
mu_blind (two o a b) = refl
mu_blind (step m a) = refl
mu_blind (fix mu a) = refl
mu_blind (fix nu a) = refl
mu_blind (name x) = refl

nu_blind : Blind is_nu
nu_blind (leaf l) = refl
nu_blind (two o a b) = refl
nu_blind (step m a) = refl
nu_blind (fix mu a) = refl
nu_blind (fix nu a) = refl
nu_blind (name x) = refl

bad_blind : (t : Table) (e : ℕ) → Blind (bad t e)
unfolding bad
bad_blind t e (leaf l) = refl
bad_blind t e (two o a b) = refl
bad_blind t e (step m a) = refl
bad_blind t e (fix σ a) = refl
bad_blind t e (name x) = refl

free_blind : (f : ℕ → Row) (e : ℕ) → Blind (free_row f e)
unfolding free_row
free_blind f e (leaf l) = refl
free_blind f e (two o a b) = refl
free_blind f e (step m a) = refl
free_blind f e (fix σ a) = refl
free_blind f e (name x) = refl

open_blind : (f : ℕ → Row) (e : ℕ) → Blind (open_row f e)
unfolding open_row
open_blind f e (leaf l) = refl
open_blind f e (two o a b) = refl
open_blind f e (step m a) = refl
open_blind f e (fix σ a) = refl
open_blind f e (name x) = refl

alternates_blind : (f ms ns : Row) → Blind (alternates f ms ns)
unfolding alternates
alternates_blind f ms ns (leaf l) = refl
alternates_blind f ms ns (two o a b) = refl
alternates_blind f ms ns (step m a) = refl
alternates_blind f ms ns (fix mu a) = refl
alternates_blind f ms ns (fix nu a) = refl
alternates_blind f ms ns (name x) = refl

own_blind : (o : List Row) (e : ℕ) → Blind (own_open o e)
unfolding own_open
own_blind o e (leaf l) = refl
own_blind o e (two p a b) = refl
own_blind o e (step m a) = refl
own_blind o e (fix σ a) = refl
own_blind o e (name x) = refl

marks_same : (g : Shape → Bool) → Blind g → (t u : Table) → length t ≡ length u → ((e : ℕ) → still (shape t e) ≡ still (shape u e)) → marks g t ≡ marks g u
unfolding marks shape
marks_same g b [] [] l s = refl
marks_same g b [] (x ∷ u) l s = absurd (suc-ne-zero _ (sym l))
marks_same g b (x ∷ t) [] l s = absurd (suc-ne-zero _ l)
marks_same g b (x ∷ t) (y ∷ u) l s = rw (blind_same g b (shape_of x) (shape_of y) (s 0), marks_same g b t u (cc l) (λ e. s (suc e))) refl

module _ (y z : ℕ → Bool) (t u : Table) (long : length t ≡ length u) (same : (e : ℕ) → still (shape t e) ≡ still (shape u e))
    (acts : (e : ℕ) → (far (shape t e) || y e) ≡ (far (shape u e) || z e)) where
  frees_same : frees t ≡ frees u
  unfolding frees
  frees_same =
      ap (upward [] (λ f e. free_row f e (shape t e))) long
      ∙ ap (λ (c : (ℕ → Row) → ℕ → Row). upward [] c (length u)) (fun_ext (λ f. fun_ext (λ e. blind_same (free_row f e) (free_blind f e) (shape t e) (shape u e) (same e))))

  opens_same : opens t ≡ opens u
  unfolding opens
  opens_same =
      ap (upward [] (λ f e. open_row f e (shape t e))) long
      ∙ ap (λ (c : (ℕ → Row) → ℕ → Row). upward [] c (length u)) (fun_ext (λ f. fun_ext (λ e. blind_same (open_row f e) (open_blind f e) (shape t e) (shape u e) (same e))))

  bad_table : (e : ℕ) (v : Shape) → bad t e v ≡ bad u e v
  unfolding bad
  bad_table e (leaf l) = refl
  bad_table e (two o a b) = refl
  bad_table e (step m a) = refl
  bad_table e (fix σ a) = refl
  bad_table e (name x) = rw (long, blind_same is_fix fix_blind (shape t x) (shape u x) (same x)) refl

  bad_same : (e : ℕ) → bad t e (shape t e) ≡ bad u e (shape u e)
  bad_same e = blind_same (bad t e) (bad_blind t e) (shape t e) (shape u e) (same e) ∙ bad_table e (shape u e)

  mixed_same : (f : List Row) (ms ns : Row) (e : ℕ) → mixed t f ms ns e ≡ mixed u f ms ns e
  unfolding mixed
  mixed_same f ms ns e = blind_same (alternates (get_or f e []) ms ns) (alternates_blind (get_or f e []) ms ns) (shape t e) (shape u e) (same e)

  loose_same : (o : List Row) (e : ℕ) → loose t o e ≡ loose u o e
  unfolding loose
  loose_same o e = blind_same (own_open o e) (own_blind o e) (shape t e) (shape u e) (same e)

  by_same : (f o : List Row) (ms ns : Row) → judge_by y t f o ms ns ≡ judge_by z u f o ms ns
  unfolding judge_by
  by_same f o ms ns =
      ap (λ (n : ℕ). first y t n (second t n)) long
      ∙ ap (λ (p : (ℕ → Bool) × (ℕ → ℕ)). scan p.0 p.1 (length u) 0 (second t (length u))) tests
      ∙ ap (λ (p : (ℕ → Bool) × (ℕ → ℕ)). first z u (length u) (scan p.0 p.1 (length u) 0 accepted)) rest
    where
      first : (ℕ → Bool) → Table → ℕ → Verdict → Verdict
      first w s n v = scan (λ e. not (bad s e (shape s e) || (far (shape s e) || w e))) (λ e. choose (bad s e (shape s e)) 20 71) n 0 v

      second : Table → ℕ → Verdict
      second s n = scan (λ e. not (low f e || (mixed s f ms ns e || loose s o e))) (λ e. choose (low f e) 21 (choose (mixed s f ms ns e) 22 23)) n 0 accepted

      tests : ◌≡◌ {A = (ℕ → Bool) × (ℕ → ℕ)}
          ((λ e. not (bad t e (shape t e) || (far (shape t e) || y e))), (λ e. choose (bad t e (shape t e)) 20 71))
          ((λ e. not (bad u e (shape u e) || (far (shape u e) || z e))), (λ e. choose (bad u e (shape u e)) 20 71))
      tests = λ i. ((λ e. not (bad_same e i || acts e i)), (λ e. choose (bad_same e i) 20 71))

      rest : ◌≡◌ {A = (ℕ → Bool) × (ℕ → ℕ)}
          ((λ e. not (low f e || (mixed t f ms ns e || loose t o e))), (λ e. choose (low f e) 21 (choose (mixed t f ms ns e) 22 23)))
          ((λ e. not (low f e || (mixed u f ms ns e || loose u o e))), (λ e. choose (low f e) 21 (choose (mixed u f ms ns e) 22 23)))
      rest = λ i. ((λ e. not (low f e || (mixed_same f ms ns e i || loose_same o e i))), (λ e. choose (low f e) 21 (choose (mixed_same f ms ns e i) 22 23)))

  pub judge_same : judge_table y t ≡ judge_table z u
  unfolding judge_table
  judge_same =
      rw (frees_same, opens_same, marks_same is_mu mu_blind t u long same, marks_same is_nu nu_blind t u long same)
      (by_same (frees u) (opens u) (marks is_mu u) (marks is_nu u))
