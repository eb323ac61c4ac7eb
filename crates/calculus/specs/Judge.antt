-- 35 to 39 over decoded tables: the first fault in document 01's order
use mathlib.Core.List.{List, [], ◌∷◌}
use Rattle.std.specs.Prelude.{Bool, false, ◌&&◌, ◌||◌, leb, length}
use Rattle.std.proofs.Math.Bool.{true, not}
use Prim.Native.Nat.{ℕ, zero, suc, ◌-◌}
use Rattle.std.proofs.Math.Dec.{eqb, ltb}
use Rattle.std.proofs.Math.ListN.{get_or}
use Rattle.formula.specs.Kind
use Rattle.formula.specs.Rule
use Rattle.formula.specs.Table.{Table, entry, kind, action}
use Rattle.formula.specs.Target.{target, target_a, target_b}
use Rattle.formula.specs.Codes.{code, entry_of_lem, focus_of}
use Rattle.verdict.specs.Tests.{choose, all, any, member, remove, each}
use Rattle.formula.specs.Fields.{has_first_lem, has_second_lem}
use Rattle.formula.specs.Claim.{Claim, Derivation}
use Rattle.written.specs.Canon.{canon, key}
use Rattle.calculus.specs.Rules.{stepped}
use Rattle.calculus.specs.View.{View, quick}
use Rattle.verdict.specs.Verdict.{Verdict, accepted, scan}

module _ (roots : List ℕ) (q : View) where
  -- a good child number of v, no root and used by no earlier parent
  unfoldable pub fits : ℕ → ℕ → Bool
  unfolding member
  fits v w = ltb v w && (ltb w q.size && (eqb (q.owner w v) 0 && not (member roots w)))

  unfoldable pub children_fit : ℕ → Bool
  unfolding fits
  children_fit v =
      (not (has_first_lem (q.node v).rule) || fits v (q.node v).first)
      && (not (has_second_lem (q.node v).rule) || fits v (q.node v).second && not (eqb (q.node v).first (q.node v).second))

  -- no orphan
  unfoldable pub adopted : ℕ → Bool
  unfolding member
  adopted w = member roots w || ltb 0 (q.owner w q.size)

module _ (q : View) where
  unfoldable pub parent : ℕ → ℕ
  parent w = q.owner w q.size - 1

abbrev pub more : Bool → ℕ → List ℕ → List ℕ
more true w l = w ∷ []
more false w l = w ∷ l

module _ (q : View) where
  -- the walk from w up the parents, ended at the first number not above c, or at a node without a parent
  unfoldable pub climb : ℕ → ℕ → ℕ → List ℕ
  unfolding parent
  climb zero c w = w ∷ []
  climb (suc f) c w =
      let rest = climb f c (parent q w) in
      more (leb w c || eqb (q.owner w q.size) 0) w rest

  unfoldable pub ancestor : ℕ → ℕ → Bool
  unfolding climb member
  ancestor c w = ltb c w && member (climb w c w) c

-- a diamond of action n
unfoldable pub diamond_of : Table → ℕ → ℕ → Bool
diamond_of t n e = eqb (kind t e) Kind.DIAMOND && eqb (action t e) n

-- a letter and its negation
unfoldable pub opposite : Table → ℕ → ℕ → Bool
opposite t c d = eqb (kind t (entry_of_lem c)) Kind.LETTER && (eqb (kind t (entry_of_lem d)) Kind.NEGATED && eqb (entry t (entry_of_lem c)).a (entry t (entry_of_lem d)).a)

-- exactly a letter and its negation
unfoldable pub clash : Table → List ℕ → Bool
unfolding opposite any all
clash t l = any (λ c. any (λ d. opposite t c d && all (λ x. eqb x c || eqb x d) l) l) l

-- exactly one member, true
unfoldable pub truth : Table → List ℕ → Bool
unfolding any all
truth t l = any (λ c. eqb (kind t (entry_of_lem c)) Kind.TRUE && all (λ x. eqb x c) l) l

module _ (q : View) where
  abbrev rule : ℕ → ℕ
  rule v = (q.node v).rule

  abbrev principal : ℕ → ℕ
  principal v = (q.node v).principal

  abbrev formula : ℕ → ℕ
  formula v = entry_of_lem (principal v)

  abbrev focus : ℕ → ℕ
  focus v = focus_of (principal v)

  abbrev pub codes : ℕ → List ℕ
  codes v = (q.node v).codes

module _ (t : Table) (q : View) where
  -- the list of a node by the numbers of its formulas, with focus: a list that stands for its sequent
  unfoldable pub keys : ℕ → List ℕ
  unfolding each canon
  keys v = each (key t) (codes q v)

  abbrev pub first_keys : ℕ → List ℕ
  first_keys v = keys (q.node v).first

  abbrev pub second_keys : ℕ → List ℕ
  second_keys v = keys (q.node v).second

  unfoldable pub sides : ℕ → List ℕ
  unfolding remove keys canon
  sides v = remove (key t (principal q v)) (keys v)

  -- the principal is an entry, no name, and its formula with its focus is listed
  unfoldable pub belongs : ℕ → Bool
  unfolding member keys canon
  belongs v = (ltb (formula q v) (length t) && not (eqb (kind t (formula q v)) Kind.NAME)) && member (keys v) (key t (principal q v))

  unfoldable pub of_kind : ℕ → ℕ → Bool
  unfolding belongs
  of_kind k v = belongs v && eqb (kind t (formula q v)) k

  -- the target of the principal's operand, by its number, with a focus
  abbrev pub key_a : ℕ → ℕ → ℕ
  key_a v f = key t (code (target_a t (formula q v)) f)

  abbrev pub key_b : ℕ → ℕ → ℕ
  key_b v f = key t (code (target_b t (formula q v)) f)

  unfoldable pub ax1_kept : ℕ → Bool
  unfolding clash keys
  ax1_kept v = clash t (keys v)

  unfoldable pub ax2_kept : ℕ → Bool
  unfolding truth keys
  ax2_kept v = truth t (keys v)

  unfoldable pub or_kept : ℕ → Bool
  unfolding of_kind sides target keys canon
  or_kept v = of_kind Kind.OR v && q.same (first_keys v) (key_b v (focus q v) ∷ key_a v (focus q v) ∷ sides v)

  unfoldable pub and_kept : ℕ → Bool
  unfolding of_kind sides target keys canon
  and_kept v =
      of_kind Kind.AND v
      && (q.same (first_keys v) (key_a v (focus q v) ∷ sides v) && q.same (second_keys v) (key_b v (focus q v) ∷ sides v))

  -- of two boxes that are the same formula with the same focus, the other is the principal too
  unfoldable pub box_kept_lem : ℕ → Bool
  unfolding of_kind diamond_of all each target keys canon
  box_kept_lem v =
      of_kind Kind.BOX v
      && (all (λ c. eqb (key t c) (key t (principal q v)) || diamond_of t (action t (formula q v)) (entry_of_lem c)) (codes q v)
      && q.same (first_keys v) (each (λ c. key t (stepped t c)) (codes q v)))

  unfoldable pub mu_kept : ℕ → Bool
  unfolding of_kind sides target keys canon
  mu_kept v = of_kind Kind.MU v && q.same (first_keys v) (key_a v 0 ∷ sides v)

  unfoldable pub nu_kept : ℕ → Bool
  unfolding of_kind sides target keys canon
  nu_kept v = of_kind Kind.NU v && q.same (first_keys v) (key_a v (focus q v) ∷ sides v)

  unfoldable pub weaken_kept : ℕ → Bool
  unfolding belongs sides keys canon
  weaken_kept v = belongs v && q.same (first_keys v) (sides v)

  -- F and U: the principal's focus goes from f to g
  unfoldable pub focus_kept_lem : ℕ → ℕ → ℕ → Bool
  unfolding belongs sides keys canon
  focus_kept_lem f g v = belongs v && (eqb (focus q v) f && q.same (first_keys v) (key t (code (formula q v) g) ∷ sides v))

  unfoldable pub discharge_kept : ℕ → Bool
  unfolding keys
  discharge_kept v = q.same (first_keys v) (keys v)

  unfoldable pub back_kept : ℕ → Bool
  unfolding ancestor keys
  back_kept v = ancestor q (q.node v).back v && (eqb (rule q (q.node v).back) Rule.D && q.same (keys v) (keys (q.node v).back))

  -- the test of each rule that speaks of children, in the order of their numbers
  unfoldable pub tests : List (ℕ → Bool)
  unfolding ax1_kept ax2_kept or_kept and_kept box_kept_lem mu_kept nu_kept weaken_kept focus_kept_lem discharge_kept
  tests =
      ax1_kept ∷ ax2_kept ∷ or_kept ∷ and_kept ∷ box_kept_lem ∷ mu_kept ∷ nu_kept ∷ weaken_kept ∷ focus_kept_lem 0 1 ∷ focus_kept_lem 1 0
      ∷ discharge_kept ∷ []

  -- what a node owes its children
  unfoldable pub step_kept : ℕ → Bool
  unfolding tests
  step_kept v = get_or tests (rule q v) (λ _. false) v

module _ (c : Claim) (q : View) where
  -- what a leaf owes its tree
  unfoldable pub leaf_kept : ℕ → Bool
  unfolding back_kept
  leaf_kept v = eqb (rule q v) Rule.BACK && back_kept c.entries q v

  unfoldable pub keeps : ℕ → Bool
  unfolding step_kept leaf_kept
  keeps v = step_kept c.entries q v || leaf_kept v

abbrev pub in_focus : ℕ → Bool
in_focus c = eqb (focus_of c) 1

-- whether a node of this rule and these codes may lie on a loop path: the test of `OnLoop`, which the code keeps for each node
unfoldable pub on_loop : ℕ → List ℕ → Bool
unfolding any
on_loop r l = any in_focus l && not (eqb r Rule.F)

module _ (q : View) where
  -- the walk from a leaf up to its companion
  unfoldable pub good_path : List ℕ → Bool
  unfolding on_loop all any
  good_path l = all (λ v. on_loop (rule q v) (codes q v)) l && any (λ v. eqb (rule q v) Rule.BOX) l

  unfoldable pub loop : ℕ → Bool
  unfolding good_path climb
  loop v = not (eqb (rule q v) Rule.BACK) || good_path (climb q v (q.node v).back v)

  -- the number that a node earns that does not keep its rule
  unfoldable pub rule_number : ℕ → ℕ
  rule_number v = choose (eqb (rule q v) Rule.BACK) 38 37

module _ (t : Table) (q : View) where
  -- node v lists these members, all in focus
  unfoldable pub states : ℕ → List ℕ → Bool
  unfolding each keys canon
  states v ms = q.same (keys t q v) (each (λ e. key t (code e 1)) ms)

  -- if node v is the root of a goal, it lists the goal's members
  unfoldable pub claimed : List (List ℕ) → List ℕ → ℕ → Bool
  unfolding states
  claimed [] roots v = true
  claimed (ms ∷ goals) [] v = true
  claimed (ms ∷ goals) (r ∷ roots) v = (not (eqb r v) || states v ms) && claimed goals roots v

-- what a view earns
unfoldable pub judge_view : Claim → List ℕ → View → Verdict
unfolding scan children_fit adopted claimed keeps loop rule_number
judge_view c roots q =
    let n = q.size in
    let loops = scan (loop q) (λ _. 39) n 0 accepted in
    let rules = scan (keeps c q) (rule_number q) n 0 loops in
    let goals = scan (claimed c.entries q c.goals roots) (λ _. 36) n 0 rules in
    let orphans = scan (adopted roots q) (λ _. 35) n 0 goals in
    scan (children_fit roots q) (λ _. 35) n 0 orphans

unfoldable pub judge : Claim → Derivation → Verdict
unfolding judge_view quick
judge c d = judge_view c d.roots (quick d.nodes)
