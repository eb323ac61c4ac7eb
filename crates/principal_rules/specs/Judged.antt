-- tables that have passed 20 to 35, in plain numbers, and the numbers of their formulas: where each test's promise holds of the proof itself
use Rattle.std.specs.Prelude.{◌≡◌, Bool, true, false, not, ◌&&◌, eqb, ltb}
use Rattle.std.proofs.Math.Path.{refl, ap, sym}
use Rattle.std.proofs.Common.{◌∙◌, le-ltb}
use mathlib.Core.List.{List, []}
use Prim.Native.Nat.{ℕ, ◌+◌, ◌*◌, ◌<◌, ◌≤◌}
use Rattle.std.proofs.Math.Decide.{ℕ_discrete, dec_lt}
use native.Mathlib.Omega.{arith}
use Rattle.std.proofs.Math.ListN.{length, get_or, get_or-eq_default}
use Rattle.verdict.specs.Tests.{member, same, each}
use Rattle.verdict.specs.Tells.{Tells, ltb_tells, eqb_tells, and_tells, not_tells}
use Rattle.verdict.specs.SetTells.{lists_each}
use Rattle.formula.specs.Kind
use Rattle.formula.specs.Rule
use Rattle.formula.specs.Table.{Table, kind}
use Rattle.formula.specs.Plain.{table_of, table_of_length, table_of_kind}
use Rattle.conditions.specs.WellFormed.{WellFormed}
use Rattle.formula.specs.Codes.{entry_of_lem, focus_of}
use Rattle.formula.specs.Nodes.{Node, node}
use Rattle.formula.specs.NodeColumns.{Columns}
use Rattle.formula.specs.PlainNodes.{codes_at_lem, plain_node, proof_of, proof_of_length, proof_of_node}
use Rattle.written.specs.Canon.{key}
use Rattle.written.proofs.CanonLaws.{canon_formula}
use Rattle.calculus.specs.Tree.{Forest, Child, first, second}
use Rattle.calculus.specs.View.{View, plain}
use Rattle.calculus.specs.Judge.{ax1_kept, ax2_kept, or_kept, and_kept, box_kept_lem, mu_kept, nu_kept, weaken_kept, focus_kept_lem, discharge_kept, keys, of_kind, belongs, sides, clash, truth, step_kept, tests}
use Rattle.calculus.specs.Steps.{keeps_ax1, keeps_ax2, keeps_or, keeps_and, keeps_box, keeps_mu, keeps_nu, keeps_w, keeps_f, keeps_u, keeps_d}
use Rattle.sequents.specs.Keys.{Numbers, key_of_lem, keys_of, keys_of_lem, formula_at}
use Rattle.sequents.specs.Placed.{family, Placed, Entries, Formulas, Coded}
use Rattle.operand_rules.specs.Fixpoint.{fixpoint_kept_lem}
use Rattle.side_rules.specs.Tested.{tested, tested_mu, tested_nu, tested_w, tested_f, tested_u}

pub record Judged (ks xs ys ns : List ℕ) (n : ℕ) (rs ls ss cs : List ℕ) (m : ℕ) : Type 0 where
  pub entries : n ≤ 256
  pub columns : Columns m rs ls ss cs
  pub rising : (v : ℕ) → v < m → (get_or ss v 0 ≤ get_or ss (v + 1) 0) × (get_or ss (v + 1) 0 ≤ length cs)
  pub well : WellFormed (table_of ks xs ys n)
  pub numbers : Numbers (table_of ks xs ys n) ns
  pub members : (v : ℕ) → v < m → Formulas (table_of ks xs ys n) (codes_at_lem ss cs v)
  pub tree : Forest (proof_of rs ls ss cs m)

-- what the rule of a node with a principal looks at, where its second child has the codes k
abbrev pub around : List ℕ → List ℕ → List ℕ → ℕ → List ℕ → View
around ls ss cs v k = family (get_or ls (4 * v) 0) (codes_at_lem ss cs v) (codes_at_lem ss cs (get_or ls (4 * v + 1) 0)) k

-- a number that is none of those below k, nor k
pub past : {r : ℕ} (k : ℕ) → k ≤ r → (r ≡ k → ⊥) → k < r
past k h d = omega arith

-- a number that is none of those below k: k, or above it
either : {A : Type 0} {r : ℕ} (k : ℕ) → k ≤ r → (r ≡ k → A) → (k < r → A) → A
either {A} {r} k h is above = go (ℕ_discrete r k)
  where
    go : Dec (r ≡ k) → A
    go (yes e) = is e
    go (no d) = above (past k h d)

formula_tells : (ks : List ℕ) (n c : ℕ) → Tells (formula_at ks n c) ((entry_of_lem c < n) × (get_or ks (entry_of_lem c) 0 ≡ Kind.NAME → ⊥))
formula_tells ks n c = and_tells (ltb_tells (entry_of_lem c) n) (not_tells (eqb_tells (get_or ks (entry_of_lem c) 0) Kind.NAME))

-- the judge's test of a formula is the code's
formula_here : (ks xs ys : List ℕ) (n c : ℕ)
    → (ltb (entry_of_lem c) (length (table_of ks xs ys n)) && not (eqb (kind (table_of ks xs ys n) (entry_of_lem c)) Kind.NAME)) ≡ formula_at ks n c
formula_here ks xs ys n c =
    ap (λ (k : ℕ). ltb (entry_of_lem c) k && not (eqb (kind (table_of ks xs ys n) (entry_of_lem c)) Kind.NAME)) (table_of_length ks xs ys n) ∙ go (dec_lt (entry_of_lem c) n)
  where
    go : Dec (entry_of_lem c < n) → (ltb (entry_of_lem c) n && not (eqb (kind (table_of ks xs ys n) (entry_of_lem c)) Kind.NAME)) ≡ formula_at ks n c
    go (yes h) = rw (table_of_kind ks xs ys n (entry_of_lem c) h) refl
    go (no h) = rw (le-ltb (entry_of_lem c) n (omega arith)) refl

-- whether a principal belongs: it is a formula, and its key is that of a member
pub belongs_test : (ks xs ys : List ℕ) (n p : ℕ) (l m k : List ℕ) → belongs (table_of ks xs ys n) (family p l m k) 0
    ≡ (formula_at ks n p && member (each (key (table_of ks xs ys n)) l) (key (table_of ks xs ys n) p))
unfolding belongs keys
belongs_test ks xs ys n p l m k = ap (λ (b : Bool). b && member (each (key (table_of ks xs ys n)) l) (key (table_of ks xs ys n) p)) (formula_here ks xs ys n p)

module _ {ks xs ys ns : List ℕ} {n : ℕ} {rs ls ss cs : List ℕ} {m : ℕ} (J : Judged ks xs ys ns n rs ls ss cs m) (v : ℕ) (real : v < m) where
  at_node : node (proof_of rs ls ss cs m) v ≡ plain_node rs ls ss cs v
  at_node = proof_of_node rs ls ss cs m v real

  rule_is : (node (proof_of rs ls ss cs m) v).rule ≡ get_or rs v 0
  rule_is = ap (λ (x : Node). x.rule) at_node

  inside : v < length (proof_of rs ls ss cs m)
  inside = rw proof_of_length real

  pub placed : Placed ss cs v
  placed = record {
    room = omega (arith, J.columns.starts);
    span = record {
      order = (J.rising v real).0;
      long = (J.rising v real).1;
      small = λ c e. omega (arith, (J.members v real c e).inside, table_of_length ks xs ys n, J.entries);
    };
  }

  -- the keys of the node's members, each of an entry
  pub keys_here : keys_of ns (codes_at_lem ss cs v) ≡ each (key (table_of ks xs ys n)) (codes_at_lem ss cs v)
  keys_here = keys_of_lem J.numbers (codes_at_lem ss cs v) (λ c m. (J.members v real c m).inside)

  pub key_entries : Entries n (keys_of ns (codes_at_lem ss cs v))
  key_entries k m =
      let (c, o, q) = (lists_each (key_of_lem ns) (codes_at_lem ss cs v)).into k m in
      let F = J.members v real c o in
      omega (arith, q, J.numbers.each (entry_of_lem c) F.inside, (canon_formula (table_of ks xs ys n) (entry_of_lem c) F).inside, table_of_length ks xs ys n)

  first_inside : Rule.OR ≤ get_or rs v 0 → get_or rs v 0 ≤ Rule.D → get_or ls (4 * v + 1) 0 < m
  first_inside a b =
      let c : Child (proof_of rs ls ss cs m) v (get_or ls (4 * v + 1) 0) = first inside (rw rule_is a) (rw rule_is b) (ap (λ (x : Node). x.first) at_node) in
      rw proof_of_length at (J.tree.inside c)

  second_inside : get_or rs v 0 ≡ Rule.AND → get_or ls (4 * v + 2) 0 < m
  second_inside a =
      let c : Child (proof_of rs ls ss cs m) v (get_or ls (4 * v + 2) 0) = second inside (rule_is ∙ a) (ap (λ (x : Node). x.second) at_node) in
      rw proof_of_length at (J.tree.inside c)

module _ {ks xs ys ns : List ℕ} {n : ℕ} {rs ls ss cs : List ℕ} {m : ℕ} (J : Judged ks xs ys ns n rs ls ss cs m) (v : ℕ) (real : v < m) where
  pub first_placed : Rule.OR ≤ get_or rs v 0 → get_or rs v 0 ≤ Rule.D → Placed ss cs (get_or ls (4 * v + 1) 0)
  first_placed a b = placed J (get_or ls (4 * v + 1) 0) (first_inside J v real a b)

  pub second_placed : get_or rs v 0 ≡ Rule.AND → Placed ss cs (get_or ls (4 * v + 2) 0)
  second_placed a = placed J (get_or ls (4 * v + 2) 0) (second_inside J v real a)

  -- the keys of its children's members
  pub first_keys_lem : Rule.OR ≤ get_or rs v 0 → get_or rs v 0 ≤ Rule.D → keys_of ns (codes_at_lem ss cs (get_or ls (4 * v + 1) 0)) ≡ each (key (table_of ks xs ys n)) (codes_at_lem ss cs (get_or ls (4 * v + 1) 0))
  first_keys_lem a b = keys_here J (get_or ls (4 * v + 1) 0) (first_inside J v real a b)

  pub second_keys : get_or rs v 0 ≡ Rule.AND → keys_of ns (codes_at_lem ss cs (get_or ls (4 * v + 2) 0)) ≡ each (key (table_of ks xs ys n)) (codes_at_lem ss cs (get_or ls (4 * v + 2) 0))
  second_keys a = keys_here J (get_or ls (4 * v + 2) 0) (second_inside J v real a)

  first_node : Rule.OR ≤ get_or rs v 0 → get_or rs v 0 ≤ Rule.D → node (proof_of rs ls ss cs m) (get_or ls (4 * v + 1) 0) ≡ plain_node rs ls ss cs (get_or ls (4 * v + 1) 0)
  first_node a b = at_node J (get_or ls (4 * v + 1) 0) (first_inside J v real a b)

  second_node : get_or rs v 0 ≡ Rule.AND → node (proof_of rs ls ss cs m) (get_or ls (4 * v + 2) 0) ≡ plain_node rs ls ss cs (get_or ls (4 * v + 2) 0)
  second_node a = at_node J (get_or ls (4 * v + 2) 0) (second_inside J v real a)

  -- the code of a formula
  pub coded : {c : ℕ} → formula_at ks n c ≡ true → Coded ks xs ys ns n c
  coded {c} h =
      let (inside, no_name) = (formula_tells ks n c).says h in
      record {
        well = J.well;
        numbers = J.numbers;
        small = J.entries;
        inside = inside;
        no_name = λ q. no_name (sym (table_of_kind ks xs ys n (entry_of_lem c) inside) ∙ q);
      }

  principal_is : (node (proof_of rs ls ss cs m) v).principal ≡ get_or ls (4 * v) 0
  principal_is = ap (λ (x : Node). x.principal) (at_node J v real)

  pub codes_is : (node (proof_of rs ls ss cs m) v).codes ≡ codes_at_lem ss cs v
  codes_is = ap (λ (x : Node). x.codes) (at_node J v real)

  first_codes : Rule.OR ≤ get_or rs v 0 → get_or rs v 0 ≤ Rule.D → (node (proof_of rs ls ss cs m) (node (proof_of rs ls ss cs m) v).first).codes ≡ codes_at_lem ss cs (get_or ls (4 * v + 1) 0)
  first_codes a b =
      ap (λ (x : Node). (node (proof_of rs ls ss cs m) x.first).codes) (at_node J v real)
      ∙ ap (λ (x : Node). x.codes) (first_node a b)

  second_codes : get_or rs v 0 ≡ Rule.AND → (node (proof_of rs ls ss cs m) (node (proof_of rs ls ss cs m) v).second).codes ≡ codes_at_lem ss cs (get_or ls (4 * v + 2) 0)
  second_codes a =
      ap (λ (x : Node). (node (proof_of rs ls ss cs m) x.second).codes) (at_node J v real)
      ∙ ap (λ (x : Node). x.codes) (second_node a)

  -- the test that a node's rule names, of what stands in the lists
  module _ (t : Table) where
    pub keeps_ax1_here : get_or rs v 0 ≡ Rule.AX1 → clash t (each (key t) (codes_at_lem ss cs v)) ≡ step_kept t (plain (proof_of rs ls ss cs m)) v
    unfolding ax1_kept keys
    keeps_ax1_here e = sym (keeps_ax1 t (plain (proof_of rs ls ss cs m)) v (rule_is J v real ∙ e) ∙ ap (λ (l : List ℕ). clash t (each (key t) l)) codes_is)

    pub keeps_ax2_here : get_or rs v 0 ≡ Rule.AX2 → truth t (each (key t) (codes_at_lem ss cs v)) ≡ step_kept t (plain (proof_of rs ls ss cs m)) v
    unfolding ax2_kept keys
    keeps_ax2_here e = sym (keeps_ax2 t (plain (proof_of rs ls ss cs m)) v (rule_is J v real ∙ e) ∙ ap (λ (l : List ℕ). truth t (each (key t) l)) codes_is)

    pub keeps_or_here : get_or rs v 0 ≡ Rule.OR → or_kept t (around ls ss cs v []) 0 ≡ step_kept t (plain (proof_of rs ls ss cs m)) v
    unfolding or_kept of_kind belongs sides keys
    keeps_or_here e =
        let f = first_codes (omega arith) (omega arith) in
        sym (keeps_or t (plain (proof_of rs ls ss cs m)) v (rule_is J v real ∙ e) ∙ cc (principal_is, codes_is, f))

    pub keeps_and_here : get_or rs v 0 ≡ Rule.AND → and_kept t (around ls ss cs v (codes_at_lem ss cs (get_or ls (4 * v + 2) 0))) 0 ≡ step_kept t (plain (proof_of rs ls ss cs m)) v
    unfolding and_kept of_kind belongs sides keys
    keeps_and_here e =
        let f = first_codes (omega arith) (omega arith) in
        sym (keeps_and t (plain (proof_of rs ls ss cs m)) v (rule_is J v real ∙ e) ∙ cc (principal_is, codes_is, f, second_codes e))

    pub keeps_box_here : get_or rs v 0 ≡ Rule.BOX → box_kept_lem t (around ls ss cs v []) 0 ≡ step_kept t (plain (proof_of rs ls ss cs m)) v
    unfolding box_kept_lem of_kind belongs sides keys
    keeps_box_here e =
        let f = first_codes (omega arith) (omega arith) in
        sym (keeps_box t (plain (proof_of rs ls ss cs m)) v (rule_is J v real ∙ e) ∙ rw (principal_is, codes_is, f) refl)

    keeps_mu_here : get_or rs v 0 ≡ Rule.MU → fixpoint_kept_lem t (around ls ss cs v []) Kind.MU 0 0 ≡ step_kept t (plain (proof_of rs ls ss cs m)) v
    unfolding mu_kept of_kind belongs sides keys
    keeps_mu_here e =
        let f = first_codes (omega arith) (omega arith) in
        sym (keeps_mu t (plain (proof_of rs ls ss cs m)) v (rule_is J v real ∙ e) ∙ cc (principal_is, codes_is, f))

    keeps_nu_here : get_or rs v 0 ≡ Rule.NU → fixpoint_kept_lem t (around ls ss cs v []) Kind.NU (focus_of (get_or ls (4 * v) 0)) 0 ≡ step_kept t (plain (proof_of rs ls ss cs m)) v
    unfolding nu_kept of_kind belongs sides keys
    keeps_nu_here e =
        let f = first_codes (omega arith) (omega arith) in
        sym (keeps_nu t (plain (proof_of rs ls ss cs m)) v (rule_is J v real ∙ e) ∙ cc (principal_is, codes_is, f))

    keeps_w_here : get_or rs v 0 ≡ Rule.W → weaken_kept t (around ls ss cs v []) 0 ≡ step_kept t (plain (proof_of rs ls ss cs m)) v
    unfolding weaken_kept belongs sides keys
    keeps_w_here e =
        let f = first_codes (omega arith) (omega arith) in
        sym (keeps_w t (plain (proof_of rs ls ss cs m)) v (rule_is J v real ∙ e) ∙ cc (principal_is, codes_is, f))

    keeps_f_here : get_or rs v 0 ≡ Rule.F → focus_kept_lem t (around ls ss cs v []) 0 1 0 ≡ step_kept t (plain (proof_of rs ls ss cs m)) v
    unfolding focus_kept_lem belongs sides keys
    keeps_f_here e =
        let f = first_codes (omega arith) (omega arith) in
        sym (keeps_f t (plain (proof_of rs ls ss cs m)) v (rule_is J v real ∙ e) ∙ cc (principal_is, codes_is, f))

    keeps_u_here : get_or rs v 0 ≡ Rule.U → focus_kept_lem t (around ls ss cs v []) 1 0 0 ≡ step_kept t (plain (proof_of rs ls ss cs m)) v
    unfolding focus_kept_lem belongs sides keys
    keeps_u_here e =
        let f = first_codes (omega arith) (omega arith) in
        sym (keeps_u t (plain (proof_of rs ls ss cs m)) v (rule_is J v real ∙ e) ∙ cc (principal_is, codes_is, f))

    pub keeps_d_here : get_or rs v 0 ≡ Rule.D → same (each (key t) (codes_at_lem ss cs (get_or ls (4 * v + 1) 0))) (each (key t) (codes_at_lem ss cs v)) ≡ step_kept t (plain (proof_of rs ls ss cs m)) v
    unfolding discharge_kept keys
    keeps_d_here e =
        let f = first_codes (omega arith) (omega arith) in
        sym (keeps_d t (plain (proof_of rs ls ss cs m)) v (rule_is J v real ∙ e) ∙ cc (codes_is, f))

    -- 5 to 9, by their number
    pub keeps_side_here : Rule.MU ≤ get_or rs v 0 → get_or rs v 0 ≤ Rule.U → tested t (get_or rs v 0) (around ls ss cs v []) ≡ step_kept t (plain (proof_of rs ls ss cs m)) v
    keeps_side_here low high =
        either Rule.MU low (λ e. sym (tested_mu t (around ls ss cs v []) e) ∙ keeps_mu_here e) (λ low.
        either Rule.NU low (λ e. sym (tested_nu t (around ls ss cs v []) e) ∙ keeps_nu_here e) (λ low.
        either Rule.W low (λ e. sym (tested_w t (around ls ss cs v []) e) ∙ keeps_w_here e) (λ low.
        either Rule.F low (λ e. sym (tested_f t (around ls ss cs v []) e) ∙ keeps_f_here e) (λ low.
        either Rule.U low (λ e. sym (tested_u t (around ls ss cs v []) e) ∙ keeps_u_here e) (λ low. absurd (omega arith))))))

    -- a rule with a principal that does not belong is not kept
    pub keeps_alien : Rule.OR ≤ get_or rs v 0 → get_or rs v 0 ≤ Rule.U → belongs t (around ls ss cs v []) 0 ≡ false → false ≡ step_kept t (plain (proof_of rs ls ss cs m)) v
    unfolding or_kept and_kept box_kept_lem weaken_kept focus_kept_lem of_kind belongs keys
    keeps_alien low high h =
        either Rule.OR low (λ e. rw h refl ∙ keeps_or_here e) (λ low.
        either Rule.AND low (λ e. rw h refl ∙ keeps_and_here e) (λ low.
        either Rule.BOX low (λ e. rw h refl ∙ keeps_box_here e) (λ low.
        either Rule.MU low (λ e. rw h refl ∙ keeps_mu_here e) (λ low.
        either Rule.NU low (λ e. rw h refl ∙ keeps_nu_here e) (λ low.
        either Rule.W low (λ e. rw h refl ∙ keeps_w_here e) (λ low.
        either Rule.F low (λ e. rw h refl ∙ keeps_f_here e) (λ low.
        either Rule.U low (λ e. rw h refl ∙ keeps_u_here e) (λ low. absurd (omega arith)))))))))

    pub keeps_none : Rule.D < get_or rs v 0 → false ≡ step_kept t (plain (proof_of rs ls ss cs m)) v
    unfolding step_kept
    keeps_none h = sym (ap (λ (f : ℕ → Bool). f v) (get_or-eq_default (tests t (plain (proof_of rs ls ss cs m))) (λ _. false) (beyond (rule_is J v real))))
      where
        beyond : {r : ℕ} → r ≡ get_or rs v 0 → length (tests t (plain (proof_of rs ls ss cs m))) ≤ r
        beyond e = omega arith
