-- the walk over nodes that stand in columns, by what is left of it
use Rattle.std.specs.Prelude.{◌≡◌, List, true, false, ℕ, ◌+◌, ◌*◌, ◌-◌, ◌<◌, ◌≤◌, length, get_or, take, drop}
use Rattle.std.proofs.Math.Path.{refl}
use Rattle.std.proofs.Common.{◌∙◌, arith, le-leb}
use Rattle.std.proofs.lemmas.Bool.{lt-leb}
use Rattle.std.proofs.Math.Seq.{drop-drop}
use Rattle.verdict.specs.Lists.{values_from}
use Rattle.formula.specs.Rule
use Rattle.formula.specs.Table.{Table}
use Rattle.formula.specs.Fields.{link_width_lem}
use Rattle.writing.specs.Ends.{End, next, stop}
use Rattle.writing.specs.NodeEnds.{links_held, sequent_end, node_end, node_past}
use Rattle.writing.specs.ProofEnds.{nodes_end}
use Rattle.writing.specs.Held.{plain_record, records_of}
use Rattle.vetting.specs.Steps.{record_at}
use Rattle.vetting.specs.WalkLaws.{values_cons, values_none, part_long}

-- the codes of the node whose codes start there
abbrev pub codes_from : List ℕ → List ℕ → ℕ → ℕ → List ℕ
codes_from ns cs v start = take (get_or ns v 0) (drop start cs)

-- the nodes from v on are left, their codes from a start on, at a place
pub record NodesLeft (t : Table) (rs ls ns cs : List ℕ) (n from v start at : ℕ) : Type 0 where
  pub few : start ≤ 24 * v
  pub near : at ≤ from + 57 * v
  pub left : nodes_end t (records_of rs ls ns n) cs from ≡ nodes_end t (values_from (plain_record rs ls ns) v (n - v)) (drop start cs) at

pub nodes_begin : (t : Table) (rs ls ns cs : List ℕ) (n from : ℕ) → NodesLeft t rs ls ns cs n from 0 0 from
nodes_begin t rs ls ns cs n from = record { few = omega arith; near = omega arith; left = let z : n - 0 ≡ n = omega arith in rw z refl }

module _ {t : Table} {rs ls ns cs : List ℕ} {n from v start at : ℕ} (h : NodesLeft t rs ls ns cs n from v start at) where
  pub nodes_end_lem : n ≤ v → nodes_end t (records_of rs ls ns n) cs from ≡ next at
  unfolding nodes_end
  nodes_end_lem k = h.left ∙ rw (values_none (plain_record rs ls ns) v n k) refl

  -- where node v ends
  abbrev pub ends : End
  ends = node_end t (plain_record rs ls ns v) (codes_from ns cs v start) at

  module _ (k : v < n) where
    pub nodes_stop : {m q : ℕ} → ends ≡ stop m q → nodes_end t (records_of rs ls ns n) cs from ≡ stop m q
    unfolding nodes_end
    nodes_stop e = h.left ∙ rw (values_cons (plain_record rs ls ns) v n k, e) refl

    pub nodes_on : {o : ℕ} → 24 * n ≤ length cs → ends ≡ next o → NodesLeft t rs ls ns cs n from (v + 1) (start + get_or ns v 0) o
    unfolding nodes_end
    nodes_on {o} room e =
        let (past, few, near) = node_past t (plain_record rs ls ns v) (codes_from ns cs v start) (λ f. part_long cs start (get_or ns v 0) (omega (arith, h.few))) at o e in
        record {
          few = omega (arith, h.few);
          near = omega (arith, h.near);
          left = h.left ∙ rw (values_cons (plain_record rs ls ns) v n k, e, drop-drop (get_or ns v 0) start cs) refl;
        }

    -- the rule and the links are judged before the sequent
    pub rule_unfit : Rule.BACK < get_or rs v 0 → nodes_end t (records_of rs ls ns n) cs from ≡ stop 33 at
    rule_unfit b = nodes_stop (rw (lt-leb (get_or rs v 0) Rule.BACK b) refl)

    module _ (b : get_or rs v 0 ≤ Rule.BACK) where
      pub links_unfit : links_held (record_at (get_or rs v 0) ls v 0) ≡ false → nodes_end t (records_of rs ls ns n) cs from ≡ stop 33 at
      links_unfit e = nodes_stop (rw (le-leb (get_or rs v 0) Rule.BACK b, e) refl)

      pub node_fits : links_held (record_at (get_or rs v 0) ls v 0) ≡ true → ends ≡ sequent_end t (get_or ns v 0) (codes_from ns cs v start) (at + 2 + link_width_lem (get_or rs v 0))
      node_fits e = rw (le-leb (get_or rs v 0) Rule.BACK b, e) refl
