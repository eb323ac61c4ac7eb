-- The bytes first, then the trees.
use mathlib.Core.Path.{◌≡◌, refl, sym, ap, ◌∙◌}
use mathlib.Core.List.{List}
use Rattle.std.specs.Prelude.{Ok, Err}
use Rattle.verdict.specs.Shown.{Answer, accepts, shown}
use Rattle.verdict.proofs.PassedOn.{passed_on}
use Rattle.formula.specs.Table.{Table}
use Rattle.formula.specs.Claim.{Form, form_number}
use Rattle.formula.specs.Nodes.{Proof}
use Rattle.formula.specs.Records.{NodeRecord}
use Rattle.proof_files.specs.ProofParts.{kind_table}
use Rattle.formula.specs.NamedForm.{named_form, for_named}
use Rattle.tree.specs.Owners.{tree_judged}
use Rattle.writing.specs.Goals.{roots_fit, roots_of}
use Rattle.writing.specs.Ends.{End}
use Rattle.writing.specs.ProofEnds.{nodes_over, proof_end}
use Rattle.writing.specs.Held.{records_of}
use Rattle.vetting.specs.Steps.{Step, Finds}
use Rattle.vetting.specs.StepLaws.{finds_stop, finds_next, found_next, judge_refuses, judge_accepts}
use Rattle.vetting.specs.RootLaws.{ProofFound, proof_found}
use Rattle.vetting.specs.Columns.{starts, nodes_of_columns}
use Rattle.claim_files.specs.ClaimFile.{GoalCount}
use Rattle.formula.specs.PlainNodes.{proof_of}
use Prim.Native.Nat.{ℕ}
use mathlib.Core.Bool.{true}
use Rattle.vetting.proofs.judge_proof.Goals as goal
use Rattle.vetting.proofs.judge_proof.Goals.{Start}

module _ (s : Start) where
  abbrev table : Table
  table = kind_table s.args.kinds.now s.args.entries

  abbrev records : List NodeRecord
  records = records_of s.args.rules.now s.args.links.now s.args.counts.now s.args.nodes

  abbrev ends : Form → End
  ends f = proof_end f s.args.goals table s.args.nodes s.args.roots.now records s.args.codes.now

  -- the walk, as any form that the number names
  walked : {r : Step} → Finds (ends (named_form s.args.form)) 58406 r → (f : Form) → s.args.form ≡ form_number f → Finds (ends f) 58406 r
  walked {r} = for_named (λ (f : Form). Finds (ends f) 58406 r)

  -- past it, what it tells of the roots
  found : (f : Form) {at : ℕ} → Finds (ends f) 58406 (Ok at) → ProofFound f s.args.goals s.args.nodes s.args.roots.now
  found f w =
      proof_found f s.args.goals table s.args.nodes s.args.roots.now records s.args.codes.now s.requires.entries_bound.1 (found_next w)

pub judge_tree-requires : goal.judge_tree-requires
judge_tree-requires c =
    let f = found (goal.at.judge_tree-requires c).Start (named_form c.args.form) c.in_ok-end.ensures in
    let columns = c.requires.nodes_given f.nodes.1 in
    (f.nodes.1, columns.rules, columns.links, c.requires.entries_bound.1, f.roots)

-- what the judge of the trees says of the columns, it says of the nodes
tree-told : (s : Start) (f : Form) → s.args.form ≡ form_number f → {at : ℕ} → Finds (ends s f) 58406 (Ok at) → (v : Answer)
    → ((f : Form) → GoalCount f s.args.goals → roots_fit f s.args.goals s.args.roots.now ≡ true → (ss cs : List ℕ)
    → shown v ≡ tree_judged (roots_of f s.args.roots.now) (proof_of s.args.rules.now s.args.links.now ss cs s.args.nodes))
    → tree_judged (roots_of f s.args.roots.now) (nodes_over (records s) s.args.codes.now) ≡ shown v
tree-told s f named w v told =
    ap (λ (p : Proof). tree_judged (roots_of f s.args.roots.now) p)
    (nodes_of_columns s.args.rules.now s.args.links.now s.args.counts.now s.args.codes.now s.args.nodes)
    ∙ sym (told f (s.requires.entries_bound.2 f named) (found s f w).fit (starts s.args.counts.now s.args.nodes) s.args.codes.now)

pub returns-in_err-judge_tree : goal.returns-in_err-judge_tree
returns-in_err-judge_tree c f named =
    let s = (goal.at.returns-in_err-judge_tree c).Start in
    let w = walked s c.in_ok-end.ensures f named in
    rw (passed_on _ c.from_residual-in_err-judge_tree.ensures.1)
    (finds_stop (judge_refuses (found_next w) (tree-told s f named w (Err c.in_err-judge_tree.field-0.0) c.in_err-judge_tree.ensures)) refl)

pub returns : goal.returns
returns c f named =
    let s = (goal.at.returns c).Start in
    let w = walked s c.in_ok-end.ensures f named in
    finds_next (judge_accepts (found_next w) (tree-told s f named w accepts c.in_ok-judge_tree.ensures)) (w.near _ refl)
