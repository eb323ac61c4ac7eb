-- the columns that the decoder fills hold the file's nodes, and are laid out as the judge asks
use mathlib.Core.Path.{◌∙◌, sym, subst}
use Prim.Native.Nat.{ℕ}
use borrow.Author.Rules.{rules}
use Rattle.formula.specs.NodeColumns.{Columns}
use Rattle.laid.specs.Readable.{laid, laid_judged, stored_same, stored_starts}
use Rattle.single.proofs.judge_in.Goals as goal
use Rattle.single.proofs.judge_in.Goals.{After-decode_proof}

-- the columns are as long as they were
columns : (c : After-decode_proof) → let d = c.decode_proof.new in Columns c.args.proof.now.nodes d.rules d.links d.starts d.codes
columns c = search rules

pub decode_proof-requires : goal.decode_proof-requires
decode_proof-requires c =
    (c.requires.0.decodes, c.requires.0.near, subst (λ (m : ℕ). Columns m c.args.rules.now c.args.links.now c.args.starts.now c.args.codes.now) c.requires.0.nodes c.requires.1)

pub judge-requires : goal.judge-requires
judge-requires c =
    let r = c.requires.0 in
    let w = c.decode_proof.ensures.nodes_stored in
    record {
      laid = laid r (columns (goal.at.judge-requires c).After-decode_proof) (stored_same r w) (stored_starts r w);
      goals = r.goals;
    }

pub returns : goal.returns
returns c f =
    let r = c.requires.0 in
    let w = c.decode_proof.ensures.nodes_stored in
    c.judge.ensures f ∙ sym (laid_judged r (columns (goal.at.returns c).After-decode_proof) (stored_same r w) (stored_starts r w) f)
