-- What each stage asks holds by what the one before it left: decoded, stored as records, loaded from these, judged.
use Rattle.std.specs.Prelude.{◌≡◌, List, ℕ, ◌+◌, ◌*◌, ◌≤◌}
use Rattle.std.proofs.Common.{arith, replicate}
use lib.ListN.{length-replicate}
use Rattle.formula.specs.NodeColumns.{Columns}
use Rattle.records.specs.declared.Node.{Node}
use Rattle.standing.specs.Standing.{RoomFor}
use Rattle.standing.specs.StandingLaws.{may_decode, may_store, may_load, may_judge}
use Rattle.standing.proofs.StandingLaws.{judged_stored}
use Rattle.standing.proofs.judge_within.Goals as goal

-- the columns are large enough, and so are the codes that are lent
rooms : {k m l s : ℕ} {vs : List Node} {cs : List ℕ} → RoomFor k m vs cs → (k ≤ 1024) × (l ≡ 4 * k) × (s ≡ k + 1) → Columns m (replicate k 0) (replicate l 0) (replicate s 0) cs
rooms {k} {m} {l} {s} r h = record {
  few = omega (arith, r.rows);
  rules = omega (arith, r.rows, length-replicate {A = ℕ} k 0);
  links = omega (arith, r.rows, length-replicate {A = ℕ} l 0);
  starts = omega (arith, r.rows, length-replicate {A = ℕ} s 0);
  codes = r.codes;
}

pub decode_proof-requires : goal.decode_proof-requires
decode_proof-requires g c = may_decode c.requires.readable.0 (rooms c.requires.readable.1 c.requires.room)

pub store_nodes-requires : goal.store_nodes-requires
store_nodes-requires g c = may_store c.requires.readable.0 (rooms c.requires.readable.1 c.requires.room) c.decode_proof.ensures.nodes_stored c.args.nodes.now c.requires.readable.1.nodes

pub load_nodes-requires : goal.load_nodes-requires
load_nodes-requires g c =
    may_load c.requires.readable.0 (rooms c.requires.readable.1 c.requires.room) c.decode_proof.ensures.nodes_stored c.args.nodes.now c.requires.readable.1.nodes c.store_nodes.ensures

pub judge_loaded-requires : goal.judge_loaded-requires
judge_loaded-requires g c = (
  may_judge c.requires.readable.0 (rooms c.requires.readable.1 c.requires.room) c.decode_proof.ensures.nodes_stored c.args.nodes.now c.requires.readable.1.nodes c.store_nodes.ensures c.load_nodes.ensures,
  c.requires.readable.0.goals,
)

pub returns : goal.returns
returns g c =
    judged_stored c.requires.readable.0 (rooms c.requires.readable.1 c.requires.room) c.decode_proof.ensures.nodes_stored c.args.nodes.now c.requires.readable.1.nodes c.store_nodes.ensures c.load_nodes.ensures
    c.judge_loaded.ensures
