-- A small count fits the small columns.
use native.Mathlib.Omega.{arith}
use Rattle.standing.proofs.judge_numbered.Goals as goal

pub judge_within-requires : goal.judge_within-requires
judge_within-requires c = record {
  readable = (c.requires.0, record { rows = c.if-proof-le32.true; nodes = c.requires.1.nodes; codes = c.requires.1.codes });
  room = (omega arith, omega arith, omega arith);
}
