-- a table is fresh for as many nodes as it has room for
use Prim.Native.Nat.{ℕ}
use native.Mathlib.Omega.{arith}
use lib.ListN.{length-replicate, get_or-replicate}
use Rattle.rules.proofs.judge.judge_sized.Goals as goal

pub judge_in-requires : goal.judge_in-requires
judge_in-requires g c =
    let few = c.requires.2 in (
      c.requires.0,
      c.requires.1,
      record {
        room = omega (arith, few, length-replicate {A = ℕ} g.row.NODES 0);
        ownerless = λ w h. get_or-replicate g.row.NODES w 0 0 (omega (arith, few));
        once = record {
          room = (omega (arith, few, length-replicate {A = ℕ} g.row.NODES 0), omega (arith, few, length-replicate {A = ℕ} g.row.NODES 1));
          ones = λ w h. get_or-replicate g.row.NODES w 1 0 (omega (arith, few));
        };
      },
    )
