-- no action but 0 is in the map
use mathlib.Core.Path.{◌∙◌}
use native.Mathlib.Omega.{arith}
use Prim.Native.Nat.{ℕ}
use lib.ListN.{length-replicate}
use Rattle.evaluator.specs.Swept.{row_room, made_rows, made_words}
use Rattle.evaluator.proofs.fill_by_one.Goals as goal

pub row_words-requires : goal.row_words-requires
row_words-requires c =
    λ a h. omega (arith, row_room 1 c.args.used c.requires.2 a h, length-replicate {A = ℕ} 64 0)

pub invariant_of-rowed : goal.invariant_of-rowed
invariant_of-rowed c =
    let model = c.args.model.now in
    record {
      states = model.table.states;
      rows_inside = (made_rows c.args.claim.now.is_claim c.requires.1 model.table.states 64 c.row_words.ensures (row_room 1 c.args.used c.requires.2)).1;
    }

pub fill_words-requires : goal.fill_words-requires
fill_words-requires c =
    (c.requires.0, (made_rows c.args.claim.now.is_claim c.requires.1 c.args.model.now.table.states 64 c.row_words.ensures (row_room 1 c.args.used c.requires.2)).0)

pub returns : goal.returns
returns c =
    let model = c.args.model.now in
    c.fill_words.ensures ∙ made_words c.args.claim.now.is_claim c.requires.1 model.table.states 64 c.row_words.ensures model.masks.now
