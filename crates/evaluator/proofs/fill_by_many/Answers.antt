-- the rows are made from nothing
use mathlib.Core.Path.{refl, ◌∙◌}
use Rattle.evaluator.specs.Swept.{row_room, made_rows, made_words}
use Rattle.evaluator.proofs.fill_by_many.Goals as goal

pub sparse_or_dense-requires : goal.sparse_or_dense-requires
sparse_or_dense-requires c = refl

pub invariant_of-rowed : goal.invariant_of-rowed
invariant_of-rowed c =
    let model = c.args.model.now in
    record {
      states = model.table.states;
      rows_inside = (made_rows c.args.claim.now.is_claim c.requires.1 model.table.states 1024 c.sparse_or_dense.ensures (row_room 16 c.args.used c.ranges.used.fits)).1;
    }

pub fill_words-requires : goal.fill_words-requires
fill_words-requires c =
    (c.requires.0, (made_rows c.args.claim.now.is_claim c.requires.1 c.args.model.now.table.states 1024 c.sparse_or_dense.ensures (row_room 16 c.args.used c.ranges.used.fits)).0)

pub returns : goal.returns
returns c =
    let model = c.args.model.now in
    c.fill_words.ensures ∙ made_words c.args.claim.now.is_claim c.requires.1 model.table.states 1024 c.sparse_or_dense.ensures model.masks.now
