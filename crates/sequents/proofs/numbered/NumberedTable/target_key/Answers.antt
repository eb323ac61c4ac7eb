-- `target_key` meets its contract: the target of a name is its fixpoint, that of any other operand the operand.
use mathlib.Core.List.{[]}
use borrow.Author.Rules.{rules}
use Rattle.sequents.specs.KeptLaws.{target_small}
use Rattle.sequents.proofs.numbered.NumberedTable.target_key.Goals as goal

pub key-requires : goal.key-requires
key-requires c =
    let p = c.requires in
    (search rules, rw (c.target-place.ensures [] 256 p.0.small) (target_small [] 256 p.0 p.0.small), p.1)
