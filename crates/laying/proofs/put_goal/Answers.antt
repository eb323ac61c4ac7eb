-- The count, then the members.
use native.Mathlib.Omega.{arith}
use mathlib.Core.Path.{refl, ap}
use Prim.Native.Nat.{◌+◌, ◌*◌, ◌≤◌}
use lib.ListN.{length}
use Rattle.encoding.specs.Encode.{encode_two}
use Rattle.laying.specs.Laying.{Put, numbers_length, put_long}
use Rattle.laying.specs.Goals.{goal_parts}
use Rattle.laying.proofs.put_goal.Goals as goal
use Rattle.laying.proofs.put_goal.Goals.{Start, After-put_two}

-- two bytes for the count and for each member
room : (c : Start) → c.args.at + (2 + 2 * c.args.count) ≤ length c.args.out.now
room c =
    omega (arith, c.requires.0, ap length (goal_parts c.args.members.now c.args.start c.args.count c.requires.1), numbers_length c.args.members.now c.args.start c.args.count c.requires.1)

two-put : (c : After-put_two) → Put c.args.out.now c.args.at (encode_two c.args.count) (c.args.at + 2) c.put_two.new.out
two-put c = record { place = refl; stored = c.put_two.ensures }

pub put_numbers-requires : goal.put_numbers-requires
put_numbers-requires c =
    let p = goal.at.put_numbers-requires c in
    (omega (arith, room p.Start, c.wide.ensures, put_long (two-put p.After-put_two)), omega (arith, c.wide.ensures, c.requires.1))
