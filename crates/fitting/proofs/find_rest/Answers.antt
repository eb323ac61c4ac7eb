use mathlib.Core.Path.{◌≡◌, sym, ap, ◌∙◌}
use mathlib.Core.List.{List, ◌∷◌}
use Prim.Native.Nat.{ℕ, ◌+◌}
use native.Mathlib.Omega.{arith}
use lib.ListN.{length-set, get_or}
use Rattle.verdict.specs.Tests.{member}
use Rattle.sequents.specs.CodeSet.{Holds}
use Rattle.sequents.specs.Keys.{in_focus}
use Rattle.sequents.specs.Part.{part, part_none, part-more, part_member}
use Rattle.fitting.specs.Sifting.{Sifting, sifting_keeps, sifting_drops, sifting_ends}
use Rattle.fitting.proofs.find_rest.Goals as goal
use Rattle.fitting.proofs.find_rest.Goals.{then-has, else-has}

pub key-requires : goal.key-requires
key-requires c =
    let here = part_member c.args.members.now c.args.from c.args.to c.loop-i.i (omega arith) (omega arith) c.requires.1.long in
    (c.requires.0, rw c.wide.ensures (c.requires.1.inside _ here), omega arith)

pub loop-i-preserved : goal.loop-i-preserved
loop-i-preserved c =
    let l = c.loop-i in
    let more = part-more c.args.members.now l.i c.args.to (omega arith) c.requires.1.long in
    let left : (m : List ℕ) → Holds c.args.second.now m
    → Sifting (λ e. member m (in_focus c.args.canon.now e)) (part c.args.members.now c.args.from c.args.to)
    (get_or c.args.members.now l.i 0 ∷ part c.args.members.now (l.i + 1) c.args.to) c.args.rest.now l.found l.rest =
    λ m h. rw (← more) (l.invariant.2 m h) in
    let passes : (m : List ℕ) → Holds c.args.second.now m → c.has.result ≡ member m (in_focus c.args.canon.now (get_or c.args.members.now l.i 0)) =
    λ m h. c.has.ensures m h ∙ ap (member m) (c.key.ensures.1 ∙ ap (in_focus c.args.canon.now) c.wide.ensures) in
    elim c.if-has.branch [
      | then-has w ↦ rw (w.rest-is, w.found-is) (
        omega arith,
        length-set l.rest l.found _ ∙ l.invariant.1,
        λ m h. sifting_keeps (left m h) (omega (arith, c.requires.3)) (sym (passes m h) ∙ w.if-has.true),
      )
      | else-has w ↦ rw (w.rest-is, w.found-is) (omega arith, l.invariant.1, λ m h. sifting_drops (left m h) (sym (passes m h) ∙ w.if-has.false))
    ]

pub returns : goal.returns
returns c l h = sifting_ends (c.loop-i.invariant.2 l h) (part_none c.args.members.now c.loop-i.i c.args.to (omega arith))
