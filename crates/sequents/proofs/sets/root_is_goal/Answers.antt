-- `root_is_goal` meets its contract: a root's members, compared with its goal's in focus.
use mathlib.Core.Path.{ap, ap₂, sym, ◌∙◌}
use mathlib.Core.Bool.{Bool}
use mathlib.Core.List.{List}
use Prim.Native.Nat.{ℕ}
use native.Mathlib.Omega.{arith}
use borrow.Author.Rules.{rules}
use Rattle.verdict.specs.Tests.{same as sameSet, each}
use Rattle.formula.specs.Nodes.{Node}
use Rattle.formula.specs.Codes.{code}
use Rattle.formula.specs.PlainNodes.{codes_at_lem, proof_of_node}
use Rattle.written.specs.Canon.{key as keyIn}
use Rattle.sequents.specs.CodeSet.{holds_none}
use Rattle.sequents.specs.Keys.{in_focus, keys_of, keys_of_lem, key_code, each_same}
use Rattle.sequents.specs.Part.{part}
use Rattle.calculus.specs.Judge.{states, keys}
use Rattle.sequents.proofs.sets.root_is_goal.Goals as goal

pub put_part-requires : goal.put_part-requires
put_part-requires c = (rw c.codes_at.ensures c.requires.1.span.small, holds_none)

pub put_goal-requires : goal.put_goal-requires
put_goal-requires c = (search rules, search rules, holds_none)

pub returns : goal.returns
unfolding states keys
returns c t R rs ls n h =
    let a = c.args in
    let found = keys_of_lem R.numbers (codes_at_lem a.starts.now a.codes.now a.root) R.codes
    ∙ ap (λ (l : List ℕ). each (keyIn t) l) (sym (ap (λ (x : Node). x.codes) (proof_of_node rs ls a.starts.now a.codes.now n a.root h))) in
    let claimed = each_same {g = λ e. keyIn t (code e 1)} (part a.members.now a.from a.to) (λ e m. key_code R.numbers e 1 (omega arith) (R.members e m)) in
    c.same.ensures (keys_of a.table.now.canon.now (codes_at_lem a.starts.now a.codes.now a.root)) (each (in_focus a.table.now.canon.now) (part a.members.now a.from a.to))
    (rw c.codes_at.ensures at c.put_part.ensures) c.put_goal.ensures
    ∙ ap₂ {C = Bool} sameSet found claimed
