-- The roots are copied into an array of zeros, and a table of zeros is lent for the owners.
use mathlib.Core.Path.{◌≡◌, refl, sym, ap, ◌∙◌}
use mathlib.Core.List.{List, ◌++◌}
use Prim.Native.Nat.{ℕ, ◌+◌}
use native.Mathlib.Omega.{arith}
use lib.ListN.{length, take, drop, replicate, length-replicate, get_or-replicate}
use lib.Seq.{take-length}
use Rattle.std.proofs.Common.{subst}
use Rattle.formula.specs.PlainNodes.{proof_of}
use Rattle.tree.specs.Owners.{tree_judged}
use Rattle.tree.specs.Stamps.{RootsPlaced}
use Rattle.vetting.specs.RootLaws.{placed, roots_placed, roots_taken}
use Rattle.vetting.proofs.judge_tree.Goals as goal
use Rattle.vetting.proofs.judge_tree.Goals.{After-copy_from_slice}

copied : (c : After-copy_from_slice) → c.copy_from_slice.new.self ++ drop (length c.args.roots.now) (replicate {A = ℕ} 16 0) ≡ placed c.args.roots.now
copied c =
    let z : 0 + length c.args.roots.now ≡ length c.args.roots.now = omega arith in
    rw (c.copy_from_slice.ensures.after, take-length c.args.roots.now, z) refl

pub fill_owners-requires : goal.fill_owners-requires
fill_owners-requires c =
    let p = c.requires in (
      omega (arith, length-replicate {A = ℕ} 1024 0, p.0),
      subst (λ l. RootsPlaced l c.args.goals c.args.nodes) (sym (copied (goal.at.fill_owners-requires c).After-copy_from_slice)) (roots_placed c.args.roots.now c.args.goals c.args.nodes p.4 p.3),
      λ w h. get_or-replicate {A = ℕ} 1024 w 0 0 (omega arith),
    )

pub returns : goal.returns
returns c f many fit ss cs =
    let roots = ap (take c.args.goals) (copied (goal.at.returns c).After-copy_from_slice) ∙ roots_taken f c.args.goals c.args.roots.now many fit in
    c.fill_owners.ensures.answers ss cs ∙ ap (λ (l : List ℕ). tree_judged l (proof_of c.args.rules.now c.args.links.now ss cs c.args.nodes)) roots
