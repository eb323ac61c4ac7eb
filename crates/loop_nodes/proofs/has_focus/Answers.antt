-- `has_focus` meets its contract: the codes are looked at from the start on
use mathlib.Core.Path.{◌≡◌, refl, sym, ap, ◌∙◌}
use mathlib.Core.Bool.{Bool, ◌||◌}
use mathlib.Core.List.{List}
use native.Mathlib.Omega.{arith}
use Prim.Native.Nat.{ℕ, zero, suc, ◌+◌, ◌-◌}
use lib.ListN.{get_or}
use borrow.Author.Rules.{rules}
use borrow.Author.Tests.{tests}
use Rattle.std.specs.List.{list_any, range_with_len}
use Rattle.std.proofs.lemmas.Iterator.{YieldsList-from_range}
use Rattle.std.proofs.lemmas.Iterator.Search.{any_from_yields_List}
use Rattle.verdict.specs.Tests.{any}
use Rattle.calculus.specs.Judge.{in_focus}
use Rattle.loop_nodes.specs.FocusLaws.{part, part_step, focus_end}
use Rattle.loop_nodes.proofs.has_focus.Goals as goal

looked : (cs : List ℕ) (end n i : ℕ) → end - i ≡ n → list_any (λ (k : ℕ). in_focus (get_or cs k 0)) (range_with_len i n) ≡ any in_focus (part cs end i)
looked cs end zero i e = sym (focus_end cs end i (omega (arith, e)))
looked cs end (suc n) i e =
    ap (λ (b : Bool). in_focus (get_or cs i 0) || b) (looked cs end n (i + 1) (omega (arith, e))) ∙ sym (part_step cs end i (omega (arith, e)))

pub returns : goal.returns
returns c =
    let a = c.args in
    any_from_yields_List (λ (k : ℕ). in_focus (get_or a.codes.now k 0)) _ _ _ c.any.ensures.ran (YieldsList-from_range a.start a.end (a.end - a.start) refl refl) (λ x b q k. search (rules, tests))
    ∙ looked a.codes.now a.end (a.end - a.start) a.start refl
