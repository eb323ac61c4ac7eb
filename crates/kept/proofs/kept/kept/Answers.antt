-- `kept` meets its contract: each arm is the test that the rule names.
use mathlib.Core.Path.{ap, ap₂, ◌∙◌}
use mathlib.Core.Bool.{Bool}
use native.Mathlib.Omega.{arith}
use Rattle.verdict.specs.Tests.{same}
use Rattle.sequents.specs.Columned.{numbered}
use Rattle.calculus.specs.Judge.{clash, truth}
use Rattle.principal_rules.specs.Judged.{placed, first_placed, keys_here, key_entries, first_keys_lem, keeps_ax1_here, keeps_ax2_here, keeps_d_here, keeps_none}
use Rattle.kept.proofs.kept.kept.Goals as goal

pub ax1_kept-requires : goal.ax1_kept-requires
ax1_kept-requires c = let p = c.requires in placed p.0 _ p.1

pub ax2_kept-requires : goal.ax2_kept-requires
ax2_kept-requires c = let p = c.requires in placed p.0 _ p.1

pub same_sequent-requires : goal.same_sequent-requires
same_sequent-requires c =
    let p = c.requires in
    (rw c.wide.ensures (first_placed p.0 _ p.1 (omega (arith, c.in-10.is)) (omega (arith, c.in-10.is))), placed p.0 _ p.1)

pub returns-in-0 : goal.returns-in-0
returns-in-0 c =
    let p = c.requires in
    let a = c.args in
    c.ax1_kept.ensures a.table.now.columns.b.now a.table.now.columns.count (key_entries p.0 a.v p.1)
    ∙ ap (clash (numbered a.table.now)) (keys_here p.0 a.v p.1)
    ∙ keeps_ax1_here p.0 _ p.1 _ c.in-0.is

pub returns-in-1 : goal.returns-in-1
returns-in-1 c =
    let p = c.requires in
    let a = c.args in
    c.ax2_kept.ensures a.table.now.columns.a.now a.table.now.columns.b.now a.table.now.columns.count (key_entries p.0 a.v p.1)
    ∙ ap (truth (numbered a.table.now)) (keys_here p.0 a.v p.1)
    ∙ keeps_ax2_here p.0 _ p.1 _ c.in-1.is

pub returns-in-10 : goal.returns-in-10
returns-in-10 c =
    let p = c.requires in
    let a = c.args in
    let d = c.in-10.is in
    rw c.wide.ensures at c.same_sequent.ensures
    ∙ ap₂ {C = Bool} same (first_keys_lem p.0 a.v p.1 (omega (arith, d)) (omega (arith, d))) (keys_here p.0 a.v p.1)
    ∙ keeps_d_here p.0 _ p.1 _ d

pub returns-in_default : goal.returns-in_default
returns-in_default c =
    let p = c.requires in
    keeps_none p.0 _ p.1 _ (omega arith)
