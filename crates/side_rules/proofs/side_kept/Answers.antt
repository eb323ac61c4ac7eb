-- `side_kept` meets its contract: each arm is the test that the rule names.
use mathlib.Core.Path.{◌≡◌, ◌∙◌}
use mathlib.Core.List.{List, []}
use Prim.Native.Nat.{ℕ, ◌<◌}
use native.Mathlib.Omega.{arith}
use lib.ListN.{length}
use Rattle.formula.specs.Plain.{table_of, table_of_length}
use Rattle.formula.specs.Codes.{entry_of_lem}
use Rattle.calculus.specs.Judge.{keys, sides, weaken_kept}
use Rattle.sequents.specs.Placed.{family, Coded}
use Rattle.sequents.specs.KeptLaws.{belongs_so}
use Rattle.sequents.specs.Columned.{numbered}
use Rattle.side_rules.specs.Tested.{tested_mu, tested_nu, tested_w, tested_f, tested_u}
use Rattle.side_rules.proofs.side_kept.Goals as goal

-- the principal's entry is one of the table
inside : {ks xs ys ns : List ℕ} {n p : ℕ} → Coded ks xs ys ns n p → entry_of_lem p < length (table_of ks xs ys n)
inside {ks} {xs} {ys} {n = n} C = omega (arith, C.inside, table_of_length ks xs ys n)

pub returns-in-5 : goal.returns-in-5
returns-in-5 c l m S M = c.fixpoint_kept.ensures l m S M ∙ tested_mu _ _ c.in-5.is

pub returns-in-6 : goal.returns-in-6
returns-in-6 c l m S M = c.fixpoint_kept-in-6.ensures l m S M ∙ tested_nu _ _ c.in-6.is

pub returns-in-7 : goal.returns-in-7
unfolding weaken_kept sides keys
returns-in-7 c l m S M =
    let a = c.args in
    let t = numbered a.table.now in
    let w : c.same.result ≡ weaken_kept t (family a.principal l m []) 0 = rw (belongs_so t a.principal l m [] S.belongs) (c.same.ensures _ _ M S.holds) in
    w ∙ tested_w _ _ c.in-7.is

pub returns-in-8 : goal.returns-in-8
returns-in-8 c l m S M = let C = c.requires.0 in c.focus_kept.ensures _ C.numbers (inside C) l m S M ∙ tested_f _ _ c.in-8.is

pub returns-in-9 : goal.returns-in-9
returns-in-9 c l m S M = let C = c.requires.0 in c.focus_kept-in-9.ensures _ C.numbers (inside C) l m S M ∙ tested_u _ _ c.in-9.is
