-- `put_targets` meets its contract. The invariant: the set holds the targets of the codes from i on.
use mathlib.Core.List.{List}
use Prim.Native.Nat.{ℕ}
use lib.ListN.{length}
use Rattle.verdict.specs.Sets.{elements}
use Rattle.verdict.specs.Tests.{each}
use Rattle.formula.specs.Plain.{table_of}
use Rattle.sequents.specs.Part.{part}
use Rattle.sequents.specs.CodeSet.{Holds}
use Rattle.modal.specs.BoxLaws.{stepped_key, Modal}
use Rattle.modal.proofs.put_targets.Given as goal

abbrev pub invariant-loop-i : goal.invariant-loop-i
invariant-loop-i l =
    (ys : List ℕ) (n : ℕ) → ((c : ℕ) → elements l.codes c → Modal l.table.columns.kinds.now l.table.columns.a.now ys n c) → Holds l.set (each (stepped_key l.table.canon.now (table_of l.table.columns.kinds.now l.table.columns.a.now ys n)) (part l.codes l.i (length l.codes)))
