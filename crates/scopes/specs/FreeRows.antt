-- the pass that makes the rows of free names alone
use Rattle.std.specs.Prelude.{◌≡◌, List, false, ℕ, ◌+◌, ◌*◌, ◌<◌, ◌≤◌, length, get_or}
use Rattle.std.proofs.Common.{◌∙◌, arith}
use Rattle.formula.specs.Plain.{table_of}
use Rattle.conditions.specs.Judge.{free_row}
use Rattle.conditions.specs.TestLaws.{free_set}
use Rattle.operands.specs.OperandBounds.{out_of}
use Rattle.name_sets.specs.RowWords.{row_of, with_row, length_row}
use Rattle.name_sets.specs.declared.Names.{Names}
use Rattle.scopes.specs.RowMarks.{RowsBelow, words_more}
use Rattle.scopes.specs.EntryRows.{PlacesOf, MadeAt, free_made}
use Rattle.scopes.specs.declared.entry.Places.{Places}

-- where the pass over a table of at most 256 entries, none of which earns 20, stands before entry e: the rows of all entries passed
pub record FreeReached (ks xs ys : List ℕ) (n : ℕ) (old fs : List ℕ) (e : ℕ) : Type 0 where
  pub small : n ≤ 256
  pub placed : (w : ℕ) → w < n → out_of (table_of ks xs ys n) w ≡ false
  pub within : e ≤ n
  pub room : 4 * n ≤ length fs
  pub same_length : length fs ≡ length old
  pub rows : RowsBelow (row_of fs) (free_set (table_of ks xs ys n)) e

module _ {ks xs ys : List ℕ} {n : ℕ} {old fs : List ℕ} {e : ℕ} (now : FreeReached ks xs ys n old fs e) (inside : e < n) where
  pub free_on : {at : Places} → PlacesOf xs ys e at → (free : Names) → MadeAt (get_or ks e 0) e at free_row (row_of fs) free
      → FreeReached ks xs ys n old (with_row fs e free) (e + 1)
  free_on is free made = record {
    small = now.small;
    placed = now.placed;
    within = omega arith;
    room = omega (arith, length_row fs e free, now.room);
    same_length = length_row fs e free ∙ now.same_length;
    rows =
        words_more (free_set (table_of ks xs ys n)) fs e now.rows free (omega (arith, now.room))
        (free_made ks xs ys n now.placed e inside is (row_of fs) now.rows free made);
  }
