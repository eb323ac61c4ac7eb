-- the table that a claim's records make is read to where the walk over them ends
use Rattle.std.specs.Prelude.{◌≡◌, List, ◌++◌, Bool, ℕ, ◌+◌, ◌≤◌, length}
use Rattle.std.proofs.Math.Path.{refl, ap}
use Rattle.std.proofs.Common.{sym, ◌∙◌, arith}
use Rattle.std.proofs.Math.Bool.{true, false}
use Rattle.verdict.specs.Tells.{Tells}
use Rattle.formula.specs.Table.{Table}
use Rattle.formula.specs.Claim.{Form, fewest}
use Rattle.encoding.specs.Encode.{encode_all, Counts}
use Rattle.encoding.specs.ListLaws.{range_tells}
use Rattle.encoding.specs.Parse.{Got, pick, bind, in_range, times}
use Rattle.claim_files.specs.ReadClaim.{early, entry, entries}
use Rattle.writing.specs.RecordBytes.{entry_bytes, table_bytes}
use Rattle.writing.specs.Spelling.{spelled_as, spelling_of}
use Rattle.writing.specs.Ends.{next, stop, go_on, walk, got_by, times_walk}
use Rattle.writing.specs.FieldEnds.{count_meets}
use Rattle.writing.specs.EntryEnds.{entries_end, entry_end, entry_meets, table_end}

module _ (es : Table) (rest : List ℕ) where
  entries_walked : (at : ℕ) → times (λ _. entry) (λ _ _. 0) (length es) 0 (encode_all entry_bytes es ++ rest) at ≡ got_by (spelling_of es) rest (entries_end es at)
  unfolding walk
  entries_walked at = times_walk (λ _. entry) (λ _ _. 0) entry_bytes spelled_as entry_end (λ _ _. 0) (λ c x. refl) entry_meets es 0 rest at

  pub table_read : (f : Form) (n at : ℕ) → (n ≤ 256 → length es ≡ n) → entries f (table_bytes n es ++ rest) at ≡ got_by (spelling_of es) rest (table_end f n es at)
  unfolding entries walk times
  table_read f n at long =
      ap (λ (g : Got ℕ). bind g (λ n r o. times (λ _. entry) (λ _ _. 0) n 0 r o)) (count_meets early (fewest f) 256 12 (omega arith) n (encode_all entry_bytes es ++ rest) at)
      ∙ go (in_range (fewest f) 256 n) (range_tells (fewest f) 256 n)
    where
      go : (b : Bool) → Tells b (Counts (fewest f) 256 n) → bind (got_by n (encode_all entry_bytes es ++ rest) (pick b (next (at + 2)) (stop 12 at))) (λ n r o. times (λ _. entry) (λ _ _. 0) n 0 r o)
          ≡ got_by (spelling_of es) rest (go_on (pick b (next (at + 2)) (stop 12 at)) (λ o. entries_end es o))
      go false t = refl
      go true t = ap (λ (m : ℕ). times (λ _. entry) (λ _ _. 0) m 0 (encode_all entry_bytes es ++ rest) (at + 2)) (sym (long (t.says refl).1)) ∙ entries_walked (at + 2)
