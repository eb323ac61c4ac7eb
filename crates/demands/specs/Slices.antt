-- lent slices: the lengths that refusal 1 asks for, and what a slice holds once a decoding is written to it
use Rattle.std.specs.Prelude.{List, Bool, ◌||◌, ℕ, ◌≤◌, ltb, length}
use Rattle.verdict.specs.Lists.{written}
use Rattle.formula.specs.Table.{Entry}
use Rattle.formula.specs.Claim.{Derivation}
use Rattle.formula.specs.Records.{NodeRecord, node_records, all_codes}
use Rattle.reader.specs.Files.{Files}

-- the record slices that presenting is lent
pub record Lent : Type 0 where
  pub entries : List Entry
  pub nodes : List NodeRecord
  pub codes : List ℕ

-- 1: under 256 entries, 1,024 nodes or 24,576 codes
abbrev pub short : Lent → Bool
short l = ltb (length l.entries) 256 || (ltb (length l.nodes) 1024 || ltb (length l.codes) 24576)

-- "slices are long enough when none that the call takes is under its length in refusal 1"
pub record LongEnough (l : Lent) : Type 0 where
  pub entries : 256 ≤ length l.entries
  pub nodes : 1024 ≤ length l.nodes
  pub codes : 24576 ≤ length l.codes

abbrev pub decoded_into : Files Derivation → Lent → Lent
decoded_into f l = record {
  entries = written f.claim.entries l.entries;
  nodes = written (node_records f.beside.nodes) l.nodes;
  codes = written (all_codes f.beside.nodes) l.codes;
}

-- the slices that an evaluation is lent
pub record LentWords : Type 0 where
  pub entries : List Entry
  pub words : List ℕ

-- 1: under 256 entries or 256 words
abbrev pub short_words : LentWords → Bool
short_words l = ltb (length l.entries) 256 || ltb (length l.words) 256
