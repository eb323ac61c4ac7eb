-- what one step is given, and what it makes, of a claim's columns and a model's words
use Rattle.std.specs.Prelude.{List, ℕ}
use Rattle.formula.specs.Table.{Table}
use Rattle.forming.specs.Claim.{table_from}
use Rattle.forming.specs.Ready.{Ready, formed_word}
use Rattle.forming.specs.declared.columns.ClaimColumns.{ClaimColumns}
use Rattle.forming.specs.declared.columns.ModelWords.{ModelWords}

abbrev pub claim_table : ClaimColumns → Table
claim_table c = table_from c.kinds.now c.a.now c.b.now

abbrev pub ReadyIn : ClaimColumns → ModelWords → List ℕ → Type 0
ReadyIn c m ws = Ready c.kinds.now c.a.now c.b.now m.rows.now m.size ws

abbrev pub formed_in : ClaimColumns → ModelWords → List ℕ → ℕ → ℕ
formed_in c m ws e = formed_word c.kinds.now c.a.now c.b.now m.masks.now m.rows.now m.size ws e
