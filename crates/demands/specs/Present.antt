-- presenting a tag, claim and proof: answer, gate state and lent slices on every input
use Rattle.std.specs.Prelude.{List, Bool, true, false, ℕ}
use Rattle.verdict.specs.Verdict.{Verdict, accepted, refused}
use Rattle.encoding.specs.File as file
use Rattle.encoding.specs.File.{Reading, good}
use Rattle.formula.specs.Claim.{Derivation}
use Rattle.calculus.specs.Judge.{judge}
use Rattle.reader.specs.Files.{Files, files}
use Rattle.permit.specs.GateState.{Gate, closed, opened, holding}
use Rattle.demands.specs.Slices.{Lent, short, decoded_into}

pub record Presented : Type 0 where
  pub answer : Verdict
  pub gate : Gate
  pub lent : Lent

-- on acceptance the gate holds the tag; no input refusal alters its state
abbrev pub held : Verdict → ℕ → Gate
held accepted tag = holding tag
held (refused n q) tag = opened

-- 10 to 34 write nothing; with 35 to 39 and with acceptance the slices hold the whole decoding
abbrev pub presented_by : Reading (Files Derivation) → ℕ → Lent → Presented
presented_by (file.refused n q) tag l = record { answer = refused n q; gate = opened; lent = l }
presented_by (good f) tag l = let v = judge f.claim f.beside in record { answer = v; gate = held v tag; lent = decoded_into f l }

-- refusal 1 before the files
abbrev pub if_long : Bool → Lent → Presented → Presented
if_long true l judged = record { answer = refused 1 0; gate = opened; lent = l }
if_long false l judged = judged

-- 50 closed and 51 permit held come before everything else
unfoldable pub presenting : Gate → ℕ → List ℕ → List ℕ → Lent → Presented
unfolding files judge
presenting closed tag claim proof l = record { answer = refused 50 0; gate = closed; lent = l }
presenting opened tag claim proof l = if_long (short l) l (presented_by (files claim proof) tag l)
presenting (holding old) tag claim proof l = record { answer = refused 51 0; gate = holding old; lent = l }
