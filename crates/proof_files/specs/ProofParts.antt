-- the parts of a proof file by themselves, at the places where a program that indexes the file meets them
use Rattle.std.specs.Prelude.{List, [], Bool, true, false, ℕ, suc, ◌+◌, drop, replicate}
use Rattle.formula.specs.Table.{Table}
use Rattle.formula.specs.Nodes.{Proof}
use Rattle.formula.specs.Claim.{Form, Claim}
use Rattle.bits.specs.IfSet.{if_set_lem}
use Rattle.formula.specs.Fields.{has_principal_lem, has_first_lem, has_second_lem, has_back_lem}
use Rattle.formula.specs.Plain.{table_of}
use Rattle.encoding.specs.Parse.{Got, Parser, seq, guard, two, times, fits_from}
use Rattle.encoding.specs.Places.{word_at}
use Rattle.proof_files.specs.ProofFile.{Links}
use Rattle.proof_files.specs.ReadProof.{early, rule_byte, fields, is_code_lem, node, roots}

-- a table of which only the kinds are known
abbrev pub kind_table : List ℕ → ℕ → Table
kind_table ks n = table_of ks [] [] n

-- all of a claim that the reading of a proof looks at: its form, the kinds of its n entries, the number k of its goals
abbrev pub kind_claim : Form → List ℕ → ℕ → ℕ → Claim
kind_claim f ks n k = record { form = f; entries = kind_table ks n; goals = replicate k [] }

-- map, rule and fields
abbrev pub heading : Parser ((ℕ × Bool) × Links)
heading s at = seq rule_byte (λ h. fields h.0) s at

-- a number that is at least c and passes a test
abbrev pub number_from : (ℕ → Bool) → ℕ → Parser ℕ
number_from ok c s at = guard (fits_from ok c) 34 (two early) s at

abbrev pub after_number : ℕ → ℕ → ℕ
after_number c x = suc x

-- n numbers from a place of the file on, strictly rising
unfoldable pub numbers_of : (ℕ → Bool) → ℕ → List ℕ → ℕ → Got (List ℕ)
unfolding times
numbers_of ok n s at = times (number_from ok) after_number n 0 (drop at s) at

-- n codes: the entry of each in range and no name
abbrev pub codes_of : Table → ℕ → List ℕ → ℕ → Got (List ℕ)
codes_of t n s at = numbers_of (is_code_lem t) n s at

-- the roots of g goals among n nodes, after the opening and the node count
abbrev pub roots_of : Form → ℕ → ℕ → List ℕ → Got (List ℕ)
roots_of f g n s = roots f g n (drop 6 s) 6

-- n nodes from a place of the file on
unfoldable pub nodes_of : Table → ℕ → List ℕ → ℕ → Got Proof
unfolding times
nodes_of t n s at = times (λ _. node t) (λ _ _. 0) n 0 (drop at s) at

-- a field at a place: 0 where it does not stand
abbrev pub field_at : Bool → List ℕ → ℕ → ℕ
field_at true s at = word_at s at
field_at false s at = 0

-- where the fields of a rule follow each other
abbrev pub first_place : ℕ → ℕ → ℕ
first_place r at = at + if_set_lem (has_principal_lem r) 2

abbrev pub second_place : ℕ → ℕ → ℕ
second_place r at = first_place r at + if_set_lem (has_first_lem r) 2

abbrev pub back_place : ℕ → ℕ → ℕ
back_place r at = second_place r at + if_set_lem (has_second_lem r) 2

abbrev pub links_at : ℕ → List ℕ → ℕ → Links
links_at r s at = (
  field_at (has_principal_lem r) s at,
  (field_at (has_first_lem r) s (first_place r at), (field_at (has_second_lem r) s (second_place r at), field_at (has_back_lem r) s (back_place r at))),
)
