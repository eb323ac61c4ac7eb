-- the proof by bytes, beside a claim: the first fault in the order of the bytes (30 to 34), or the decoding
use Rattle.std.specs.Prelude.{List, [], ◌∷◌, Bool, ◌&&◌, ◌||◌, ℕ, ◌+◌, eqb, ltb, leb, length}
use Rattle.formula.specs.Rule
use Rattle.formula.specs.Table.{Table}
use Rattle.formula.specs.Codes.{entry_of_lem}
use Rattle.formula.specs.Nodes.{Node, Proof}
use Rattle.formula.specs.Claim.{Form, clm1, clm2, fewest, Claim, Derivation}
use Rattle.formula.specs.Fields.{has_principal_lem, has_first_lem, has_second_lem, has_back_lem, low_map_lem}
use Rattle.encoding.specs.Parse.{Parser, seq, guard, via, part, byte, bytes, two, field, count, times, listed, rising}
use Rattle.encoding.specs.File.{Reading, read_file}
use Rattle.encoding.specs.Known.{known}
use Rattle.formula.specs.Members.{is_formula}
use Rattle.proof_files.specs.ProofFile.{proof_opening, Links}

-- the file ends early, or bytes follow
abbrev pub early : ℕ
early = 31

-- map and rule
abbrev pub rule_fits : ℕ × ℕ → Bool
rule_fits p = leb p.1 Rule.BACK && (eqb p.0 (low_map_lem p.1) || eqb p.0 (low_map_lem p.1 + 16))

-- the rule, and whether codes follow
abbrev pub rule_of : ℕ × ℕ → ℕ × Bool
rule_of p = (p.1, leb 16 p.0)

abbrev pub rule_byte : Parser (ℕ × Bool)
rule_byte s at = via rule_of (guard rule_fits 33 (bytes early)) s at

abbrev pub fields : ℕ → Parser Links
fields r s at =
    seq (field early (has_principal_lem r)) (λ _. seq (field early (has_first_lem r)) (λ _. seq (field early (has_second_lem r)) (λ _. field early (has_back_lem r)))) s at

abbrev pub is_code_lem : Table → ℕ → Bool
unfolding is_formula
is_code_lem t c = is_formula t (entry_of_lem c)

unfoldable pub sequent : Table → Parser (List ℕ)
unfolding times is_formula
sequent t s at = rising (count 1 24 32 (byte early)) (is_code_lem t) 34 (two early) s at

abbrev pub made : (ℕ × Bool) × (Links × List ℕ) → Node
made w =
    let v = w.1.0 in
    record { rule = w.0.0; principal = v.0; first = v.1.0; second = v.1.1.0; back = v.1.1.1; codes = w.1.1 }

unfoldable pub node : Table → Parser Node
unfolding sequent
node t s at = via made (seq rule_byte (λ h. seq (fields h.0) (λ _. part [] h.1 (sequent t)))) s at

-- two bytes, 1 to 1,024, in PRF2 from 0 on
abbrev pub node_count : Form → Parser ℕ
node_count f s at = count (fewest f) 1024 32 (two early) s at

-- a number of one of n nodes
abbrev pub is_node : ℕ → ℕ → Bool
is_node n r = ltb r n

-- the roots of g goals among n nodes
unfoldable pub roots : Form → ℕ → ℕ → Parser (List ℕ)
unfolding times
roots clm1 g n s at = known (0 ∷ []) s at
roots clm2 g n s at = rising (known g) (is_node n) 34 (two early) s at

-- n nodes
unfoldable pub nodes : Table → ℕ → Parser Proof
unfolding times node
nodes t n s at = listed (known n) (node t) s at

-- node count, roots, nodes
abbrev pub derivation_of : ℕ × (List ℕ × Proof) → Derivation
derivation_of w = record { roots = w.1.0; nodes = w.1.1 }

unfoldable pub body : Claim → Parser Derivation
unfolding roots nodes
body c s at = via derivation_of (seq (node_count c.form) (λ n. seq (roots c.form (length c.goals) n) (λ _. nodes c.entries n))) s at

unfoldable pub read_proof : Claim → List ℕ → Reading Derivation
unfolding read_file body
read_proof c s = read_file (proof_opening c.form) 30 early (body c) s
