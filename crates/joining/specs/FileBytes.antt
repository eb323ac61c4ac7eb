-- a claim and a proof that fit their files are bytes there
use Rattle.std.specs.Prelude.{List, [], ◌∷◌, Bool, true, false, ℕ, ◌+◌, ◌<◌, length}
use Rattle.std.proofs.Common.{arith}
use Rattle.verdict.specs.Lists.{Each, none, more}
use Rattle.bits.specs.IfSet.{if_set_lem, if_set_le}
use Rattle.formula.specs.Table.{Table}
use Rattle.formula.specs.Spelled.{Spelled, a_stands_lem, b_stands_lem, record_of, by_length}
use Rattle.formula.specs.Nodes.{Node, Proof}
use Rattle.formula.specs.Claim.{clm1}
use Rattle.formula.specs.Fields.{has_principal_lem, has_first_lem, has_second_lem, has_back_lem, low_map_lem}
use Rattle.encoding.specs.Encode.{Bytes, FitField, encode_field, encode_part}
use Rattle.encoding.specs.ByteLaws.{join_bytes, one_byte, two_bytes, all_bytes}
use Rattle.claim_files.specs.ClaimFile.{encode_entry, encode_members, FitEntry, FitMembers, FitClaim}
use Rattle.claim_files.specs.ClaimExact.{fit_byte}
use Rattle.proof_files.specs.ProofFile.{encode_codes, full, encode_node, Code, FitNode, FitNodes}
use Rattle.writing.specs.Spelling.{spelling_of, spelled_claim}
use Rattle.joining.specs.Joined.{claim_bytes, proof_bytes}

opening_bytes : (a b c d : ℕ) → a < 256 → b < 256 → c < 256 → d < 256 → Bytes (a ∷ b ∷ c ∷ d ∷ [])
opening_bytes a b c d h i j k = more {x = a} h (more {x = b} i (more {x = c} j (more {x = d} k none)))

field_bytes : (b : Bool) (n : ℕ) → FitField b n → Bytes (encode_field b n)
field_bytes true n h = two_bytes n h
field_bytes false n h = none

entry_bytes : (s : Spelled) → FitEntry s → Bytes (encode_entry s)
entry_bytes s f =
    more {x = s.map} (fit_byte s.map s.kind f.fits)
    (more {x = s.kind} (omega (arith, f.known))
    (join_bytes (field_bytes (a_stands_lem s.map) s.a f.a_fits) (field_bytes (b_stands_lem s.map) s.b f.b_fits)))

pub claim_bytes_lem : (t : Table) (ms : List ℕ) → FitClaim (spelled_claim clm1 t (ms ∷ [])) → Bytes (claim_bytes t ms)
claim_bytes_lem t ms f =
    join_bytes (opening_bytes 67 76 77 49 (omega arith) (omega arith) (omega arith) (omega arith))
    (join_bytes (join_bytes (two_bytes (length (spelling_of t)) (omega (arith, f.entries.count.1))) (all_bytes entry_bytes f.entries.each)) (all_bytes members_bytes f.goals.each))
  where
    members_bytes : (g : List ℕ) → FitMembers (spelling_of t) g → Bytes (encode_members g)
    members_bytes g k =
        join_bytes (two_bytes (length g) (omega (arith, k.count.1)))
        (all_bytes (λ e h. two_bytes e (omega (arith, h.inside, by_length record_of (spelling_of t), f.entries.count.1))) k.each)

code_bytes : {t : Table} (cs : List ℕ) → length cs < 256 → Each (Code t) cs → Bytes (encode_part (full cs) encode_codes cs)
code_bytes [] h e = none
code_bytes (c ∷ cs) h e = join_bytes (one_byte (length (c ∷ cs)) h) (all_bytes (λ x k. two_bytes x k.0) e)

map_byte : (r : ℕ) (b : Bool) → low_map_lem r + if_set_lem b 16 < 256
map_byte r b = omega (arith, if_set_le (has_principal_lem r) 1, if_set_le (has_first_lem r) 2, if_set_le (has_second_lem r) 4, if_set_le (has_back_lem r) 8, if_set_le b 16)

node_bytes : {t : Table} (x : Node) → FitNode t x → Bytes (encode_node x)
node_bytes x f =
    more {x = low_map_lem x.rule + if_set_lem (full x.codes) 16} (map_byte x.rule (full x.codes))
    (more {x = x.rule} (omega (arith, f.known))
    (join_bytes
    (join_bytes (field_bytes (has_principal_lem x.rule) x.principal f.fields.principal_fits)
    (join_bytes (field_bytes (has_first_lem x.rule) x.first f.fields.first_fits)
    (join_bytes (field_bytes (has_second_lem x.rule) x.second f.fields.second_fits) (field_bytes (has_back_lem x.rule) x.back f.fields.back_fits))))
    (code_bytes x.codes (omega (arith, f.few)) f.members)))

pub proof_bytes_lem : {t : Table} (p : Proof) → FitNodes clm1 t p → Bytes (proof_bytes p)
proof_bytes_lem p f =
    join_bytes (opening_bytes 80 82 70 49 (omega arith) (omega arith) (omega arith) (omega arith))
    (join_bytes (two_bytes (length p) (omega (arith, f.count.1))) (all_bytes node_bytes f.each))
