-- the bytes that records make, whatever they hold: the file of which the reader is asked
use Rattle.std.specs.Prelude.{List, [], ◌∷◌, ◌++◌, Bool, not, ◌||◌, ℕ, ◌+◌, eqb, leb, length, take, drop}
use Rattle.verdict.specs.Tests.{choose}
use Rattle.bits.specs.IfSet.{if_set_lem}
use Rattle.formula.specs.Table.{Entry, Table}
use Rattle.formula.specs.Claim.{Form}
use Rattle.formula.specs.Records.{NodeRecord}
use Rattle.formula.specs.Fields.{has_a_lem, has_b, has_principal_lem, has_first_lem, has_second_lem, has_back_lem}
use Rattle.encoding.specs.Encode.{encode_two, encode_part, encode_field, encode_all}
use Rattle.claim_files.specs.ClaimFile.{claim_opening, encode_goal_count}
use Rattle.proof_files.specs.ProofFile.{proof_opening, encode_roots}

-- a field stands where the kind or rule has it, and where it holds a value other than 0: then the map is unfit, unless that is the action of a
-- box or diamond. So action 0 is never written out
abbrev pub stands : Bool → ℕ → Bool
stands has x = has || not (eqb x 0)

-- a count that two bytes cannot hold stands as the greatest that they can: out of range too
abbrev pub clipped : ℕ → ℕ
clipped n = choose (leb n 65535) n 65535

abbrev pub entry_bytes : Entry → List ℕ
entry_bytes e =
    let a = stands (has_a_lem e.kind) e.a in
    let b = stands (has_b e.kind) e.b in
    (if_set_lem a 1 + if_set_lem b 2) ∷ e.kind ∷ (encode_field a e.a ++ encode_field b e.b)

-- n entries
abbrev pub table_bytes : ℕ → Table → List ℕ
table_bytes n es = encode_two (clipped n) ++ encode_all entry_bytes es

-- as many members as their list has
abbrev pub member_bytes : List ℕ → List ℕ
member_bytes ms = encode_two (clipped (length ms)) ++ encode_all encode_two ms

-- the goal count, which CLM1 does not write, and the goals
abbrev pub goal_bytes : Form → List (List ℕ) → List ℕ
goal_bytes f goals = encode_goal_count f (clipped (length goals)) ++ encode_all member_bytes goals

abbrev pub claim_bytes : Form → ℕ → Table → List (List ℕ) → List ℕ
claim_bytes f n es goals = claim_opening f ++ (table_bytes n es ++ goal_bytes f goals)

-- the same up to the goal count, of so many goals
abbrev pub claim_head : Form → ℕ → Table → ℕ → List ℕ
claim_head f n es k = claim_opening f ++ (table_bytes n es ++ encode_goal_count f (clipped k))

-- the goals that follow each other in one list, by the counts of their members
unfoldable pub split : List ℕ → List ℕ → List (List ℕ)
split [] ms = []
split (k ∷ gs) ms = take k ms ∷ split gs (drop k ms)

-- the code count that the record gives, and its codes; count 0 means no bit 4
abbrev pub node_bytes : NodeRecord → List ℕ → List ℕ
node_bytes v cs =
    let p = stands (has_principal_lem v.rule) v.principal in
    let f = stands (has_first_lem v.rule) v.first in
    let s = stands (has_second_lem v.rule) v.second in
    let b = stands (has_back_lem v.rule) v.back in
    let c = not (eqb v.count 0) in
    (if_set_lem p 1 + if_set_lem f 2 + if_set_lem s 4 + if_set_lem b 8 + if_set_lem c 16) ∷ v.rule
    ∷ ((encode_field p v.principal ++ (encode_field f v.first ++ (encode_field s v.second ++ encode_field b v.back)))
    ++ encode_part c (λ (l : List ℕ). v.count ∷ encode_all encode_two l) cs)

-- codes follow each other without gaps: each node's stand after those of the nodes before it
unfoldable pub nodes_bytes : List NodeRecord → List ℕ → List ℕ
nodes_bytes [] cs = []
nodes_bytes (v ∷ vs) cs = node_bytes v (take v.count cs) ++ nodes_bytes vs (drop v.count cs)

-- the roots, which PRF1 does not write
abbrev pub root_bytes : Form → List ℕ → List ℕ
root_bytes f os = encode_roots f os

-- n nodes
abbrev pub proof_bytes : Form → ℕ → List ℕ → List NodeRecord → List ℕ → List ℕ
proof_bytes f n os vs cs = proof_opening f ++ (encode_two (clipped n) ++ (root_bytes f os ++ nodes_bytes vs cs))

-- the same up to the node count
abbrev pub proof_head : Form → ℕ → List ℕ
proof_head f n = proof_opening f ++ encode_two (clipped n)
