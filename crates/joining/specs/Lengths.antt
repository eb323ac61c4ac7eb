-- how long the joined files are, from the lengths of those given: 70 is judged before a byte is written
use Rattle.std.specs.Prelude.{◌≡◌, refl, List, [], ◌∷◌, ◌++◌, Bool, true, false, ℕ, suc, ◌+◌, ◌*◌, ◌<◌, ◌≤◌, length}
use Rattle.std.proofs.Common.{sym, ap, ◌∙◌, append_assoc, arith, length-append}
use Prim.Native.Nat.mul
use Rattle.bits.specs.IfSet.{if_set_lem, if_set_le}
use Rattle.verdict.specs.Lists.{Each, none, more}
use Rattle.formula.specs.Table.{Table}
use Rattle.formula.specs.Spelled.{Spelled, a_stands_lem, b_stands_lem}
use Rattle.formula.specs.Claim.{clm1}
use Rattle.formula.specs.Nodes.{Node, Proof}
use Rattle.formula.specs.Fields.{has_principal_lem, has_first_lem, has_second_lem, has_back_lem, link_width_lem, link_width_le}
use Rattle.encoding.specs.Encode.{encode_field, encode_part, encode_all}
use Rattle.encoding.specs.ChainLaws.{each_as}
use Rattle.claim_files.specs.ClaimFile.{encode_entry, encode_entries, encode_members, FitMembers, FitClaim}
use Rattle.writing.specs.Spelling.{spelling_of, spelled_claim}
use Rattle.writing.specs.FieldEnds.{numbers_long}
use Rattle.proof_files.specs.ProofFile.{FitNodes, encode_node, encode_links, encode_codes, full, links, Links}
use Rattle.joining.specs.Shift.{shift, shifted}
use Rattle.joining.specs.GoalLaws.{focus_length}
use Rattle.joining.specs.Joined.{claim_bytes, proof_bytes, in_focus, joined_root, joined_nodes}

field_length : (b : Bool) (n m : ℕ) → length (encode_field b n) ≡ length (encode_field b m)
field_length true n m = refl
field_length false n m = refl

links_length : (r : ℕ) (v w : Links) → length (encode_links r v) ≡ length (encode_links r w)
links_length r (a, (b, (c, d))) (e, (f, (g, h))) = omega (
  arith,
  length-append (encode_field (has_principal_lem r) a) (encode_field (has_first_lem r) b ++ (encode_field (has_second_lem r) c ++ encode_field (has_back_lem r) d)),
  length-append (encode_field (has_first_lem r) b) (encode_field (has_second_lem r) c ++ encode_field (has_back_lem r) d),
  length-append (encode_field (has_second_lem r) c) (encode_field (has_back_lem r) d),
  length-append (encode_field (has_principal_lem r) e) (encode_field (has_first_lem r) f ++ (encode_field (has_second_lem r) g ++ encode_field (has_back_lem r) h)),
  length-append (encode_field (has_first_lem r) f) (encode_field (has_second_lem r) g ++ encode_field (has_back_lem r) h),
  length-append (encode_field (has_second_lem r) g) (encode_field (has_back_lem r) h),
  field_length (has_principal_lem r) a e,
  field_length (has_first_lem r) b f,
  field_length (has_second_lem r) c g,
  field_length (has_back_lem r) d h,
)

-- a node's bytes stay as many
pub node_length : (d : ℕ) (x : Node) → length (encode_node (shift d x)) ≡ length (encode_node x)
node_length d x =
    let codes = encode_part (full x.codes) encode_codes x.codes in
    omega (
      arith,
      length-append (encode_links x.rule (links (shift d x))) codes,
      length-append (encode_links x.rule (links x)) codes,
      links_length x.rule (links (shift d x)) (links x),
    )

pub nodes_length : (d : ℕ) (p : Proof) → length (encode_all encode_node (shifted d p)) ≡ length (encode_all encode_node p)
unfolding encode_all
nodes_length d [] = refl
nodes_length d (x ∷ p) = omega (
  arith,
  length-append (encode_node (shift d x)) (encode_all encode_node (shifted d p)),
  length-append (encode_node x) (encode_all encode_node p),
  node_length d x,
  nodes_length d p,
)

all_append : (p q : Proof) → length (encode_all encode_node (p ++ q)) ≡ length (encode_all encode_node p) + length (encode_all encode_node q)
unfolding encode_all
all_append [] q = omega arith
all_append (x ∷ p) q = omega (
  arith,
  length-append (encode_node x) (encode_all encode_node (p ++ q)),
  length-append (encode_node x) (encode_all encode_node p),
  all_append p q,
)

codes_length : (cs : List ℕ) → 0 < length cs → length (encode_part (full cs) encode_codes cs) ≡ 2 * length cs + 1
codes_length [] h = absurd (omega arith)
codes_length (c ∷ cs) h = omega (arith, numbers_long (c ∷ cs))

-- the bytes of the joined nodes: the new root's, then each half's, renumbered
pub all_split : (p q : Proof) → encode_all encode_node (p ++ q) ≡ encode_all encode_node p ++ encode_all encode_node q
unfolding encode_all
all_split [] q = refl
all_split (x ∷ p) q =
    ap (λ (s : List ℕ). encode_node x ++ s) (all_split p q) ∙ sym (append_assoc (encode_node x) (encode_all encode_node p) (encode_all encode_node q))

-- map, rule, three fields, count, codes
pub root_length : (e n : ℕ) (ms : List ℕ) → 0 < length ms → length (encode_node (joined_root e ms n)) ≡ 2 * length ms + 9
root_length e n ms h = omega (arith, codes_length (in_focus ms) (omega (arith, focus_length ms)), focus_length ms)

-- opening and count once instead of twice, and the new root
pub proof_length : (e : ℕ) (ms : List ℕ) (p q : Proof) → 0 < length ms
    → length (proof_bytes (joined_nodes e ms p q)) ≡ length (proof_bytes p) + length (proof_bytes q) + 2 * length ms + 3
unfolding encode_all
proof_length e ms p q h = omega (
  arith,
  length-append (encode_node (joined_root e ms (length p))) (encode_all encode_node (shifted 1 p ++ shifted (length p + 1) q)),
  root_length e (length p) ms h,
  all_append (shifted 1 p) (shifted (length p + 1) q),
  nodes_length 1 p,
  nodes_length (length p + 1) q,
)

-- the members alone change
pub claim_length : (t : Table) (l ms : List ℕ) → length (claim_bytes t ms) + 2 * length l ≡ length (claim_bytes t l) + 2 * length ms
unfolding encode_all
claim_length t l ms = omega (
  arith,
  length-append (encode_entries (spelling_of t)) (encode_members ms ++ []),
  length-append (encode_entries (spelling_of t)) (encode_members l ++ []),
  length-append (encode_members ms) [],
  length-append (encode_members l) [],
  numbers_long l,
  numbers_long ms,
)

-- and how long they can be: no node takes over 57 bytes, no entry over 6
field_width : (b : Bool) (n : ℕ) → length (encode_field b n) ≡ if_set_lem b 2
field_width true n = refl
field_width false n = refl

links_width : (r : ℕ) (v : Links) → length (encode_links r v) ≡ link_width_lem r
links_width r (a, (b, (c, d))) = omega (
  arith,
  length-append (encode_field (has_principal_lem r) a) (encode_field (has_first_lem r) b ++ (encode_field (has_second_lem r) c ++ encode_field (has_back_lem r) d)),
  length-append (encode_field (has_first_lem r) b) (encode_field (has_second_lem r) c ++ encode_field (has_back_lem r) d),
  length-append (encode_field (has_second_lem r) c) (encode_field (has_back_lem r) d),
  field_width (has_principal_lem r) a,
  field_width (has_first_lem r) b,
  field_width (has_second_lem r) c,
  field_width (has_back_lem r) d,
)

codes_near : (cs : List ℕ) → length cs ≤ 24 → length (encode_part (full cs) encode_codes cs) ≤ 49
codes_near [] h = omega arith
codes_near (c ∷ cs) h = omega (arith, numbers_long (c ∷ cs))

node_near : (x : Node) → length x.codes ≤ 24 → length (encode_node x) ≤ 57
node_near x few = omega (
  arith,
  length-append (encode_links x.rule (links x)) (encode_part (full x.codes) encode_codes x.codes),
  links_width x.rule (links x),
  link_width_le x.rule,
  codes_near x.codes few,
)

-- of records none of which takes more than so many bytes
all_near : {A : Type 0} (enc : A → List ℕ) (most : ℕ) {l : List A} → Each (λ x. length (enc x) ≤ most) l → length (encode_all enc l) ≤ length l * most
unfolding encode_all
all_near enc most none = omega arith
all_near enc most (more {x = x} {l = l} h hs) =
    let later = all_near enc most hs in
    let i : suc (length l) * most ≡ most + length l * most = mul.suc (length l) most in
    omega (arith, length-append (enc x) (encode_all enc l))

pub proof_near : {t : Table} {p : Proof} → FitNodes clm1 t p → length (proof_bytes p) ≤ 58374
proof_near {p = p} f = omega (arith, all_near encode_node 57 (each_as (λ x n. node_near x n.few) f.each), f.count.1)

entry_near : (s : Spelled) → length (encode_entry s) ≤ 6
entry_near s = omega (
  arith,
  length-append (encode_field (a_stands_lem s.map) s.a) (encode_field (b_stands_lem s.map) s.b),
  field_width (a_stands_lem s.map) s.a,
  field_width (b_stands_lem s.map) s.b,
  if_set_le (a_stands_lem s.map) 2,
  if_set_le (b_stands_lem s.map) 2,
)

pub claim_near : (t : Table) (ms : List ℕ) → FitClaim (spelled_claim clm1 t (ms ∷ [])) → length (claim_bytes t ms) ≤ 1592
unfolding encode_all
claim_near t ms f = few_members f.goals.each
  where
    few_members : Each (FitMembers (spelling_of t)) (ms ∷ []) → length (claim_bytes t ms) ≤ 1592
    few_members (more g _) = omega (
      arith,
      length-append (encode_entries (spelling_of t)) (encode_members ms ++ []),
      length-append (encode_members ms) [],
      all_near encode_entry 6 (each_as (λ s _. entry_near s) f.entries.each),
      f.entries.count.1,
      numbers_long ms,
      g.count.1,
    )
