-- the columns of a node table, and the table that stands in plain lists once they are written there
use Rattle.std.specs.Prelude.{◌≡◌, get_or, take, drop, replicate}
use Rattle.std.proofs.Math.Path.{refl, sym, ap}
use Rattle.std.proofs.Common.{◌∙◌, le_of_suc-le-suc, add-one, get_or-append-add, take-suc, ext_get_or}
use mathlib.Core.List.{List, [], ◌∷◌, ◌++◌, append_assoc, append-nil}
use Prim.Native.Nat.{ℕ, zero, suc, ◌+◌, ◌*◌, ◌-◌, ◌<◌, ◌≤◌}
use native.Mathlib.Omega.{arith}
use Rattle.std.proofs.Math.ListN.{length, length-append, get_or-append}
use Rattle.std.proofs.lemmas.List.{length-replicate}
use Rattle.std.proofs.Math.Seq.{take-append_seam, drop-append_seam, split_at}
use Rattle.verdict.specs.Lists.{written}
use Rattle.formula.specs.Rule
use Rattle.formula.specs.Nodes.{Node, Proof, node}
use Rattle.formula.specs.Records.{all_codes}
use Rattle.formula.specs.PlainNodes.{codes_at_lem, plain_node, proof_of, proof_of_length, proof_of_node}

-- columns with room for n nodes: a rule, four links and a start to each, the end of the last, and up to 24 codes to each
pub record Columns (n : ℕ) (rs ls ss cs : List ℕ) : Type 0 where
  pub few : n ≤ 1024
  pub rules : n ≤ length rs
  pub links : 4 * n ≤ length ls
  pub starts : n < length ss
  pub codes : 24 * n ≤ length cs

pub fewer : {n m : ℕ} {rs ls ss cs : List ℕ} → n ≤ m → Columns m rs ls ss cs → Columns n rs ls ss cs
fewer h c = record { few = omega arith; rules = omega arith; links = omega arith; starts = omega arith; codes = omega arith }

-- columns of zeros, k rows long
pub room : (k : ℕ) {n : ℕ} → n ≤ k → k ≤ 1024 → Columns n (replicate k 0) (replicate (4 * k) 0) (replicate (k + 1) 0) (replicate (24 * k) 0)
room k h few = record {
  few = omega arith;
  rules = omega (arith, length-replicate {A = ℕ} k 0);
  links = omega (arith, length-replicate {A = ℕ} (4 * k) 0);
  starts = omega (arith, length-replicate {A = ℕ} (k + 1) 0);
  codes = omega (arith, length-replicate {A = ℕ} (24 * k) 0);
}

-- what each node adds to a column, one after the other
unfoldable pub spread : (Node → List ℕ) → Proof → List ℕ
spread f [] = []
spread f (v ∷ p) = f v ++ spread f p

abbrev pub rule_of : Node → List ℕ
rule_of v = v.rule ∷ []

abbrev pub four_links : Node → List ℕ
four_links v = v.principal ∷ v.first ∷ v.second ∷ v.back ∷ []

abbrev pub rules_of : Proof → List ℕ
rules_of = spread rule_of

abbrev pub links_of : Proof → List ℕ
links_of = spread four_links

-- how many codes stand before each node, from k on
unfoldable pub starts_from : ℕ → Proof → List ℕ
starts_from k [] = []
starts_from k (v ∷ p) = k ∷ starts_from (k + length v.codes) p

-- and how many there are
unfoldable pub starts_of : Proof → List ℕ
starts_of p = starts_from 0 p ++ (length (all_codes p) ∷ [])

module _ (f : Node → List ℕ) where
  pub spread_append : (p q : Proof) → spread f (p ++ q) ≡ spread f p ++ spread f q
  unfolding spread
  spread_append [] q = refl
  spread_append (v ∷ p) q = ap (λ (l : List ℕ). f v ++ l) (spread_append p q) ∙ sym (append_assoc (f v) (spread f p) (spread f q))

  -- one node more
  pub spread_more : (p : Proof) (v : Node) → spread f (p ++ (v ∷ [])) ≡ spread f p ++ f v
  unfolding spread
  spread_more p v = spread_append p (v ∷ []) ∙ ap (λ (l : List ℕ). spread f p ++ l) (append-nil (f v))

  -- every node adds as many
  module _ (k : ℕ) (each : (v : Node) → length (f v) ≡ k) where
    pub spread-length : (p : Proof) → length (spread f p) ≡ k * length p
    unfolding spread
    spread-length [] = omega arith
    spread-length (v ∷ p) =
        let e : k * suc (length p) ≡ k + k * length p = omega arith in
        omega (arith, length-append (f v) (spread f p), each v, spread-length p, e)

    pub spread_at : (p : Proof) (old : List ℕ) (v j : ℕ) → v < length p → j < k → get_or (spread f p ++ old) (k * v + j) 0 ≡ get_or (f (node p v)) j 0
    unfolding spread
    spread_at [] old v j h l = absurd (omega arith)
    spread_at (w ∷ p) old zero j h l =
        let e : k * 0 + j ≡ j = omega arith in
        rw (append_assoc (f w) (spread f p) old, e) (get_or-append (f w) (spread f p ++ old) 0 j (omega (arith, each w)))
    spread_at (w ∷ p) old (suc v) j h l =
        let i : k * suc v ≡ k + k * v = omega arith in
        let e : k * suc v + j ≡ length (f w) + (k * v + j) = omega (arith, each w, i) in
        rw (append_assoc (f w) (spread f p) old, e) (get_or-append-add (f w) (spread f p ++ old) (k * v + j) 0 ∙ spread_at p old v j (le_of_suc-le-suc h) l)

all_spread : (p : Proof) → all_codes p ≡ spread (λ v. v.codes) p
unfolding all_codes spread
all_spread [] = refl
all_spread (v ∷ p) = ap (λ (l : List ℕ). v.codes ++ l) (all_spread p)

codes_append : (p q : Proof) → all_codes (p ++ q) ≡ all_codes p ++ all_codes q
codes_append p q = rw (all_spread (p ++ q), all_spread p, all_spread q) (spread_append (λ v. v.codes) p q)

pub codes_more : (p : Proof) (v : Node) → all_codes (p ++ (v ∷ [])) ≡ all_codes p ++ v.codes
codes_more p v = rw (all_spread (p ++ (v ∷ [])), all_spread p) (spread_more (λ v. v.codes) p v)

pub starts_length : (k : ℕ) (p : Proof) → length (starts_from k p) ≡ length p
unfolding starts_from
starts_length k [] = refl
starts_length k (v ∷ p) = ap suc (starts_length (k + length v.codes) p)

pub starts_more : (k : ℕ) (p : Proof) (v : Node) → starts_from k (p ++ (v ∷ [])) ≡ starts_from k p ++ ((k + length (all_codes p)) ∷ [])
unfolding starts_from all_codes
starts_more k [] v = ap (λ (n : ℕ). n ∷ []) {x = k} {y = k + 0} (omega arith)
starts_more k (w ∷ p) v =
    let e : k + length w.codes + length (all_codes p) ≡ k + length (w.codes ++ all_codes p) = omega (arith, length-append w.codes (all_codes p)) in
    ap (λ (l : List ℕ). k ∷ l) (starts_more (k + length w.codes) p v ∙ ap (λ (n : ℕ). starts_from (k + length w.codes) p ++ (n ∷ [])) e)

-- the start of node v, and at the table's end the number of all codes
starts_at : (k : ℕ) (p : Proof) (old : List ℕ) (v : ℕ) → v ≤ length p → get_or ((starts_from k p ++ ((k + length (all_codes p)) ∷ [])) ++ old) v 0 ≡ k + length (all_codes (take v p))
unfolding starts_from all_codes
starts_at k [] old zero h = refl
starts_at k [] old (suc v) h = absurd (omega arith)
starts_at k (w ∷ p) old zero h = omega arith
starts_at k (w ∷ p) old (suc v) h =
    let i : k + length (w.codes ++ all_codes p) ≡ k + length w.codes + length (all_codes p) = omega (arith, length-append w.codes (all_codes p)) in
    let j : k + length w.codes + length (all_codes (take v p)) ≡ k + length (w.codes ++ all_codes (take v p)) = omega (arith, length-append w.codes (all_codes (take v p))) in
    rw i (starts_at (k + length w.codes) p old v (le_of_suc-le-suc h)) ∙ j

-- what stands in the lists at node v once the columns are written there
module _ (p : Proof) (v : ℕ) (h : v < length p) where
  rule_stands : (rs : List ℕ) → get_or (written (rules_of p) rs) v 0 ≡ (node p v).rule
  rule_stands rs =
      let e : v ≡ 1 * v + 0 = omega arith in
      ap (λ (i : ℕ). get_or (written (rules_of p) rs) i 0) e ∙ spread_at rule_of 1 (λ _. refl) p (drop (length (rules_of p)) rs) v 0 h (omega arith)

  link_stands : (ls : List ℕ) (j : ℕ) → j < 4 → get_or (written (links_of p) ls) (4 * v + j) 0 ≡ get_or (four_links (node p v)) j 0
  link_stands ls j l = spread_at four_links 4 (λ _. refl) p (drop (length (links_of p)) ls) v j h l

  principal_stands : (ls : List ℕ) → get_or (written (links_of p) ls) (4 * v) 0 ≡ (node p v).principal
  principal_stands ls = let e : 4 * v ≡ 4 * v + 0 = omega arith in ap (λ (i : ℕ). get_or (written (links_of p) ls) i 0) e ∙ link_stands ls 0 (omega arith)

pub start_stands : (p : Proof) (ss : List ℕ) (v : ℕ) → v ≤ length p → get_or (written (starts_of p) ss) v 0 ≡ length (all_codes (take v p))
unfolding starts_of
start_stands p ss v h =
    let left = drop (length (starts_of p)) ss in
    let e : length (all_codes p) ≡ 0 + length (all_codes p) = omega arith in
    let i : 0 + length (all_codes (take v p)) ≡ length (all_codes (take v p)) = omega arith in
    ap (λ (n : ℕ). get_or ((starts_from 0 p ++ (n ∷ [])) ++ left) v 0) e ∙ starts_at 0 p left v h ∙ i

-- the codes of node v stand from its start to the next
codes_stand : (p : Proof) (ss cs : List ℕ) (v : ℕ) → v < length p → codes_at_lem (written (starts_of p) ss) (written (all_codes p) cs) v ≡ (node p v).codes
unfolding all_codes
codes_stand p ss cs v h =
    let blank : Node = record { rule = Rule.AX1; principal = 0; first = 0; second = 0; back = 0; codes = [] } in
    let before = all_codes (take v p) in
    let here = (node p v).codes in
    let after = all_codes (drop (suc v) p) in
    let left = drop (length (all_codes p)) cs in
    let whole : all_codes p ≡ before ++ (here ++ after) = ap all_codes (split_at p v blank h) ∙ codes_append (take v p) (node p v ∷ drop (suc v) p) in
    let next : all_codes (take (v + 1) p) ≡ before ++ here =
    ap (λ (n : ℕ). all_codes (take n p)) (add-one v) ∙ ap all_codes (take-suc p v blank h) ∙ codes_more (take v p) (node p v) in
    let from = start_stands p ss v (omega arith) in
    let width : get_or (written (starts_of p) ss) (v + 1) 0 - get_or (written (starts_of p) ss) v 0 ≡ length here =
    omega (arith, start_stands p ss (v + 1) (omega arith), from, ap length next, length-append before here) in
    ap (λ (w : ℕ). take w (drop (get_or (written (starts_of p) ss) v 0) (written (all_codes p) cs))) width
    ∙ ap (λ (n : ℕ). take (length here) (drop n (written (all_codes p) cs))) from
    ∙ ap (λ (l : List ℕ). take (length here) (drop (length before) (l ++ left))) whole
    ∙ rw (append_assoc before (here ++ after) left, drop-append_seam before ((here ++ after) ++ left), append_assoc here after left) (take-append_seam here (after ++ left))

-- reading the columns back gives the table
pub proof_of_columns : (p : Proof) (rs ls ss cs : List ℕ)
    → proof_of (written (rules_of p) rs) (written (links_of p) ls) (written (starts_of p) ss) (written (all_codes p) cs) (length p) ≡ p
proof_of_columns p rs ls ss cs = ext_get_or (record { rule = Rule.AX1; principal = 0; first = 0; second = 0; back = 0; codes = [] }) _ p long at
  where
    long : length (proof_of (written (rules_of p) rs) (written (links_of p) ls) (written (starts_of p) ss) (written (all_codes p) cs) (length p)) ≡ length p
    long = proof_of_length (written (rules_of p) rs) (written (links_of p) ls) (written (starts_of p) ss) (written (all_codes p) cs) (length p)

    same : (v : ℕ) → v < length p → plain_node (written (rules_of p) rs) (written (links_of p) ls) (written (starts_of p) ss) (written (all_codes p) cs) v ≡ node p v
    same v h =
        rw (
          rule_stands p v h rs,
          principal_stands p v h ls,
          link_stands p v h ls 1 (omega arith),
          link_stands p v h ls 2 (omega arith),
          link_stands p v h ls 3 (omega arith),
          codes_stand p ss cs v h,
        ) refl

    at : (v : ℕ) → v < length (proof_of (written (rules_of p) rs) (written (links_of p) ls) (written (starts_of p) ss) (written (all_codes p) cs) (length p))
        → node (proof_of (written (rules_of p) rs) (written (links_of p) ls) (written (starts_of p) ss) (written (all_codes p) cs) (length p)) v ≡ node p v
    at v h =
        let i : v < length p = omega (arith, long) in
        proof_of_node (written (rules_of p) rs) (written (links_of p) ls) (written (starts_of p) ss) (written (all_codes p) cs) (length p) v i ∙ same v i
