-- what lent records show: columns that are stored show the table and the proof that stand in them, and columns that are loaded hold what the records show
use Rattle.std.specs.Prelude.{◌≡◌, length, take, drop}
use Rattle.std.proofs.Math.Path.{refl, sym, ap}
use Rattle.std.proofs.Common.{◌∙◌, le_of_suc-le-suc, length-append, length-drop, take_at, drop_at, length-take-le}
use mathlib.Core.List.{List, [], ◌∷◌, ◌++◌, map, map-append, append_assoc}
use Prim.Native.Nat.{ℕ, zero, suc, ◌+◌, ◌*◌, ◌-◌, ◌<◌, ◌≤◌}
use native.Mathlib.Omega.{arith}
use Rattle.std.proofs.Math.ListN.{get_or}
use Rattle.std.proofs.lemmas.List.{length-map}
use Rattle.verdict.specs.Lists.{values_from, written}
use Rattle.formula.specs.Columns.{kind_column, a_column, b_column, table_of_columns}
use Rattle.formula.specs.Plain.{table_of}
use Rattle.formula.specs.Nodes.{Node, Proof, node}
use Rattle.formula.specs.PlainNodes.{plain_node, proof_of, codes_at_lem}
use Rattle.formula.specs.Records.{NodeRecord, record_of, node_records, all_codes}
use Rattle.records.specs.Records.{shown_entry, shown_node, shown_entries, shown_nodes, first_entries, first_nodes, entry_of_lem, entries_of, node_of_lem, nodes_of, rule_column, link_column, start_column, count_column, total, EntriesLoaded, NodesLoaded}
use Rattle.records.specs.declared.Entry as declared_entry
use Rattle.records.specs.declared.Node as declared_node

module _ {A B : Type 0} (f : A → B) where
  map_drop : (n : ℕ) (l : List A) → map f (drop n l) ≡ drop n (map f l)
  map_drop zero l = refl
  map_drop (suc n) [] = refl
  map_drop (suc n) (x ∷ l) = map_drop n l

  pub map-take : (n : ℕ) (l : List A) → map f (take n l) ≡ take n (map f l)
  map-take zero l = refl
  map-take (suc n) [] = refl
  map-take (suc n) (x ∷ l) = ap (λ (r : List B). f x ∷ r) (map-take n l)

  -- what is written shows what it shows, and so does what is left beyond it
  pub map_written : (new old : List A) → map f (written new old) ≡ written (map f new) (map f old)
  map_written new old =
      map-append f new (drop (length new) old) ∙ ap (λ (l : List B). map f new ++ l) (map_drop (length new) old)
      ∙ ap (λ (k : ℕ). map f new ++ drop k (map f old)) (sym (length-map new f))

  map_values : (g : ℕ → A) (e k : ℕ) → map f (values_from g e k) ≡ values_from (λ i. f (g i)) e k
  unfolding values_from
  map_values g e zero = refl
  map_values g e (suc k) = ap (λ (l : List B). f (g e) ∷ l) (map_values g (suc e) k)

  -- the first records of a slice are those that were written to it
  pub first_written : (new old : List A) (n : ℕ) → length new ≡ n → map f (take n (written new old)) ≡ map f new
  first_written new old n e = ap (map f) (take_at new (drop (length new) old) n e)

-- ---- entries
module _ (ks xs ys : List ℕ) (n : ℕ) where
  -- the records made of columns show the table of the columns
  pub entries_shown : shown_entries (entries_of ks xs ys n) ≡ table_of ks xs ys n
  unfolding table_of
  entries_shown = map_values shown_entry (entry_of_lem ks xs ys) 0 n

-- the table of loaded columns is what the records show
pub loaded_table : (es : List declared_entry.Entry) (n : ℕ) {ks xs ys ks' xs' ys' : List ℕ} → n ≤ length es → EntriesLoaded es n ks xs ys ks' xs' ys' → table_of ks' xs' ys' n ≡ first_entries es n
loaded_table es n {ks} {xs} {ys} h loaded =
    let len : n ≡ length (first_entries es n) = sym (length-map (take n es) shown_entry ∙ length-take-le n es h) in
    rw (loaded.kinds, loaded.a, loaded.b) (
    ap (table_of (written (kind_column (first_entries es n)) ks) (written (a_column (first_entries es n)) xs) (written (b_column (first_entries es n)) ys)) len ∙ table_of_columns (first_entries es n) ks xs ys
    )

-- ---- nodes
records_of : (g : ℕ → Node) (e k : ℕ) → node_records (values_from g e k) ≡ values_from (λ v. record_of (g v)) e k
unfolding node_records values_from
records_of g e zero = refl
records_of g e (suc k) = ap (λ (l : List NodeRecord). record_of (g e) ∷ l) (records_of g (suc e) k)

same_values : {A : Type 0} (f g : ℕ → A) (e k : ℕ) → ((i : ℕ) → i < k → f (e + i) ≡ g (e + i)) → values_from f e k ≡ values_from g e k
unfolding values_from
same_values f g e zero h = refl
same_values f g e (suc k) h =
    let here : e + 0 ≡ e = omega arith in
    let head : f e ≡ g e = ap f (sym here) ∙ h 0 (omega arith) ∙ ap g here in
    rw (head, same_values f g (suc e) k rest) refl
  where
    rest : (i : ℕ) → i < k → f (suc e + i) ≡ g (suc e + i)
    rest i l = let next : suc e + i ≡ e + suc i = omega arith in ap f next ∙ h (suc i) (omega arith) ∙ ap g (sym next)

module _ (rs ls ss cs : List ℕ) (n : ℕ) where
  codes_length : (v : ℕ) → get_or ss (v + 1) 0 ≤ length cs → length (codes_at_lem ss cs v) ≡ get_or ss (v + 1) 0 - get_or ss v 0
  codes_length v h = length-take-le (get_or ss (v + 1) 0 - get_or ss v 0) (drop (get_or ss v 0) cs) (omega (arith, length-drop (get_or ss v 0) cs))

  -- the records made of columns are those of the proof that stands in the columns
  pub nodes_shown : ((v : ℕ) → v < n → get_or ss (v + 1) 0 ≤ length cs) → shown_nodes (nodes_of rs ls ss n) ≡ node_records (proof_of rs ls ss cs n)
  unfolding proof_of
  nodes_shown h =
      map_values shown_node (node_of_lem rs ls ss) 0 n
      ∙ same_values _ _ 0 n (λ v l. ap (λ (c : ℕ). record { rule = get_or rs (0 + v) 0; principal = get_or ls (4 * (0 + v)) 0; first = get_or ls (4 * (0 + v) + 1) 0; second = get_or ls (4 * (0 + v) + 2) 0; back = get_or ls (4 * (0 + v) + 3) 0; count = c }) (sym (codes_length (0 + v) (h (0 + v) (omega arith)))))
      ∙ sym (records_of (plain_node rs ls ss cs) 0 n)

pub total_codes : (p : Proof) → total (node_records p) ≡ length (all_codes p)
unfolding total node_records all_codes
total_codes [] = refl
total_codes (v ∷ p) = ap (λ (k : ℕ). length v.codes + k) (total_codes p) ∙ sym (length-append v.codes (all_codes p))

-- ---- what stands in columns written from records
-- past the end of the records, in no law
abbrev pub no_record : NodeRecord
no_record = record { rule = 0; principal = 0; first = 0; second = 0; back = 0; count = 0 }

module _ (rest : List ℕ) where
  pub rule_at : (p : List NodeRecord) (v : ℕ) → v < length p → get_or (rule_column p ++ rest) v 0 ≡ (get_or p v no_record).rule
  unfolding rule_column
  rule_at [] v h = absurd (omega arith)
  rule_at (w ∷ p) zero h = refl
  rule_at (w ∷ p) (suc v) h = rule_at p v (le_of_suc-le-suc h)

  pub count_at : (p : List NodeRecord) (v : ℕ) → v < length p → get_or (count_column p ++ rest) v 0 ≡ (get_or p v no_record).count
  count_at [] v h = absurd (omega arith)
  count_at (w ∷ p) zero h = refl
  count_at (w ∷ p) (suc v) h = count_at p v (le_of_suc-le-suc h)

  -- a link by its number: principal, first child, second child, back link
  abbrev link : NodeRecord → ℕ → ℕ
  link w j = get_or (w.principal ∷ w.first ∷ w.second ∷ w.back ∷ []) j 0

  pub link_at : (p : List NodeRecord) (v j : ℕ) → j < 4 → v < length p → get_or (link_column p ++ rest) (4 * v + j) 0 ≡ link (get_or p v no_record) j
  unfolding link_column
  link_at [] v j l h = absurd (omega arith)
  link_at (w ∷ p) zero j l h = let none : 4 * 0 + j ≡ j = omega arith in ap (λ (k : ℕ). get_or (link_column (w ∷ p) ++ rest) k 0) none ∙ head j l
    where
      head : (j : ℕ) → j < 4 → get_or (link_column (w ∷ p) ++ rest) j 0 ≡ link w j
      head zero l = refl
      head (suc zero) l = refl
      head (suc (suc zero)) l = refl
      head (suc (suc (suc zero))) l = refl
      head (suc (suc (suc (suc j)))) l = absurd (omega arith)
  link_at (w ∷ p) (suc v) j l h =
      let four : 4 * suc v + j ≡ suc (suc (suc (suc (4 * v + j)))) = omega arith in
      ap (λ (k : ℕ). get_or (link_column (w ∷ p) ++ rest) k 0) four ∙ link_at p v j l (le_of_suc-le-suc h)

  -- the first link stands at 4 × v
  pub principal_at : (p : List NodeRecord) (v : ℕ) → v < length p → get_or (link_column p ++ rest) (4 * v) 0 ≡ (get_or p v no_record).principal
  principal_at p v h = let first : 4 * v ≡ 4 * v + 0 = omega arith in ap (λ (k : ℕ). get_or (link_column p ++ rest) k 0) first ∙ link_at p v 0 (omega arith) h

-- ---- the proof that stands in columns written from its records
record_at : (p : Proof) (v : ℕ) → v < length p → (v < length (node_records p)) × (get_or (node_records p) v no_record ≡ record_of (node p v))
unfolding node_records
record_at [] v h = absurd (omega arith)
record_at (w ∷ p) zero h = (omega arith, refl)
record_at (w ∷ p) (suc v) h = let r = record_at p v (le_of_suc-le-suc h) in (omega (arith, r.0), r.1)

-- the codes of a node stand from its start on, however many stand before them
codes_at : (p : Proof) (s : ℕ) (before rest more : List ℕ) (v : ℕ) → length before ≡ s → v < length p → codes_at_lem (start_column s (node_records p) ++ rest) (before ++ (all_codes p ++ more)) v ≡ (node p v).codes
unfolding start_column node_records all_codes
codes_at [] s before rest more v e h = absurd (omega arith)
codes_at (w ∷ p) s before rest more zero e h =
    let next : get_or (start_column s (node_records (w ∷ p)) ++ rest) (0 + 1) 0 ≡ s + length w.codes = start_first (s + length w.codes) (node_records p) rest in
    let some : get_or (start_column s (node_records (w ∷ p)) ++ rest) (0 + 1) 0 - s ≡ length w.codes = omega arith in
    ap (λ (k : ℕ). take k (drop s (before ++ ((w.codes ++ all_codes p) ++ more)))) some
    ∙ ap (take (length w.codes)) (drop_at before ((w.codes ++ all_codes p) ++ more) s e ∙ append_assoc w.codes (all_codes p) more)
    ∙ take_at w.codes (all_codes p ++ more) (length w.codes) refl
  where
    start_first : (s : ℕ) (p : List NodeRecord) (rest : List ℕ) → get_or (start_column s p ++ rest) 0 0 ≡ s
    start_first s [] rest = refl
    start_first s (v ∷ p) rest = refl
codes_at (w ∷ p) s before rest more (suc v) e h =
    let long : length (before ++ w.codes) ≡ s + length w.codes = length-append before w.codes ∙ omega arith in
    let apart : before ++ ((w.codes ++ all_codes p) ++ more) ≡ (before ++ w.codes) ++ (all_codes p ++ more) = ap (λ (l : List ℕ). before ++ l) (append_assoc w.codes (all_codes p) more) ∙ sym (append_assoc before w.codes (all_codes p ++ more)) in
    let after : suc v + 1 ≡ suc (v + 1) = omega arith in
    let starts : List ℕ = start_column (s + length w.codes) (node_records p) ++ rest in
    ap (λ (l : List ℕ). codes_at_lem (start_column s (node_records (w ∷ p)) ++ rest) l (suc v)) apart
    ∙ ap (λ (k : ℕ). take (get_or (s ∷ starts) k 0 - get_or starts v 0) (drop (get_or starts v 0) ((before ++ w.codes) ++ (all_codes p ++ more)))) after
    ∙ codes_at p (s + length w.codes) (before ++ w.codes) rest more v long (le_of_suc-le-suc h)

-- a list is that of its elements
pub list_of : {A : Type 0} (d : A) (g : ℕ → A) (l : List A) (e : ℕ) → ((i : ℕ) → i < length l → g (e + i) ≡ get_or l i d) → values_from g e (length l) ≡ l
unfolding values_from
list_of d g [] e h = refl
list_of d g (x ∷ l) e h =
    let head : g e ≡ x = ap g (omega arith) ∙ h 0 (omega arith) in
    rw (head, list_of d g l (suc e) rest) refl
  where
    rest : (i : ℕ) → i < length l → g (suc e + i) ≡ get_or l i d
    rest i m = let next : suc e + i ≡ e + suc i = omega arith in ap g next ∙ h (suc i) (omega arith)

-- reading the columns back gives the proof
pub proof_of_columns : (p : Proof) (rs ls ss cs : List ℕ)
    → proof_of (written (rule_column (node_records p)) rs) (written (link_column (node_records p)) ls) (written (start_column 0 (node_records p)) ss) (written (all_codes p) cs) (length p) ≡ p
unfolding proof_of
proof_of_columns p rs ls ss cs = list_of _ _ p 0 same
  where
    same : (v : ℕ) → v < length p → plain_node (written (rule_column (node_records p)) rs) (written (link_column (node_records p)) ls) (written (start_column 0 (node_records p)) ss) (written (all_codes p) cs) (0 + v) ≡ node p v
    same v l =
        let here : 0 + v ≡ v = omega arith in
        let p' = node_records p in
        let r = record_at p v l in
        rw (here, rule_at _ p' v r.0, principal_at _ p' v r.0, link_at _ p' v 1 (omega arith) r.0, link_at _ p' v 2 (omega arith) r.0, link_at _ p' v 3 (omega arith) r.0, r.1, codes_at p 0 [] (drop (length (start_column 0 p')) ss) (drop (length (all_codes p)) cs) v refl l) refl

-- the proof of loaded columns is the one whose records stand in the slice
pub loaded_proof : (vs : List declared_node.Node) (n : ℕ) (p : Proof) (cs : List ℕ) {rs ls ss rs' ls' ss' : List ℕ} → first_nodes vs n ≡ node_records p → length p ≡ n
    → NodesLoaded vs n rs ls ss rs' ls' ss' → proof_of rs' ls' ss' (written (all_codes p) cs) n ≡ p
loaded_proof vs n p cs {rs} {ls} {ss} first len loaded =
    rw (loaded.rules, loaded.links, loaded.starts, first, sym len) (proof_of_columns p rs ls ss cs)
