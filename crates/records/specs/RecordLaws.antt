-- records and numbers that are stored one after the other: a list written over another grows by one
use Rattle.std.specs.Prelude.{◌≡◌, refl, length, get_or, set, take, drop}
use Rattle.std.proofs.Common.{sym, ◌∙◌, arith, length-append, length-drop, drop-cons, take-suc, length-take-le}
use Rattle.std.proofs.Math.Path.{ap}
use mathlib.Core.List.{List, [], ◌∷◌, ◌++◌, map, map-append}
use Prim.Native.Nat.{ℕ, zero, suc, ◌+◌, ◌*◌, ◌<◌, ◌≤◌}
use Rattle.std.proofs.lemmas.List.{length-map}
use Rattle.std.proofs.Math.ListN.{get_or-append}
use Rattle.std.proofs.Math.Seq.{append_snoc, set-append_seam}
use Rattle.verdict.specs.Lists.{values_from, values_from_length, written}
use Rattle.formula.specs.Table as tables
use Rattle.formula.specs.Table.{Table}
use Rattle.formula.specs.Columns.{column, column_length}
use Rattle.formula.specs.Records.{NodeRecord}
use Rattle.records.specs.Records.{blank_entry, blank_node, shown_entry, shown_node, first_entries, first_nodes, rule_column, link_column, start_column, count_column, total, links_set, RowSet, NodeRowSet, FieldsSet, EntriesLoaded, NodesLoaded, FieldsLoaded}
use Rattle.records.specs.declared.Entry.{Entry}
use Rattle.records.specs.declared.Node.{Node}

module _ {A : Type 0} where
  pub written_length : (xs ys : List A) → length xs ≤ length ys → length (written xs ys) ≡ length ys
  written_length xs ys h =
      let e : length (written xs ys) ≡ length xs + length (drop (length xs) ys) = length-append xs (drop (length xs) ys) in
      omega (arith, length-drop (length xs) ys)

  -- the next element is stored behind what is written
  pub written_more : (xs ys zs : List A) (i : ℕ) (v : A) → zs ≡ written xs ys → length xs ≡ i → i < length ys → set zs i v ≡ written (xs ++ (v ∷ [])) ys
  written_more xs ys zs i v e len h =
      let l : length xs < length ys = omega arith in
      let next : drop (length xs) ys ≡ get_or ys (length xs) v ∷ drop (suc (length xs)) ys = drop-cons ys (length xs) v l in
      let long : length (xs ++ (v ∷ [])) ≡ suc (length xs) = length-append xs (v ∷ []) ∙ omega arith in
      ap (λ (l : List A). set l i v) e
      ∙ ap (λ (k : ℕ). set (written xs ys) k v) (sym len)
      ∙ ap (λ (l : List A). set (xs ++ l) (length xs) v) next
      ∙ set-append_seam xs (get_or ys (length xs) v) (drop (suc (length xs)) ys) v
      ∙ sym (append_snoc xs v (drop (suc (length xs)) ys))
      ∙ ap (λ (k : ℕ). (xs ++ (v ∷ [])) ++ drop k ys) (sym long)

  pub values_from_more : (f : ℕ → A) (e k : ℕ) → values_from f e (suc k) ≡ values_from f e k ++ (f (e + k) ∷ [])
  unfolding values_from
  values_from_more f e zero = ap (λ (i : ℕ). f i ∷ []) (omega arith)
  values_from_more f e (suc k) = ap (λ (l : List A). f e ∷ l) (values_from_more f (suc e) k ∙ ap (λ (i : ℕ). values_from f (suc e) k ++ (f i ∷ [])) (omega arith))

  -- one more of the values of f is stored
  pub values_more : (f : ℕ → A) (ys zs : List A) (i : ℕ) (v : A) → zs ≡ written (values_from f 0 i) ys → v ≡ f i → i < length ys → set zs i v ≡ written (values_from f 0 (i + 1)) ys
  values_more f ys zs i v e is h =
      let one : i + 1 ≡ suc i = omega arith in
      let at : v ≡ f (0 + i) = is ∙ ap f (omega arith) in
      written_more (values_from f 0 i) ys zs i v e (values_from_length f 0 i) h
      ∙ ap (λ (u : A). written (values_from f 0 i ++ (u ∷ [])) ys) at
      ∙ ap (λ (l : List A). written l ys) (sym (values_from_more f 0 i))
      ∙ ap (λ (k : ℕ). written (values_from f 0 k) ys) (sym one)

-- one more of the first records
module _ {A B : Type 0} (f : A → B) (d : A) (l : List A) (i : ℕ) (h : i < length l) where
  pub first_more : map f (take (i + 1) l) ≡ map f (take i l) ++ (f (get_or l i d) ∷ [])
  first_more =
      let one : i + 1 ≡ suc i = omega arith in
      ap (λ (k : ℕ). map f (take k l)) one ∙ ap (map f) (take-suc l i d h) ∙ map-append f (take i l) (get_or l i d ∷ [])

  pub first_length : length (map f (take i l)) ≡ i
  first_length = length-map (take i l) f ∙ length-take-le i l (omega arith)

-- ---- the columns of entries
column-more : (f : tables.Entry → ℕ) (t : Table) (r : tables.Entry) → column f (t ++ (r ∷ [])) ≡ column f t ++ (f r ∷ [])
unfolding column
column-more f [] r = refl
column-more f (x ∷ t) r = ap (λ (l : List ℕ). f x ∷ l) (column-more f t r)

module _ (es : List Entry) (i : ℕ) (r : Entry) (h : i < length es) (is : r ≡ get_or es i blank_entry) where
  entry_column : (f : tables.Entry → ℕ) (old now : List ℕ) → i < length old → now ≡ written (column f (first_entries es i)) old → set now i (f (shown_entry r)) ≡ written (column f (first_entries es (i + 1))) old
  entry_column f old now l e =
      written_more (column f (first_entries es i)) old now i (f (shown_entry r)) e (column_length f (first_entries es i) ∙ first_length shown_entry blank_entry es i h) l
      ∙ ap (λ (c : List ℕ). written c old) (sym (column-more f (first_entries es i) (shown_entry r)))
      ∙ ap (λ (u : Entry). written (column f (first_entries es i ++ (shown_entry u ∷ []))) old) is
      ∙ ap (λ (t : Table). written (column f t) old) (sym (first_more shown_entry blank_entry es i h))

  pub entries-more : {ks xs ys ks₁ xs₁ ys₁ ks₂ xs₂ ys₂ : List ℕ} → i < length ks → i < length xs → i < length ys
      → EntriesLoaded es i ks xs ys ks₁ xs₁ ys₁ → RowSet ks₁ xs₁ ys₁ i r ks₂ xs₂ ys₂ → EntriesLoaded es (i + 1) ks xs ys ks₂ xs₂ ys₂
  entries-more {ks} {xs} {ys} {ks₁} {xs₁} {ys₁} a b c loaded row = record {
    kinds = row.kinds ∙ entry_column (λ e. e.kind) ks ks₁ a loaded.kinds;
    a = row.a ∙ entry_column (λ e. e.a) xs xs₁ b loaded.a;
    b = row.b ∙ entry_column (λ e. e.b) ys ys₁ c loaded.b;
  }

pub entries_none : (es : List Entry) (ks xs ys : List ℕ) → EntriesLoaded es 0 ks xs ys ks xs ys
unfolding column
entries_none es ks xs ys = record { kinds = refl; a = refl; b = refl }

-- ---- the columns of nodes
rule_more : (p : List NodeRecord) (v : NodeRecord) → rule_column (p ++ (v ∷ [])) ≡ rule_column p ++ (v.rule ∷ [])
unfolding rule_column
rule_more [] v = refl
rule_more (w ∷ p) v = ap (λ (l : List ℕ). w.rule ∷ l) (rule_more p v)

pub rule_length : (p : List NodeRecord) → length (rule_column p) ≡ length p
unfolding rule_column
rule_length [] = refl
rule_length (v ∷ p) = ap suc (rule_length p)

link_more : (p : List NodeRecord) (v : NodeRecord) → link_column (p ++ (v ∷ [])) ≡ link_column p ++ (v.principal ∷ v.first ∷ v.second ∷ v.back ∷ [])
unfolding link_column
link_more [] v = refl
link_more (w ∷ p) v = ap (λ (l : List ℕ). w.principal ∷ w.first ∷ w.second ∷ w.back ∷ l) (link_more p v)

pub link_length : (p : List NodeRecord) → length (link_column p) ≡ 4 * length p
unfolding link_column
link_length [] = refl
link_length (v ∷ p) = let e : length (link_column p) ≡ 4 * length p = link_length p in omega arith

start_more : (s : ℕ) (p : List NodeRecord) (v : NodeRecord) → start_column s (p ++ (v ∷ [])) ≡ start_column s p ++ ((s + total p + v.count) ∷ [])
unfolding start_column total
start_more s [] v = ap (λ (k : ℕ). s ∷ k ∷ []) (omega arith)
start_more s (w ∷ p) v = ap (λ (l : List ℕ). s ∷ l) (start_more (s + w.count) p v ∙ ap (λ (k : ℕ). start_column (s + w.count) p ++ (k ∷ [])) (omega arith))

pub start_length : (s : ℕ) (p : List NodeRecord) → length (start_column s p) ≡ suc (length p)
unfolding start_column
start_length s [] = refl
start_length s (v ∷ p) = ap suc (start_length (s + v.count) p)

-- the codes end where the last start says
pub start_last : (s : ℕ) (p : List NodeRecord) → get_or (start_column s p) (length p) 0 ≡ s + total p
unfolding start_column total
start_last s [] = omega arith
start_last s (v ∷ p) = start_last (s + v.count) p ∙ omega arith

total_more : (p : List NodeRecord) (v : NodeRecord) → total (p ++ (v ∷ [])) ≡ total p + v.count
unfolding total
total_more [] v = omega arith
total_more (w ∷ p) v = let e : total (p ++ (v ∷ [])) ≡ total p + v.count = total_more p v in omega arith

total_rises : (vs : List Node) (i n : ℕ) → i ≤ n → total (first_nodes vs i) ≤ total (first_nodes vs n)
unfolding total
total_rises vs zero n h = omega arith
total_rises [] (suc i) zero h = absurd (omega arith)
total_rises [] (suc i) (suc n) h = omega arith
total_rises (v ∷ vs) (suc i) zero h = absurd (omega arith)
total_rises (v ∷ vs) (suc i) (suc n) h = let e : total (first_nodes vs i) ≤ total (first_nodes vs n) = total_rises vs i n (omega arith) in omega arith

module _ (vs : List Node) (i : ℕ) (r : Node) (h : i < length vs) (is : r ≡ get_or vs i blank_node) where
  abbrev so_far : List NodeRecord
  so_far = first_nodes vs i

  abbrev one_more : List NodeRecord
  one_more = first_nodes vs (i + 1)

  there : length so_far ≡ i
  there = first_length shown_node blank_node vs i h

  first-is : so_far ++ (shown_node r ∷ []) ≡ one_more
  first-is = ap (λ (u : Node). so_far ++ (shown_node u ∷ [])) is ∙ sym (first_more shown_node blank_node vs i h)

  node_rules : (old now : List ℕ) → i < length old → now ≡ written (rule_column so_far) old → set now i r.rule ≡ written (rule_column one_more) old
  node_rules old now l e =
      written_more (rule_column so_far) old now i r.rule e (rule_length so_far ∙ there) l
      ∙ ap (λ (c : List ℕ). written c old) (sym (rule_more so_far (shown_node r)) ∙ ap rule_column first-is)

  node_links : (old now : List ℕ) → 4 * i + 3 < length old → now ≡ written (link_column so_far) old → links_set now i r ≡ written (link_column one_more) old
  node_links old now l e =
      let c : List ℕ = link_column so_far in
      let len : length c ≡ 4 * i = link_length so_far ∙ ap (λ (k : ℕ). 4 * k) there in
      let e₁ : set now (4 * i) r.principal ≡ written (c ++ (r.principal ∷ [])) old = written_more c old now (4 * i) r.principal e len (omega arith) in
      let l₁ : length (c ++ (r.principal ∷ [])) ≡ 4 * i + 1 = length-append c (r.principal ∷ []) ∙ omega arith in
      let e₂ : set (set now (4 * i) r.principal) (4 * i + 1) r.first ≡ written ((c ++ (r.principal ∷ [])) ++ (r.first ∷ [])) old = written_more (c ++ (r.principal ∷ [])) old _ (4 * i + 1) r.first e₁ l₁ (omega arith) in
      let l₂ : length ((c ++ (r.principal ∷ [])) ++ (r.first ∷ [])) ≡ 4 * i + 2 = length-append (c ++ (r.principal ∷ [])) (r.first ∷ []) ∙ omega arith in
      let e₃ : set (set (set now (4 * i) r.principal) (4 * i + 1) r.first) (4 * i + 2) r.second ≡ written (((c ++ (r.principal ∷ [])) ++ (r.first ∷ [])) ++ (r.second ∷ [])) old = written_more ((c ++ (r.principal ∷ [])) ++ (r.first ∷ [])) old _ (4 * i + 2) r.second e₂ l₂ (omega arith) in
      let l₃ : length (((c ++ (r.principal ∷ [])) ++ (r.first ∷ [])) ++ (r.second ∷ [])) ≡ 4 * i + 3 = length-append ((c ++ (r.principal ∷ [])) ++ (r.first ∷ [])) (r.second ∷ []) ∙ omega arith in
      written_more (((c ++ (r.principal ∷ [])) ++ (r.first ∷ [])) ++ (r.second ∷ [])) old _ (4 * i + 3) r.back e₃ l₃ l
      ∙ ap (λ (c' : List ℕ). written c' old) (
      append_snoc ((c ++ (r.principal ∷ [])) ++ (r.first ∷ [])) r.second (r.back ∷ [])
      ∙ append_snoc (c ++ (r.principal ∷ [])) r.first (r.second ∷ r.back ∷ [])
      ∙ append_snoc c r.principal (r.first ∷ r.second ∷ r.back ∷ [])
      ∙ sym (link_more so_far (shown_node r))
      ∙ ap link_column first-is
      )

  -- where the next node's codes start so far
  start_at : (old now : List ℕ) → now ≡ written (start_column 0 so_far) old → get_or now i 0 ≡ total so_far
  start_at old now e =
      ap (λ (l : List ℕ). get_or l i 0) e
      ∙ get_or-append (start_column 0 so_far) (drop (length (start_column 0 so_far)) old) 0 i (omega (arith, start_length 0 so_far, there))
      ∙ ap (λ (k : ℕ). get_or (start_column 0 so_far) k 0) (sym there)
      ∙ start_last 0 so_far
      ∙ omega arith

  node_starts : (old now : List ℕ) → i + 1 < length old → now ≡ written (start_column 0 so_far) old → set now (i + 1) (get_or now i 0 + r.count) ≡ written (start_column 0 one_more) old
  node_starts old now l e =
      let len : length (start_column 0 so_far) ≡ i + 1 = start_length 0 so_far ∙ omega (arith, there) in
      let val : get_or now i 0 + r.count ≡ 0 + total so_far + r.count = omega (arith, start_at old now e) in
      written_more (start_column 0 so_far) old now (i + 1) (get_or now i 0 + r.count) e len l
      ∙ ap (λ (k : ℕ). written (start_column 0 so_far ++ (k ∷ [])) old) val
      ∙ ap (λ (c : List ℕ). written c old) (sym (start_more 0 so_far (shown_node r)) ∙ ap (start_column 0) first-is)

  pub nodes_more : {rs ls ss rs₁ ls₁ ss₁ rs₂ ls₂ ss₂ : List ℕ} → i < length rs → 4 * i + 3 < length ls → i + 1 < length ss
      → NodesLoaded vs i rs ls ss rs₁ ls₁ ss₁ → NodeRowSet rs₁ ls₁ ss₁ i r rs₂ ls₂ ss₂ → NodesLoaded vs (i + 1) rs ls ss rs₂ ls₂ ss₂
  nodes_more {rs} {ls} {ss} {rs₁} {ls₁} {ss₁} a b c loaded row = record {
    rules = row.rules ∙ node_rules rs rs₁ a loaded.rules;
    links = row.links ∙ node_links ls ls₁ b loaded.links;
    starts = row.starts ∙ node_starts ss ss₁ c loaded.starts;
  }

  node_counts : (old now : List ℕ) → i < length old → now ≡ written (count_column so_far) old → set now i r.count ≡ written (count_column one_more) old
  node_counts old now l e =
      written_more (count_column so_far) old now i r.count e (length-map so_far (λ v. v.count) ∙ there) l
      ∙ ap (λ (c : List ℕ). written c old) (sym (map-append (λ v. v.count) so_far (shown_node r ∷ [])) ∙ ap count_column first-is)

  pub fields-more : {rs ls ns rs₁ ls₁ ns₁ rs₂ ls₂ ns₂ : List ℕ} → i < length rs → 4 * i + 3 < length ls → i < length ns
      → FieldsLoaded vs i rs ls ns rs₁ ls₁ ns₁ → FieldsSet rs₁ ls₁ ns₁ i r rs₂ ls₂ ns₂ → FieldsLoaded vs (i + 1) rs ls ns rs₂ ls₂ ns₂
  fields-more {rs} {ls} {ns} {rs₁} {ls₁} {ns₁} a b c loaded row = record {
    rules = row.rules ∙ node_rules rs rs₁ a loaded.rules;
    links = row.links ∙ node_links ls ls₁ b loaded.links;
    counts = row.counts ∙ node_counts ns ns₁ c loaded.counts;
  }

  -- a start fits its field, where the codes of all records fit their slice
  pub start_fits : {rs ls ss rs₁ ls₁ ss₁ : List ℕ} (n : ℕ) → i < n → total (first_nodes vs n) ≤ 24576 → NodesLoaded vs i rs ls ss rs₁ ls₁ ss₁ → get_or ss₁ i 0 + r.count < 65536
  start_fits {ss = ss} {ss₁ = ss₁} n less fits loaded =
      let now : get_or ss₁ i 0 ≡ total so_far = start_at ss ss₁ loaded.starts in
      let more : total one_more ≡ total so_far + r.count = sym (ap total first-is) ∙ total_more so_far (shown_node r) in
      omega (arith, total_rises vs (i + 1) n (omega arith))

-- no record yet, and the first start is 0
pub nodes_none : (vs : List Node) (rs ls ss ss₁ : List ℕ) → 0 < length ss → ss₁ ≡ set ss 0 0 → NodesLoaded vs 0 rs ls ss rs ls ss₁
unfolding rule_column link_column start_column
nodes_none vs rs ls ss ss₁ h e = record { rules = refl; links = refl; starts = e ∙ written_more [] ss ss 0 0 refl refl h }

pub fields_none : (vs : List Node) (rs ls ns : List ℕ) → FieldsLoaded vs 0 rs ls ns rs ls ns
unfolding rule_column link_column
fields_none vs rs ls ns = record { rules = refl; links = refl; counts = refl }
