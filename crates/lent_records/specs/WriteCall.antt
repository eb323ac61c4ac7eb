-- the promises of the two writing calls, of the records that stand in lent slices
use Rattle.std.specs.Prelude.{◌≡◌, refl, List, ℕ, ◌+◌, ◌<◌, ◌≤◌, length, get_or, take}
use Rattle.std.proofs.Common.{sym, ap, subst, ◌∙◌, arith, length-take-le}
use Rattle.std.proofs.lemmas.List.{length-map}
use Rattle.verdict.specs.Lists.{written}
use Rattle.formula.specs.Records.{NodeRecord}
use Rattle.records.specs.Records.{shown_entry, shown_node, shown_entries, shown_nodes, first_nodes, rule_column, link_column, count_column, EntriesLoaded, FieldsLoaded}
use Rattle.records.specs.Shown.{map-take, loaded_table, no_record, rule_at, principal_at, link_at, count_at, list_of}
use Rattle.records.specs.declared.Entry.{Entry}
use Rattle.records.specs.declared.Node.{Node}
use Rattle.writing.specs.Writing.{ClaimRecords, ProofRecords}
use Rattle.writing.specs.Promises.{WriteClaim, WriteProof}
use Rattle.writing.specs.Held.{plain_record, records_of, EntriesHeld, NodesHeld, Loadable, ClaimWritten, ProofWritten}

-- a claim's records, of the form's number: the lent entries, how many of them count, the goals' member counts, the members
abbrev pub lent_claim : ℕ → List Entry → ℕ → List ℕ → List ℕ → ClaimRecords
lent_claim form es n gs ms = record {
  form = form;
  entries = shown_entries es;
  count = n;
  counts = gs;
  members = ms;
}

-- a proof's: the lent nodes, how many of them count, the roots, the codes
abbrev pub lent_proof : List Node → ℕ → List ℕ → List ℕ → ProofRecords
lent_proof vs m os cs = record {
  nodes = shown_nodes vs;
  count = m;
  roots = os;
  codes = cs;
}

abbrev pub WriteClaimCall : ℕ → List Entry → ℕ → List ℕ → List ℕ → List ℕ → ℕ → List ℕ → Type 0
WriteClaimCall form es n gs ms out r out' = WriteClaim (lent_claim form es n gs ms) out r out'

abbrev pub WriteProofCall : ℕ → List Entry → ℕ → List ℕ → List ℕ → List Node → ℕ → List ℕ → List ℕ → List ℕ → ℕ → List ℕ → Type 0
WriteProofCall form es n gs ms vs m os cs out r out' = WriteProof (lent_claim form es n gs ms) (lent_proof vs m os cs) out r out'

-- reading the columns of node records back gives the records
records_of_columns : (p : List NodeRecord) (rs ls ns : List ℕ) → records_of (written (rule_column p) rs) (written (link_column p) ls) (written (count_column p) ns) (length p) ≡ p
records_of_columns p rs ls ns = list_of no_record _ p 0 same
  where
    same : (v : ℕ) → v < length p → plain_record (written (rule_column p) rs) (written (link_column p) ls) (written (count_column p) ns) (0 + v) ≡ get_or p v no_record
    same v l =
        let here : 0 + v ≡ v = omega arith in
        rw (here, rule_at _ p v l, principal_at _ p v l, link_at _ p v 1 (omega arith) l, link_at _ p v 2 (omega arith) l, link_at _ p v 3 (omega arith) l, count_at _ p v l) refl

loaded_records : (vs : List Node) (n : ℕ) {rs ls ns rs' ls' ns' : List ℕ} → n ≤ length vs → FieldsLoaded vs n rs ls ns rs' ls' ns' → records_of rs' ls' ns' n ≡ first_nodes vs n
loaded_records vs n {rs} {ls} {ns} h loaded =
    let len : n ≡ length (first_nodes vs n) = sym (length-map (take n vs) shown_node ∙ length-take-le n vs h) in
    rw (loaded.rules, loaded.links, loaded.counts) (
    ap (records_of (written (rule_column (first_nodes vs n)) rs) (written (link_column (first_nodes vs n)) ls) (written (count_column (first_nodes vs n)) ns)) len ∙ records_of_columns (first_nodes vs n) rs ls ns
    )

-- the columns hold the given records, wherever as many are loaded as can be: of nodes, in columns with as many rows as any number that is not refused asks for
module _ {n k : ℕ} where
  entries_held : (es : List Entry) {ks xs ys ks' xs' ys' : List ℕ} → Loadable (length es) 256 n k → EntriesLoaded es k ks xs ys ks' xs' ys' → EntriesHeld (shown_entries es) n ks' xs' ys'
  entries_held es {ks} {xs} {ys} {ks'} {xs'} {ys'} can loaded long few =
      let all : k ≡ n = can.all (subst (λ (m : ℕ). 256 ≤ m) (length-map es shown_entry) long) few in
      let these : EntriesLoaded es n ks xs ys ks' xs' ys' = subst (λ (m : ℕ). EntriesLoaded es m ks xs ys ks' xs' ys') all loaded in
      sym (map-take shown_entry n es) ∙ sym (loaded_table es n (omega (arith, can.fits)) these)

  nodes_held : (vs : List Node) {rows : ℕ} {rs ls ns rs' ls' ns' : List ℕ} → rows ≤ 1024 → (n ≤ 1024 → n ≤ rows) → Loadable (length vs) rows n k → FieldsLoaded vs k rs ls ns rs' ls' ns' → NodesHeld (shown_nodes vs) n rs' ls' ns'
  nodes_held vs {rows} {rs} {ls} {ns} {rs'} {ls'} {ns'} most rows_for can loaded long few =
      let lent : 1024 ≤ length vs = subst (λ (m : ℕ). 1024 ≤ m) (length-map vs shown_node) long in
      let all : k ≡ n = can.all (omega (arith, most, lent)) (rows_for few) in
      let these : FieldsLoaded vs n rs ls ns rs' ls' ns' = subst (λ (m : ℕ). FieldsLoaded vs m rs ls ns rs' ls' ns') all loaded in
      sym (map-take shown_node n vs) ∙ sym (loaded_records vs n (omega (arith, can.fits)) these)

-- what is written from loaded columns is what the records promise
module _ (form : ℕ) (es : List Entry) (gs : List ℕ) {n k r : ℕ} {ks xs ys ks' xs' ys' ms out out' : List ℕ} where
  pub write_claim_call : Loadable (length es) 256 n k → EntriesLoaded es k ks xs ys ks' xs' ys'
      → ClaimWritten form (length es) n ks' xs' ys' gs ms out r out' → WriteClaimCall form es n gs ms out r out'
  write_claim_call can loaded right = right (shown_entries es) (length-map es shown_entry) (entries_held es can loaded)

  pub write_proof_call : (vs : List Node) (os : List ℕ) {rows m j : ℕ} {rs ls ns rs' ls' ns' cs : List ℕ} → rows ≤ 1024 → (m ≤ 1024 → m ≤ rows)
      → Loadable (length es) 256 n k → EntriesLoaded es k ks xs ys ks' xs' ys' → Loadable (length vs) rows m j → FieldsLoaded vs j rs ls ns rs' ls' ns'
      → ProofWritten form (length es) n ks' xs' ys' gs ms (length vs) m rs' ls' ns' os cs out r out' → WriteProofCall form es n gs ms vs m os cs out r out'
  write_proof_call vs os most rows_for can loaded can_nodes loaded_nodes right =
      right (shown_entries es) (shown_nodes vs) (length-map es shown_entry) (length-map vs shown_node) (entries_held es can loaded) (nodes_held vs most rows_for can_nodes loaded_nodes)
