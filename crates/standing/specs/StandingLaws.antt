-- a proof that was decoded into columns, stored as records and loaded from these: what each stage asks of the one before it
use Rattle.std.specs.Prelude.{◌≡◌, refl, ℕ, zero, suc, ◌+◌, ◌*◌, ◌<◌, ◌≤◌, take, drop}
use Rattle.std.proofs.Common.{sym, subst, ◌∙◌, add-one, arith, length-drop, length-append, take_at, take_all}
use Rattle.std.proofs.Math.Path.{ap}
use mathlib.Core.List.{List, [], ◌∷◌, ◌++◌, map}
use Rattle.std.proofs.Math.ListN.{length, get_or}
use Rattle.verdict.specs.Lists.{written}
use Rattle.formula.specs.Nodes.{Proof, node}
use Rattle.formula.specs.PlainNodes.{proof_of}
use Rattle.formula.specs.Records.{NodeRecord, node_records, all_codes}
use Rattle.formula.specs.NodeColumns.{Columns, rules_of, links_of, starts_from, starts_of, start_stands}
use Rattle.formula.specs.CodeCounts.{few_codes, more_codes}
use Rattle.proof_files.specs.ProofRecords.{codes_few}
use Rattle.nodes.specs.ProofDecode.{proof_in, Decodes}
use Rattle.nodes.specs.ProofStored.{NodesStored}
use Rattle.rules.specs.JudgeStages.{Laid}
use Rattle.records.specs.Records.{shown_node, shown_nodes, first_nodes, nodes_of, NodeRoom, CountsFit, start_column, rule_column, link_column, total, NodesLoaded}
use Rattle.records.specs.Shown.{map-take, map_written, nodes_shown, loaded_proof, total_codes}
use Rattle.records.specs.declared.Node.{Node}
use Rattle.laid.specs.Readable.{Readable, laid, stored_same, stored_starts}
use Rattle.standing.specs.Standing.{ProofStored}

-- ---- lists of records
module _ {A B : Type 0} (f : A → B) where
  -- where the first n of a slice were written, they show what was written
  pub first_shown : (l : List A) (new old : List B) (n : ℕ) → map f l ≡ written new old → n ≡ length new → map f (take n l) ≡ new
  first_shown l new old n e many = map-take f n l ∙ ap (take n) e ∙ take_at new (drop (length new) old) n (sym many)

-- what is written is no shorter than what was there
pub no_shorter : {A : Type 0} (new old : List A) → length old ≤ length (written new old)
no_shorter new old = omega (arith, length-append new (drop (length new) old), length-drop (length new) old)

records_length : (p : Proof) → length (node_records p) ≡ length p
unfolding node_records
records_length [] = refl
records_length (v ∷ p) = ap suc (records_length p)

-- the starts that records make are those of their proof
starts_made : (k : ℕ) (p : Proof) → start_column k (node_records p) ≡ starts_from k p ++ ((k + length (all_codes p)) ∷ [])
unfolding start_column node_records starts_from all_codes
starts_made k [] = ap (λ (n : ℕ). n ∷ []) {x = k} {y = k + 0} (omega arith)
starts_made k (v ∷ p) =
    let e : k + length v.codes + length (all_codes p) ≡ k + length (v.codes ++ all_codes p) = omega (arith, length-append v.codes (all_codes p)) in
    ap (λ (l : List ℕ). k ∷ l) (starts_made (k + length v.codes) p ∙ ap (λ (n : ℕ). starts_from (k + length v.codes) p ++ (n ∷ [])) e)

-- a node adds no more than it may have
at_most : (q : Proof) → ((v : ℕ) → length (node q v).codes ≤ 24) → (v : ℕ) → length (all_codes (take (suc v) q)) ≤ length (all_codes (take v q)) + 24
unfolding all_codes
at_most [] h v = omega arith
at_most (x ∷ q) h zero = omega (arith, length-append x.codes [], h 0)
at_most (x ∷ q) h (suc v) =
    omega (arith, length-append x.codes (all_codes (take v q)), length-append x.codes (all_codes (take (suc v) q)), at_most q (λ u. h (suc u)) v)

module _ {ks xs ys : List ℕ} {n : ℕ} {gs ms : List ℕ} {k : ℕ} {os s : List ℕ} {at m : ℕ} (r : Readable ks xs ys n gs ms k os s at m)
    {rs₀ ls₀ ss₀ cs₀ : List ℕ} (columns : Columns m rs₀ ls₀ ss₀ cs₀) where
  abbrev p : Proof
  p = proof_in s at

  -- what the decoder asks
  pub may_decode : Decodes s at × (at ≤ 38) × Columns (length p) rs₀ ls₀ ss₀ cs₀
  may_decode = (r.decodes, r.near, subst (λ (i : ℕ). Columns i rs₀ ls₀ ss₀ cs₀) r.nodes columns)

  module _ {rs ls ss cs : List ℕ} (w : NodesStored p rs₀ ls₀ ss₀ cs₀ rs ls ss cs) where
    node_room : NodeRoom rs ls ss m
    node_room = (
      omega (arith, columns.rules, ap length w.rules, no_shorter (rules_of p) rs₀),
      omega (arith, columns.links, ap length w.links, no_shorter (links_of p) ls₀),
      omega (arith, columns.starts, ap length w.starts, no_shorter (starts_of p) ss₀),
    )

    codes_long : 24 * m ≤ length cs
    codes_long = omega (arith, columns.codes, ap length w.codes, no_shorter (all_codes p) cs₀)

    fit : CountsFit ss m
    fit v l =
        let here = stored_starts r w v (omega arith) in
        let next = stored_starts r w (v + 1) (omega arith) in
        let one : length (all_codes (take (suc v) p)) ≡ length (all_codes (take (v + 1) p)) = ap (λ (i : ℕ). length (all_codes (take i p))) (sym (add-one v)) in
        (omega (arith, here, next, one, more_codes p v), omega (arith, here, next, one, at_most p (codes_few r.file) v))

    -- what the store asks
    pub may_store : (vs : List Node) → m ≤ length vs → NodeRoom rs ls ss m × (m ≤ length vs) × CountsFit ss m
    may_store vs there = (node_room, there, fit)

    module _ (vs : List Node) {vs' : List Node} (there : m ≤ length vs) (e : vs' ≡ written (nodes_of rs ls ss m) vs) where
      within : (v : ℕ) → v < m → get_or ss (v + 1) 0 ≤ length cs
      within v l = omega (arith, stored_starts r w (v + 1) (omega arith), few_codes p (codes_few r.file) (v + 1), codes_long)

      shown_stored : shown_nodes vs' ≡ written (node_records p) (shown_nodes vs)
      shown_stored =
          ap shown_nodes e ∙ map_written shown_node (nodes_of rs ls ss m) vs
          ∙ ap (λ (l : List NodeRecord). written l (shown_nodes vs)) (nodes_shown rs ls ss cs m within ∙ ap node_records (stored_same r w))

      pub stored : ProofStored p vs cs₀ vs' cs
      stored = record { nodes = shown_stored; codes = w.codes }

      many : m ≡ length (node_records p)
      many = r.nodes ∙ sym (records_length p)

      stand : first_nodes vs' m ≡ node_records p
      stand = first_shown shown_node vs' (node_records p) (shown_nodes vs) m shown_stored many

      whole : length (all_codes (take m p)) ≡ length (all_codes p)
      whole = ap (λ (q : Proof). length (all_codes q)) (take_all m p (omega (arith, r.nodes)))

      -- what the load asks
      pub may_load : NodeRoom rs ls ss m × (m ≤ length vs') × (total (first_nodes vs' m) ≤ 24576)
      may_load = (
        node_room,
        omega (arith, ap length e, no_shorter (nodes_of rs ls ss m) vs),
        omega (arith, ap total stand, total_codes p, few_codes p (codes_few r.file) m, whole, columns.few),
      )

      module _ {rs' ls' ss' : List ℕ} (loaded : NodesLoaded vs' m rs ls ss rs' ls' ss') where
        pub same : proof_of rs' ls' ss' cs m ≡ p
        same = ap (λ (l : List ℕ). proof_of rs' ls' ss' l m) w.codes ∙ loaded_proof vs' m p cs₀ stand (sym r.nodes) loaded

        pub starts_same : (v : ℕ) → v ≤ m → get_or ss' v 0 ≡ length (all_codes (take v p))
        unfolding starts_of
        starts_same v l =
            ap (λ (x : List ℕ). get_or x v 0) (loaded.starts ∙ ap (λ (l : List NodeRecord). written (start_column 0 l) ss) stand ∙ ap (λ (c : List ℕ). written c ss) (starts_made 0 p ∙ from_zero))
            ∙ start_stands p ss v (omega (arith, r.nodes))
          where
            from_zero : starts_from 0 p ++ ((0 + length (all_codes p)) ∷ []) ≡ starts_from 0 p ++ (length (all_codes p) ∷ [])
            from_zero = ap (λ (n : ℕ). starts_from 0 p ++ (n ∷ [])) (omega arith)

        pub columns_long : Columns m rs' ls' ss' cs
        columns_long = record {
          few = columns.few;
          rules = omega (arith, node_room, ap length loaded.rules, no_shorter (rule_column (first_nodes vs' m)) rs);
          links = omega (arith, node_room, ap length loaded.links, no_shorter (link_column (first_nodes vs' m)) ls);
          starts = omega (arith, node_room, ap length loaded.starts, no_shorter (start_column 0 (first_nodes vs' m)) ss);
          codes = codes_long;
        }

        -- what the judge asks
        pub may_judge : Laid ks xs ys n rs' ls' ss' cs m
        may_judge = laid r columns_long same starts_same
