-- a claim and a proof that were read, and the columns that hold them: what the judge of the rules asks holds of these
use Rattle.std.specs.Prelude.{◌≡◌, refl, ℕ, suc, ◌+◌, ◌<◌, ◌≤◌, length, get_or, take}
use Rattle.std.proofs.Common.{sym, subst, ◌∙◌, add-one, arith, length-take, get_or-take}
use Rattle.std.proofs.Math.Path.{ap}
use mathlib.Core.List.{List, [], Memᴰ}
use Rattle.verdict.specs.Sets.{elements}
use Rattle.verdict.specs.EachLaws.{each_member}
use Rattle.encoding.specs.Encode.{Bytes}
use Rattle.formula.specs.Claim.{Form, Claim, Derivation}
use Rattle.formula.specs.Nodes.{Node, Proof, node}
use Rattle.formula.specs.Plain.{table_of, table_of_length}
use Rattle.formula.specs.PlainNodes.{codes_at_lem, proof_of, proof_of_node}
use Rattle.formula.specs.Held.{held_claim, held_proof, goals_of, goals_of_length, goals_of_at}
use Rattle.formula.specs.Records.{all_codes}
use Rattle.formula.specs.NodeColumns.{Columns, start_stands}
use Rattle.formula.specs.CodeCounts.{few_codes, more_codes}
use Rattle.proof_files.specs.ProofFile.{ProofFile}
use Rattle.proof_files.proofs.ProofExact.{proof_good}
use Rattle.proof_files.specs.ProofRecords.{node_count, codes_few, code_formula, rooted}
use Rattle.nodes.specs.ProofDecode.{nodes_place_lem, proof_in, Decodes}
use Rattle.nodes.specs.ProofGood.{good_decoded}
use Rattle.nodes.specs.ProofStored.{NodesStored, stored_proof}
use Rattle.calculus.specs.GoalLaws.{at_in}
use Rattle.calculus.specs.Judge.{judge}
use Rattle.sequents.specs.Placed.{Formulas}
use Rattle.goals.specs.Goals.{Goals}
use Rattle.numbers.specs.Numbered.{Numberable}
use Rattle.rules.specs.JudgeStages.{Laid}
use Rattle.reader.specs.Files.{files}
use Rattle.reader.proofs.FilesExact.{files_exactly}
use Rattle.reader.specs.Found.{FilesGot}
use Rattle.reader.specs.WellFormed as reader
use Rattle.reader.specs.FormedLaws.{member_formula, one_goal_lem}
use Rattle.laid.specs.Numbering.{numberable}

-- the first k roots of a list, and the nodes that stand in a proof file from a place on
abbrev pub proof_at : List ℕ → ℕ → List ℕ → ℕ → Derivation
proof_at s at os k = record { roots = take k os; nodes = proof_in s at }

-- the claim is held, its table well formed, so that its formulas can be numbered, and the file is a proof beside it, of m nodes from a place
-- on and with these roots
pub record Readable (ks xs ys : List ℕ) (n : ℕ) (gs ms : List ℕ) (k : ℕ) (os s : List ℕ) (at m : ℕ) : Type 0 where
  pub table : Numberable ks xs ys n
  pub goals : Goals n gs ms k os m
  pub decodes : Decodes s at
  pub near : at ≤ 38
  pub form : Form
  pub file : ProofFile (held_claim form ks xs ys n gs ms k) s (proof_at s at os k)
  pub nodes : m ≡ length (proof_in s at)

-- what was read of two files
module _ (claim proof : List ℕ) (bc : Bytes claim) (bp : Bytes proof) {ks xs ys gs ms os : List ℕ} {n k m at : ℕ}
    (g : FilesGot (files claim proof) ks xs ys gs ms os n k m at) where
  formed : reader.WellFormed claim proof g.files
  formed = (files_exactly claim proof bc bp).given g.files g.was

  -- as many goals as are held
  goals_many : length g.files.claim.goals ≡ k
  goals_many = ap (λ (c : Claim). length c.goals) (sym g.held.same) ∙ goals_of_length gs ms k

  decoded : Decodes proof at × (g.files.beside.nodes ≡ proof_in proof at)
  decoded =
      let D = good_decoded g.files.claim proof (proof_good formed.beside_formed) in
      let place : nodes_place_lem g.files.claim.form (length g.files.claim.goals) ≡ at = ap (nodes_place_lem g.files.claim.form) goals_many ∙ sym g.place in
      (rw place at D.decodes, ap (λ (d : Derivation). d.nodes) D.same ∙ ap (proof_in proof) place)

  pub same_proof : proof_at proof at os k ≡ g.files.beside
  same_proof = rw (g.roots, ← decoded.1) refl

  pub same_entries : g.files.claim.entries ≡ table_of ks xs ys n
  same_entries = ap (λ (c : Claim). c.entries) (sym g.held.same)

  -- the members of each goal are entries of the table
  members_inside : (i : ℕ) → i < k → (e : ℕ) → elements (codes_at_lem gs ms i) e → e < n
  members_inside i h e m =
      let goal : Memᴰ (codes_at_lem gs ms i) g.files.claim.goals =
      subst (λ (c : Claim). Memᴰ (codes_at_lem gs ms i) c.goals) g.held.same
      (rw (← goals_of_at gs ms k i h) (at_in [] (goals_of gs ms k) i (omega (arith, goals_of_length gs ms k)))) in
      omega (arith, (member_formula formed.claim_formed (codes_at_lem gs ms i) goal e m).inside, ap length same_entries, table_of_length ks xs ys n)

  pub readable : Readable ks xs ys n gs ms k os proof at m
  readable =
      let r = rooted (one_goal_lem formed.claim_formed) formed.beside_formed.fits in
      record {
        table = numberable formed.claim_formed g.held;
        goals = record {
          placed = record { held = g.held.goals; inside = members_inside };
          roots = record {
            few = g.held.goals.few;
            long = g.room;
            rising = rw g.roots r.rising;
            inside = λ i h.
                let root : Memᴰ (get_or os i 0) g.files.beside.roots =
                rw (← get_or-take k os i 0 h, ← g.roots) (at_in 0 (take k os) i (omega (arith, length-take k os, g.room))) in
                omega (arith, each_member r.each (get_or os i 0) root, g.nodes);
          };
        };
        decodes = decoded.0;
        near = g.near;
        form = g.files.claim.form;
        file = rw (g.held.same, same_proof) formed.beside_formed;
        nodes = g.nodes ∙ ap length decoded.1;
      }

  -- the rules do not look at the form
  pub readable_judged : (f : Form) → judge g.files.claim g.files.beside ≡ judge (held_claim f ks xs ys n gs ms k) (proof_at proof at os k)
  unfolding judge
  readable_judged f = ap (λ (c : Claim). judge c g.files.beside) (sym g.held.same) ∙ ap (judge (held_claim f ks xs ys n gs ms k)) (sym same_proof)

module _ {ks xs ys : List ℕ} {n : ℕ} {gs ms : List ℕ} {k : ℕ} {os s : List ℕ} {at m : ℕ} (r : Readable ks xs ys n gs ms k os s at m) where
  pub count : m ≤ 1024
  count = omega (arith, r.nodes, node_count r.file)

  -- columns that hold the file's nodes, their codes one after the other
  module _ {rs ls ss cs : List ℕ} (columns : Columns m rs ls ss cs) (same : proof_of rs ls ss cs m ≡ proof_in s at)
      (starts : (v : ℕ) → v ≤ m → get_or ss v 0 ≡ length (all_codes (take v (proof_in s at)))) where
    rising : (v : ℕ) → v < m → (get_or ss v 0 ≤ get_or ss (v + 1) 0) × (get_or ss (v + 1) 0 ≤ length cs)
    rising v l =
        let here = starts v (omega arith) in
        let next = starts (v + 1) (omega arith) in
        let one : length (all_codes (take (suc v) (proof_in s at))) ≡ length (all_codes (take (v + 1) (proof_in s at))) = ap (λ (k : ℕ). length (all_codes (take k (proof_in s at)))) (sym (add-one v)) in
        (omega (arith, here, next, one, more_codes (proof_in s at) v), omega (arith, next, few_codes (proof_in s at) (codes_few r.file) (v + 1), columns.codes))

    formulas : (v : ℕ) → v < m → Formulas (table_of ks xs ys n) (codes_at_lem ss cs v)
    formulas v l x h =
        let at : (node (proof_in s at) v).codes ≡ codes_at_lem ss cs v = ap (λ (p : Proof). (node p v).codes) (sym same) ∙ ap (λ (y : Node). y.codes) (proof_of_node rs ls ss cs m v l) in
        code_formula r.file v x (rw at h)

    pub laid : Laid ks xs ys n rs ls ss cs m
    laid = record { entries = r.table.small; columns = columns; rising = rising; well = r.table.wf; members = formulas }

    pub laid_judged : (f : Form) → judge (held_claim f ks xs ys n gs ms k) (proof_at s at os k) ≡ judge (held_claim f ks xs ys n gs ms k) (held_proof rs ls ss cs m os k)
    laid_judged f = ap (λ (p : Proof). judge (held_claim f ks xs ys n gs ms k) (record { roots = take k os; nodes = p })) (sym same)

  -- columns that the decoder filled
  module _ {rs₀ ls₀ ss₀ cs₀ rs ls ss cs : List ℕ} (w : NodesStored (proof_in s at) rs₀ ls₀ ss₀ cs₀ rs ls ss cs) where
    pub stored_same : proof_of rs ls ss cs m ≡ proof_in s at
    stored_same = ap (proof_of rs ls ss cs) r.nodes ∙ stored_proof w

    pub stored_starts : (v : ℕ) → v ≤ m → get_or ss v 0 ≡ length (all_codes (take v (proof_in s at)))
    stored_starts v l = ap (λ (x : List ℕ). get_or x v 0) w.starts ∙ start_stands (proof_in s at) ss₀ v (omega (arith, r.nodes))
