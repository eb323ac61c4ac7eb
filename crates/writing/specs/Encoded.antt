-- the judges of records in their order: bytes, table, tree
use Rattle.std.specs.Prelude.{◌≡◌, true, ℕ, ◌+◌, ◌*◌, ◌≤◌, length}
use Rattle.std.proofs.Math.Path.{refl, ap}
use Rattle.std.proofs.Common.{◌∙◌, arith}
use mathlib.Core.List.{List, [], ◌∷◌, ◌++◌}
use Rattle.std.proofs.Math.ListN.{take, drop, length-drop}
use Rattle.verdict.specs.Verdict as verdicts
use Rattle.verdict.specs.Verdict.{Verdict, accepted}
use Rattle.verdict.specs.Lists.{Each, none, more}
use Rattle.formula.specs.Table.{Table}
use Rattle.formula.specs.Claim.{Form}
use Rattle.formula.specs.Records.{NodeRecord}
use Rattle.formula.specs.Fields.{link_width_lem}
use Rattle.conditions.specs.Judge.{plainly, judge_table}
use Rattle.encoding.specs.Encode.{encode_all}
use Rattle.claim_files.specs.ClaimFile.{encode_entry, GoalCount, encode_claim}
use Rattle.proof_files.specs.ProofFile.{encode_node, encode_proof}
use Rattle.tree.specs.Owners.{tree_judged}
use Rattle.writing.specs.RecordBytes.{entry_bytes, claim_bytes, split, nodes_bytes, proof_bytes}
use Rattle.writing.specs.Goals.{goals_fit, roots_fit, roots_of}
use Rattle.writing.specs.Spelling.{spelled_as, spelling_of, spelled_claim}
use Rattle.writing.specs.Ends.{End, next, stop, go_on, walk, stop_not_next, passed, went}
use Rattle.writing.specs.EntryEnds.{entry_fits_lem, entry_width_lem, entry_encoded, entry_end, entries_end}
use Rattle.writing.specs.ClaimEnds.{claim_end}
use Rattle.writing.specs.NodeEnds.{node_of_lem, node_fits, sequent_end, node_end, node_encoded, node_past}
use Rattle.writing.specs.ProofEnds.{nodes_over, nodes_end, enough, proof_end}

-- a judge after the walk: it refuses, or the walk's end stands
abbrev pub judged : Verdict → ℕ → End
judged accepted o = next o
judged (verdicts.refused n q) o = stop n q

-- 12 to 14 and 72, then 20, 71 and 21 to 23
abbrev pub claim_judged : Form → ℕ → Table → List ℕ → List ℕ → End
claim_judged f n t gs ms = go_on (claim_end f n t gs ms) (judged (judge_table plainly t))

-- 32 to 34, then 35, beside a claim of the form with so many goals
abbrev pub proof_judged : Form → ℕ → Table → ℕ → List ℕ → List NodeRecord → List ℕ → End
proof_judged f k t n os vs cs = go_on (proof_end f k t n os vs cs) (judged (tree_judged (roots_of f os) (nodes_over vs cs)))

-- entries that pass have the bytes of entries, as the writer spells them
pub entries_encoded : (es : Table) (at o : ℕ) → entries_end es at ≡ next o → encode_all entry_bytes es ≡ encode_all encode_entry (spelling_of es)
unfolding walk encode_all
entries_encoded [] at o h = refl
entries_encoded (e ∷ es) at o h =
    let w = went (entry_end 0 e at) (λ o. entries_end es o) h in
    let (fits, _) = passed (entry_fits_lem e) (next (at + entry_width_lem e.kind e.b)) 13 at w.first in
    ap (λ (l : List ℕ). l ++ encode_all entry_bytes es) (entry_encoded e fits) ∙ ap (λ (l : List ℕ). encode_entry (spelled_as e) ++ l) (entries_encoded es w.place o w.then)

module _ (t : Table) where
  pub nodes_encoded : (vs : List NodeRecord) (cs : List ℕ) (at o : ℕ) → 24 * length vs ≤ length cs → nodes_end t vs cs at ≡ next o → nodes_bytes vs cs ≡ encode_all encode_node (nodes_over vs cs)
  unfolding nodes_end nodes_bytes nodes_over encode_all
  nodes_encoded [] cs at o long h = refl
  nodes_encoded (v ∷ vs) cs at o long h =
      let here = take v.count cs in
      let left = drop v.count cs in
      let w = went (node_end t v here at) (λ o. nodes_end t vs left o) h in
      let (fits, _) = passed (node_fits v) (sequent_end t v.count here (at + 2 + link_width_lem v.rule)) 33 at w.first in
      let (_, few, _) = node_past t v here (enough t v vs cs long) at w.place w.first in
      ap (λ (l : List ℕ). l ++ nodes_bytes vs left) (node_encoded v here fits (enough t v vs cs long few))
      ∙ ap (λ (l : List ℕ). encode_node (node_of_lem v here) ++ l) (nodes_encoded vs left w.place o (omega (arith, length-drop v.count cs)) w.then)

  -- no node has more than 24 codes
  pub nodes_few : (vs : List NodeRecord) (cs : List ℕ) (at o : ℕ) → 24 * length vs ≤ length cs → nodes_end t vs cs at ≡ next o → Each (λ v. v.count ≤ 24) vs
  unfolding nodes_end
  nodes_few [] cs at o long h = none
  nodes_few (v ∷ vs) cs at o long h =
      let here = take v.count cs in
      let left = drop v.count cs in
      let w = went (node_end t v here at) (λ o. nodes_end t vs left o) h in
      let (_, few, _) = node_past t v here (enough t v vs cs long) at w.place w.first in
      more few (nodes_few vs left w.place o (omega (arith, length-drop v.count cs)) w.then)

-- a walk that a judge let pass
pub judged_next : (e : End) (v : Verdict) {o : ℕ} → go_on e (judged v) ≡ next o → (e ≡ next o) × (v ≡ accepted)
judged_next (stop n q) v h = absurd (stop_not_next h)
judged_next (next u) accepted h = (h, refl)
judged_next (next u) (verdicts.refused n q) h = absurd (stop_not_next h)

-- records that every judge let pass: the walk ends where the file does, which is that of what they stand for
pub record ClaimPasses (f : Form) (n : ℕ) (t : Table) (gs ms : List ℕ) (o : ℕ) : Type 0 where
  pub entries : n ≤ 256
  pub goals : GoalCount f (length gs)
  pub fit : goals_fit f gs ms ≡ true
  pub few : Each (λ (k : ℕ). k ≤ 24) gs
  pub encoded : claim_bytes f n t (split gs ms) ≡ encode_claim (spelled_claim f t (split gs ms))
  pub end : o ≡ length (encode_claim (spelled_claim f t (split gs ms)))

pub record ProofPasses (f : Form) (k : ℕ) (t : Table) (n : ℕ) (os : List ℕ) (vs : List NodeRecord) (cs : List ℕ) (o : ℕ) : Type 0 where
  pub walked : proof_end f k t n os vs cs ≡ next o
  pub tree : tree_judged (roots_of f os) (nodes_over vs cs) ≡ accepted
  pub nodes : n ≤ 1024
  pub fit : roots_fit f k os ≡ true
  pub few : Each (λ v. v.count ≤ 24) vs
  pub encoded : proof_bytes f n os vs cs ≡ encode_proof f (record { roots = roots_of f os; nodes = nodes_over vs cs })
  pub end : o ≡ length (encode_proof f (record { roots = roots_of f os; nodes = nodes_over vs cs }))
