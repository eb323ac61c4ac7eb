-- the judged records are those that were stored and loaded again
use Rattle.std.specs.Prelude.{◌≡◌, ℕ, ◌≤◌}
use Rattle.std.proofs.Common.{sym, ◌∙◌}
use mathlib.Core.List.{List}
use Rattle.std.proofs.Math.ListN.{length}
use Rattle.verdict.specs.Verdict.{Verdict}
use Rattle.verdict.specs.Lists.{written}
use Rattle.formula.specs.Claim.{Form}
use Rattle.formula.specs.Held.{held_claim, held_proof}
use Rattle.formula.specs.Nodes.{Proof}
use Rattle.formula.specs.NodeColumns.{Columns}
use Rattle.nodes.specs.ProofDecode.{proof_in}
use Rattle.nodes.specs.ProofStored.{NodesStored}
use Rattle.calculus.specs.Judge.{judge}
use Rattle.records.specs.Records.{nodes_of, NodesLoaded}
use Rattle.records.specs.declared.Node.{Node}
use Rattle.laid.specs.Readable.{Readable, proof_at, laid_judged}
use Rattle.standing.specs.Standing.{JudgedStored}
use Rattle.standing.specs.StandingLaws.{columns_long, same, starts_same, stored}

module _ {ks xs ys : List ℕ} {n : ℕ} {gs ms : List ℕ} {k : ℕ} {os s : List ℕ} {at m : ℕ} (r : Readable ks xs ys n gs ms k os s at m)
    {rs₀ ls₀ ss₀ cs₀ : List ℕ} (columns : Columns m rs₀ ls₀ ss₀ cs₀) where
  abbrev p : Proof
  p = proof_in s at

  module _ {rs ls ss cs : List ℕ} (w : NodesStored p rs₀ ls₀ ss₀ cs₀ rs ls ss cs) where
    module _ (vs : List Node) {vs' : List Node} (there : m ≤ length vs) (e : vs' ≡ written (nodes_of rs ls ss m) vs) where
      module _ {rs' ls' ss' : List ℕ} (loaded : NodesLoaded vs' m rs ls ss rs' ls' ss') where
        -- and what it says is said of the proof in the file
        pub judged_stored : {v : Verdict} → ((f : Form) → v ≡ judge (held_claim f ks xs ys n gs ms k) (held_proof rs' ls' ss' cs m os k))
            → JudgedStored (λ f. held_claim f ks xs ys n gs ms k) (proof_at s at os k) vs cs₀ v vs' cs
        judged_stored is = record { verdict = λ f. is f ∙ sym (laid_judged r (columns_long r columns w vs there e loaded) (same r columns w vs there e loaded) (starts_same r columns w vs there e loaded) f); stored = stored r columns w vs there e }
