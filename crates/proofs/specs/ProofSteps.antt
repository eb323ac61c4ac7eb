-- what the steps of the program find is what the parsers find at the same place
use Rattle.std.specs.Prelude.{◌≡◌, List, ℕ, ◌+◌, ◌<◌, ◌≤◌, leb, length, get_or, drop, Result, Ok, Err}
use Rattle.std.proofs.Common.{◌∙◌, arith, le-leb}
use Rattle.std.proofs.lemmas.Bool.{lt-leb}
use Rattle.formula.specs.Table.{Table}
use Rattle.formula.specs.Nodes.{Node}
use Rattle.encoding.specs.Parse.{Got, fault}
use Rattle.proof_files.specs.ProofFile.{Links}
use Rattle.encoding.specs.Walk.{Reached}
use Rattle.proof_files.specs.ReadProof.{sequent, node}
use Rattle.proof_files.specs.ProofParts.{heading}
use Rattle.proofs.specs.ProofLaws.{node_empty, node_codes, node_codes_stop}
use Rattle.verdict.specs.declared.Refusal.{Refusal}

-- the place after what a step read, or a refusal
abbrev pub Step : Type 0
Step = Result ℕ (Refusal ℕ)

abbrev pub Finds : {A : Type 0} → List ℕ → ℕ → Got A → Step → Type 0
Finds {A} s limit g (Ok o) = (x : A) × Reached s limit g x o
Finds s limit g (Err e) = g ≡ fault e.number e.place

-- a node whose head was read: its rule, whether codes follow, its fields
pub record Head (s : List ℕ) (at : ℕ) (o : ℕ) : Type 0 where
  pub rule : ℕ
  pub links : Links
  pub two_bytes : at + 1 < length s
  pub reached : Reached s (at + 8) (heading (drop at s) at) ((rule, leb 16 (get_or s at 0)), links) o

abbrev pub FindsHead : List ℕ → ℕ → Step → Type 0
FindsHead s at (Ok o) = Head s at o
FindsHead s at (Err e) = heading (drop at s) at ≡ fault e.number e.place

-- the same of another name for what is read, and of a wider limit
pub finds_as : {A : Type 0} (s : List ℕ) {l m : ℕ} {g h : Got A} (r : Step) → g ≡ h → l ≤ m → Finds s l h r → Finds s m g r
finds_as s (Ok o) e k (x, f) = (x, record { found = e ∙ f.found; inside = f.inside; near = omega (arith, f.near) })
finds_as s (Err r) e k f = e ∙ f

-- a node after its head: its sequent is empty, or its codes follow
module _ (t : Table) (s : List ℕ) (at o : ℕ) (h : Head s at o) where
  pub finds_empty : get_or s at 0 < 16 → (x : Node) × Reached s (at + 57) (node t (drop at s) at) x o
  finds_empty l = (
    _,
    record {
      found = node_empty t (drop at s) at h.reached.found (lt-leb 16 (get_or s at 0) l);
      inside = h.reached.inside;
      near = omega (arith, h.reached.near);
    },
  )

  pub finds_codes : 16 ≤ get_or s at 0 → (r : Step) → Finds s (o + 49) (sequent t (drop o s) o) r → Finds s (at + 57) (node t (drop at s) at) r
  finds_codes l (Ok z) (cs, f) = (
    _,
    record {
      found = node_codes t (drop at s) at h.reached.found (le-leb 16 (get_or s at 0) l) f.found;
      inside = f.inside;
      near = omega (arith, f.near, h.reached.near);
    },
  )
  finds_codes l (Err e) f = node_codes_stop t (drop at s) at h.reached.found (le-leb 16 (get_or s at 0) l) f
