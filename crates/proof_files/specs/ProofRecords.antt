-- what callers may rely on in the records of a proof file
use Rattle.std.specs.Prelude.{◌≡◌, refl, ℕ, ◌≤◌, length}
use Rattle.std.proofs.Common.{sym, arith}
use mathlib.Core.List.{List, [], Memᴰ}
use Rattle.verdict.specs.Lists.{none, more, Rising}
use Rattle.verdict.specs.EachLaws.{each_at, each_member}
use Rattle.formula.specs.Rule
use Rattle.formula.specs.Codes.{Formula, entry_of_lem}
use Rattle.formula.specs.Nodes.{node}
use Rattle.formula.specs.Claim.{Form, clm1, clm2, fewest, Claim, Derivation}
use Rattle.encoding.specs.Encode.{Counts}
use Rattle.proof_files.specs.ProofFile.{FitNode, Rooted, FitRoots, FitProof, ProofFile}

-- the root of PRF1 is that of one goal
one_root : (f : Form) {g n : ℕ} {rs : List ℕ} → (f ≡ clm1 → g ≡ 1) → fewest f ≤ n → FitRoots f g n rs → Rooted g n rs
one_root clm1 one some e = rw e (record { as_many = sym (one refl); rising = λ i h. absurd (omega arith); each = more {x = 0} some none })
one_root clm2 one some r = r

-- each goal has its root, and each root is a node; a claim of the form for one goal has one
pub rooted : {c : Claim} {d : Derivation} → (c.form ≡ clm1 → length c.goals ≡ 1) → FitProof c d → Rooted (length c.goals) (length d.nodes) d.roots
rooted {c} one f = one_root c.form one f.nodes.count.0 f.roots

module _ {c : Claim} {bytes : List ℕ} {d : Derivation} (f : ProofFile c bytes d) where
  pub node_count : Counts (fewest c.form) 1024 (length d.nodes)
  node_count = f.fits.nodes.count

  -- past the last node the record is blank, and fits too
  pub node_fits : (v : ℕ) → FitNode c.entries (node d.nodes v)
  node_fits v =
      each_at (record { rule = Rule.AX1; principal = 0; first = 0; second = 0; back = 0; codes = [] })
      (record {
        known = omega arith;
        fields = record { principal_fits = refl; first_fits = refl; second_fits = refl; back_fits = refl };
        few = omega arith;
        rising = λ i h. absurd (omega arith);
        members = none;
      })
      f.fits.nodes.each
      v

  pub codes_few : (v : ℕ) → length (node d.nodes v).codes ≤ 24
  codes_few v = (node_fits v).few

  pub codes_rise : (v : ℕ) → Rising (node d.nodes v).codes
  codes_rise v = (node_fits v).rising

  pub code_formula : (v x : ℕ) → Memᴰ x (node d.nodes v).codes → Formula c.entries (entry_of_lem x)
  code_formula v x m = (each_member (node_fits v).members x m).1
