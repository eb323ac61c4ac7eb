-- Opening and count, the roots, then the nodes.
use mathlib.Core.Path.{◌≡◌, refl}
use mathlib.Core.List.{List, ◌++◌}
use Prim.Native.Nat.{ℕ, ◌+◌, ◌≤◌}
use lib.ListN.{length}
use Rattle.verdict.specs.Lists.{written}
use Rattle.formula.specs.Claim.{Form}
use Rattle.encoding.specs.Encode.{encode_two}
use Rattle.proof_files.specs.ProofFile.{proof_opening, encode_roots, encode_proof}
use Rattle.formula.specs.NamedForm.{named_form, for_named}
use Rattle.laying.specs.Laying.{Put, Left, nodes_left, all_left, less_left, last_left}
use Rattle.laying.specs.Files.{proof_of, proof_parts, proof_parts_lem, proof_fits, file_put}
use Rattle.laying.proofs.put_proof.Goals as goal
use Rattle.laying.proofs.put_proof.Goals.{Start}

-- what is to be stored: opening and count, the roots, the nodes
module _ (s : Start) where
  abbrev out : List ℕ
  out = s.args.out.now

  abbrev form : Form
  form = named_form s.args.form

  abbrev opening : List ℕ
  opening = proof_opening form ++ encode_two s.args.nodes

  abbrev roots : List ℕ
  roots = encode_roots form s.args.roots.now

  abbrev nodes : List ℕ
  nodes = nodes_left s.args.rules.now s.args.links.now s.args.counts.now s.args.codes.now 0 s.args.nodes 0

  abbrev file : Form → List ℕ
  file f = encode_proof f (proof_of f s.args.roots.now s.args.rules.now s.args.links.now s.args.counts.now s.args.codes.now s.args.nodes)

  abbrev whole : List ℕ
  whole = proof_parts form s.args.roots.now s.args.rules.now s.args.links.now s.args.counts.now s.args.codes.now s.args.nodes

  whole-file : whole ≡ file form
  whole-file = proof_parts_lem form s.args.roots.now s.args.rules.now s.args.links.now s.args.counts.now s.args.codes.now s.args.nodes

  all_fit : 0 + length whole ≤ length out
  all_fit = proof_fits form s.args.roots.now s.args.rules.now s.args.links.now s.args.counts.now s.args.codes.now s.args.nodes out s.requires.0

  -- what is left after the opening, after the roots
  opening_left : {next : ℕ} {now : List ℕ} → Put out 0 opening next now → Left whole 0 out (roots ++ nodes) next now
  opening_left p = less_left opening (roots ++ nodes) (all_left whole out 0) p

  roots-left : {at next : ℕ} {then now : List ℕ} → Left whole 0 out (roots ++ nodes) at then → Put then at roots next now → Left whole 0 out nodes next now
  roots-left l p = less_left roots nodes l p

pub returns : goal.returns
returns c =
    let s = (goal.at.returns c).Start in
    for_named (λ (f : Form). c.put_nodes.new.out ≡ written (file s f) (out s))
    (file_put (whole-file s) c.requires.0
    (last_left {next = c.put_roots-from.result + length (nodes s)} (nodes s)
    (roots-left s (opening_left s c.open_proof.ensures) c.put_roots-from.ensures)
    (record { place = refl; stored = c.put_nodes.ensures })))
