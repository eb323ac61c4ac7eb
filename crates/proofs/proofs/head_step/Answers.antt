-- The four returns are the four cases of the law of a node's head.
use mathlib.Core.Path.{◌≡◌, sym, ◌∙◌}
use Prim.Native.Nat.{ℕ, ◌+◌, ◌<◌}
use lib.ListN.{length, get_or}
use Rattle.formula.specs.Fields.{link_width_lem}
use native.Mathlib.Omega.{arith}
use Rattle.proof_files.specs.ProofParts.{links_at}
use Rattle.proofs.specs.ProofHead.{head_cut, head_short, head_whole}
use Rattle.proofs.proofs.head_step.Goals as goal

pub returns-then-bytes-at : goal.returns-then-bytes-at
returns-then-bytes-at c = rw c.at.ensures (head_cut _ _ (omega arith) c.if-bytes-at.true)

pub returns-then-bytes-next : goal.returns-then-bytes-next
returns-then-bytes-next c =
    rw c.at-then-bytes-next.ensures
    (head_short c.args.bytes.now c.args.at (omega arith) (sym c.map_fits.ensures ∙ c.if-not-map_fits.false) (omega (arith, c.link_width.ensures.0)))

pub returns : goal.returns
returns c =
    let rule : ℕ = get_or c.args.bytes.now (c.args.at + 1) 0 in
    let inside : c.args.at + 1 < length c.args.bytes.now = omega arith in
    let e : c.link_width.result ≡ link_width_lem rule = c.link_width.ensures.0 in
    record {
      rule = rule;
      links = links_at rule c.args.bytes.now (c.args.at + 2);
      two_bytes = inside;
      reached = record {
        found = head_whole c.args.bytes.now c.args.at inside (sym c.map_fits.ensures ∙ c.if-not-map_fits.false)
            (c.args.at + 2 + c.link_width.result) (omega (arith, e)) (omega arith);
        inside = omega arith;
        near = omega arith;
      };
    }
