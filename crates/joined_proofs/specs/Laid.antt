-- what the joined proof is laid down from: the members of its claim, and two proof files
use Rattle.std.specs.Prelude.{◌≡◌, List, ℕ, ◌<◌, ◌≤◌, length, take}
use Rattle.verdict.specs.Sets.{elements}
use Rattle.nodes.specs.ProofDecode.{proof_in, Decodes}
use Rattle.renumbering.specs.Moving.{Movable}

-- so many members stand in front of the array, entries of a table of 256
pub record Members (ms : List ℕ) (n : ℕ) : Type 0 where
  pub few : n ≤ 24
  pub long : length ms ≡ 24
  pub small : (e : ℕ) → elements (take n ms) e → e < 256

-- a proof file for one goal: it is decoded off its places, and its numbers of nodes can be moved by as much as any whole asks for
pub record Tree (s : List ℕ) : Type 0 where
  pub decodes : Decodes s 6
  pub movable : (d : ℕ) → d ≤ 1024 → Movable d (proof_in s 6)
