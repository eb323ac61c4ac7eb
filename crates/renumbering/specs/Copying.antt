-- nodes decoded, moved and laid down, one after the other
use Rattle.std.specs.Prelude.{◌≡◌, List, [], ◌++◌, ℕ, suc, ◌+◌, ◌*◌, ◌-◌, ◌<◌, ◌≤◌, get_or, drop, set, replicate}
use Rattle.std.proofs.Math.Path.{refl}
use Rattle.std.proofs.Common.{subst, ap, ◌∙◌, arith, take_at}
use Rattle.std.proofs.Math.ListN.{length, take, length-replicate}
use Rattle.std.proofs.lemmas.List.Edits.{sets}
use Rattle.std.proofs.Math.Seq.{length-sets}
use Rattle.verdict.specs.Lists.{more}
use Rattle.formula.specs.Nodes.{Proof}
use Rattle.encoding.specs.Encode.{encode_all}
use Rattle.encoding.specs.Places.{word_at}
use Rattle.proof_files.specs.ProofFile.{encode_node}
use Rattle.nodes.specs.ProofDecode.{words_at_length, codes_place, code_count, node_end, node_links, node_at, NodeFits, nodes_at, NodesFit, proof_in, Decodes, set_links}
use Rattle.nodes.specs.ProofStored.{first_fits, node_near}
use Rattle.laying.specs.Laying as laying
use Rattle.laying.specs.Laying.{Fits, Put, Left, sets_written, all_left, less_left, none_left, room_left}
use Rattle.joining.specs.Shift.{shift, shifted}
use Rattle.renumbering.specs.Moving.{Moves, Movable, LinksMove, moved_links}

-- what is stored at the front is read there again
front : (xs l : List ℕ) (n : ℕ) → length xs ≡ n → n ≤ length l → take n (drop 0 (sets l 0 xs)) ≡ xs
front xs l n e h = ap (take n) (sets_written xs l (omega arith)) ∙ take_at xs (drop (length xs) l) n e

-- a node read into arrays of its own: its rule, its links, its codes and their number
pub record NodeRead (s : List ℕ) (at : ℕ) (rs ls cs : List ℕ) (n : ℕ) : Type 0 where
  pub rule : rs ≡ set (replicate 1 0) 0 (node_at s at).rule
  pub links : ls ≡ set_links (replicate 4 0) 0 (node_links s at)
  pub codes : cs ≡ sets (replicate 24 0) 0 (node_at s at).codes
  pub many : n ≡ code_count s at

module _ {s : List ℕ} {at : ℕ} {rs ls cs : List ℕ} {n : ℕ} (w : NodeRead s at rs ls cs n) where
  pub four_links : length ls ≡ 4
  four_links = ap length w.links

  pub room_for_codes : code_count s at ≤ 24 → n ≤ length cs
  room_for_codes few =
      let long : length cs ≡ 24 = ap length w.codes ∙ length-sets (replicate 24 0) 0 (node_at s at).codes ∙ length-replicate {A = ℕ} 24 0 in
      omega (arith, w.many)

  pub read_moves : {d : ℕ} → Moves d (node_at s at) → LinksMove (get_or rs 0 0) d ls
  unfolding node_at
  read_moves m = rw (w.rule, w.links) (record { first = m.first; second = m.second; back = m.back })

  -- its links moved, it is the node of the file, moved
  pub read_moved : (d : ℕ) {new : List ℕ} → code_count s at ≤ 24 → new ≡ moved_links (get_or rs 0 0) d ls
      → laying.node_at (get_or rs 0 0) new 0 cs 0 n ≡ shift d (node_at s at)
  unfolding node_at
  read_moved d few e =
      let long : length (node_at s at).codes ≡ n = omega (arith, words_at_length s (codes_place s at + 1) (code_count s at), w.many) in
      let codes : take n (drop 0 cs) ≡ (node_at s at).codes =
      rw w.codes (front (node_at s at).codes (replicate 24 0) n long (omega (arith, w.many, length-replicate {A = ℕ} 24 0))) in
      rw (e, w.rule, w.links, codes) refl

-- the bytes of nodes that are moved
abbrev pub moved_bytes : ℕ → Proof → List ℕ
moved_bytes d p = encode_all encode_node (shifted d p)

-- of the nodes of a file i are laid down; the others stand from a place of the file on, and go to a place of the slice
pub record Copying (s : List ℕ) (d to : ℕ) (start : List ℕ) (from place : ℕ) (now : List ℕ) (i : ℕ) : Type 0 where
  pub fit : NodesFit s from (word_at s 4 - i)
  pub movable : Movable d (nodes_at s from (word_at s 4 - i))
  pub near : from ≤ 6 + 57 * i
  pub left : Left (moved_bytes d (proof_in s 6)) to start (moved_bytes d (nodes_at s from (word_at s 4 - i))) place now

-- the first of several nodes, and the others
module _ (s : List ℕ) (d at : ℕ) where
  abbrev others : ℕ → List ℕ
  others n = moved_bytes d (nodes_at s (node_end s at) n)

  first_bytes : (n : ℕ) → moved_bytes d (nodes_at s at (suc n)) ≡ encode_node (shift d (node_at s at)) ++ others n
  unfolding nodes_at encode_all
  first_bytes n = refl

  first_moves : (n : ℕ) → Movable d (nodes_at s at (suc n)) → Moves d (node_at s at) × Movable d (nodes_at s (node_end s at) n)
  unfolding nodes_at
  first_moves n (more m r) = (m, r)

  no_bytes : moved_bytes d (nodes_at s at 0) ≡ []
  unfolding nodes_at encode_all
  no_bytes = refl

module _ {s : List ℕ} {d to : ℕ} {start : List ℕ} where
  pub copying_begins : Decodes s 6 → Movable d (proof_in s 6) → Copying s d to start 6 to start 0
  copying_begins f m =
      let e : word_at s 4 - 0 ≡ word_at s 4 = omega arith in
      record { fit = rw e f.fit; movable = rw e m; near = omega arith; left = rw e (all_left (moved_bytes d (proof_in s 6)) start to) }

  module _ {from place : ℕ} {now : List ℕ} {i : ℕ} (w : Copying s d to start from place now i) where
    pub copying_ends : word_at s 4 ≤ i → Put start to (moved_bytes d (proof_in s 6)) place now
    copying_ends h =
        let e : word_at s 4 - i ≡ 0 = omega arith in
        none_left (ap (λ (n : ℕ). moved_bytes d (nodes_at s from n)) e ∙ no_bytes s d from) w.left

    -- while a node is left
    module _ (unfinished : i < word_at s 4) where
      ahead : word_at s 4 - i ≡ suc (word_at s 4 - (i + 1))
      ahead = omega arith

      fits : NodeFits s from × NodesFit s (node_end s from) (word_at s 4 - (i + 1))
      fits = first_fits (subst (NodesFit s from) ahead w.fit)

      moves : Moves d (node_at s from) × Movable d (nodes_at s (node_end s from) (word_at s 4 - (i + 1)))
      moves = first_moves s d from (word_at s 4 - (i + 1)) (subst (λ (n : ℕ). Movable d (nodes_at s from n)) ahead w.movable)

      abbrev this : List ℕ
      this = encode_node (shift d (node_at s from))

      abbrev rest : List ℕ
      rest = others s d from (word_at s 4 - (i + 1))

      this_left : Left (moved_bytes d (proof_in s 6)) to start (this ++ rest) place now
      this_left =
          let e : moved_bytes d (nodes_at s from (word_at s 4 - i)) ≡ this ++ rest =
          ap (λ (n : ℕ). moved_bytes d (nodes_at s from n)) ahead ∙ first_bytes s d from (word_at s 4 - (i + 1)) in
          rw (← e) w.left

      pub node_fits : NodeFits s from
      node_fits = fits.0

      pub node_moves : Moves d (node_at s from)
      node_moves = moves.0

      pub node_room : Fits start to (moved_bytes d (proof_in s 6)) → Fits now place this
      node_room h = room_left this rest this_left h

      pub copying_steps : {from' place' : ℕ} {now' : List ℕ} → from' ≡ node_end s from → Put now place this place' now'
          → Copying s d to start from' place' now' (i + 1)
      copying_steps e p =
          rw e
          (record {
            fit = fits.1;
            movable = moves.1;
            near = omega (arith, node_near s from node_fits.few, w.near);
            left = less_left this rest this_left p;
          })
