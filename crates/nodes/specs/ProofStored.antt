-- the nodes of a file stored one after the other into the arrays that a caller lends
use Rattle.std.specs.Prelude.{◌≡◌, Bool, true, false, ℕ, suc, ◌+◌, ◌*◌, ◌-◌, ◌<◌, ◌≤◌, leb, get_or, set}
use Rattle.std.proofs.Math.Path.{refl, sym, subst, ap}
use Rattle.std.proofs.Common.{◌∙◌}
use mathlib.Core.List.{List, [], ◌∷◌, ◌++◌, append_assoc, append-nil}
use native.Mathlib.Omega.{arith}
use Rattle.std.proofs.Math.ListN.{length, length-append}
use Rattle.std.proofs.lemmas.List.Edits.{sets}
use Rattle.verdict.specs.Lists.{written}
use Rattle.formula.specs.Nodes.{Node, Proof}
use Rattle.formula.specs.Fields.{link_width_le}
use Rattle.formula.specs.Records.{all_codes}
use Rattle.formula.specs.PlainNodes.{proof_of}
use Rattle.formula.specs.NodeColumns.{Columns, spread, rule_of, four_links, rules_of, links_of, starts_from, starts_of, spread_more, spread-length, codes_more, starts_length, starts_more, proof_of_columns}
use Rattle.encoding.specs.Parse.{pick}
use Rattle.encoding.specs.Places.{word_at}
use Rattle.verdict.specs.WrittenLaws.{written_on, written_length}
use Rattle.nodes.specs.ProofDecode.{words_at_length, codes_place, code_count, node_end, node_links, node_at, NodeFits, nodes_at, nodes_at_length, NodesFit, one_more, proof_in, Decodes, set_links}

-- there is room for node v, and for 24 codes from a start on
pub record NodeRoom (v start : ℕ) (rs ls cs : List ℕ) : Type 0 where
  pub rule : v < length rs
  pub links : 4 * v + 4 ≤ length ls
  pub codes : start + 24 ≤ length cs

-- the columns have the lengths that they had
pub record SameLengths (rs₀ ls₀ ss₀ cs₀ rs ls ss cs : List ℕ) : Type 0 where
  pub rules : length rs ≡ length rs₀
  pub links : length ls ≡ length ls₀
  pub starts : length ss ≡ length ss₀
  pub codes : length cs ≡ length cs₀

-- the columns of a proof are written into the arrays, which are unchanged beyond them
pub record NodesStored (p : Proof) (rs₀ ls₀ ss₀ cs₀ rs ls ss cs : List ℕ) : Type 0 where
  pub rules : rs ≡ written (rules_of p) rs₀
  pub links : ls ≡ written (links_of p) ls₀
  pub starts : ss ≡ written (starts_of p) ss₀
  pub codes : cs ≡ written (all_codes p) cs₀

-- the arrays then hold the proof
pub stored_proof : {p : Proof} {rs₀ ls₀ ss₀ cs₀ rs ls ss cs : List ℕ} → NodesStored p rs₀ ls₀ ss₀ cs₀ rs ls ss cs → proof_of rs ls ss cs (length p) ≡ p
stored_proof {p} {rs₀} {ls₀} {ss₀} {cs₀} w = rw (w.rules, w.links, w.starts, w.codes) (proof_of_columns p rs₀ ls₀ ss₀ cs₀)

-- of the nodes from a place on i are stored, with so many codes; the others stand from the place at on
pub record Storing (s : List ℕ) (from : ℕ) (rs₀ ls₀ ss₀ cs₀ rs ls ss cs : List ℕ) (at start i : ℕ) : Type 0 where
  pub done : Proof
  pub many : length done ≡ i
  pub whole : proof_in s from ≡ done ++ nodes_at s at (word_at s 4 - i)
  pub fit : NodesFit s at (word_at s 4 - i)
  pub near : at ≤ from + 57 * i
  pub counted : start ≡ length (all_codes done)
  pub few : start ≤ 24 * i
  pub rules : rs ≡ written (rules_of done) rs₀
  pub links : ls ≡ written (links_of done) ls₀
  pub starts : ss ≡ written (starts_from 0 done) ss₀
  pub codes : cs ≡ written (all_codes done) cs₀

pub first_fits : {s : List ℕ} {at n : ℕ} → NodesFit s at (suc n) → NodeFits s at × NodesFit s (node_end s at) n
first_fits (one_more f r) = (f, r)

-- a node takes at most 57 bytes
pub node_near : (s : List ℕ) (at : ℕ) → code_count s at ≤ 24 → node_end s at ≤ at + 57
node_near s at h = go (leb 16 (get_or s at 0)) h
  where
    go : (b : Bool) → pick b (get_or s (codes_place s at) 0) 0 ≤ 24 → pick b (codes_place s at + 1 + 2 * get_or s (codes_place s at) 0) (codes_place s at) ≤ at + 57
    go true k = omega (arith, link_width_le (get_or s (at + 1) 0))
    go false k = omega (arith, link_width_le (get_or s (at + 1) 0))

-- the four links of a node are a run of stores
links_run : (l : List ℕ) (v : ℕ) (s : List ℕ) (at : ℕ) → set_links l v (node_links s at) ≡ sets l (4 * v) (four_links (node_at s at))
unfolding node_at
links_run l v s at =
    let i : 4 * v + 1 ≡ suc (4 * v) = omega arith in
    let j : 4 * v + 2 ≡ suc (suc (4 * v)) = omega arith in
    let k : 4 * v + 3 ≡ suc (suc (suc (4 * v))) = omega arith in
    rw (i, j, k) refl

-- stores that follow what is written lengthen it
stored_on : (col more old : List ℕ) {all now : List ℕ} {k : ℕ} → now ≡ written col old → length col ≡ k → k + length more ≤ length old → all ≡ col ++ more → sets now k more ≡ written all old
stored_on col more old {k = k} e n h a =
    ap (λ (l : List ℕ). sets l k more) e
    ∙ ap (λ (i : ℕ). sets (written col old) i more) (sym n)
    ∙ written_on col more old (omega arith)
    ∙ ap (λ (l : List ℕ). written l old) (sym a)

module _ {s : List ℕ} {from : ℕ} {rs₀ ls₀ ss₀ cs₀ : List ℕ} where
  pub storing_begins : Decodes s from → Storing s from rs₀ ls₀ ss₀ cs₀ rs₀ ls₀ ss₀ cs₀ from 0 0
  unfolding spread starts_from all_codes
  storing_begins d =
      let e : word_at s 4 ≡ word_at s 4 - 0 = omega arith in
      record {
        done = [];
        many = refl;
        whole = ap (nodes_at s from) e;
        fit = subst (NodesFit s from) e d.fit;
        near = omega arith;
        counted = refl;
        few = omega arith;
        rules = refl;
        links = refl;
        starts = refl;
        codes = refl;
      }

  module _ (d : Decodes s from) (lent : Columns (length (proof_in s from)) rs₀ ls₀ ss₀ cs₀) {rs ls ss cs : List ℕ} {at start i : ℕ} (w : Storing s from rs₀ ls₀ ss₀ cs₀ rs ls ss cs at start i) where
    pub room : Columns (word_at s 4) rs₀ ls₀ ss₀ cs₀
    room = subst (λ (n : ℕ). Columns n rs₀ ls₀ ss₀ cs₀) (nodes_at_length s from (word_at s 4)) lent

    rules_long : length (rules_of w.done) ≡ i
    rules_long = omega (arith, spread-length rule_of 1 (λ _. refl) w.done, w.many)

    links_long : length (links_of w.done) ≡ 4 * i
    links_long = omega (arith, spread-length four_links 4 (λ _. refl) w.done, w.many)

    starts_long : length (starts_from 0 w.done) ≡ i
    starts_long = starts_length 0 w.done ∙ w.many

    -- the stores leave the slices as long as they were
    pub stored_long : i ≤ word_at s 4 → SameLengths rs₀ ls₀ ss₀ cs₀ rs ls ss cs
    stored_long h = record {
      rules = ap length w.rules ∙ written_length (rules_of w.done) rs₀ (omega (arith, rules_long, room.rules));
      links = ap length w.links ∙ written_length (links_of w.done) ls₀ (omega (arith, links_long, room.links));
      starts = ap length w.starts ∙ written_length (starts_from 0 w.done) ss₀ (omega (arith, starts_long, room.starts));
      codes = ap length w.codes ∙ written_length (all_codes w.done) cs₀ (omega (arith, w.counted, w.few, room.codes));
    }

    module _ (more : i < word_at s 4) where
      ahead : word_at s 4 - i ≡ suc (word_at s 4 - (i + 1))
      ahead = omega arith

      one_left : NodesFit s at (suc (word_at s 4 - (i + 1)))
      one_left = subst (NodesFit s at) ahead w.fit

      pub node_fits : NodeFits s at
      node_fits = (first_fits one_left).0

      pub node_room : NodeRoom i start rs ls cs
      node_room =
          let long = stored_long (omega arith) in
          record {
            rule = omega (arith, long.rules, room.rules);
            links = omega (arith, long.links, room.links);
            codes = omega (arith, long.codes, room.codes, w.few);
          }

      here : Node
      here = node_at s at

      all : Proof
      all = w.done ++ (here ∷ [])

      split : proof_in s from ≡ all ++ nodes_at s (node_end s at) (word_at s 4 - (i + 1))
      unfolding nodes_at here all
      split = w.whole ∙ ap (λ (n : ℕ). w.done ++ nodes_at s at n) ahead ∙ sym (append_assoc w.done (node_at s at ∷ []) (nodes_at s (node_end s at) (word_at s 4 - (i + 1))))

      next_start : starts_from 0 all ≡ starts_from 0 w.done ++ (start ∷ [])
      unfolding all
      next_start =
          let e : 0 + length (all_codes w.done) ≡ start = omega (arith, w.counted) in
          starts_more 0 w.done here ∙ ap (λ (n : ℕ). starts_from 0 w.done ++ (n ∷ [])) e

      added : length here.codes ≡ code_count s at
      unfolding here node_at
      added = words_at_length s (codes_place s at + 1) (code_count s at)

      -- a node is stored, with its rule, its links, its start and its codes
      pub storing_steps : {rs' ls' ss' cs' : List ℕ} {at' start' : ℕ}
          → rs' ≡ set rs i (node_at s at).rule → ls' ≡ set_links ls i (node_links s at) → ss' ≡ set ss i start → cs' ≡ sets cs start (node_at s at).codes
          → at' ≡ node_end s at → start' ≡ start + code_count s at
          → Storing s from rs₀ ls₀ ss₀ cs₀ rs' ls' ss' cs' at' start' (i + 1)
      unfolding here all
      storing_steps r l b k e c =
          let longer : length (all_codes (w.done ++ (node_at s at ∷ []))) ≡ start + code_count s at =
          ap length (codes_more w.done (node_at s at)) ∙ length-append (all_codes w.done) (node_at s at).codes ∙ rw (added, w.counted) refl in
          record {
            done = w.done ++ (node_at s at ∷ []);
            many = omega (arith, length-append w.done (node_at s at ∷ []), w.many);
            whole = rw e split;
            fit = rw e (first_fits one_left).1;
            near = omega (arith, node_near s at node_fits.few, w.near);
            counted = c ∙ sym longer;
            few = omega (arith, node_fits.few, w.few);
            rules = r ∙ stored_on (rules_of w.done) (rule_of (node_at s at)) rs₀ w.rules rules_long (omega (arith, room.rules)) (spread_more rule_of w.done (node_at s at));
            links = l ∙ links_run ls i s at ∙ stored_on (links_of w.done) (four_links (node_at s at)) ls₀ w.links links_long (omega (arith, room.links)) (spread_more four_links w.done (node_at s at));
            starts = b ∙ stored_on (starts_from 0 w.done) (start ∷ []) ss₀ w.starts starts_long (omega (arith, room.starts)) next_start;
            codes = k ∙ stored_on (all_codes w.done) (node_at s at).codes cs₀ w.codes (sym w.counted) (omega (arith, added, node_fits.few, w.few, room.codes)) (codes_more w.done (node_at s at));
          }

    -- when all are stored, the number of all codes ends the starts
    module _ (last : i ≡ word_at s 4) where
      complete : w.done ≡ proof_in s from
      unfolding nodes_at
      complete =
          let e : word_at s 4 - i ≡ 0 = omega arith in
          sym (w.whole ∙ ap (λ (n : ℕ). w.done ++ nodes_at s at n) e ∙ append-nil w.done)

      pub stored_nodes : NodesStored (proof_in s from) rs₀ ls₀ ss₀ cs₀ rs ls (set ss i start) cs
      unfolding starts_of
      stored_nodes =
          let e : starts_from 0 w.done ++ (length (all_codes w.done) ∷ []) ≡ starts_from 0 w.done ++ (start ∷ []) = ap (λ (n : ℕ). starts_from 0 w.done ++ (n ∷ [])) (sym w.counted) in
          subst (λ (p : Proof). NodesStored p rs₀ ls₀ ss₀ cs₀ rs ls (set ss i start) cs) complete
          (record {
            rules = w.rules;
            links = w.links;
            starts = stored_on (starts_from 0 w.done) (start ∷ []) ss₀ w.starts starts_long (omega (arith, room.starts)) e;
            codes = w.codes;
          })
