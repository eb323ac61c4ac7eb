-- a proof file that is read whole is decoded off its places: whatever its table, its roots and nodes are those that stand there
use Rattle.std.specs.Prelude.{◌≡◌, Bool, true, false, length, drop}
use Rattle.std.proofs.Math.Path.{refl, sym, ap}
use Rattle.std.proofs.Common.{◌∙◌, leb-true, leb-false}
use mathlib.Core.List.{List, [], ◌∷◌}
use Prim.Native.Nat.{ℕ, zero, suc, ◌+◌, ◌*◌, ◌<◌, ◌≤◌}
use Rattle.std.proofs.Math.Decide.{dec_lt}
use native.Mathlib.Omega.{arith}
use Rattle.std.proofs.Math.Dec.{leb}
use Rattle.std.proofs.Math.ListN.{get_or}
use Rattle.verdict.specs.Tells.{fails}
use Rattle.formula.specs.Table.{Table}
use Rattle.formula.specs.Nodes.{Node, Proof}
use Rattle.formula.specs.Claim.{Form, clm1, clm2, fewest, Claim, Derivation}
use Rattle.encoding.specs.Encode.{Counts}
use Rattle.encoding.specs.Parse.{Got, fault, got, bind, times, in_range, fits_from}
use Rattle.encoding.specs.File.{refused, good}
use Rattle.encoding.specs.FileLaws.{refused_not_good, good_same}
use Rattle.encoding.specs.GotLaws.{fault_not_got, same_value, bind_got}
use Rattle.encoding.specs.ListLaws.{range_tells}
use Rattle.encoding.specs.Places.{word_at}
use Rattle.encoding.specs.Opening.{opens}
use Rattle.encoding.specs.Walk.{Reached}
use Rattle.proof_files.specs.ProofFile.{proof_opening}
use Rattle.proof_files.specs.ReadProof.{rule_fits, is_code_lem, is_node, sequent, made, node, read_proof}
use Rattle.proof_files.specs.ProofParts.{heading, number_from, after_number, numbers_of, roots_of, nodes_of}
use Rattle.proofs.specs.ProofHead.{head_cut, head_unfit, head_short, head_whole}
use Rattle.proofs.specs.ProofLaws.{number_cut, number_unfit, number_fits, roots_known, roots_written, sequent_cut, sequent_unfit, sequent_codes, node_stops, node_empty, node_codes, node_codes_stop}
use Rattle.proofs.specs.ProofWhole.{ended, not_opened, no_count, count_unfit, roots_stop, roots_read}
use Rattle.nodes.specs.ProofDecode.{words_at, codes_place, node_end, node_links, node_at, NodeFits, with_codes, no_codes, nodes_at, NodesFit, no_node, one_more, roots_in, nodes_place_lem, derivation_in, Decodes}

-- something was read
pub record Read {A : Type 0} (g : Got A) : Type 0 where
  pub value : A
  pub rest : List ℕ
  pub place : ℕ
  pub was : g ≡ got value rest place

never : {A : Type 0} {g : Got A} {n q : ℕ} → Read g → g ≡ fault n q → ⊥
never r e = fault_not_got (sym e ∙ r.was)

module _ (ok : ℕ → Bool) (s : List ℕ) where
  -- codes or roots that were read are the numbers that stand there
  number_read : (c at : ℕ) → at ≤ length s → Read (number_from ok c (drop at s) at) → (at + 1 < length s) × (number_from ok c (drop at s) at ≡ got (word_at s at) (drop (at + 2) s) (at + 2))
  number_read c at h r = room (dec_lt (length s) (at + 2))
    where
      fits : at + 1 < length s → (b : Bool) → fits_from ok c (word_at s at) ≡ b → number_from ok c (drop at s) at ≡ got (word_at s at) (drop (at + 2) s) (at + 2)
      fits l true e = number_fits ok s at c l e
      fits l false e = absurd (never r (number_unfit ok s at c l e))

      room : Dec (length s < at + 2) → (at + 1 < length s) × (number_from ok c (drop at s) at ≡ got (word_at s at) (drop (at + 2) s) (at + 2))
      room (yes l) = absurd (never r (number_cut ok s at c h l))
      room (no l) = let i : at + 1 < length s = omega arith in (i, fits i (fits_from ok c (word_at s at)) refl)

  -- n of them in sight of c
  abbrev some : ℕ → ℕ → ℕ → Got (List ℕ)
  some n c at = times (number_from ok) after_number n c (drop at s) at

  numbers_read : (n c at : ℕ) → at ≤ length s → Read (some n c at) → Reached s (at + 2 * n) (some n c at) (words_at s at n) (at + 2 * n)
  unfolding times words_at
  numbers_read zero c at h r =
      let e : at ≡ at + 2 * 0 = omega arith in
      record { found = ap (λ (k : ℕ). got [] (drop k s) k) e; inside = omega arith; near = omega arith }
  numbers_read (suc n) c at h r =
      let one = bind_got (number_from ok c (drop at s) at) _ r.was in
      let (i, e) = number_read c at h (record { value = one.first; rest = one.rest; place = one.place; was = one.was }) in
      let past : some (suc n) c at ≡ bind (some n (suc (word_at s at)) (at + 2)) (λ l u z. got (word_at s at ∷ l) u z) =
      ap (λ (g : Got ℕ). bind g (λ x r o. bind (times (number_from ok) after_number n (after_number c x) r o) (λ l u z. got (x ∷ l) u z))) e in
      let two = bind_got (some n (suc (word_at s at)) (at + 2)) _ (sym past ∙ r.was) in
      let more = numbers_read n (suc (word_at s at)) (at + 2) (omega arith) (record { value = two.first; rest = two.rest; place = two.place; was = two.was }) in
      let j : at + 2 + 2 * n ≡ at + 2 * suc n = omega arith in
      record {
        found = past ∙ ap (λ (g : Got (List ℕ)). bind g (λ l u z. got (word_at s at ∷ l) u z)) more.found ∙ ap (λ (k : ℕ). got (word_at s at ∷ words_at s (at + 2) n) (drop k s) k) j;
        inside = omega (arith, more.inside);
        near = omega arith;
      }

  numbers_found : (n at : ℕ) → at ≤ length s → Read (numbers_of ok n s at) → Reached s (at + 2 * n) (numbers_of ok n s at) (words_at s at n) (at + 2 * n)
  unfolding numbers_of
  numbers_found n at h r = numbers_read n 0 at h r

module _ (t : Table) (s : List ℕ) where
  -- a sequent that was read
  record Listed (at : ℕ) : Type 0 where
    few : get_or s at 0 ≤ 24
    reached : Reached s (at + 1 + 2 * get_or s at 0) (sequent t (drop at s) at) (words_at s (at + 1) (get_or s at 0)) (at + 1 + 2 * get_or s at 0)

  sequent_read : (at : ℕ) → at ≤ length s → Read (sequent t (drop at s) at) → Listed at
  sequent_read at h r = room (dec_lt at (length s))
    where
      count : at < length s → (b : Bool) → in_range 1 24 (get_or s at 0) ≡ b → Listed at
      count l true e =
          let same = sequent_codes t s at l e in
          let found = numbers_found (is_code_lem t) s (get_or s at 0) (at + 1) (omega arith) (record { value = r.value; rest = r.rest; place = r.place; was = sym same ∙ r.was }) in
          record {
            few = ((range_tells 1 24 (get_or s at 0)).says e).1;
            reached = record { found = same ∙ found.found; inside = found.inside; near = found.near };
          }
      count l false e = absurd (never r (sequent_unfit t s at l e))

      room : Dec (at < length s) → Listed at
      room (yes l) = count l (in_range 1 24 (get_or s at 0)) refl
      room (no l) = absurd (never r (sequent_cut t s at (omega arith)))

  -- a node that was read is the one that stands there
  record Stands (at : ℕ) : Type 0 where
    fits : NodeFits s at
    found : node t (drop at s) at ≡ got (node_at s at) (drop (node_end s at) s) (node_end s at)

  module _ (at : ℕ) (r : Read (node t (drop at s) at)) where
    module _ (k : codes_place s at ≤ length s)
        (head : heading (drop at s) at ≡ got ((get_or s (at + 1) 0, leb 16 (get_or s at 0)), node_links s at) (drop (codes_place s at) s) (codes_place s at)) where
      bare : leb 16 (get_or s at 0) ≡ false → Stands at
      unfolding node_at
      bare e =
          let none = no_codes s at (leb-false 16 (get_or s at 0) e) (codes_place s at) refl in
          record {
            fits = record { head = k; whole = omega (arith, none.ends); few = omega (arith, none.many) };
            found =
                node_empty t (drop at s) at head e
                ∙ ap (λ (cs : List ℕ). got (made ((get_or s (at + 1) 0, leb 16 (get_or s at 0)), (node_links s at, cs))) (drop (codes_place s at) s) (codes_place s at)) none.are
                ∙ ap (λ (z : ℕ). got (node_at s at) (drop z s) z) none.ends;
          }

      coded : leb 16 (get_or s at 0) ≡ true → (g : Got (List ℕ)) → sequent t (drop (codes_place s at) s) (codes_place s at) ≡ g → Stands at
      unfolding node_at
      coded e (fault n q) i = absurd (never r (node_codes_stop t (drop at s) at head e i))
      coded e (got cs u z) i =
          let listed = sequent_read (codes_place s at) k (record { value = cs; rest = u; place = z; was = i }) in
          let some = with_codes s at (leb-true 16 (get_or s at 0) e) (codes_place s at) refl in
          let end : ℕ = codes_place s at + 1 + 2 * get_or s (codes_place s at) 0 in
          record {
            fits = record { head = k; whole = omega (arith, some.ends, listed.reached.inside); few = omega (arith, some.many, listed.few) };
            found =
                node_codes t (drop at s) at head e listed.reached.found
                ∙ ap (λ (cs : List ℕ). got (made ((get_or s (at + 1) 0, leb 16 (get_or s at 0)), (node_links s at, cs))) (drop end s) end) some.are
                ∙ ap (λ (z : ℕ). got (node_at s at) (drop z s) z) some.ends;
          }

    node_read : at ≤ length s → Stands at
    node_read h = room (dec_lt (length s) (at + 2))
      where
        codes : (k : codes_place s at ≤ length s)
            → heading (drop at s) at ≡ got ((get_or s (at + 1) 0, leb 16 (get_or s at 0)), node_links s at) (drop (codes_place s at) s) (codes_place s at)
            → (b : Bool) → leb 16 (get_or s at 0) ≡ b → Stands at
        codes k head true e = coded k head e (sequent t (drop (codes_place s at) s) (codes_place s at)) refl
        codes k head false e = bare k head e

        long : at + 1 < length s → rule_fits (get_or s at 0, get_or s (at + 1) 0) ≡ true → Dec (length s < codes_place s at) → Stands at
        long l f (yes k) = absurd (never r (node_stops t (drop at s) at (head_short s at l f k)))
        long l f (no k) = let i : codes_place s at ≤ length s = omega arith in codes i (head_whole s at l f (codes_place s at) refl i) (leb 16 (get_or s at 0)) refl

        fit : at + 1 < length s → (b : Bool) → rule_fits (get_or s at 0, get_or s (at + 1) 0) ≡ b → Stands at
        fit l true f = long l f (dec_lt (length s) (codes_place s at))
        fit l false f = absurd (never r (node_stops t (drop at s) at (head_unfit s at l f)))

        room : Dec (length s < at + 2) → Stands at
        room (yes l) = absurd (never r (node_stops t (drop at s) at (head_cut s at h l)))
        room (no l) = fit (omega arith) (rule_fits (get_or s at 0, get_or s (at + 1) 0)) refl

  -- nodes that were read
  nodes_read : (n at : ℕ) → at ≤ length s → (r : Read (times (λ _. node t) (λ _ _. 0) n 0 (drop at s) at)) → NodesFit s at n × (r.value ≡ nodes_at s at n)
  unfolding times nodes_at
  nodes_read zero at h r = (no_node, sym (same_value r.was))
  nodes_read (suc n) at h r =
      let one = bind_got (node t (drop at s) at) _ r.was in
      let here = node_read at (record { value = one.first; rest = one.rest; place = one.place; was = one.was }) h in
      let next = node_end s at in
      let past : times (λ _. node t) (λ _ _. 0) (suc n) 0 (drop at s) at ≡ bind (times (λ _. node t) (λ _ _. 0) n 0 (drop next s) next) (λ l u z. got (node_at s at ∷ l) u z) =
      ap (λ (g : Got Node). bind g (λ x r o. bind (times (λ _. node t) (λ _ _. 0) n 0 r o) (λ l u z. got (x ∷ l) u z))) here.found in
      let two = bind_got (times (λ _. node t) (λ _ _. 0) n 0 (drop next s) next) _ (sym past ∙ r.was) in
      let (f, e) = nodes_read n next here.fits.whole (record { value = two.first; rest = two.rest; place = two.place; was = two.was }) in
      (one_more here.fits f, sym (same_value two.then) ∙ ap (λ (l : List Node). node_at s at ∷ l) e)

-- the roots of either form that were read
roots_found : (f : Form) (g n : ℕ) (s : List ℕ) → 6 ≤ length s → Read (roots_of f g n s) → Reached s (nodes_place_lem f g) (roots_of f g n s) (roots_in f g s) (nodes_place_lem f g)
roots_found clm1 g n s l r = record { found = roots_known g n s; inside = l; near = omega arith }
roots_found clm2 g n s l r =
    let same = roots_written g n s in
    let numbers = numbers_found (is_node n) s g 6 l (record { value = r.value; rest = r.rest; place = r.place; was = sym same ∙ r.was }) in
    record { found = same ∙ numbers.found; inside = numbers.inside; near = numbers.near }

module _ (c : Claim) (s : List ℕ) where
  abbrev goals : ℕ
  goals = length c.goals

  -- where the nodes begin
  abbrev place : ℕ
  place = nodes_place_lem c.form goals

  -- a file that is read whole: its roots and its nodes stand at their places
  pub record Decoded (d : Derivation) : Type 0 where
    pub decodes : Decodes s place
    pub same : d ≡ derivation_in c.form goals s

  nodes_found : {d : Derivation} {rs : List ℕ} → 6 ≤ length s → place ≤ length s → word_at s 4 ≤ 1024 → rs ≡ roots_in c.form goals s
      → (g : Got Proof) → nodes_of c.entries (word_at s 4) s place ≡ g → ended rs g ≡ good d → Decoded d
  unfolding nodes_of
  nodes_found l p k u (fault n q) e h = absurd (refused_not_good h)
  nodes_found {d} {rs} l p k u (got x [] o) e h =
      let (f, i) = nodes_read c.entries s (word_at s 4) place p (record { value = x; rest = []; place = o; was = e }) in
      record {
        decodes = record { counted = l; long = p; few = k; fit = f };
        same = good_same (sym h) ∙ rw (u, i) refl;
      }
  nodes_found l p k u (got x (y ∷ r) o) e h = absurd (refused_not_good h)

  pub good_decoded : {d : Derivation} → read_proof c s ≡ good d → Decoded d
  good_decoded {d} h = opening (opens (proof_opening c.form) s) refl
    where
      refuses : {n q : ℕ} → read_proof c s ≡ refused n q → ⊥
      refuses e = refused_not_good (sym e ∙ h)

      rooted : (o : opens (proof_opening c.form) s ≡ true) (l : 6 ≤ length s) (k : Counts (fewest c.form) 1024 (word_at s 4))
          → (g : Got (List ℕ)) → roots_of c.form goals (word_at s 4) s ≡ g → Decoded d
      rooted o l k (fault n q) e = absurd (refuses (roots_stop c s o l k e))
      rooted o l k (got rs r z) e =
          let roots = roots_found c.form goals (word_at s 4) s l (record { value = rs; rest = r; place = z; was = e }) in
          nodes_found l roots.inside k.1 refl (nodes_of c.entries (word_at s 4) s place) refl (sym (roots_read c s o l k place roots.found) ∙ h)

      count : (o : opens (proof_opening c.form) s ≡ true) (l : 6 ≤ length s) (b : Bool) → in_range (fewest c.form) 1024 (word_at s 4) ≡ b → Decoded d
      count o l true e = rooted o l ((range_tells (fewest c.form) 1024 (word_at s 4)).says e) (roots_of c.form goals (word_at s 4) s) refl
      count o l false e = absurd (refuses (count_unfit c s o l (fails (range_tells (fewest c.form) 1024 (word_at s 4)) e)))

      room : opens (proof_opening c.form) s ≡ true → Dec (length s < 6) → Decoded d
      room o (yes l) = absurd (refuses (no_count c s o l))
      room o (no l) = count o (omega arith) (in_range (fewest c.form) 1024 (word_at s 4)) refl

      opening : (b : Bool) → opens (proof_opening c.form) s ≡ b → Decoded d
      opening true o = room o (dec_lt (length s) 6)
      opening false o = absurd (refuses (not_opened c s o))
