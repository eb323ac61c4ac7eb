-- a whole proof file, by what the program finds in it
use Rattle.std.specs.Prelude.{◌≡◌, true, false, ℕ, ◌<◌, ◌≤◌, drop}
use Rattle.std.proofs.Math.Path.{refl, ap}
use Rattle.std.proofs.Common.{sym, ◌∙◌, arith}
use mathlib.Core.List.{List, [], ◌∷◌}
use Rattle.std.proofs.Math.ListN.{length}
use Rattle.verdict.specs.Tells.{fails_holds}
use Rattle.formula.specs.Table.{Table}
use Rattle.formula.specs.Nodes.{Proof}
use Rattle.formula.specs.Claim.{Form, clm1, clm2, fewest, Claim, Derivation}
use Rattle.encoding.specs.Encode.{Counts}
use Rattle.encoding.specs.Parse.{Got, fault, got, bind, seq, two, in_range}
use Rattle.encoding.specs.File.{Reading, refused, ending}
use Rattle.encoding.specs.ListLaws.{range_tells}
use Rattle.encoding.specs.Outcome.{verdict_of}
use Rattle.encoding.specs.Places.{word_at, two_at, two_end}
use Rattle.encoding.specs.Opening.{opens, begins_tells}
use Rattle.encoding.specs.Walk.{guard_cut, guard_fails, guard_passes, file_opens, file_closed}
use Rattle.proof_files.specs.ProofFile.{proof_opening}
use Rattle.proof_files.specs.ReadProof.{early, node_count, roots, nodes, derivation_of, body, read_proof}
use Rattle.proof_files.specs.ProofParts.{roots_of, nodes_of}

-- what the nodes make of a file with these roots
abbrev pub ended : List ℕ → Got Proof → Reading Derivation
ended rs g = ending early (bind g (λ p r o. got (record { roots = rs; nodes = p }) r o))

-- the verdict is that on the nodes
ended_verdict : (rs : List ℕ) (g : Got Proof) → verdict_of (ending early g) ≡ verdict_of (ended rs g)
ended_verdict rs (fault n q) = refl
ended_verdict rs (got p [] o) = refl
ended_verdict rs (got p (y ∷ r) o) = refl

-- what the roots make of a file with n nodes
after_roots : Table → ℕ → Got (List ℕ) → Reading Derivation
after_roots t n (fault m q) = refused m q
after_roots t n (got rs r o) = ended rs (nodes t n r o)

-- and what the count makes of it
after_count : Form → ℕ → Table → Got ℕ → Reading Derivation
after_count f g t (fault m q) = refused m q
after_count f g t (got n r o) = after_roots t n (roots f g n r o)

module _ (f : Form) (g : ℕ) (t : Table) where
  by_count : (k : Got ℕ)
      → ending early (bind (bind k (λ n r o. bind (seq (roots f g n) (λ _. nodes t n) r o) (λ y u z. got (n, y) u z))) (λ w r o. got (derivation_of w) r o))
      ≡ after_count f g t k
  unfolding after_count after_roots
  by_count (fault m q) = refl
  by_count (got n r o) = by_roots (roots f g n r o)
    where
      by_nodes : (rs : List ℕ) (k : Got Proof)
          → ending early (bind (bind (bind k (λ p u z. got (rs, p) u z)) (λ y u z. got (n, y) u z)) (λ w r o. got (derivation_of w) r o)) ≡ ended rs k
      by_nodes rs (fault m q) = refl
      by_nodes rs (got p u z) = refl

      by_roots : (k : Got (List ℕ))
          → ending early (bind (bind (bind k (λ rs r o. bind (nodes t n r o) (λ p u z. got (rs, p) u z))) (λ y u z. got (n, y) u z)) (λ w r o. got (derivation_of w) r o))
          ≡ after_roots t n k
      by_roots (fault m q) = refl
      by_roots (got rs u z) = by_nodes rs (nodes t n u z)

four_letters : (f : Form) → length (proof_opening f) ≡ 4
four_letters clm1 = refl
four_letters clm2 = refl

module _ (c : Claim) (s : List ℕ) where
  abbrev goals : ℕ
  goals = length c.goals

  pub not_opened : opens (proof_opening c.form) s ≡ false → read_proof c s ≡ refused 30 0
  unfolding read_proof
  not_opened h = file_closed (proof_opening c.form) 30 early (body c) s h

  module _ (begins : opens (proof_opening c.form) s ≡ true) where
    opened : read_proof c s ≡ after_count c.form goals c.entries (node_count c.form (drop 4 s) 4)
    unfolding read_proof body
    opened =
        file_opens (proof_opening c.form) 30 early (body c) s begins
        ∙ ap (λ (n : ℕ). ending early (body c (drop n s) n)) (four_letters c.form)
        ∙ by_count c.form goals c.entries (node_count c.form (drop 4 s) 4)

    pub no_count : length s < 6 → read_proof c s ≡ refused 31 (length s)
    unfolding after_count
    no_count h =
        let long : 4 ≤ length s = omega (arith, ((begins_tells (proof_opening c.form) s).says begins).long, four_letters c.form) in
        opened ∙ ap (after_count c.form goals c.entries) (guard_cut (in_range (fewest c.form) 1024) 32 (two early) (drop 4 s) 4 (two_end early s 4 long h))

    module _ (long : 6 ≤ length s) where
      pub count_unfit : (Counts (fewest c.form) 1024 (word_at s 4) → ⊥) → read_proof c s ≡ refused 32 4
      unfolding after_count
      count_unfit n =
          opened
          ∙ ap (after_count c.form goals c.entries)
          (guard_fails (in_range (fewest c.form) 1024) 32 (two early) (drop 4 s) 4 (two_at early s 4 (omega arith)) (fails_holds (range_tells (fewest c.form) 1024 (word_at s 4)) n))

      module _ (k : Counts (fewest c.form) 1024 (word_at s 4)) where
        counted : read_proof c s ≡ after_roots c.entries (word_at s 4) (roots_of c.form goals (word_at s 4) s)
        unfolding after_count
        counted =
            opened
            ∙ ap (after_count c.form goals c.entries)
            (guard_passes (in_range (fewest c.form) 1024) 32 (two early) (drop 4 s) 4 (two_at early s 4 (omega arith)) ((range_tells (fewest c.form) 1024 (word_at s 4)).holds k))

        pub roots_stop : {n q : ℕ} → roots_of c.form goals (word_at s 4) s ≡ fault n q → read_proof c s ≡ refused n q
        unfolding after_roots
        roots_stop e = counted ∙ ap (after_roots c.entries (word_at s 4)) e

        -- after its roots the nodes decide
        module _ {rs : List ℕ} (o : ℕ) (e : roots_of c.form goals (word_at s 4) s ≡ got rs (drop o s) o) where
          pub roots_read : read_proof c s ≡ ended rs (nodes_of c.entries (word_at s 4) s o)
          unfolding after_roots nodes nodes_of
          roots_read = counted ∙ ap (after_roots c.entries (word_at s 4)) e

          pub nodes_decide : verdict_of (ending early (nodes_of c.entries (word_at s 4) s o)) ≡ verdict_of (read_proof c s)
          nodes_decide = ended_verdict rs (nodes_of c.entries (word_at s 4) s o) ∙ ap verdict_of (sym roots_read)
