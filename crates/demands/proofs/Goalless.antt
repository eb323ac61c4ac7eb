-- beside a claim with no goals (T-06) a proof of nothing is accepted, and nothing else is
use Rattle.std.specs.Prelude.{◌≡◌, refl, ◌↔◌, List, [], ◌∷◌, ℕ, length}
use Rattle.std.proofs.Common.{sym, subst, ◌∙◌, arith}
use Rattle.std.proofs.Math.Path.{ap}
use mathlib.Core.List.Memᴰ
use Rattle.verdict.specs.Verdict.{Verdict, accepted, refused, scan}
use Rattle.verdict.specs.Lists.{none}
use Rattle.encoding.specs.Encode.{Bytes}
use Rattle.encoding.specs.File.{good}
use Rattle.encoding.specs.FileLaws.{good_same, refused_not_good}
use Rattle.formula.specs.Nodes.{Proof}
use Rattle.formula.specs.Claim.{Form, clm1, clm2, Claim, Derivation}
use Rattle.proof_files.specs.ProofFile.{FitProof, ProofFile, encode_proof}
use Rattle.proof_files.specs.ProofRecords.{rooted}
use Rattle.reader.specs.Files.{Files, files}
use Rattle.reader.specs.WellFormed.{ClaimFormed}
use Rattle.reader.specs.FormedLaws.{one_goal_lem}
use Rattle.reader.specs.FilesExact.{formed_exactly}
use Rattle.reader.proofs.FilesExact.{files_exactly}
use Rattle.calculus.specs.Tree.{Trees}
use Rattle.calculus.specs.Judge.{judge, judge_view}
use Rattle.calculus.specs.View.{quick}
use Rattle.calculus.specs.Faults.{Earns, bad_child, orphan, other_root, rule_broken, bad_link, bad_loop}
use Rattle.writing.specs.Goals.{none_given}
use Rattle.demands.specs.Check.{answer, verdict}
use Rattle.demands.specs.CheckExact.{verdict_correct, verdict_earned}
use Rattle.demands.specs.Earned.{Earned, by_files, by_rules}
use Rattle.demands.specs.Goalless.{nothing}

-- node 0 is no child, so that without roots it is in no tree
no_tree : (p : Proof) → Trees [] p → p ≡ []
no_tree [] T = refl
no_tree (v ∷ p) T = let (u, c) = T.some_parent 0 (omega arith) Memᴰ.not-nil in absurd (omega (arith, T.forest.above c))

-- where there are no trees, 35 is earned
only_35 : {c : Claim} {d : Derivation} {n q : ℕ} → (Trees d.roots d.nodes → ⊥) → Earns c d n q → n ≡ 35
only_35 treeless (bad_child a b e) = refl
only_35 treeless (orphan a b e f g) = refl
only_35 treeless (other_root T a b e) = absurd (treeless T)
only_35 treeless (rule_broken T a b e f g) = absurd (treeless T)
only_35 treeless (bad_link T a b e f g) = absurd (treeless T)
only_35 treeless (bad_loop T a b e f g h i) = absurd (treeless T)

module _ {claim : List ℕ} {c : Claim} (F : ClaimFormed claim c) (no_goals : c.goals ≡ []) where
  -- CLM1 has a goal
  several : c.form ≡ clm2
  several = go c.form refl
    where
      go : (f : Form) → c.form ≡ f → f ≡ clm2
      go clm1 e = absurd (omega (arith, one_goal_lem F e, ap length no_goals))
      go clm2 e = refl

  no_roots : {d : Derivation} → FitProof c d → d.roots ≡ []
  no_roots {d} fits = none_given d.roots ((rooted (one_goal_lem F) fits).as_many ∙ ap length no_goals)

  no_trees : {d : Derivation} → FitProof c d → (d.nodes ≡ [] → ⊥) → Trees d.roots d.nodes → ⊥
  no_trees {d} fits some T = some (no_tree d.nodes (subst (λ (roots : List ℕ). Trees roots d.nodes) (no_roots fits) T))

  nothing_fits : FitProof c nothing
  nothing_fits = record {
    nodes = record { count = rw several (omega arith, omega arith); each = none };
    roots = rw several (record { as_many = sym (ap length no_goals); rising = λ i h. absurd (omega arith); each = none });
  }

  module _ (proof : List ℕ) (bc : Bytes claim) (bp : Bytes proof) where
    same_claim : {d : Claim} → ClaimFormed claim d → d ≡ c
    same_claim {d} G = good_same (sym ((formed_exactly claim bc).gives d G) ∙ (formed_exactly claim bc).gives c F)

    accepted_nothing : verdict claim proof ≡ accepted → proof ≡ encode_proof clm2 nothing
    accepted_nothing h = let k = verdict_correct claim proof bc bp h in go k.read (same_claim k.formed.claim_formed) k.formed.beside_formed k.tree
      where
        go : (f : Files Derivation) → f.claim ≡ c → ProofFile f.claim proof f.beside → Trees f.beside.roots f.beside.nodes → proof ≡ encode_proof clm2 nothing
        go f same file T =
            let beside : ProofFile c proof f.beside = subst (λ (d : Claim). ProofFile d proof f.beside) same file in
            let roots = no_roots beside.fits in
            let nodes = no_tree f.beside.nodes (subst (λ (roots : List ℕ). Trees roots f.beside.nodes) roots T) in
            beside.encoded ∙ rw (several, roots, nodes) refl

    nothing_accepted : proof ≡ encode_proof clm2 nothing → verdict claim proof ≡ accepted
    unfolding verdict judge judge_view quick scan
    nothing_accepted e =
        ap answer ((files_exactly claim proof bc bp).gives (record { claim = c; beside = nothing })
        (record { claim_formed = F; beside_formed = record { encoded = e ∙ rw several refl; fits = nothing_fits } }))

    pub accepted_exact : (verdict claim proof ≡ accepted) ↔ (proof ≡ encode_proof clm2 nothing)
    accepted_exact = (accepted_nothing, nothing_accepted)

    pub nodes_refused : {d : Derivation} → ProofFile c proof d → (d.nodes ≡ [] → ⊥) → (q : ℕ) × (verdict claim proof ≡ refused 35 q)
    nodes_refused {d} file some = go (verdict claim proof) refl
      where
        read : Files Derivation
        read = record { claim = c; beside = d }

        gives : files claim proof ≡ good read
        gives = (files_exactly claim proof bc bp).gives read (record { claim_formed = F; beside_formed = file })

        treeless : {f : Files Derivation} → files claim proof ≡ good f → Trees f.beside.roots f.beside.nodes → ⊥
        treeless {f} h T = no_trees file.fits some (subst (λ (f : Files Derivation). Trees f.beside.roots f.beside.nodes) (good_same (sym h ∙ gives)) T)

        by_earned : {n q : ℕ} → Earned claim proof n q → n ≡ 35
        by_earned {n} {q} (by_files e) = absurd (refused_not_good (sym ((files_exactly claim proof bc bp).refuses n q e) ∙ gives))
        by_earned (by_rules f w e) = only_35 (treeless ((files_exactly claim proof bc bp).gives f w)) e

        go : (v : Verdict) → verdict claim proof ≡ v → (q : ℕ) × (verdict claim proof ≡ refused 35 q)
        go accepted h = let k = verdict_correct claim proof bc bp h in absurd (treeless ((files_exactly claim proof bc bp).gives k.read k.formed) k.tree)
        go (refused n q) h = (q, h ∙ ap (λ (n : ℕ). refused n q) (by_earned (verdict_earned claim proof bc bp h)))
