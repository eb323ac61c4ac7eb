-- the answer to a join is exact: accepted where the inputs join, and each refusal where it is earned
use Rattle.std.specs.Prelude.{◌≡◌, refl, ◌↔◌, List, Bool, ◌&&◌, ℕ, ◌+◌}
use Rattle.std.proofs.Common.{sym, subst}
use Rattle.std.proofs.Math.Bool.{true, false}
use Rattle.std.proofs.Math.Dec.{leb}
use Rattle.std.proofs.Math.ListN.{length}
use Rattle.verdict.specs.Verdict.{Verdict, accepted, refused, pick}
use Rattle.verdict.specs.VerdictLaws.{accepted_not_refused}
use Rattle.verdict.specs.Tells.{Tells, leb_tells, and_tells, and_tells_given, fails}
use Rattle.formula.specs.Table.{Table}
use Rattle.conditions.specs.WellFormed.{WellFormed}
use Rattle.formula.specs.Nodes.{Proof}
use Rattle.joining.specs.Goals.{Members, joined_goal}
use Rattle.joining.specs.FitTest.{same_entries_lem, same_entries_tells, fits}
use Rattle.joining.proofs.FitTest.{fits_tells}
use Rattle.joining.specs.Answer.{Earns, Few, Joins, Outcome, Room, claim_length, done, earned, joining, misfit, one_earned, proof_length, room, short, sized, too_many}

-- the tables, goals and nodes of the two inputs, the entry, and the lengths of the two output slices
module _ (t u : Table) (l r : List ℕ) (p q : Proof) (e claim_room proof_room : ℕ) where
  abbrev stored : Bool
  stored = room t (joined_goal t e l r) p q e claim_room proof_room

  module _ (wf : WellFormed t) (L : Members t l) (R : Members u r) where
    joins_tells : Tells (same_entries_lem t u && fits t e l r) (Joins t u l r p q e claim_room proof_room)
    joins_tells = and_tells_given (same_entries_tells t u) (λ i. fits_tells t wf e l r L (subst (λ (s : Table). Members s r) (sym i) R))

    few_tells : Tells (leb (length p + length q + 1) 1024) (Few t u l r p q e claim_room proof_room)
    few_tells = leb_tells _ _

    room_tells : Tells stored (Room t u l r p q e claim_room proof_room)
    unfolding room
    room_tells = and_tells (leb_tells (claim_length t u l r p q e claim_room proof_room) claim_room) (leb_tells (proof_length t u l r p q e claim_room proof_room) proof_room)

    pub outcome : Outcome t u l r p q e claim_room proof_room wf L R (joining t u l r p q e claim_room proof_room)
    unfolding joining sized
    outcome = go (same_entries_lem t u && fits t e l r) (leb (length p + length q + 1) 1024) stored joins_tells few_tells room_tells
      where
        go : (a b c : Bool) → Tells a (Joins t u l r p q e claim_room proof_room) → Tells b (Few t u l r p q e claim_room proof_room) → Tells c (Room t u l r p q e claim_room proof_room) → Outcome t u l r p q e claim_room proof_room wf L R (pick a (pick b (pick c accepted (refused 70 0)) (refused 74 0)) (refused 73 e))
        go false b c x y z = earned (misfit (fails x refl))
        go true false c x y z = earned (too_many (x.says refl) (fails y refl))
        go true true false x y z = earned (short (x.says refl) (y.says refl) (fails z refl))
        go true true true x y z = done (x.says refl) (y.says refl) (z.says refl)

    none_earned : {n k : ℕ} → Joins t u l r p q e claim_room proof_room → Few t u l r p q e claim_room proof_room → Room t u l r p q e claim_room proof_room → Earns t u l r p q e claim_room proof_room n k → ⊥
    none_earned j f r (misfit x) = x j
    none_earned j f r (too_many _ x) = x f
    none_earned j f r (short _ _ x) = x r

    pub joining_accepts : (joining t u l r p q e claim_room proof_room ≡ accepted) ↔ (Joins t u l r p q e claim_room proof_room × Few t u l r p q e claim_room proof_room × Room t u l r p q e claim_room proof_room)
    joining_accepts = (into outcome, λ (j, f, r). from j f r outcome)
      where
        into : {w : Verdict} → Outcome t u l r p q e claim_room proof_room wf L R w → w ≡ accepted → Joins t u l r p q e claim_room proof_room × Few t u l r p q e claim_room proof_room × Room t u l r p q e claim_room proof_room
        into (done j f r) h = (j, f, r)
        into (earned x) h = absurd (accepted_not_refused h)

        from : Joins t u l r p q e claim_room proof_room → Few t u l r p q e claim_room proof_room → Room t u l r p q e claim_room proof_room → {w : Verdict} → Outcome t u l r p q e claim_room proof_room wf L R w → w ≡ accepted
        from j f r (done _ _ _) = refl
        from j f r (earned x) = absurd (none_earned j f r x)

    pub joining_refuses : {n k : ℕ} → (joining t u l r p q e claim_room proof_room ≡ refused n k) ↔ Earns t u l r p q e claim_room proof_room n k
    joining_refuses {n} {k} = (into outcome, λ x. from x outcome)
      where
        into : {w : Verdict} → Outcome t u l r p q e claim_room proof_room wf L R w → w ≡ refused n k → Earns t u l r p q e claim_room proof_room n k
        into (done j f r) h = absurd (accepted_not_refused (sym h))
        into (earned {n = m} {k = i} x) h = let a : m ≡ n = cc in let b : i ≡ k = cc in rw (← a, ← b) x

        from : Earns t u l r p q e claim_room proof_room n k → {w : Verdict} → Outcome t u l r p q e claim_room proof_room wf L R w → w ≡ refused n k
        from x (done j f r) = absurd (none_earned j f r x)
        from x (earned y) = let (a, b) = one_earned t u l r p q e claim_room proof_room wf L R y x in cc
