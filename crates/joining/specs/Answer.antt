-- what a join of two accepted inputs answers: 73, 74, 70 in this order, or accepted
use Rattle.std.specs.Prelude.{◌≡◌, refl, List, Bool, ◌&&◌, ℕ, ◌+◌, ◌≤◌}
use Rattle.std.proofs.Math.Dec.{leb}
use Rattle.std.proofs.Math.ListN.{length}
use Rattle.verdict.specs.Verdict.{Verdict, accepted, refused, pick}
use Rattle.formula.specs.Table.{Table}
use Rattle.conditions.specs.WellFormed.{WellFormed}
use Rattle.formula.specs.Nodes.{Proof}
use Rattle.encoding.specs.Encode.{encode_all}
use Rattle.joining.specs.Goals.{Members, joined_goal, Fit}
use Rattle.joining.specs.Joined.{claim_bytes, proof_bytes, joined_nodes, joined_proof}
use Rattle.joining.specs.FitTest.{same_entries_lem, fits}

-- of the joined goal g over the table t: 70 for an output slice that is too short, after 74 for more than 1,024 nodes
module _ (t : Table) (g : List ℕ) (p q : Proof) (e claim_room proof_room : ℕ) where
  unfoldable pub room : Bool
  unfolding encode_all
  room = leb (length (claim_bytes t g)) claim_room && leb (length (proof_bytes (joined_nodes e g p q))) proof_room

  unfoldable pub sized : Verdict
  unfolding room
  sized =
      let stored = pick room accepted (refused 70 0) in
      pick (leb (length p + length q + 1) 1024) stored (refused 74 0)

-- the tables, goals and nodes of the two inputs, the entry, and the lengths of the two output slices
module _ (t u : Table) (l r : List ℕ) (p q : Proof) (e claim_room proof_room : ℕ) where
  abbrev pub claim_length : ℕ
  claim_length = length (claim_bytes t (joined_goal t e l r))

  abbrev pub proof_length : ℕ
  proof_length = length (proof_bytes (joined_proof t e l r p q))

  abbrev stored : Bool
  stored = room t (joined_goal t e l r) p q e claim_room proof_room

  unfoldable pub joining : Verdict
  unfolding same_entries_lem fits joined_goal sized
  joining = pick (same_entries_lem t u && fits t e l r) (sized t (joined_goal t e l r) p q e claim_room proof_room) (refused 73 e)

  -- the same entries, and goals that fit
  abbrev pub Joins : Type 0
  Joins = (t ≡ u) × Fit t e l r

  abbrev pub Few : Type 0
  Few = length p + length q + 1 ≤ 1024

  abbrev pub Room : Type 0
  Room = (claim_length ≤ claim_room) × (proof_length ≤ proof_room)

  pub data Earns : ℕ → ℕ → Type 0 where
    misfit : (Joins → ⊥) → Earns 73 e
    too_many : Joins → (Few → ⊥) → Earns 74 0
    short : Joins → Few → (Room → ⊥) → Earns 70 0

  module _ (wf : WellFormed t) (L : Members t l) (R : Members u r) where
    -- the answer is one of these
    pub data Outcome : Verdict → Type 0 where
      done : Joins → Few → Room → Outcome accepted
      earned : {n k : ℕ} → Earns n k → Outcome (refused n k)

    -- at most one refusal is earned, and none where the join is done
    pub one_earned : {n k m i : ℕ} → Earns n k → Earns m i → (n ≡ m) × (k ≡ i)
    one_earned (misfit x) (misfit y) = (refl, refl)
    one_earned (misfit x) (too_many j y) = absurd (x j)
    one_earned (misfit x) (short j f y) = absurd (x j)
    one_earned (too_many j x) (misfit y) = absurd (y j)
    one_earned (too_many j x) (too_many k y) = (refl, refl)
    one_earned (too_many j x) (short k f y) = absurd (x f)
    one_earned (short j f x) (misfit y) = absurd (y j)
    one_earned (short j f x) (too_many k y) = absurd (y f)
    one_earned (short j f x) (short k g y) = (refl, refl)
