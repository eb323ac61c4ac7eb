-- mu of box, false alone, and false as the second of two goals are not irrefutable
use Rattle.std.specs.Prelude.{refl}
use Rattle.std.proofs.Common.{arith}
use mathlib.Core.List.{List, [], ◌∷◌}
use Rattle.formula.specs.Kind
use Rattle.formula.specs.Claim.{clm1, clm2}
use Rattle.formula.specs.Spelled.{Spelled, table_by}
use Rattle.formula.specs.Shape.{shape}
use Rattle.meaning.specs.Truth.{every}
use Rattle.meaning.specs.Chain.{iter}
use Rattle.formula.specs.Below.{recur}
use Rattle.meaning.specs.States.{leaf_set, step_set, start}
use Rattle.meaning.specs.Meaning.{put, meaning, owns, own}
use Rattle.claim_files.specs.ReadClaim.{read_claim_lem}
use Rattle.demands.specs.Correct.{Irrefutable}
use Rattle.demands.specs.Refutable.{false_alone, mu_of_box, no_member_true, no_state_refutes, second_false}

abbrev mu_table : List Spelled
mu_table = record { map = 1; kind = Kind.NAME; a = 2; b = 0 } ∷ record { map = 1; kind = Kind.BOX; a = 0; b = 0 } ∷ record { map = 1; kind = Kind.MU; a = 1; b = 0 } ∷ []

abbrev false_table : List Spelled
false_table = record { map = 0; kind = Kind.FALSE; a = 0; b = 0 } ∷ []

abbrev both_table : List Spelled
both_table = record { map = 0; kind = Kind.TRUE; a = 0; b = 0 } ∷ record { map = 0; kind = Kind.FALSE; a = 0; b = 0 } ∷ []

pub mu_of_box_refuted : Irrefutable mu_of_box → ⊥
unfolding read_claim_lem own owns meaning put recur iter start step_set every shape table_by
mu_of_box_refuted = no_member_true clm1 mu_table ((2 ∷ []) ∷ []) refl 0 2 (omega arith) refl refl

pub false_refuted : Irrefutable false_alone → ⊥
unfolding read_claim_lem own owns meaning put recur start leaf_set shape table_by
false_refuted = no_state_refutes clm1 false_table ((0 ∷ []) ∷ []) refl 0 0 (omega arith) refl refl

-- "no state of any finite model may refute even one of them"
pub second_refuted : Irrefutable second_false → ⊥
unfolding read_claim_lem own owns meaning put recur start leaf_set shape table_by
second_refuted = no_state_refutes clm2 both_table ((0 ∷ []) ∷ (1 ∷ []) ∷ []) refl 1 1 (omega arith) refl refl
