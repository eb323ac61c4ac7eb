-- every refusal's number is at least 1, so its packed form is not 0
use Rattle.std.specs.Prelude.{◌≡◌, refl, Bool, List, ℕ, ◌≤◌}
use Rattle.std.proofs.Common.{arith}
use Rattle.encoding.specs.Stages.{Stages, Unfit, unfit}
use Rattle.encoding.specs.File as file
use Rattle.formula.specs.Table.{Table}
use Rattle.conditions.specs.Formed as table
use Rattle.formula.specs.Claim.{Form as ClaimForm, Claim, Derivation}
use Rattle.claim_files.specs.ClaimDocument as claims
use Rattle.claim_files.specs.ClaimDocument.{ClaimStage, at_entry_count, at_entry, at_fields, at_goal_count, at_member_count, at_member}
use Rattle.proof_files.specs.ProofDocument as proofs
use Rattle.proof_files.specs.ProofDocument.{NodeStage, at_rule, at_code_count, at_code, ProofStage, at_node_count, at_root, at_node}
use Rattle.calculus.specs.Faults as rules
use Rattle.model_files.specs.ModelDocument as models
use Rattle.model_files.specs.ModelDocument.{StateStage, StateWrong, unfit_map, zero_mask, zero_actions, zero_count, unfit_successor, ModelStage, at_state_count, at_state, ModelEarns, by_form}
use Rattle.model_files.specs.ModelFile.{Form}
use Rattle.reader.specs.WellFormed.{ClaimUnformed, by_bytes, by_table, by_claim, by_beside}
use Rattle.demands.specs.Earned.{Earned, by_files, by_rules}
use Rattle.demands.specs.EvaluationEarned as evaluation
use Rattle.demands.specs.EvaluationEarned.{EvaluationEarned}
use Rattle.demands.specs.Slices.{LentWords}

unfit_number : {A : Type 0} {e : A → List ℕ} {P Q : A → Type 0} {k n : ℕ} {w : List ℕ} → Unfit e P Q k w n → n ≡ k
unfit_number (unfit x p q) = refl

claim_wrong : (f : ClaimForm) (σ : ClaimStage) (w : List ℕ) (n : ℕ) → claims.Wrong f σ w n → 10 ≤ n
claim_wrong f at_entry_count w n x = omega (arith, unfit_number x)
claim_wrong f (at_entry m es) w n x = omega (arith, unfit_number x)
claim_wrong f (at_fields m es k) w n x = absurd x
claim_wrong f (at_goal_count es) w n x = omega (arith, unfit_number x)
claim_wrong f (at_member_count es k gs) w n x = omega (arith, unfit_number x)
claim_wrong f (at_member es k gs m ms) w n x = omega (arith, unfit_number x)

node_wrong : (t : Table) (σ : NodeStage) (w : List ℕ) (n : ℕ) → proofs.NodeWrong t σ w n → 10 ≤ n
node_wrong t at_rule w n x = omega (arith, unfit_number x)
node_wrong t (proofs.at_fields r b) w n x = absurd x
node_wrong t (at_code_count r v) w n x = omega (arith, unfit_number x)
node_wrong t (at_code r v k cs) w n x = omega (arith, unfit_number x)

proof_wrong : (c : Claim) (σ : ProofStage) (w : List ℕ) (n : ℕ) → proofs.Wrong c σ w n → 10 ≤ n
proof_wrong c at_node_count w n x = omega (arith, unfit_number x)
proof_wrong c (at_root m rs) w n x = omega (arith, unfit_number x)
proof_wrong c (at_node m rs p σ) w n x = node_wrong c.entries σ w n x

state_wrong : {f : Form} {k c : ℕ} {σ : StateStage} {w : List ℕ} {n : ℕ} → StateWrong f k c σ w n → 10 ≤ n
state_wrong (unfit_map m o k) = omega arith
state_wrong (zero_mask m l k) = omega arith
state_wrong (zero_actions w e g k) = omega arith
state_wrong (zero_count w l) = omega arith
state_wrong (unfit_successor w k us u o r) = omega arith

model_wrong : (f : Form) (σ : ModelStage) (w : List ℕ) (n : ℕ) → models.Wrong f σ w n → 10 ≤ n
model_wrong f at_state_count w n x = omega (arith, unfit_number x)
model_wrong f (at_state k m σ) w n x = state_wrong x

file_number : {A : Type 0} {opening : List ℕ} {number early : ℕ} {enc : A → List ℕ} {Ok : A → Type 0} {X : Stages} {bytes : List ℕ} {n q : ℕ}
    → 10 ≤ number → 10 ≤ early → ((σ : X.Stage) (w : List ℕ) (n : ℕ) → X.Wrong σ w n → 10 ≤ n)
    → file.Earned opening number early enc Ok X bytes n q → 10 ≤ n
file_number a b f (file.no_opening h) = a
file_number a b f (file.ends_early σ t r e l) = b
file_number a b f (file.wrong σ w t {n} r e x) = f σ w n x
file_number a b f (file.bytes_follow x y r o e) = b

model_number : {model : List ℕ} {n q : ℕ} → ModelEarns model n q → 10 ≤ n
model_number (models.no_opening h) = omega arith
model_number (by_form f o e) = file_number (omega arith) (omega arith) (model_wrong f) e

table_number : {z : ℕ → Bool} {t : Table} {n q : ℕ} → table.Earns z t n q → 10 ≤ n
table_number (table.bounds h k) = omega arith
table_number (table.action h k l) = omega arith
table_number (table.above h k l) = omega arith
table_number (table.alternation h k l m) = omega arith
table_number (table.unguarded h k l m o) = omega arith

rules_number : {c : Claim} {d : Derivation} {n q : ℕ} → rules.Earns c d n q → 10 ≤ n
rules_number (rules.bad_child a b c) = omega arith
rules_number (rules.orphan a b c d e) = omega arith
rules_number (rules.other_root a b c d) = omega arith
rules_number (rules.rule_broken a b c d e f) = omega arith
rules_number (rules.bad_link a b c d e f) = omega arith
rules_number (rules.bad_loop a b c d e f g h) = omega arith

claim_number : {claim : List ℕ} {n q : ℕ} → ClaimUnformed claim n q → 10 ≤ n
claim_number (by_bytes (claims.no_opening h)) = omega arith
claim_number (by_bytes (claims.by_form f o e)) = file_number (omega arith) (omega arith) (claim_wrong f) e
claim_number (by_table c f e) = table_number e

pub earned_number : {claim proof : List ℕ} {n q : ℕ} → Earned claim proof n q → 10 ≤ n
earned_number (by_files (by_claim e)) = claim_number e
earned_number (by_files (by_beside c k e)) = file_number (omega arith) (omega arith) (proof_wrong c) e
earned_number (by_rules f w e) = rules_number e

pub evaluation_number : {claim model : List ℕ} {l : LentWords} {n q : ℕ} → EvaluationEarned claim model l n q → 1 ≤ n
evaluation_number (evaluation.by_lengths h) = omega arith
evaluation_number (evaluation.by_files w (by_claim e)) = omega (arith, claim_number e)
evaluation_number (evaluation.by_files w (by_beside c k e)) = omega (arith, model_number e)
