-- presenting's promise: what it answers and leaves, demand 3 stands in it, and what it refuses is earned
use Rattle.std.specs.Prelude.{◌≡◌, ◌↔◌, Bool, true, false, List, ℕ}
use Rattle.std.proofs.Math.Path.{refl}
use Rattle.std.proofs.Common.{sym, ap, ◌∙◌, arith}
use Rattle.verdict.specs.Verdict.{Verdict, accepted, refused, packed}
use Rattle.encoding.specs.Encode.{Bytes}
use Rattle.encoding.specs.File as file
use Rattle.encoding.specs.File.{Reading, good}
use Rattle.formula.specs.Claim.{Derivation}
use Rattle.records.specs.declared.Entry.{Entry}
use Rattle.records.specs.declared.Node.{Node}
use Rattle.permit.specs.GateState.{Gate, closed, opened, holding}
use Rattle.permit.specs.Plain.{state_of, left_by_lem}
use Rattle.permit.specs.LentState.{plain_reads}
use Rattle.permit.specs.declared.State.{State}
use Rattle.permit.specs.declared.Numbered.{Numbered}
use Rattle.demands.specs.Slices.{Lent, short, LongEnough}
use Rattle.lent_files.specs.LentSlices.{lent_of}
use Rattle.calculus.specs.Judge.{judge}
use Rattle.reader.specs.Files.{Files, files}
use Rattle.demands.specs.Present.{held, presented_by, if_long, presenting}
use Rattle.demands.specs.PresentLaws.{Granted}
use Rattle.demands.proofs.PresentLaws.{presented_verdict}
use Rattle.demands.specs.Correct.{Correct, Irrefutable}
use Rattle.demands.specs.Earned.{Earned}
use Rattle.demands.specs.RefusedAs.{RefusedAs, narrow_decoded, refused_as}
use Rattle.demands.proofs.Demands.{presented_sound, presented_exact, presented_refused}
use Rattle.demands.proofs.Numbered.{packed_zero}
use Rattle.presenting.specs.PresentStep.{right, PresentedStep}

-- the promise of presenting: PresentedStep's three, demand 3, and the refusal that is earned
pub record PresentCall (s : State) (tag : ℕ) (claim proof : List ℕ) (es : List Entry) (vs : List Node) (cs : List ℕ) (r : ℕ) (s' : State) (es' : List Entry) (vs' : List Node) (cs' : List ℕ) : Type 0 where
  -- 0 for accepted, or refusal × 65,536 + place
  pub answer : r ≡ packed (right s tag claim proof es vs cs).answer
  pub state : s' ≡ left_by_lem (right s tag claim proof es vs cs).answer (right s tag claim proof es vs cs).gate s
  pub lent : lent_of es' vs' cs' ≡ (right s tag claim proof es vs cs).lent
  -- accepted: in every finite model every state has, of each goal of the claim, a member that is true there
  pub sound : r ≡ 0 → Irrefutable claim
  -- "whenever presenting says so, the gate then holds the tag it was given"
  pub holds : r ≡ 0 → s' ≡ record { phase = 2; tag = tag }
  -- slices long enough, gate open, no permit held: accepted exactly when claim and proof are well formed and keep every rule
  pub exact : state_of s ≡ opened → LongEnough (lent_of es vs cs) → (r ≡ 0) ↔ Correct claim proof
  -- and any other answer is the refusal that they earn, which the number tells, and where
  pub refuses : state_of s ≡ opened → LongEnough (lent_of es vs cs) → RefusedAs 65536 (Earned claim proof) r

module _ (tag : ℕ) (claim proof : List ℕ) (bc : Bytes claim) (bp : Bytes proof) (l : Lent) where
  too_short : short l ≡ true → (presenting opened tag claim proof l).answer ≡ refused 1 0
  unfolding presenting
  too_short h = rw h refl

  opened_zero : (b : Bool) → short l ≡ b → packed (presenting opened tag claim proof l).answer ≡ 0 → (presenting opened tag claim proof l).answer ≡ accepted
  opened_zero true h z = absurd (omega (arith, ap packed (too_short h)))
  opened_zero false h z =
      let same = presented_verdict tag claim proof l h in
      same ∙ packed_zero claim proof bc bp (sym (ap packed same) ∙ z)

  -- 0 for accepted, and for nothing else: 50, 51 and 1 are no more 0 than the verdict's refusals
  presented_zero : (g : Gate) → packed (presenting g tag claim proof l).answer ≡ 0 → (presenting g tag claim proof l).answer ≡ accepted
  unfolding presenting
  presented_zero closed z = absurd (omega arith)
  presented_zero opened z = opened_zero (short l) refl z
  presented_zero (holding old) z = absurd (omega arith)

module _ {s : State} {tag : ℕ} {claim proof : List ℕ} {es : List Entry} {vs : List Node} {cs : List ℕ} (bc : Bytes claim) (bp : Bytes proof)
    {n : Numbered ℕ} {es' : List Entry} {vs' : List Node} {cs' : List ℕ} (step : PresentedStep s tag claim proof es vs cs n es' vs' cs') where
  abbrev answered : Verdict
  answered = (right s tag claim proof es vs cs).answer

  accepts : n.answer ≡ 0 → answered ≡ accepted
  accepts z = presented_zero tag claim proof bc bp (lent_of es vs cs) (state_of s) (sym step.answer ∙ z)

  sound : n.answer ≡ 0 → Granted tag claim proof (lent_of es vs cs) (state_of s) × Irrefutable claim
  sound z = presented_sound claim proof bc bp (state_of s) tag (lent_of es vs cs) (accepts z)

  holds : n.answer ≡ 0 → n.state ≡ record { phase = 2; tag = tag }
  holds z = step.state ∙ rw (accepts z, (sound z).0.holds) refl

  module _ (was_open : state_of s ≡ opened) (long : LongEnough (lent_of es vs cs)) where
    same : answered ≡ (presenting opened tag claim proof (lent_of es vs cs)).answer
    same = ap (λ (g : Gate). (presenting g tag claim proof (lent_of es vs cs)).answer) was_open

    exact : (n.answer ≡ 0) ↔ Correct claim proof
    exact =
        let right_if = presented_exact claim proof bc bp tag (lent_of es vs cs) long in
        (λ z. right_if.0 (sym same ∙ accepts z), λ k. step.answer ∙ ap packed (same ∙ right_if.1 k))

    refuses : RefusedAs 65536 (Earned claim proof) n.answer
    refuses =
        refused_as 65536 narrow_decoded (presenting opened tag claim proof (lent_of es vs cs)).answer (λ n q. presented_refused claim proof bc bp tag (lent_of es vs cs) long)
        n.answer (step.answer ∙ ap packed same) (rw same at step.within)

  pub present_call : PresentCall s tag claim proof es vs cs n.answer n.state es' vs' cs'
  present_call = record { answer = step.answer; state = step.state; lent = step.lent; sound = λ z. (sound z).1; holds = holds; exact = exact; refuses = refuses }

-- ---- the numbers that are left stand for the state that the definition leaves, with a refusal too
module _ (s : State) (tag : ℕ) (claim proof : List ℕ) (l : Lent) where
  held_left : (v : Verdict) → state_of s ≡ opened → state_of (left_by_lem v (held v tag) s) ≡ held v tag
  held_left accepted e = plain_reads (holding tag)
  held_left (refused n q) e = e

  checked_left : (x : Reading (Files Derivation)) → state_of s ≡ opened → state_of (left_by_lem (presented_by x tag l).answer (presented_by x tag l).gate s) ≡ (presented_by x tag l).gate
  checked_left (file.refused n q) e = e
  checked_left (good f) e = held_left (judge f.claim f.beside) e

  long_left : (b : Bool) (x : Reading (Files Derivation)) → state_of s ≡ opened → state_of (left_by_lem (if_long b l (presented_by x tag l)).answer (if_long b l (presented_by x tag l)).gate s) ≡ (if_long b l (presented_by x tag l)).gate
  long_left true x e = e
  long_left false x e = checked_left x e

  presenting_left : (g : Gate) → state_of s ≡ g → state_of (left_by_lem (presenting g tag claim proof l).answer (presenting g tag claim proof l).gate s) ≡ (presenting g tag claim proof l).gate
  unfolding presenting
  presenting_left closed e = e
  presenting_left opened e = long_left (short l) (files claim proof) e
  presenting_left (holding old) e = e

  pub presenting_reads : state_of (left_by_lem (presenting (state_of s) tag claim proof l).answer (presenting (state_of s) tag claim proof l).gate s) ≡ (presenting (state_of s) tag claim proof l).gate
  presenting_reads = presenting_left (state_of s) refl
