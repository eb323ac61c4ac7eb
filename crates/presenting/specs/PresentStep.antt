-- a step of presenting: what it answers and leaves, and that its stages one after the other do that
use Rattle.std.specs.Prelude.{◌≡◌, Bool, true, false, ◌||◌, List, ℕ, ltb, length}
use Rattle.std.proofs.Math.Path.{refl}
use Rattle.std.proofs.Common.{sym, ap, ◌∙◌, arith, ltb-false}
use Rattle.std.proofs.lemmas.List.{length-map}
use Rattle.verdict.specs.Verdict as verdicts
use Rattle.verdict.specs.Verdict.{Verdict, accepted, pick, packed, Within}
use Rattle.verdict.specs.VerdictLaws.{accepted_not_refused}
use Rattle.encoding.specs.File.{Reading, refused, good}
use Rattle.formula.specs.Claim.{Derivation}
use Rattle.calculus.specs.Judge.{judge}
use Rattle.records.specs.Records.{shown_entry, shown_node}
use Rattle.records.specs.declared.Entry.{Entry}
use Rattle.records.specs.declared.Node.{Node}
use Rattle.reader.specs.Files.{Files, firstly, files}
use Rattle.permit.specs.GateState.{Gate, closed, opened, holding}
use Rattle.permit.specs.Plain.{state_of, left_by_lem}
use Rattle.granting.specs.PresentStages.{stands_before_lem, settled_state, Settled}
use Rattle.permit.specs.declared.State.{State}
use Rattle.permit.specs.declared.Numbered.{Numbered}
use Rattle.demands.specs.Slices.{short}
use Rattle.demands.specs.Present.{Presented, held, presented_by, if_long, presenting}
use Rattle.lent_files.specs.LentSlices.{lent_of}
use Rattle.lent_files.specs.LentJudged.{LentJudged, AllLong}

module _ (s : State) (tag : ℕ) (claim proof : List ℕ) (es : List Entry) (vs : List Node) (cs : List ℕ) where
  -- what presenting to the state s answers and leaves
  abbrev pub right : Presented
  right = presenting (state_of s) tag claim proof (lent_of es vs cs)

  -- what a step of presenting answers, and what it leaves in the state and in the lent slices
  pub record PresentedStep (r : Numbered ℕ) (es' : List Entry) (vs' : List Node) (cs' : List ℕ) : Type 0 where
    pub answer : r.answer ≡ packed right.answer
    pub within : Within 65536 right.answer
    pub state : r.state ≡ left_by_lem right.answer right.gate s
    pub lent : lent_of es' vs' cs' ≡ right.lent

both_false : (a b : Bool) → (a || b) ≡ false → (a ≡ false) × (b ≡ false)
both_false true b h = absurd (let z : ◌≡◌ {A = ℕ} 0 1 = cc in omega arith)
both_false false b h = (refl, h)

-- "on acceptance it holds that tag", in plain numbers
settled_left : (v : Verdict) (tag : ℕ) (s : State) → settled_state v tag s ≡ left_by_lem v (held v tag) s
settled_left accepted tag s = refl
settled_left (verdicts.refused n q) tag s = refl

-- ---- what was presented, by what stands before the files and by the files
module _ (s : State) (tag : ℕ) (claim proof : List ℕ) (es : List Entry) (vs : List Node) (cs : List ℕ) where
  abbrev few : Bool
  few = ltb (length es) 256 || (ltb (length vs) 1024 || ltb (length cs) 24576)

  short_few : short (lent_of es vs cs) ≡ few
  short_few = rw (length-map es shown_entry, length-map vs shown_node) refl

  abbrev first_of : Gate → Verdict
  first_of g = stands_before_lem g (length es) (length vs) (length cs)

  -- nothing stands before the files: the slices are long enough
  long_by : (b : Bool) → few ≡ b → pick b (verdicts.refused 1 0) accepted ≡ accepted → AllLong es vs cs
  long_by true h e = absurd (accepted_not_refused e)
  long_by false h e =
      let (a, bc) = both_false (ltb (length es) 256) (ltb (length vs) 1024 || ltb (length cs) 24576) h in
      let (b, c) = both_false (ltb (length vs) 1024) (ltb (length cs) 24576) bc in
      record { entries = ltb-false (length es) 256 a; nodes = ltb-false (length vs) 1024 b; codes = ltb-false (length cs) 24576 c }

  pub all_long : (g : Gate) → first_of g ≡ accepted → AllLong es vs cs
  unfolding stands_before_lem
  all_long closed e = absurd (accepted_not_refused e)
  all_long opened e = long_by few refl e
  all_long (holding old) e = absurd (accepted_not_refused e)

  -- what the files behind it leave is what presenting leaves
  record Left (x : Presented) (r : Reading (Files Derivation)) : Type 0 where
    pub answer : (presented_by r tag (lent_of es vs cs)).answer ≡ x.answer
    pub lent : (presented_by r tag (lent_of es vs cs)).lent ≡ x.lent
    pub state : settled_state x.answer tag s ≡ left_by_lem x.answer x.gate s

  by_files : (r : Reading (Files Derivation)) → Left (presented_by r tag (lent_of es vs cs)) r
  by_files (refused n q) = record { answer = refl; lent = refl; state = refl }
  by_files (good fs) = record { answer = refl; lent = refl; state = settled_left (judge fs.claim fs.beside) tag s }

  by_lengths : (b : Bool) → Left (if_long b (lent_of es vs cs) (presented_by (files claim proof) tag (lent_of es vs cs))) (firstly (pick b (verdicts.refused 1 0) accepted) (files claim proof))
  by_lengths true = record { answer = refl; lent = refl; state = refl }
  by_lengths false = by_files (files claim proof)

  left_by : (g : Gate) → Left (presenting g tag claim proof (lent_of es vs cs)) (firstly (first_of g) (files claim proof))
  unfolding presenting stands_before_lem
  left_by closed = record { answer = refl; lent = refl; state = refl }
  left_by opened = rw short_few (by_lengths few)
  left_by (holding old) = record { answer = refl; lent = refl; state = refl }

  -- the stages, one after the other
  pub presented_step : {first v : Verdict} → first ≡ first_of (state_of s) → {es' : List Entry} {vs' : List Node} {cs' : List ℕ} → LentJudged (firstly first (files claim proof)) es vs cs v es' vs' cs'
      → {r : Numbered ℕ} → Settled s tag v r → PresentedStep s tag claim proof es vs cs r es' vs' cs'
  presented_step {first} {v} e {es'} {vs'} {cs'} judged settled =
      let left = left_by (state_of s) in
      let is : LentJudged (firstly (first_of (state_of s)) (files claim proof)) es vs cs v es' vs' cs' = rw (sym e) judged in
      let same : v ≡ (right s tag claim proof es vs cs).answer = is.answer tag ∙ left.answer in
      record {
        answer = settled.answer ∙ ap packed same;
        within = rw same at settled.within;
        state = settled.state ∙ ap (λ (w : Verdict). settled_state w tag s) same ∙ left.state;
        lent = is.lent tag ∙ left.lent;
      }
