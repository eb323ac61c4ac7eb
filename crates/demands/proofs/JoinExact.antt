-- joining is exact: it gives exactly what the two halves of a whole make, which the check accepts, and refuses with exactly the refusal that is earned
use Rattle.std.specs.Prelude.{◌≡◌, ◌↔◌, Bool, true, false, List, ◌++◌, ℕ, ◌≤◌}
use Rattle.std.proofs.Math.Path.{refl, sym, ap}
use Rattle.std.proofs.Common.{subst, ◌∙◌, arith}
use Rattle.verdict.specs.Verdict as verdicts
use Rattle.verdict.specs.Verdict.{Verdict, accepted, pick}
use Rattle.verdict.specs.VerdictLaws.{accepted_not_refused}
use Rattle.verdict.specs.Tells.{fails, fails_holds}
use Rattle.encoding.specs.Encode.{Bytes}
use Rattle.encoding.specs.File.{Reading, refused, good}
use Rattle.encoding.specs.FileLaws.{Opens, good_same, refused_not_good}
use Rattle.encoding.specs.Opening.{opens, opens_tells}
use Rattle.formula.specs.Claim.{Form, clm1, Claim, Derivation}
use Rattle.claim_files.specs.ClaimFile.{claim_opening, encode_body}
use Rattle.claim_files.specs.ClaimExact.{form_opens}
use Rattle.reader.specs.Files.{Files, firstly, files}
use Rattle.reader.specs.WellFormed.{ClaimFormed}
use Rattle.reader.proofs.FilesExact.{files_exactly}
use Rattle.writing.specs.ClaimTrips.{first_good}
use Rattle.joining.proofs.Answer.{joining_accepts, joining_refuses}
use Rattle.demands.specs.Check.{verdict}
use Rattle.demands.specs.CheckExact.{verdict_correct}
use Rattle.demands.proofs.CheckExact.{exact, refusal}
use Rattle.demands.specs.Join.{half_verdict, Whole, whole_of, joined_by, join_files_lem}
use Rattle.demands.specs.JoinExact.{CorrectHalf, HalfEarned, HalvesEarn, HalvesFew, HalvesJoin, HalvesRoom, JoinEarned, Joinable, Right, as_checked, as_half, by_both, by_first, by_second, half_read, halves_verdict, joined, members, nodes, other_form, table, whole_right}

-- a claim that opens as CLM1 does is of that form, and one of that form opens so
one_form : {claim : List ℕ} {c : Claim} → ClaimFormed claim c → Opens (claim_opening clm1) claim → c.form ≡ clm1
one_form {claim} F o =
    ap (λ (c : Claim). c.form) F.records ∙ sym (form_opens F.spelled.form claim (encode_body F.spelled, F.claim_file.encoded)) ∙ form_opens clm1 claim o

opens_one : {claim : List ℕ} {c : Claim} → ClaimFormed claim c → c.form ≡ clm1 → Opens (claim_opening clm1) claim
opens_one F one =
    let same : F.spelled.form ≡ clm1 = ap (λ (c : Claim). c.form) (sym F.records) ∙ one in
    (encode_body F.spelled, F.claim_file.encoded ∙ ap (λ (f : Form). claim_opening f ++ encode_body F.spelled) same)

module _ (claim proof : List ℕ) (bc : Bytes claim) (bp : Bytes proof) where
  -- whether it opens so decides between 10 and the check
  by_opening : (b : Bool) → opens (claim_opening clm1) claim ≡ b → half_verdict claim proof ≡ pick b (verdict claim proof) (verdicts.refused 10 0)
  unfolding half_verdict
  by_opening b e = ap (λ (b : Bool). pick b (verdict claim proof) (verdicts.refused 10 0)) e

  opened : Opens (claim_opening clm1) claim → half_verdict claim proof ≡ verdict claim proof
  opened o = by_opening true ((opens_tells (claim_opening clm1) claim).holds o)

  pub half_accepts : (half_verdict claim proof ≡ accepted) ↔ CorrectHalf claim proof
  half_accepts = (λ h. into h (opens (claim_opening clm1) claim) refl, from)
    where
      into : half_verdict claim proof ≡ accepted → (b : Bool) → opens (claim_opening clm1) claim ≡ b → CorrectHalf claim proof
      into h true e =
          let k = verdict_correct claim proof bc bp (sym (by_opening true e) ∙ h) in
          record { correct = k; one = one_form k.formed.claim_formed ((opens_tells (claim_opening clm1) claim).says e) }
      into h false e = absurd (accepted_not_refused (sym (by_opening false e) ∙ h))

      from : CorrectHalf claim proof → half_verdict claim proof ≡ accepted
      from x = opened (opens_one x.correct.formed.claim_formed x.one) ∙ (exact claim proof bc bp).1 x.correct

  pub half_refuses : {n q : ℕ} → (half_verdict claim proof ≡ verdicts.refused n q) ↔ HalfEarned claim proof n q
  half_refuses {n} {q} = (λ h. into h (opens (claim_opening clm1) claim) refl, from)
    where
      into : half_verdict claim proof ≡ verdicts.refused n q → (b : Bool) → opens (claim_opening clm1) claim ≡ b → HalfEarned claim proof n q
      into h true e = as_checked ((opens_tells (claim_opening clm1) claim).says e) ((refusal claim proof bc bp).0 (sym (by_opening true e) ∙ h))
      into h false e =
          let same : verdicts.refused 10 0 ≡ verdicts.refused n q = sym (by_opening false e) ∙ h in
          let i : 10 ≡ n = cc same in
          let j : 0 ≡ q = cc same in
          rw (← i, ← j) (other_form (fails (opens_tells (claim_opening clm1) claim) e))

      from : {n q : ℕ} → HalfEarned claim proof n q → half_verdict claim proof ≡ verdicts.refused n q
      from (other_form o) = by_opening false (fails_holds (opens_tells (claim_opening clm1) claim) o)
      from (as_checked o k) = opened o ∙ (refusal claim proof bc bp).1 k

-- the four files, the entry, and the lengths of the two output slices
module _ (e : ℕ) (claim proof other_claim other_proof : List ℕ) (claim_room proof_room : ℕ) where
  module _ (b₁ : Bytes claim) (b₂ : Bytes proof) (b₃ : Bytes other_claim) (b₄ : Bytes other_proof) where
    abbrev answer : Reading Whole
    answer = join_files_lem e claim proof other_claim other_proof claim_room proof_room

    first_refused : {n q : ℕ} → half_verdict claim proof ≡ verdicts.refused n q → answer ≡ refused n q
    unfolding join_files_lem
    first_refused h = rw h refl

    second_refused : {n q : ℕ} → half_verdict claim proof ≡ accepted → half_verdict other_claim other_proof ≡ verdicts.refused n q → answer ≡ refused n q
    unfolding join_files_lem
    second_refused h k = rw (h, k) refl

    -- what two accepted inputs get
    module _ (x : CorrectHalf claim proof) (y : CorrectHalf other_claim other_proof) where
      pub by_halves : answer ≡ firstly (halves_verdict x y e claim_room proof_room) (good (whole_of x.correct.read y.correct.read e))
      unfolding join_files_lem joined_by
      by_halves = rw (
        (half_accepts claim proof b₁ b₂).1 x,
        (half_accepts other_claim other_proof b₃ b₄).1 y,
        half_read claim proof b₁ b₂ x,
        half_read other_claim other_proof b₃ b₄ y,
      ) refl

      accepts : (halves_verdict x y e claim_room proof_room ≡ accepted)
          ↔ (HalvesJoin x y e claim_room proof_room × HalvesFew x y e claim_room proof_room × HalvesRoom x y e claim_room proof_room)
      accepts = joining_accepts (table x) (table y) (members x) (members y) (nodes x) (nodes y) e claim_room proof_room
          x.correct.formed.claim_formed.formed.well (as_half x).claim_half.members (as_half y).claim_half.members

      refuses : {n q : ℕ} → (halves_verdict x y e claim_room proof_room ≡ verdicts.refused n q) ↔ HalvesEarn x y e claim_room proof_room n q
      refuses = joining_refuses (table x) (table y) (members x) (members y) (nodes x) (nodes y) e claim_room proof_room
          x.correct.formed.claim_formed.formed.well (as_half x).claim_half.members (as_half y).claim_half.members

    -- which of the two inputs is refused, if any
    data Inputs : Type 0 where
      bad_first : {n q : ℕ} → half_verdict claim proof ≡ verdicts.refused n q → Inputs
      bad_second : {n q : ℕ} → CorrectHalf claim proof → half_verdict other_claim other_proof ≡ verdicts.refused n q → Inputs
      both_good : CorrectHalf claim proof → CorrectHalf other_claim other_proof → Inputs

    inputs : Inputs
    inputs = go (half_verdict claim proof) refl (half_verdict other_claim other_proof) refl
      where
        go : (v : Verdict) → half_verdict claim proof ≡ v → (w : Verdict) → half_verdict other_claim other_proof ≡ w → Inputs
        go (verdicts.refused n q) h w k = bad_first h
        go accepted h (verdicts.refused n q) k = bad_second ((half_accepts claim proof b₁ b₂).0 h) k
        go accepted h accepted k = both_good ((half_accepts claim proof b₁ b₂).0 h) ((half_accepts other_claim other_proof b₃ b₄).0 k)

    -- two accepted inputs get a whole, or a refusal
    whole_given : (J : Joinable e claim proof other_claim other_proof claim_room proof_room) → answer ≡ good (whole_of J.first.correct.read J.second.correct.read e)
    whole_given J =
        by_halves J.first J.second
        ∙ ap (λ (v : Verdict). firstly v (good (whole_of J.first.correct.read J.second.correct.read e)))
        ((accepts J.first J.second).1 (J.joins, J.few, J.room))

    given_whole : {w : Whole} → answer ≡ good w → (J : Joinable e claim proof other_claim other_proof claim_room proof_room) × (w ≡ whole_of J.first.correct.read J.second.correct.read e)
    given_whole {w} h = go inputs
      where
        go : Inputs → (J : Joinable e claim proof other_claim other_proof claim_room proof_room) × (w ≡ whole_of J.first.correct.read J.second.correct.read e)
        go (bad_first k) = absurd (refused_not_good (sym (first_refused k) ∙ h))
        go (bad_second x k) = absurd (refused_not_good (sym (second_refused ((half_accepts claim proof b₁ b₂).1 x) k) ∙ h))
        go (both_good x y) =
            let (k, same) = first_good (halves_verdict x y e claim_room proof_room) (good (whole_of x.correct.read y.correct.read e)) (sym (by_halves x y) ∙ h) in
            let (j, f, r) = (accepts x y).0 k in
            (record { first = x; second = y; joins = j; few = f; room = r }, sym (good_same same))

    pub join_gives : {w : Whole} → (answer ≡ good w) ↔ ((J : Joinable e claim proof other_claim other_proof claim_room proof_room) × (w ≡ whole_of J.first.correct.read J.second.correct.read e))
    join_gives = (given_whole, λ (J, i). whole_given J ∙ ap (λ (v : Whole). good v) (sym i))

    -- one input earns one refusal, and an accepted one none
    same_refusal : {m k n q : ℕ} → answer ≡ refused m k → answer ≡ refused n q → (m ≡ n) × (k ≡ q)
    same_refusal {m} {k} {n} {q} a b = let same : refused m k ≡ refused n q = sym a ∙ b in (cc same, cc same)

    earned_refused : {n q : ℕ} → JoinEarned e claim proof other_claim other_proof claim_room proof_room n q → answer ≡ refused n q
    earned_refused (by_first k) = first_refused ((half_refuses claim proof b₁ b₂).1 k)
    earned_refused (by_second x k) = second_refused ((half_accepts claim proof b₁ b₂).1 x) ((half_refuses other_claim other_proof b₃ b₄).1 k)
    earned_refused (by_both x y k) =
        by_halves x y ∙ ap (λ (v : Verdict). firstly v (good (whole_of x.correct.read y.correct.read e))) ((refuses x y).1 k)

    refused_earned : {n q : ℕ} → answer ≡ refused n q → JoinEarned e claim proof other_claim other_proof claim_room proof_room n q
    refused_earned {n} {q} h = go inputs
      where
        this : {m k : ℕ} → JoinEarned e claim proof other_claim other_proof claim_room proof_room m k → JoinEarned e claim proof other_claim other_proof claim_room proof_room n q
        this z = let (i, j) = same_refusal (earned_refused z) h in rw (← i, ← j) z

        go : Inputs → JoinEarned e claim proof other_claim other_proof claim_room proof_room n q
        go (bad_first k) = this (by_first ((half_refuses claim proof b₁ b₂).0 k))
        go (bad_second x k) = this (by_second x ((half_refuses other_claim other_proof b₃ b₄).0 k))
        go (both_good x y) = by_verdict (halves_verdict x y e claim_room proof_room) refl
          where
            by_verdict : (v : Verdict) → halves_verdict x y e claim_room proof_room ≡ v → JoinEarned e claim proof other_claim other_proof claim_room proof_room n q
            by_verdict accepted k = absurd (refused_not_good (sym h ∙ by_halves x y ∙ ap (λ (v : Verdict). firstly v (good (whole_of x.correct.read y.correct.read e))) k))
            by_verdict (verdicts.refused m i) k = this (by_both x y ((refuses x y).0 k))

    pub join_refuses : {n q : ℕ} → (answer ≡ refused n q) ↔ JoinEarned e claim proof other_claim other_proof claim_room proof_room n q
    join_refuses = (refused_earned, earned_refused)

    -- what is given is right
    pub join_right : {w : Whole} → answer ≡ good w → (J : Joinable e claim proof other_claim other_proof claim_room proof_room) × Right w (joined J.first J.second e)
    join_right {w} h =
        let (J, i) = given_whole h in
        (J, subst (λ (v : Whole). Right v (joined J.first J.second e)) (sym i) (whole_right J.first J.second e J.joins.0 J.joins.1 J.few))

    -- and the check reads it so
    pub join_read : {w : Whole} → answer ≡ good w → (J : Joinable e claim proof other_claim other_proof claim_room proof_room) × (files w.claim w.proof ≡ good (joined J.first J.second e))
    join_read {w} h =
        let (J, r) = join_right h in
        (J, (files_exactly w.claim w.proof r.bytes.0 r.bytes.1).gives r.correct.read r.correct.formed ∙ ap (λ (f : Files Derivation). good f) r.read)

    -- slices as long as the longest files have room for every whole
    pub join_roomy : 1592 ≤ claim_room → 58374 ≤ proof_room → (x : CorrectHalf claim proof) (y : CorrectHalf other_claim other_proof)
        → HalvesJoin x y e claim_room proof_room → HalvesFew x y e claim_room proof_room → answer ≡ good (whole_of x.correct.read y.correct.read e)
    unfolding whole_of
    join_roomy a b x y j f =
        let near = (whole_right x y e j.0 j.1 f).near in
        whole_given (record { first = x; second = y; joins = j; few = f; room = (omega (arith, near.0), omega (arith, near.1)) })
