-- Each return is one case of the law of a whole file, over the form that the number names.
use native.Mathlib.Omega.{arith}
use Rattle.std.specs.Prelude.{Ok, Err}
use Rattle.verdict.proofs.PassedOn.{passed_on}
use mathlib.Core.Path.{◌≡◌, sym, subst, ap, ◌∙◌}
use mathlib.Core.List.{List, []}
use mathlib.Core.Bool.{true}
use Prim.Native.Nat.{ℕ, ◌≤◌}
use lib.ListN.{length, length-replicate}
use Rattle.verdict.specs.Verdict.{Verdict, refused}
use Rattle.verdict.specs.Shown.{shown}
use Rattle.formula.specs.Claim.{Form, form_number, fewest, Claim, Derivation}
use Rattle.encoding.specs.Encode.{Counts}
use Rattle.encoding.specs.File.{Reading, ending}
use Rattle.encoding.specs.Outcome.{verdict_of}
use Rattle.encoding.specs.Places.{word_at}
use Rattle.encoding.specs.Opening.{opens}
use Rattle.proof_files.specs.ProofFile.{proof_opening}
use Rattle.proof_files.specs.ReadProof.{early, read_proof}
use Rattle.proof_files.specs.ProofParts.{kind_claim, roots_of, nodes_of}
use Rattle.formula.specs.NamedForm.{named_form, for_named}
use Rattle.proofs.specs.ProofSteps.{Step, Finds}
use Rattle.proofs.specs.ProofWhole.{not_opened, no_count, count_unfit, roots_stop, nodes_decide}
use Rattle.proofs.proofs.judge_proof.Goals as goal

module _ (form count goals : ℕ) (kinds file : List ℕ) where
  -- the claim of the form that the number names
  abbrev named : Claim
  named = kind_claim (named_form form) kinds count goals

  -- the verdict on the file is what was returned
  verdict : {v : Verdict} → verdict_of (read_proof named file) ≡ v → (f : Form) → form ≡ form_number f
      → v ≡ verdict_of (read_proof (kind_claim f kinds count goals) file)
  verdict {v} e = for_named (λ f. v ≡ verdict_of (read_proof (kind_claim f kinds count goals) file)) (sym e)

  read : {r : Reading Derivation} → read_proof named file ≡ r → (f : Form) → form ≡ form_number f
      → verdict_of r ≡ verdict_of (read_proof (kind_claim f kinds count goals) file)
  read e = verdict (ap verdict_of e)

  -- a node count out of range
  miscounted : opens (proof_opening (named_form form)) file ≡ true → 6 ≤ length file → {least n : ℕ} → least ≡ fewest (named_form form) → n ≡ word_at file 4
      → (Counts least 1024 n → ⊥) → (f : Form) → form ≡ form_number f → refused 32 4 ≡ verdict_of (read_proof (kind_claim f kinds count goals) file)
  miscounted b l d e n = read (count_unfit named file b l (λ k. n (rw (d, e) k)))

  -- a node count in range
  counts : {least n : ℕ} → least ≡ fewest (named_form form) → n ≡ word_at file 4 → Counts least 1024 n → Counts (fewest (named_form form)) 1024 (word_at file 4)
  counts d e k = rw (d, e) at k

  -- what was found after it: as many goals as the claim has
  found : (r : Step) {n : ℕ} → n ≡ word_at file 4 → Finds file 38 (roots_of (named_form form) goals n file) r
      → Finds file 38 (roots_of (named_form form) (length named.goals) (word_at file 4) file) r
  found r e t =
      subst (λ (g : ℕ). Finds file 38 (roots_of (named_form form) g (word_at file 4) file) r) (sym (length-replicate {A = List ℕ} goals []))
      (subst (λ (n : ℕ). Finds file 38 (roots_of (named_form form) goals n file) r) e t)

pub returns-then-not-opens_proof : goal.returns-then-not-opens_proof
returns-then-not-opens_proof c =
    rw c.at.ensures
    (read c.args.form c.args.count c.args.goals c.args.kinds.now c.args.bytes.now (not_opened _ _ (sym c.opens_proof.ensures ∙ c.if-not-opens_proof.true)))

pub returns-then-bytes-lt-AFTER_COUNT : goal.returns-then-bytes-lt-AFTER_COUNT
returns-then-bytes-lt-AFTER_COUNT c =
    rw c.at-then-bytes-lt-AFTER_COUNT.ensures
    (read c.args.form c.args.count c.args.goals c.args.kinds.now c.args.bytes.now (no_count _ _ (sym c.opens_proof.ensures ∙ c.if-not-opens_proof.false) c.if-bytes-lt-AFTER_COUNT.true))

pub returns-then-n-fewest : goal.returns-then-n-fewest
returns-then-n-fewest c =
    rw c.at-then-n-fewest.ensures
    (miscounted c.args.form c.args.count c.args.goals c.args.kinds.now c.args.bytes.now (sym c.opens_proof.ensures ∙ c.if-not-opens_proof.false) (omega arith)
    c.fewest.ensures c.word_at-n.ensures (λ k. omega (arith, k)))

pub returns-then-n-gt1024 : goal.returns-then-n-gt1024
returns-then-n-gt1024 c =
    rw c.at-then-n-gt1024.ensures
    (miscounted c.args.form c.args.count c.args.goals c.args.kinds.now c.args.bytes.now (sym c.opens_proof.ensures ∙ c.if-not-opens_proof.false) (omega arith)
    c.fewest.ensures c.word_at-n.ensures (λ k. omega (arith, k)))

pub returns-in_err-at : goal.returns-in_err-at
returns-in_err-at c =
    rw (passed_on _ c.from_residual.ensures.1)
    (read c.args.form c.args.count c.args.goals c.args.kinds.now c.args.bytes.now
    (roots_stop _ _ (sym c.opens_proof.ensures ∙ c.if-not-opens_proof.false) (omega arith)
    (counts c.args.form c.args.count c.args.goals c.args.kinds.now c.args.bytes.now c.fewest.ensures c.word_at-n.ensures (omega arith))
    (found c.args.form c.args.count c.args.goals c.args.kinds.now c.args.bytes.now (Err _) c.word_at-n.ensures c.in_err-at.ensures)))

pub returns : goal.returns
returns c =
    let (rs, f) = found c.args.form c.args.count c.args.goals c.args.kinds.now c.args.bytes.now (Ok _) c.word_at-n.ensures c.in_ok-at.ensures in
    let judged =
    subst (λ (n : ℕ). shown c.judge_nodes.result ≡ verdict_of (ending early (nodes_of (named c.args.form c.args.count c.args.goals c.args.kinds.now c.args.bytes.now).entries n c.args.bytes.now c.in_ok-at.at)))
    c.word_at-n.ensures c.judge_nodes.ensures in
    verdict c.args.form c.args.count c.args.goals c.args.kinds.now c.args.bytes.now
    (sym (judged ∙ nodes_decide _ _ (sym c.opens_proof.ensures ∙ c.if-not-opens_proof.false) (omega arith)
    (counts c.args.form c.args.count c.args.goals c.args.kinds.now c.args.bytes.now c.fewest.ensures c.word_at-n.ensures (omega arith)) _ f.found))
