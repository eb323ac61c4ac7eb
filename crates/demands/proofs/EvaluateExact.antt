-- an evaluation is exact: it finishes exactly on what is evaluable, and is refused with exactly the refusal that is earned
use Rattle.std.specs.Prelude.{◌≡◌, refl, ◌↔◌, Bool, true, false, List, ℕ, ◌<◌, ◌≤◌}
use Rattle.std.proofs.Common.{sym, ◌∙◌, inl, inr, arith}
use Rattle.std.proofs.Math.Path.{ap}
use Rattle.std.proofs.Math.Decide.{dec_lt}
use Rattle.verdict.specs.Verdict as verdicts
use Rattle.verdict.specs.Verdict.{accepted}
use Rattle.verdict.specs.VerdictLaws.{accepted_not_refused}
use Rattle.verdict.specs.Tells.{fails}
use Rattle.encoding.specs.Encode.{Bytes}
use Rattle.encoding.specs.File.{Reading, refused, good}
use Rattle.model_files.specs.ModelFile.{State}
use Rattle.reader.specs.Files.{Files}
use Rattle.demands.specs.Slices.{LentWords, short_words}
use Rattle.demands.specs.Evaluate.{Evaluated, unevaluated, in_model, evaluated, evaluating}
use Rattle.demands.specs.EvaluationEarned.{Short, Long, EvaluationEarned, by_lengths, by_files, Evaluable}
use Rattle.demands.specs.EvaluateExact.{at_lengths, evaluable_finishes, files_exactly, past_lengths, short_tells}

long_if : (l : LentWords) → (Short l → ⊥) → Long l
long_if l n = (at_least (λ h. n (inl h)), at_least (λ h. n (inr h)))
  where
    at_least : {k : ℕ} → (k < 256 → ⊥) → 256 ≤ k
    at_least {k} f = go (dec_lt k 256)
      where
        go : Dec (k < 256) → 256 ≤ k
        go (yes h) = absurd (f h)
        go (no h) = omega arith

module _ (claim model : List ℕ) (l : LentWords) (bc : Bytes claim) (bm : Bytes model) where
  earned_stops : {n q : ℕ} → EvaluationEarned claim model l n q → evaluating claim model l ≡ unevaluated n q l
  earned_stops (by_lengths h) = at_lengths claim model l bc bm h
  earned_stops {n} {q} (by_files w e) = past_lengths claim model l bc bm w ((files_exactly claim model l bc bm).refuses n q e)

  -- refused, and nothing written; or finished, with the claim's records and each entry's word
  data Outcome : Type 0 where
    stopped : (n q : ℕ) → EvaluationEarned claim model l n q → evaluating claim model l ≡ unevaluated n q l → Outcome
    finished : (k : Evaluable claim model l) → evaluating claim model l ≡ evaluated (good k.read) l → Outcome

  stop : {n q : ℕ} → EvaluationEarned claim model l n q → Outcome
  stop e = stopped _ _ e (earned_stops e)

  by_reading : Long l → (r : Reading (Files (List State))) → in_model claim model ≡ r → Outcome
  by_reading w (refused n q) h = stop (by_files w ((files_exactly claim model l bc bm).earned n q h))
  by_reading w (good f) h =
      let k : Evaluable claim model l = record { long = w; read = f; formed = (files_exactly claim model l bc bm).given f h } in
      finished k (evaluable_finishes claim model l bc bm k)

  outcome : Outcome
  outcome = go (short_words l) refl
    where
      go : (b : Bool) → short_words l ≡ b → Outcome
      go true h = stop (by_lengths ((short_tells l).says h))
      go false h = by_reading (long_if l (fails (short_tells l) h)) (in_model claim model) refl

  answers_earned : {n q : ℕ} → (evaluating claim model l).answer ≡ verdicts.refused n q → EvaluationEarned claim model l n q
  answers_earned {n} {q} h = go outcome
    where
      same : {k r : ℕ} → verdicts.refused k r ≡ verdicts.refused n q → EvaluationEarned claim model l k r → EvaluationEarned claim model l n q
      same {k} {r} e x = let i : k ≡ n = cc in let j : r ≡ q = cc in rw (← i, ← j) x

      go : Outcome → EvaluationEarned claim model l n q
      go (stopped k r x e) = same (sym (ap (λ (d : Evaluated). d.answer) e) ∙ h) x
      go (finished k e) = absurd (accepted_not_refused (sym h ∙ ap (λ (d : Evaluated). d.answer) e))

  answers_evaluable : (evaluating claim model l).answer ≡ accepted → Evaluable claim model l
  answers_evaluable h = go outcome
    where
      go : Outcome → Evaluable claim model l
      go (stopped k r x e) = absurd (accepted_not_refused (sym (ap (λ (d : Evaluated). d.answer) e) ∙ h))
      go (finished k e) = k

  -- no number lies, and it is the first
  pub refusal : {n q : ℕ} → ((evaluating claim model l).answer ≡ verdicts.refused n q) ↔ EvaluationEarned claim model l n q
  refusal = (answers_earned, λ x. ap (λ (d : Evaluated). d.answer) (earned_stops x))

  -- a finished evaluation
  pub exact : ((evaluating claim model l).answer ≡ accepted) ↔ Evaluable claim model l
  exact = (answers_evaluable, λ k. ap (λ (d : Evaluated). d.answer) (evaluable_finishes claim model l bc bm k))
