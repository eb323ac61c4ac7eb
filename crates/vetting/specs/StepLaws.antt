-- how a step's finding is made, told apart and taken over to another name of the walk's end; and a judge after the walk
use Rattle.std.specs.Prelude.{◌≡◌, refl, ℕ, ◌≤◌, Ok, Err}
use Rattle.std.proofs.Common.{sym, ap, ◌∙◌, arith}
use Rattle.verdict.specs.Verdict.{Verdict, accepted, refused}
use Rattle.verdict.specs.Shown.{refusal}
use Rattle.verdict.specs.declared.Refusal.{Refusal}
use Rattle.writing.specs.Ends.{End, next, stop, go_on, stop_not_next, next_same}
use Rattle.vetting.specs.Steps.{Step, shown_step, Finds}
use Rattle.writing.specs.Encoded.{judged}

module _ {e : End} {l : ℕ} where
  pub finds_stop : {n q : ℕ} {r : Refusal ℕ} → e ≡ stop n q → r ≡ refusal n q → Finds e l (Err r)
  finds_stop {r = r} h s =
      let shown = ap (λ (x : Refusal ℕ). shown_step (Err x)) s in
      record { found = shown ∙ sym h; near = λ o k. absurd (stop_not_next (sym shown ∙ ap shown_step k)) }

  pub finds_next : {o : ℕ} → e ≡ next o → o ≤ l → Finds e l (Ok o)
  finds_next h k = record { found = sym h; near = λ u j. omega (arith, next_same (ap shown_step j)) }

  pub finds_as : {d : End} {k : ℕ} {r : Step} → e ≡ d → k ≤ l → Finds d k r → Finds e l r
  finds_as h m f = record { found = f.found ∙ sym h; near = λ o j. omega (arith, f.near o j) }

  pub found_stop : {r : Refusal ℕ} → Finds e l (Err r) → e ≡ stop r.number r.place
  found_stop f = sym f.found

  pub found_next : {o : ℕ} → Finds e l (Ok o) → e ≡ next o
  found_next f = sym f.found

-- a refusal on the way stands, whatever would follow
pub stops_there : {e : End} {n q : ℕ} (f : ℕ → End) → e ≡ stop n q → go_on e f ≡ stop n q
stops_there f h = rw h refl

pub goes_on : {e : End} {o : ℕ} (f : ℕ → End) → e ≡ next o → go_on e f ≡ f o
goes_on f h = rw h refl

module _ {e : End} {o : ℕ} (h : e ≡ next o) where
  pub judge_refuses : {w : Verdict} {n q : ℕ} → w ≡ refused n q → go_on e (judged w) ≡ stop n q
  judge_refuses k = rw (h, k) refl

  pub judge_accepts : {w : Verdict} → w ≡ accepted → go_on e (judged w) ≡ next o
  judge_accepts k = rw (h, k) refl
