-- After the last round: the least entry with the same number is the number of the formula.
use Rattle.std.specs.Prelude.{◌≡◌, Bool, List, ℕ, ◌*◌, ◌+◌, ◌<◌, length}
use Rattle.std.proofs.Math.Path.{refl, ap}
use Rattle.std.proofs.Common.{sym, ◌∙◌}
use native.Mathlib.Omega.{arith}
use Rattle.std.proofs.Math.ListN.{get_or}
use Rattle.formula.specs.Table.{Table}
use Rattle.conditions.specs.WellFormed.{WellFormed}
use Rattle.formula.specs.Plain.{table_of, table_of_length, table_of_kind}
use Rattle.written.specs.Canon.{least, canon}
use Rattle.written.specs.CanonLaws.{least_local}
use Rattle.written.proofs.CanonLaws.{canon_inside}
use Rattle.numbering.specs.Forms.{Fits}
use Rattle.numbering.specs.Count.{tally, length_tally}
use Rattle.numbering.specs.FilledCanon.{free_test, has_number}
use Rattle.numbering.proofs.FilledCanon.{table_canon}
use Rattle.one_level.specs.Fit.{cell}
use Rattle.rounds.specs.Stand.{On}
use Rattle.rounds.specs.Rounds.{Between}
use Rattle.numbers.specs.First.{numbered, numbered_as, numbered_says, least_found, Told, Firsts, FirstEach}
use Rattle.numbers.specs.Numbered.{Numbered}

module _ {ks xs ys : List ℕ} {n : ℕ} {fs ts us vs rs bs ss : List ℕ} (B : Between ks xs ys n fs ts us vs rs bs ss 0) where
  abbrev T : Table
  T = table_of ks xs ys n

  abbrev p : ℕ → ℕ → Bool
  p = free_test T

  count : length T ≡ n
  count = table_of_length ks xs ys n

  -- everything stands
  all_on : (k e : ℕ) → Fits T p k e → On n p bs k e
  unfolding tally
  all_on k e F =
      let z : get_or bs e 0 ≡ 0 = B.counts e (omega (arith, F.inside, count)) in
      let w : tally (p e) (length T) ≡ tally (p e) n = ap (tally (p e)) count in
      (omega (arith, F.inside, count), omega arith, omega (arith, F.enough, length_tally (p e) (length T)))

  pub told : Told ks T n rs
  unfolding numbered has_number
  told e h =
      least_local (numbered ks rs e) (has_number T (cell rs 0) e) n 0 (λ f l. same f (omega arith))
      ∙ ap (λ (m : ℕ). least (has_number T (cell rs 0) e) m 0) (sym count)
      ∙ table_canon T B.fixed.wf B.fixed.placed (cell rs) (On n p bs) B.stands.stand.filled all_on e (omega (arith, count))
    where
      same : (f : ℕ) → f < n → numbered ks rs e f ≡ has_number T (cell rs 0) e f
      same f l =
          let a : 256 * 0 + e ≡ e = omega arith in
          let b : 256 * 0 + f ≡ f = omega arith in
          rw (a, b, table_of_kind ks xs ys n f l) refl

-- so the least of each number is the number of each formula: some entry, no name, has it
module _ {ks : List ℕ} (xs ys : List ℕ) {n : ℕ} {rs ls : List ℕ} (wf : WellFormed (table_of ks xs ys n)) (t : Told ks (table_of ks xs ys n) n rs)
    (F : Firsts ks rs n ls 0) where
  abbrev table : Table
  table = table_of ks xs ys n

  first-is : (e : ℕ) → e < n → get_or ls (get_or rs e 0) 0 ≡ canon table e
  first-is e h =
      let c = canon table e in
      let found : c < n = omega (arith, canon_inside table wf e (omega (arith, table_of_length ks xs ys n)), table_of_length ks xs ys n) in
      let at : least (numbered ks rs e) n 0 ≡ c = t e h in
      let (real, same) = (numbered_says ks rs e c).says (ap (numbered ks rs e) (sym at) ∙ least_found (numbered ks rs e) n 0 (omega arith)) in
      ap (λ (m : ℕ). get_or ls m 0) same ∙ F.firsts c (omega arith) found real
      ∙ ap (λ (m : ℕ). least (numbered ks rs c) m 0) (omega arith) ∙ numbered_as ks rs e c same n ∙ at

  pub numbered_each : {old cs : List ℕ} → FirstEach rs ls old cs n → Numbered table old cs
  numbered_each C = record {
    each = λ e h. let inside : e < n = omega (arith, h, table_of_length ks xs ys n) in C.each e inside ∙ first-is e inside;
    beyond = λ e h. C.beyond e (omega (arith, h, table_of_length ks xs ys n));
  }
