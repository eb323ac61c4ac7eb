-- a claim that was read has formulas that can be numbered, and what is known of the column that has their numbers
use Rattle.std.specs.Prelude.{◌≡◌, false, List, ℕ, ◌<◌, length, get_or, replicate}
use Rattle.std.proofs.Common.{subst, sym, ap, arith}
use Rattle.std.proofs.Math.Decide.{dec_lt}
use Rattle.bits.specs.WordSet.{zeros_at}
use Rattle.formula.specs.Table.{Table, entry}
use Rattle.formula.specs.Plain.{table_of, table_of_length, table_of_kind}
use Rattle.formula.specs.Claim.{Claim}
use Rattle.formula.specs.Held.{ClaimHeld}
use Rattle.conditions.specs.Judge.{plainly}
use Rattle.conditions.proofs.JudgeExact.{formed_bounded}
use Rattle.conditions.specs.WellFormed.{WellFormed}
use Rattle.operands.specs.OperandBounds.{out_of}
use Rattle.reader.specs.WellFormed.{ClaimFormed}
use Rattle.reader.specs.FormedLaws.{kind_known}
use Rattle.written.proofs.CanonLaws.{canon_inside}
use Rattle.numbers.specs.Numbered.{Numberable, Numbered}
use Rattle.sequents.specs.Keys.{Numbers}

module _ {bytes : List ℕ} {c : Claim} (F : ClaimFormed bytes c) {ks xs ys gs ms : List ℕ} {n k : ℕ} (held : ClaimHeld c ks xs ys n gs ms k) where
  table_is : c.entries ≡ table_of ks xs ys n
  table_is = ap (λ (d : Claim). d.entries) (sym held.same)

  pub numberable : Numberable ks xs ys n
  numberable = record {
    small = held.entries;
    known = λ e h. omega (arith, kind_known F e, ap (λ (t : Table). (entry t e).kind) table_is, table_of_kind ks xs ys n e h);
    placed = λ w h. subst (λ (t : Table). out_of t w ≡ false) table_is (formed_bounded plainly c.entries F.formed w);
    wf = subst WellFormed table_is F.formed.well;
  }

-- columns of the same table
pub numberable_as : {ks xs ys ks' xs' ys' : List ℕ} {n : ℕ} → table_of ks' xs' ys' n ≡ table_of ks xs ys n → Numberable ks xs ys n → Numberable ks' xs' ys' n
numberable_as {ks} {xs} {ys} {ks'} {xs'} {ys'} {n} e N = record {
  small = N.small;
  known = λ i h. omega (arith, N.known i h, table_of_kind ks xs ys n i h, table_of_kind ks' xs' ys' n i h, ap (λ (t : Table). (entry t i).kind) e);
  placed = λ w h. rw e (N.placed w h);
  wf = rw e N.wf;
}

-- the column of zeros, numbered
pub numbers_told : {ks xs ys ns : List ℕ} {n : ℕ} → Numberable ks xs ys n → Numbered (table_of ks xs ys n) (replicate 256 0) ns → Numbers (table_of ks xs ys n) ns
numbers_told {ks} {xs} {ys} {ns} {n} given N = record { narrow = λ e. go e (dec_lt e (length (table_of ks xs ys n))); each = N.each }
  where
    go : (e : ℕ) → Dec (e < length (table_of ks xs ys n)) → get_or ns e 0 < 256
    go e (yes h) = omega (arith, N.each e h, canon_inside (table_of ks xs ys n) given.wf e h, table_of_length ks xs ys n, given.small)
    go e (no h) = omega (arith, N.beyond e (omega arith), zeros_at 256 e)
