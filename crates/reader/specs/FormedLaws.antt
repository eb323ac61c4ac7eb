-- what callers may rely on in the records of a well-formed claim
use Rattle.std.specs.Prelude.{◌≡◌, ℕ, ◌≤◌, length}
use Rattle.std.proofs.Common.{sym, subst, ap, ◌∙◌, arith}
use mathlib.Core.List.{List, Memᴰ}
use Rattle.formula.specs.Kind
use Rattle.formula.specs.Table.{Entry, kind}
use Rattle.formula.specs.Codes.{Formula}
use Rattle.formula.specs.Spelled.{records-at}
use Rattle.formula.specs.Claim.{clm1, Claim}
use Rattle.claim_files.specs.ClaimRecords as files
use Rattle.reader.specs.WellFormed.{ClaimFormed}

module _ {claim : List ℕ} {c : Claim} (F : ClaimFormed claim c) where
  pub kind_known : (e : ℕ) → kind c.entries e ≤ Kind.NAME
  kind_known e =
      let same : kind c.entries e ≡ _ = ap (λ (d : Claim). kind d.entries e) F.records ∙ ap (λ (x : Entry). x.kind) (records-at F.spelled.spelling e) in
      omega (arith, same, (files.entry_fits F.claim_file e).known)

  pub member_formula : (g : List ℕ) → Memᴰ g c.goals → (m : ℕ) → Memᴰ m g → Formula c.entries m
  member_formula g i m h = rw F.records (files.member_formula F.claim_file g (subst (λ (d : Claim). Memᴰ g d.goals) F.records i) m h)

  -- at most 16 goals, and one in the form for one
  pub goal_count : length c.goals ≤ 16
  goal_count = rw F.records (files.goal_count F.claim_file)

  pub one_goal_lem : c.form ≡ clm1 → length c.goals ≡ 1
  one_goal_lem e = rw F.records (files.one_goal_lem F.claim_file (ap (λ (d : Claim). d.form) (sym F.records) ∙ e))
