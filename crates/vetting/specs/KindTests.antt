-- the entries that may be members, as the program tells them: by their kinds alone
use Rattle.std.specs.Prelude.{◌≡◌, Bool, ◌&&◌, length, get_or, take, drop}
use Rattle.std.proofs.Math.Path.{refl, ap, fun_ext}
use Rattle.std.proofs.Common.{◌∙◌, sym, arith}
use mathlib.Core.List.{List, [], ◌∷◌}
use Prim.Native.Nat.{ℕ, ◌<◌}
use Rattle.std.proofs.Math.Dec.{leb}
use Rattle.verdict.specs.Tells.{tells_as, and_tells, not_tells, ltb_tells, eqb_tells, same_test}
use Rattle.formula.specs.Kind
use Rattle.formula.specs.Table.{Table}
use Rattle.formula.specs.Claim.{Form}
use Rattle.formula.specs.Codes.{Formula}
use Rattle.formula.specs.Members.{is_formula, formula_tells}
use Rattle.formula.specs.Plain.{table_of, table_of_length, table_of_kind}
use Rattle.encoding.specs.Parse.{pick, fits_from}
use Rattle.claim_members.specs.ClaimMembers.{plain_formula, may_follow_lem}
use Rattle.proof_files.specs.ProofParts.{kind_table}
use Rattle.writing.specs.Goals.{goals_fit}
use Rattle.writing.specs.Ends.{End, stop, go_on}
use Rattle.writing.specs.FieldEnds.{count_end, rising_end}
use Rattle.writing.specs.GoalEnds.{listed_end, lists_end, goal_count_end, goals_end}

module _ (ks xs ys : List ℕ) (n : ℕ) where
  same_formula : (e : ℕ) → is_formula (table_of ks xs ys n) e ≡ plain_formula ks n e
  unfolding plain_formula
  same_formula e =
      same_test (tells_as into from (formula_tells (table_of ks xs ys n) e)) (and_tells (ltb_tells e n) (not_tells (eqb_tells (get_or ks e 0) Kind.NAME)))
    where
      into : Formula (table_of ks xs ys n) e → (e < n) × (get_or ks e 0 ≡ Kind.NAME → ⊥)
      into f = let h : e < n = omega (arith, f.inside, table_of_length ks xs ys n) in (h, λ z. f.no_name (table_of_kind ks xs ys n e h ∙ z))

      from : (e < n) × (get_or ks e 0 ≡ Kind.NAME → ⊥) → Formula (table_of ks xs ys n) e
      from (h, k) = record { inside = omega (arith, table_of_length ks xs ys n); no_name = λ z. k (sym (table_of_kind ks xs ys n e h) ∙ z) }

  -- the code's test of a member is the walk's
  pub may_follow_fits : (c e : ℕ) → may_follow_lem ks n c e ≡ fits_from (is_formula (table_of ks xs ys n)) c e
  unfolding may_follow_lem plain_formula
  may_follow_fits c e = ap (λ (b : Bool). leb c e && b) (sym (same_formula e))

-- the goals are walked over the same with another table, of which the same entries may be members
module _ (t u : Table) (same : is_formula t ≡ is_formula u) where
  listed_alike : (k : ℕ) (ms : List ℕ) (at : ℕ) → listed_end t k ms at ≡ listed_end u k ms at
  listed_alike k ms at = ap (λ (ok : ℕ → Bool). go_on (count_end 1 24 12 k at) (λ o. rising_end ok 14 ms o)) same

  lists_alike : (gs ms : List ℕ) (at : ℕ) → lists_end t gs ms at ≡ lists_end u gs ms at
  unfolding lists_end
  lists_alike [] ms at = refl
  lists_alike (k ∷ gs) ms at =
      ap (λ (e : End). go_on e (λ o. lists_end t gs (drop k ms) o)) (listed_alike k (take k ms) at)
      ∙ ap (λ (rest : ℕ → End). go_on (listed_end u k (take k ms) at) rest) (fun_ext (λ o. lists_alike gs (drop k ms) o))

-- so only the kinds need to be known
pub goals_by_kinds : (f : Form) (ks xs ys : List ℕ) (n : ℕ) (gs ms : List ℕ) (at : ℕ) → goals_end f (table_of ks xs ys n) gs ms at ≡ goals_end f (kind_table ks n) gs ms at
goals_by_kinds f ks xs ys n gs ms at =
    let same = fun_ext (λ e. same_formula ks xs ys n e ∙ sym (same_formula ks [] [] n e)) in
    ap (λ (lists : ℕ → End). go_on (goal_count_end f (length gs) at) (λ o. pick (goals_fit f gs ms) (lists o) (stop 12 at)))
    (fun_ext (λ o. lists_alike (table_of ks xs ys n) (kind_table ks n) same gs ms o))
