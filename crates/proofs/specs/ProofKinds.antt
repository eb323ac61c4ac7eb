-- of the table the reading of a proof takes only the kinds, of the goals only their number
use Rattle.std.specs.Prelude.{◌≡◌, refl, Bool, true, false, length, get_or}
use Rattle.std.proofs.Common.{sym, ◌∙◌, arith}
use Rattle.std.proofs.Math.Path.{ap, fun_ext}
use mathlib.Core.List.{List, []}
use Prim.Native.Nat.{ℕ, ◌<◌}
use Rattle.std.proofs.lemmas.List.{length-replicate}
use Rattle.verdict.specs.Tells.{fails, fails_holds}
use Rattle.formula.specs.Table.{Table, kind}
use Rattle.formula.specs.Codes.{Formula, entry_of_lem}
use Rattle.formula.specs.Nodes.{Node}
use Rattle.formula.specs.Claim.{Claim, Derivation}
use Rattle.formula.specs.Plain.{table_of_length, table_of_kind}
use Rattle.encoding.specs.Parse.{Parser, seq, via, part, byte, two, count, listed, rising}
use Rattle.encoding.specs.File.{Reading, read_file}
use Rattle.encoding.specs.Known.{known}
use Rattle.formula.specs.Members.{is_formula, formula_tells}
use Rattle.proof_files.specs.ProofFile.{proof_opening}
use Rattle.proof_files.specs.ReadProof.{early, rule_byte, fields, is_code_lem, sequent, made, node, node_count, roots, nodes, derivation_of, body, read_proof}
use Rattle.proof_files.specs.ProofParts.{kind_table, kind_claim}

-- the kinds of a table's entries stand in a list
pub record Kinds (t : Table) (ks : List ℕ) (n : ℕ) : Type 0 where
  pub many : length t ≡ n
  pub same : (e : ℕ) → e < n → kind t e ≡ get_or ks e 0

module _ {t : Table} {ks : List ℕ} {n : ℕ} (k : Kinds t ks n) where
  formula_same : (e : ℕ) → is_formula t e ≡ is_formula (kind_table ks n) e
  formula_same e = go (is_formula t e) refl
    where
      kinds_same : e < n → kind (kind_table ks n) e ≡ kind t e
      kinds_same h = table_of_kind ks [] [] n e h ∙ sym (k.same e h)

      to : Formula t e → Formula (kind_table ks n) e
      to f =
          let h : e < n = omega (arith, f.inside, k.many) in
          record { inside = omega (arith, table_of_length ks [] [] n); no_name = λ i. f.no_name (sym (kinds_same h) ∙ i) }

      from : Formula (kind_table ks n) e → Formula t e
      from f =
          let h : e < n = omega (arith, f.inside, table_of_length ks [] [] n) in
          record { inside = omega (arith, k.many); no_name = λ i. f.no_name (kinds_same h ∙ i) }

      go : (b : Bool) → is_formula t e ≡ b → is_formula t e ≡ is_formula (kind_table ks n) e
      go true i = i ∙ sym ((formula_tells (kind_table ks n) e).holds (to ((formula_tells t e).says i)))
      go false i = i ∙ sym (fails_holds (formula_tells (kind_table ks n) e) (λ f. fails (formula_tells t e) i (from f)))

  code_same : is_code_lem t ≡ is_code_lem (kind_table ks n)
  unfolding is_formula
  code_same = fun_ext (λ c. formula_same (entry_of_lem c))

  sequent_same : sequent t ≡ sequent (kind_table ks n)
  unfolding sequent
  sequent_same = ap {B = Parser (List ℕ)} (λ (ok : ℕ → Bool) (s : List ℕ) (at : ℕ). rising (count 1 24 32 (byte early)) ok 34 (two early) s at) code_same

  node_same : node t ≡ node (kind_table ks n)
  unfolding node
  node_same = ap {B = Parser Node} (λ (q : Parser (List ℕ)) (s : List ℕ) (at : ℕ). via made (seq rule_byte (λ h. seq (fields h.0) (λ _. part [] h.1 q))) s at) sequent_same

-- and of the goals only their number
pub by_kinds : (c : Claim) {ks : List ℕ} {n : ℕ} → Kinds c.entries ks n → (s : List ℕ) → read_proof c s ≡ read_proof (kind_claim c.form ks n (length c.goals)) s
unfolding read_proof body nodes
by_kinds c {ks} {n} k s =
    ap (λ (q : Parser Node). by q (length c.goals)) (node_same k) ∙ ap (by (node (kind_table ks n))) (sym (length-replicate (length c.goals) []))
  where
    -- by a reading of nodes and a number of goals
    by : Parser Node → ℕ → Reading Derivation
    by q g = read_file (proof_opening c.form) 30 early (λ s at. via derivation_of (seq (node_count c.form) (λ n. seq (roots c.form g n) (λ _ s at. listed (known n) q s at))) s at) s
