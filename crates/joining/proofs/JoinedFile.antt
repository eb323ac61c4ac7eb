-- the joined claim and proof fit their files
use Rattle.std.specs.Prelude.{◌≡◌, refl, ℕ, ◌+◌, ◌<◌, ◌≤◌, length}
use Rattle.std.proofs.Common.{ap, ◌∙◌, arith}
use mathlib.Core.List.{List, [], ◌∷◌, Memᴰ}
use Rattle.std.proofs.lemmas.List.{length-map}
use Rattle.verdict.specs.Lists.{Each, none, more, Rising}
use Rattle.verdict.specs.EachLaws.{each_at}
use Rattle.verdict.specs.SetTells.{lists_each}
use Rattle.formula.specs.Table.{Table}
use Rattle.formula.specs.Codes.{Formula, code, entry_of_lem, code_entry}
use Rattle.formula.specs.Nodes.{Proof, node}
use Rattle.formula.specs.Claim.{clm1}
use Rattle.claim_files.specs.ClaimFile.{FitEntries, FitClaim}
use Rattle.proof_files.specs.ProofFile.{FitNode, FitNodes, FitProof}
use Rattle.writing.specs.Spelling.{spelled_as, spelling_of, spelled_claim, records_spelled}
use Rattle.joining.specs.Goals.{joined_goal}
use Rattle.joining.specs.GoalLaws.{joined_length, joined_rises, focus_rises, focus_length, fit_formula, fit_apart}
use Rattle.joining.specs.Joined.{one_goal, one_tree, in_focus, joined_root, joined_proof}
use Rattle.joining.specs.JoinedTree.{Part, new, of_first, of_second, part, both-length}
use Rattle.joining.proofs.JoinedTree.{left, right}
use Rattle.joining.specs.JoinedCorrect.{Halves}
use Rattle.joining.specs.JoinedFile.{each_by_number, members, node_down}

each_by_member : {P : ℕ → Type 0} (l : List ℕ) → ((x : ℕ) → Memᴰ x l → P x) → Each P l
each_by_member [] f = none
each_by_member (x ∷ l) f = more (f x (Memᴰ.head refl)) (each_by_member l (λ y m. f y (Memᴰ.tail m)))

module _ {t : Table} {e : ℕ} {l r : List ℕ} {p q : Proof} (H : Halves t e l r p q) (rises : Rising l) (E : FitEntries clm1 (spelling_of t)) where
  abbrev ms : List ℕ
  ms = joined_goal t e l r

  abbrev both : Proof
  both = joined_proof t e l r p q

  members_rise : Rising ms
  members_rise = joined_rises t e l r rises (fit_apart t H.fit)

  few_members : length ms ≤ 24
  few_members = omega (arith, joined_length t e l r, H.fit.few)

  pub joined_claim_fits : FitClaim (spelled_claim clm1 t (ms ∷ []))
  joined_claim_fits = record {
    entries = E;
    goals = record {
      count = refl;
      each = more {x = ms} (record {
        count = (omega (arith, joined_length t e l r), few_members);
        rising = members_rise;
        each = rw (records_spelled t) (each_by_member ms (members H rises E));
      }) none;
    };
  }

  small : (f : ℕ) → Formula t f → code f 1 < 65536
  small f F = omega (arith, F.inside, E.count.1, length-map t spelled_as)

  root_fits : length p + length q + 1 ≤ 1024 → FitNode t (joined_root e ms (length p))
  root_fits room = record {
    known = omega arith;
    fields = record { principal_fits = small e (fit_formula t H.fit); first_fits = omega arith; second_fits = omega arith; back_fits = refl };
    few = omega (arith, focus_length ms, few_members);
    rising = focus_rises ms members_rise;
    members = each_by_member (in_focus ms) (λ c m.
        let (f, n, i) = (lists_each (λ e. code e 1) ms).into c m in
        let j : entry_of_lem c ≡ f = ap entry_of_lem i ∙ code_entry f 1 (omega arith) in
        (rw i (small f (members H rises E f n)), rw j (members H rises E f n)));
  }

  -- 74 aside, the joined proof fits its file
  pub joined_proof_fits : FitNodes clm1 t p → FitNodes clm1 t q → length p + length q + 1 ≤ 1024 → FitProof (one_goal t ms) (one_tree both)
  joined_proof_fits P Q room = record {
    nodes = record {
      count = (omega (arith, both-length e ms p q), omega (arith, both-length e ms p q));
      each = each_by_number (node [] 0) both (λ x h. go x (part e ms p q x h));
    };
    roots = refl;
  }
    where
      blank_fits : FitNode t (node [] 0)
      blank_fits = record {
        known = omega arith;
        fields = record { principal_fits = refl; first_fits = refl; second_fits = refl; back_fits = refl };
        few = omega arith;
        rising = λ i h. absurd (omega arith);
        members = none;
      }

      go : (x : ℕ) → Part e ms p q x → FitNode t (node both x)
      go x (new i) = rw i (root_fits room)
      go x (of_first v k i) = rw (i, (left e ms p q).at v k) (node_down 1 (omega arith) H.first_correct v k (each_at (node [] 0) blank_fits P.each v))
      go x (of_second v k i) = rw (i, (right e ms p q).at v k) (node_down (length p + 1) (omega arith) H.second_correct v k (each_at (node [] 0) blank_fits Q.each v))
