-- what two inputs make together, where they can be joined, and which refusal they earn
use Rattle.std.specs.Prelude.{◌≡◌, List, [], ◌∷◌, ℕ, ◌+◌, ◌≤◌, length}
use Rattle.std.proofs.Math.Path.{refl, sym}
use Rattle.std.proofs.Common.{subst, arith}
use Rattle.verdict.specs.Verdict.{Verdict}
use Rattle.encoding.specs.Encode.{Bytes}
use Rattle.encoding.specs.File.{good}
use Rattle.encoding.specs.FileLaws.{Opens}
use Rattle.proof_files.specs.ProofFile.{FitNodes}
use Rattle.formula.specs.Table.{Table}
use Rattle.formula.specs.Nodes.{Proof}
use Rattle.formula.specs.Claim.{clm1, Claim, Derivation}
use Rattle.claim_files.specs.ClaimFile.{claim_opening}
use Rattle.calculus.specs.Goals.{goal, Claimed}
use Rattle.calculus.specs.CorrectNodes.{CorrectNodes}
use Rattle.reader.specs.Files.{Files, files}
use Rattle.reader.proofs.FilesExact.{files_exactly}
use Rattle.writing.specs.Spelling.{spelled_claim, claim_spelled, zeros_unwritten}
use Rattle.joining.specs.Goals.{joined_goal, Fit}
use Rattle.joining.specs.Joined.{one_goal, one_tree, joined_proof}
use Rattle.joining.specs.Answer as answers
use Rattle.joining.specs.Answer.{joining, Joins, Few, Room}
use Rattle.joining.specs.Half.{Half, half}
use Rattle.joining.specs.JoinedCorrect.{Halves}
use Rattle.joining.proofs.JoinedCorrect.{joined_correct}
use Rattle.joining.specs.Lengths.{claim_near, proof_near}
use Rattle.joining.specs.FileBytes.{claim_bytes_lem, proof_bytes_lem}
use Rattle.joining.proofs.JoinedFile.{joined_claim_fits, joined_proof_fits}
use Rattle.demands.specs.Correct.{Correct}
use Rattle.demands.specs.Earned.{Earned}
use Rattle.demands.specs.CheckExact.{given}
use Rattle.demands.specs.Join.{Whole, whole_of}

-- an accepted input: a correct claim with its proof, in the forms for one goal
pub record CorrectHalf (claim proof : List ℕ) : Type 0 where
  pub correct : Correct claim proof
  pub one : correct.read.claim.form ≡ clm1

-- the refusal that an input earns
pub data HalfEarned (claim proof : List ℕ) : ℕ → ℕ → Type 0 where
  -- another opening than CLM1
  other_form : (Opens (claim_opening clm1) claim → ⊥) → HalfEarned claim proof 10 0
  as_checked : {n q : ℕ} → Opens (claim_opening clm1) claim → Earned claim proof n q → HalfEarned claim proof n q

module _ (claim proof : List ℕ) (bc : Bytes claim) (bp : Bytes proof) where
  pub half_read : (x : CorrectHalf claim proof) → files claim proof ≡ good x.correct.read
  half_read x = (files_exactly claim proof bc bp).gives x.correct.read x.correct.formed

-- what was read of an accepted input
module _ {claim proof : List ℕ} (x : CorrectHalf claim proof) where
  abbrev pub table : Table
  table = x.correct.read.claim.entries

  abbrev pub members : List ℕ
  members = goal x.correct.read.claim 0

  abbrev pub nodes : Proof
  nodes = x.correct.read.beside.nodes

  pub as_half : Half claim proof x.correct.read
  as_half = half x.correct.formed x.one

  pub half_correct : CorrectNodes (one_goal table members) (one_tree nodes) × Claimed (one_goal table members) (one_tree nodes)
  half_correct =
      let k = x.correct in
      let c : CorrectNodes k.read.claim k.read.beside = record { members = (given k.formed).members; tree = k.tree; keeps = k.keeps; loops = k.loops } in
      let to : (c : Claim) (d : Derivation) → Type 0 = λ c d. CorrectNodes c d × Claimed c d in
      subst (to (one_goal table members)) as_half.is (subst (λ (c : Claim). to c k.read.beside) as_half.claim_half.is (c, k.root))

-- a claim with its proof, both files, that are correct and read so
pub record Right (w : Whole) (f : Files Derivation) : Type 0 where
  pub correct : Correct w.claim w.proof
  pub read : correct.read ≡ f
  pub bytes : Bytes w.claim × Bytes w.proof
  pub near : (length w.claim ≤ 1592) × (length w.proof ≤ 58374)

module _ {claim proof other_claim other_proof : List ℕ} (x : CorrectHalf claim proof) (y : CorrectHalf other_claim other_proof) (e : ℕ) where
  abbrev goals : List ℕ
  goals = joined_goal (table x) e (members x) (members y)

  abbrev both : Proof
  both = joined_proof (table x) e (members x) (members y) (nodes x) (nodes y)

  -- what is joined, as the check reads it
  abbrev pub joined : Files Derivation
  joined = record { claim = one_goal (table x) goals; beside = one_tree both }

  -- what Answer says of the two
  module _ (claim_room proof_room : ℕ) where
    abbrev pub halves_verdict : Verdict
    halves_verdict = joining (table x) (table y) (members x) (members y) (nodes x) (nodes y) e claim_room proof_room

    abbrev pub HalvesJoin : Type 0
    HalvesJoin = Joins (table x) (table y) (members x) (members y) (nodes x) (nodes y) e claim_room proof_room

    abbrev pub HalvesFew : Type 0
    HalvesFew = Few (table x) (table y) (members x) (members y) (nodes x) (nodes y) e claim_room proof_room

    abbrev pub HalvesRoom : Type 0
    HalvesRoom = Room (table x) (table y) (members x) (members y) (nodes x) (nodes y) e claim_room proof_room

    abbrev pub HalvesEarn : ℕ → ℕ → Type 0
    HalvesEarn = answers.Earns (table x) (table y) (members x) (members y) (nodes x) (nodes y) e claim_room proof_room

  module _ (same : table x ≡ table y) (fit : Fit (table x) e (members x) (members y)) where
    halves : Halves (table x) e (members x) (members y) (nodes x) (nodes y)
    halves = record {
      first_some = omega (arith, (as_half x).nodes.count.0);
      second_some = omega (arith, (as_half y).nodes.count.0);
      first_correct = (half_correct x).0;
      second_correct = subst (λ (t : Table). CorrectNodes (one_goal t (members y)) (one_tree (nodes y))) (sym same) (half_correct y).0;
      first_claimed = (half_correct x).1;
      second_claimed = subst (λ (t : Table). Claimed (one_goal t (members y)) (one_tree (nodes y))) (sym same) (half_correct y).1;
      first_members = (as_half x).claim_half.members;
      fit = fit;
    }

    -- T-07: "The whole must be accepted, its nodes being the new root, the first tree and the second, renumbered in that order"
    pub whole_right : length (nodes x) + length (nodes y) + 1 ≤ 1024 → Right (whole_of x.correct.read y.correct.read e) joined
    unfolding whole_of
    whole_right few =
        let (c, r) = joined_correct halves in
        let h = (as_half x).claim_half in
        let claim_fits = joined_claim_fits halves h.rising h.entries in
        let proof_fits =
        joined_proof_fits halves h.rising h.entries (as_half x).nodes (subst (λ (t : Table). FitNodes clm1 t (nodes y)) (sym same) (as_half y).nodes) few in
        record {
          correct = record {
            read = joined;
            formed = record {
              claim_formed = record {
                spelled = spelled_claim clm1 (table x) (goals ∷ []);
                claim_file = record { encoded = refl; fits = claim_fits };
                records = sym (claim_spelled clm1 (table x) (goals ∷ []));
                formed = x.correct.formed.claim_formed.formed;
                unwritten = λ i _. zeros_unwritten (table x) i;
              };
              beside_formed = record { encoded = refl; fits = proof_fits };
            };
            tree = c.tree;
            root = r;
            keeps = c.keeps;
            loops = c.loops;
          };
          read = refl;
          bytes = (claim_bytes_lem (table x) goals claim_fits, proof_bytes_lem both proof_fits.nodes);
          near = (claim_near (table x) goals claim_fits, proof_near proof_fits.nodes);
        }

-- the four files, the entry, and the lengths of the two output slices
module _ (e : ℕ) (claim proof other_claim other_proof : List ℕ) (claim_room proof_room : ℕ) where
  -- two accepted inputs with the same entries that fit, at most 1,024 nodes, and room for both files
  pub record Joinable : Type 0 where
    pub first : CorrectHalf claim proof
    pub second : CorrectHalf other_claim other_proof
    pub joins : HalvesJoin first second e claim_room proof_room
    pub few : HalvesFew first second e claim_room proof_room
    pub room : HalvesRoom first second e claim_room proof_room

  -- the refusal that is earned: the first input's, the second's, then 73, 74 and 70
  pub data JoinEarned : ℕ → ℕ → Type 0 where
    by_first : {n q : ℕ} → HalfEarned claim proof n q → JoinEarned n q
    by_second : {n q : ℕ} → CorrectHalf claim proof → HalfEarned other_claim other_proof n q → JoinEarned n q
    by_both : {n q : ℕ} (x : CorrectHalf claim proof) (y : CorrectHalf other_claim other_proof)
        → HalvesEarn x y e claim_room proof_room n q → JoinEarned n q
