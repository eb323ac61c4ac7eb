-- what is read of two accepted inputs, and what of it the joined goal and the joined proof are made
use Rattle.std.specs.Prelude.{◌≡◌, Bool, true, false, List, [], ℕ, ◌<◌, ◌≤◌, length, get_or}
use Rattle.std.proofs.Math.Path.{refl}
use Rattle.std.proofs.Common.{sym, ap, ap₂, subst, ◌∙◌, arith}
use Rattle.encoding.specs.Encode.{Bytes, FitField}
use Rattle.encoding.specs.File as file
use Rattle.encoding.specs.File.{Reading}
use Rattle.encoding.specs.FileLaws.{good_same, refused_not_good}
use Rattle.encoding.specs.Outcome.{RefusedWith}
use Rattle.formula.specs.Nodes.{node}
use Rattle.formula.specs.Claim.{Form, clm1, Claim, Derivation}
use Rattle.formula.specs.Fields.{has_first_lem, has_second_lem, has_back_lem}
use Rattle.formula.specs.Plain.{table_of, table_of_length}
use Rattle.formula.specs.Held.{ClaimHeld, goals_of_length, goals_of_at}
use Rattle.claims.specs.ClaimWalk.{ClaimGot}
use Rattle.proof_files.specs.ProofRecords.{node_fits}
use Rattle.proof_files.proofs.ProofExact.{proof_good}
use Rattle.nodes.specs.ProofDecode.{proof_in, Decodes, nodes_place_lem}
use Rattle.nodes.specs.ProofGood.{good_decoded}
use Rattle.calculus.specs.Goals.{goal}
use Rattle.reader.specs.Files.{and_then, read_formed_lem, files}
use Rattle.reader.specs.WellFormed.{ClaimFormed}
use Rattle.reader.specs.FormedLaws.{one_goal_lem}
use Rattle.reader.specs.FilesExact.{formed_exactly}
use Rattle.sequents.specs.Part.{part, part_length}
use Rattle.sequents.specs.Placed.{Members as Placed}
use Rattle.laid.specs.Numbering.{numberable}
use Rattle.joining.specs.Lengths.{proof_near}
use Rattle.joining.specs.Joined.{claim_bytes, proof_bytes}
use Rattle.joining.specs.JoinedFile.{node_down, each_by_number}
use Rattle.renumbering.specs.Moving.{Movable}
use Rattle.joining.specs.FitTest.{same_entries_lem, same_entries_tells}
use Rattle.joining.specs.Answer.{joining}
use Rattle.demands.specs.Join.{Whole, joined_by, whole_of}
use Rattle.demands.specs.JoinExact.{CorrectHalf, table, members, nodes, as_half, half_correct, half_read}
use Rattle.joined_files.specs.Ready.{HalfProof}
use Rattle.joined_files.specs.Paired.{Paired, fitted, fitted_as}

-- a claim for one goal that was read is held
module _ (claim : List ℕ) (bc : Bytes claim) {c : Claim} (F : ClaimFormed claim c) (one : c.form ≡ clm1) where
  pub half_held : {ks xs ys gs ms : List ℕ} {f n k : ℕ} → ClaimGot (read_formed_lem claim) ks xs ys gs ms f n k → ClaimHeld c ks xs ys n gs ms 1
  half_held {ks} {xs} {ys} {gs} {ms} {f} {n} {k} g =
      let same : g.claim ≡ c = good_same (sym g.was ∙ (formed_exactly claim bc).gives c F) in
      let held : ClaimHeld c ks xs ys n gs ms k = subst (λ (d : Claim). ClaimHeld d ks xs ys n gs ms k) same g.held in
      let single : k ≡ 1 = sym (goals_of_length gs ms k) ∙ ap (λ (d : Claim). length d.goals) held.same ∙ one_goal_lem F one in
      subst (λ (m : ℕ). ClaimHeld c ks xs ys n gs ms m) single held

  pub half_not_refused : {n q : ℕ} → RefusedWith (read_formed_lem claim) n q → ⊥
  half_not_refused r = refused_not_good (sym r.was ∙ (formed_exactly claim bc).gives c F)

-- a field that fits is a two-byte number
field_small : (b : Bool) (n : ℕ) → FitField b n → n < 65536
field_small true n h = h
field_small false n h = omega arith

module _ {claim proof : List ℕ} (x : CorrectHalf claim proof) where
  -- the nodes of an accepted proof, off its places
  decoded : Decodes proof 6 × (nodes x ≡ proof_in proof 6)
  decoded =
      let D = good_decoded x.correct.read.claim proof (proof_good x.correct.formed.beside_formed) in
      let place : nodes_place_lem x.correct.read.claim.form (length x.correct.read.claim.goals) ≡ 6 = ap (λ (f : Form). nodes_place_lem f (length x.correct.read.claim.goals)) x.one in
      (rw place at D.decodes, ap (λ (d : Derivation). d.nodes) D.same ∙ ap (proof_in proof) place)

  moves : (d : ℕ) → d ≤ 1024 → Movable d (nodes x)
  moves d h = each_by_number (node [] 0) (nodes x) (λ v k.
      let f = (node_down d (omega (arith, (as_half x).nodes.count.1)) (half_correct x).0 v k (node_fits x.correct.formed.beside_formed v)).fields in
      let r = (node (nodes x) v).rule in
      record {
        first = field_small (has_first_lem r) _ f.first_fits;
        second = field_small (has_second_lem r) _ f.second_fits;
        back = field_small (has_back_lem r) _ f.back_fits;
      })

  pub half_proof : HalfProof proof
  half_proof = record {
    tree = record { decodes = decoded.0; movable = λ d h. subst (Movable d) decoded.1 (moves d h) };
    bytes = (as_half x).bytes ∙ ap proof_bytes decoded.1;
    near = omega (arith, ap length (as_half x).bytes, proof_near (as_half x).nodes);
  }

  pub half_nodes : nodes x ≡ proof_in proof 6
  half_nodes = decoded.1

  -- its claim, in columns
  module _ {ks xs ys gs ms : List ℕ} {n : ℕ} (held : ClaimHeld x.correct.read.claim ks xs ys n gs ms 1) where
    pub half_table : table x ≡ table_of ks xs ys n
    half_table = ap (λ (c : Claim). c.entries) (sym held.same)

    pub half_members : members x ≡ part ms (get_or gs 0 0) (get_or gs 1 0)
    half_members = ap (λ (c : Claim). goal c 0) (sym held.same) ∙ goals_of_at gs ms 1 0 (omega arith)

    -- the goal's members are entries of the table
    pub half_goal : (k : ℕ) → length (table x) ≡ k → Placed k ms (get_or gs 0 0) (get_or gs 1 0)
    half_goal k long = record {
      order = (held.goals.placed 0 (omega arith)).0;
      few = omega (arith, (held.goals.placed 0 (omega arith)).1, held.goals.room);
      long = (held.goals.placed 0 (omega arith)).1;
      inside = λ e m. omega (arith, ((as_half x).claim_half.members e (rw half_members m)).inside);
    }

-- two accepted inputs, read, and what they get
abbrev pub both_read_lem : ℕ → List ℕ → List ℕ → List ℕ → List ℕ → ℕ → ℕ → Reading Whole
both_read_lem e claim proof other_claim other_proof claim_room proof_room =
    and_then (files claim proof) (λ f. and_then (files other_claim other_proof) (λ g. joined_by f g e claim_room proof_room))

pub both_read : {claim proof other_claim other_proof : List ℕ} (x : CorrectHalf claim proof) (y : CorrectHalf other_claim other_proof)
    → Bytes claim → Bytes proof → Bytes other_claim → Bytes other_proof → (e claim_room proof_room : ℕ)
    → both_read_lem e claim proof other_claim other_proof claim_room proof_room ≡ joined_by x.correct.read y.correct.read e claim_room proof_room
both_read {claim} {proof} {other_claim} {other_proof} x y b₁ b₂ b₃ b₄ e claim_room proof_room =
    rw (half_read claim proof b₁ b₂ x, half_read other_claim other_proof b₃ b₄ y) refl

module _ {claim proof other_claim other_proof : List ℕ} (x : CorrectHalf claim proof) (y : CorrectHalf other_claim other_proof) where
  -- both, over one table
  module _ {ks xs ys gs ms : List ℕ} {n : ℕ} (held : ClaimHeld x.correct.read.claim ks xs ys n gs ms 1)
      {ks' xs' ys' gs' os : List ℕ} {n' : ℕ} (other : ClaimHeld y.correct.read.claim ks' xs' ys' n' gs' os 1) where
    table_long : length (table x) ≡ n
    table_long = ap length (half_table x held) ∙ table_of_length ks xs ys n

    pub paired : table x ≡ table y → Paired ks xs ys n (length claim) ms (get_or gs 0 0) (get_or gs 1 0) os (get_or gs' 0 0) (get_or gs' 1 0) proof other_proof
    paired same =
        let first = half_goal x held n table_long in
        let many = part_length ms (get_or gs 0 0) (get_or gs 1 0) first.long in
        record {
          table = numberable x.correct.formed.claim_formed held;
          first_goal = first;
          few = omega (arith, many, ap length (half_members x held), (as_half x).claim_half.count.1);
          rising = rw (← half_members x held) (as_half x).claim_half.rising;
          second_goal = half_goal y other n (ap length (sym same) ∙ table_long);
          long = ap length (as_half x).claim_half.bytes ∙ ap₂ {C = ℕ} (λ t l. length (claim_bytes t l)) (half_table x held) (half_members x held);
          near = (as_half x).claim_half.near;
          first_proof = half_proof x;
          second_proof = half_proof y;
        }

    module _ (e claim_room proof_room : ℕ) where
      entries_compared : same_entries_lem (table x) (table y) ≡ same_entries_lem (table_of ks xs ys n) (table_of ks' xs' ys' n')
      entries_compared = ap₂ {C = Bool} same_entries_lem (half_table x held) (half_table y other)

      pub other_entries : false ≡ same_entries_lem (table_of ks xs ys n) (table_of ks' xs' ys' n')
          → joined_by x.correct.read y.correct.read e claim_room proof_room ≡ file.refused 73 e
      unfolding joined_by joining
      other_entries h = rw (entries_compared, ← h) refl

      module _ (h : true ≡ same_entries_lem (table_of ks xs ys n) (table_of ks' xs' ys' n')) where
        pub one_table : table x ≡ table y
        one_table = (same_entries_tells (table x) (table y)).says (entries_compared ∙ sym h)

        as_fitted : joined_by x.correct.read y.correct.read e claim_room proof_room
            ≡ fitted (table x) (members x) (members y) (nodes x) (nodes y) e claim_room proof_room
        unfolding joined_by joining fitted whole_of
        as_fitted = rw (entries_compared, ← h) refl

        pub one_fitted : joined_by x.correct.read y.correct.read e claim_room proof_room
            ≡ fitted (table_of ks xs ys n) (part ms (get_or gs 0 0) (get_or gs 1 0)) (part os (get_or gs' 0 0) (get_or gs' 1 0)) (proof_in proof 6) (proof_in other_proof 6) e claim_room proof_room
        one_fitted = as_fitted ∙ fitted_as (half_table x held) (half_members x held) (half_members y other) (half_nodes x) (half_nodes y) e claim_room proof_room
