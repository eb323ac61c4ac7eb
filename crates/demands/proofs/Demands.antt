-- the demands on the gate over the definitions, each with its proof; `Bytes s`: the numbers of s are below 256
-- what to read to believe them: `Correct`, `Irrefutable` and `Earned` rest on 876 lines of definitions, all contracts of the calls on 2334 lines;
-- tests/believed.sh counts and lists them
use Rattle.std.specs.Prelude.{◌≡◌, ◌↔◌, ◌⊎◌, true, false, ◌||◌, List, [], ◌∷◌, ◌++◌, ℕ, suc, ◌+◌, ◌<◌, ◌≤◌, length, get_or, take, drop}
use Rattle.verdict.specs.Verdict.{accepted, refused}
use Rattle.verdict.specs.Sets.{elements}
use Rattle.encoding.specs.Encode.{Bytes}
use Rattle.encoding.specs.File.{Reading, good, refused as refused_reading}
use Rattle.formula.specs.Kind
use Rattle.formula.specs.Table.{Table, entry, kind, action}
use Rattle.formula.specs.Claim.{Form, clm2, form_number, Claim, SpelledClaim, claim_of as recorded, Derivation}
use Rattle.formula.specs.Shape.{mu, nu}
use Rattle.formula.specs.ShapeLaws.{mu_shape, nu_shape}
use Rattle.formula.specs.Codes.{entry_of_lem}
use Rattle.bits.specs.Bits.{bit}
use Rattle.conditions.specs.Free.{Free}
use Rattle.conditions.specs.WellFormed.{WellFormed}
use Rattle.meaning.specs.States.{Model, Successor, StateSet, Sub, SameStates, start}
use Rattle.meaning.specs.Chain.{iter}
use Rattle.meaning.specs.Meaning.{Env, meaning, round, own}
use Rattle.meaning.specs.MeaningLaws.{meaning_local}
use Rattle.meaning.proofs.FixSettles.{fix_settles}
use Rattle.meaning.specs.KindMeaning as by_kind
use Rattle.meaning.proofs.KindMeaning.{box_meaning, mu_meaning, nu_meaning}
use Rattle.claim_files.specs.ClaimFile.{ClaimFile, FitClaim, encode_claim}
use Rattle.claim_files.specs.ReadClaim.{read_claim_lem}
use Rattle.claim_files.proofs.ClaimExact.{claim_decodes, claim_encodes, one_claim}
use Rattle.proof_files.specs.ProofFile.{FitProof, ProofFile, encode_proof}
use Rattle.proof_files.specs.ReadProof.{read_proof}
use Rattle.proof_files.proofs.ProofExact.{proof_decodes, proof_encodes}
use Rattle.reader.specs.Files.{Files, read_formed_lem, files}
use Rattle.reader.specs.WellFormed.{ClaimFormed}
use Rattle.calculus.specs.Sequents.{listed}
use Rattle.calculus.specs.Goals.{goal}
use Rattle.tree.specs.Owners.{tree_judged}
use Rattle.writing.specs.RecordBytes.{claim_head, proof_head}
use Rattle.writing.specs.Goals.{goals_fit, roots_fit}
use Rattle.writing.specs.Writing.{ClaimRecords, ProofRecords, claim_file, proof_file, short_claim, short_proof, goal_place, claim_reading, proof_reading, both_reading, writing_claim, writing_proof, laid_into}
use Rattle.writing.specs.ClaimEnds.{longest_claim}
use Rattle.writing.specs.ProofEnds.{longest_proof}
use Rattle.writing.specs.ClaimTrips.{claim_of, ClaimGiven}
use Rattle.writing.proofs.ClaimTrips.{claim_roomy}
use Rattle.writing.specs.ProofTrips.{derivation_of, ProofGiven, LongProof}
use Rattle.writing.proofs.ProofTrips.{proof_roomy}
use Rattle.joining.specs.Shift.{shifted}
use Rattle.joining.specs.Goals.{joined_goal}
use Rattle.joining.specs.Joined.{one_goal, one_tree, joined_root}
use Rattle.model_files.specs.Described.{model_of}
use Rattle.permit.specs.GateState.{Gate, opened}
use Rattle.demands.specs.Slices.{Lent, LongEnough, LentWords}
use Rattle.demands.specs.Check.{verdict}
use Rattle.demands.specs.Present.{presenting}
use Rattle.demands.specs.PresentLaws.{Granted, long_not_short, presented_short}
use Rattle.demands.proofs.PresentLaws.{presented_verdict, presented_granted}
use Rattle.demands.specs.Evaluate.{evaluating}
use Rattle.demands.specs.Correct.{Correct, Irrefutable}
use Rattle.demands.specs.Earned.{Earned}
use Rattle.demands.specs.EvaluationEarned.{EvaluationEarned, Evaluable}
use Rattle.demands.specs.CheckExact.{verdict_correct}
use Rattle.demands.proofs.CheckExact as check
use Rattle.demands.specs.EvaluateExact.{word_bit}
use Rattle.demands.proofs.EvaluateExact as evaluation
use Rattle.demands.specs.Sound as soundness
use Rattle.demands.specs.Goalless.{irrefutable}
use Rattle.demands.proofs.Goalless as goalless
use Rattle.demands.specs.Goalless.{nothing}
use Rattle.demands.specs.Join.{Whole, whole_of, join_files_lem}
use Rattle.demands.proofs.JoinExact as joining
use Rattle.demands.specs.JoinExact.{CorrectHalf, table, members, nodes, HalvesJoin, HalvesFew, Joinable, JoinEarned}
use Rattle.demands.specs.Written as written
use Rattle.demands.specs.Refutable.{mu_of_box, false_alone, second_false}
use Rattle.demands.proofs.Refutable.{mu_of_box_refuted, false_refuted, second_refuted}

module _ (claim proof : List ℕ) (bc : Bytes claim) (bp : Bytes proof) where
  -- 3, first half: what is accepted is irrefutable in every finite model, of any number of states
  pub accepted_sound : verdict claim proof ≡ accepted → Irrefutable claim
  accepted_sound h = soundness.sound (verdict_correct claim proof bc bp h)

  -- the same of the table and the goals that the file encodes: in every finite model every state has a true member of each goal
  pub accepted_true : verdict claim proof ≡ accepted → (c : SpelledClaim) → ClaimFile claim c → (i : ℕ) → i < length c.goals
      → (M : Model) (s : ℕ) → s < M.size → (e : ℕ) × elements (goal (recorded c) i) e × (own M (recorded c).entries e s ≡ true)
  accepted_true h c f = soundness.irrefutable_true (accepted_sound h) c f

  -- 3, second half: accepted exactly when claim and proof are well formed and keep every rule, members compared by formula (T-03)
  pub accepted_exact : (verdict claim proof ≡ accepted) ↔ Correct claim proof
  accepted_exact = check.exact claim proof bc bp

  -- 2: a refusal names a fault, with its place, that comes first in the order; and every such fault is refused
  pub refused_exact : {n q : ℕ} → (verdict claim proof ≡ refused n q) ↔ Earned claim proof n q
  refused_exact = check.refusal claim proof bc bp

  -- the same for presenting, from whatever state: it accepts only as the verdict does, and then holds the tag it was given
  pub presented_sound : (g : Gate) (tag : ℕ) (l : Lent) → (presenting g tag claim proof l).answer ≡ accepted
      → Granted tag claim proof l g × Irrefutable claim
  presented_sound g tag l h =
      let granted = presented_granted tag claim proof l g h in
      (granted, accepted_sound granted.accepts)

  -- gate open, no permit held, slices long enough: whatever the tag, accepted exactly when correct, and refused as earned
  pub presented_exact : (tag : ℕ) (l : Lent) → LongEnough l → ((presenting opened tag claim proof l).answer ≡ accepted) ↔ Correct claim proof
  presented_exact tag l long = rw (presented_verdict tag claim proof l (long_not_short l long)) accepted_exact

  pub presented_refused : {n q : ℕ} (tag : ℕ) (l : Lent) → LongEnough l
      → ((presenting opened tag claim proof l).answer ≡ refused n q) ↔ Earned claim proof n q
  presented_refused {n} {q} tag l long = rw (presented_verdict tag claim proof l (long_not_short l long)) (refused_exact {n = n} {q = q})

  -- and with a slice that is too short, whatever the files are, 1 at 0
  pub presented_too_short : (tag : ℕ) (l : Lent) → (LongEnough l → ⊥) → (presenting opened tag claim proof l).answer ≡ refused 1 0
  presented_too_short tag l = presented_short tag claim proof l

-- every node of a correct proof: in every finite model every state has a member of its list that is true there
pub every_node : {claim proof : List ℕ} (k : Correct claim proof) (M : Model) (s : ℕ) → s < M.size
    → (v : ℕ) → v < length k.read.beside.nodes
    → (x : ℕ) × listed k.read.beside.nodes v x × (own M k.read.claim.entries (entry_of_lem x) s ≡ true)
every_node k M s h = soundness.node_true k M s h

-- not every claim is irrefutable: mu of box is false at one state with itself as successor, and false alone is false there
pub mu_of_box_lem : Irrefutable mu_of_box → ⊥
mu_of_box_lem = mu_of_box_refuted

pub false_alone_lem : Irrefutable false_alone → ⊥
false_alone_lem = false_refuted

-- nor is a claim of which one goal is not (T-05)
pub second_false_lem : Irrefutable second_false → ⊥
second_false_lem = second_refuted

-- T-06: a claim with no goals. The gate promises nothing of it: it is irrefutable as it stands, whatever its entries are
module _ {claim : List ℕ} {c : Claim} (formed : ClaimFormed claim c) (no_goals : c.goals ≡ []) where
  pub nothing_promised : Irrefutable claim
  nothing_promised = irrefutable formed no_goals

  module _ (proof : List ℕ) (bc : Bytes claim) (bp : Bytes proof) where
    -- it is accepted with a PRF2 proof of zero nodes and no roots, and only with that
    pub nothing_proved : (verdict claim proof ≡ accepted) ↔ (proof ≡ encode_proof clm2 nothing)
    nothing_proved = goalless.accepted_exact formed no_goals proof bc bp

    -- well-formed nodes get 35
    pub nodes_refused : {d : Derivation} → ProofFile c proof d → (d.nodes ≡ [] → ⊥) → (q : ℕ) × (verdict claim proof ≡ refused 35 q)
    nodes_refused = goalless.nodes_refused formed no_goals proof bc bp

-- T-07: two claims with their proofs joined at an entry, into slices of these lengths
module _ (e : ℕ) (claim proof other_claim other_proof : List ℕ) (claim_room proof_room : ℕ)
    (b₁ : Bytes claim) (b₂ : Bytes proof) (b₃ : Bytes other_claim) (b₄ : Bytes other_proof) where
  -- they are joined exactly when both are correct, in the forms for one goal, have the same entries, fit at the entry, have at most 1,023 nodes
  -- together, and both slices have room
  pub join_exact : {w : Whole} → (join_files_lem e claim proof other_claim other_proof claim_room proof_room ≡ good w)
      ↔ ((J : Joinable e claim proof other_claim other_proof claim_room proof_room) × (w ≡ whole_of J.first.correct.read J.second.correct.read e))
  join_exact = joining.join_gives e claim proof other_claim other_proof claim_room proof_room b₁ b₂ b₃ b₄

  -- and refused as earned: the first pair's refusal, the second's, then 73, 74 and 70
  pub join_refused : {n q : ℕ} → (join_files_lem e claim proof other_claim other_proof claim_room proof_room ≡ refused_reading n q)
      ↔ JoinEarned e claim proof other_claim other_proof claim_room proof_room n q
  join_refused = joining.join_refuses e claim proof other_claim other_proof claim_room proof_room b₁ b₂ b₃ b₄

  -- slices of 1,592 and 58,374 bytes never earn 70
  pub join_has_room : 1592 ≤ claim_room → 58374 ≤ proof_room → (x : CorrectHalf claim proof) (y : CorrectHalf other_claim other_proof)
      → HalvesJoin x y e claim_room proof_room → HalvesFew x y e claim_room proof_room
      → join_files_lem e claim proof other_claim other_proof claim_room proof_room ≡ good (whole_of x.correct.read y.correct.read e)
  join_has_room = joining.join_roomy e claim proof other_claim other_proof claim_room proof_room b₁ b₂ b₃ b₄

  module _ {w : Whole} (joined : join_files_lem e claim proof other_claim other_proof claim_room proof_room ≡ good w) where
    -- "The whole must be accepted": by the check, so its claim is irrefutable
    pub joined_accepted : verdict w.claim w.proof ≡ accepted
    joined_accepted =
        let right = (joining.join_right e claim proof other_claim other_proof claim_room proof_room b₁ b₂ b₃ b₄ joined).1 in
        (check.exact w.claim w.proof right.bytes.0 right.bytes.1).1 right.correct

    pub joined_irrefutable : Irrefutable w.claim
    joined_irrefutable =
        soundness.sound (joining.join_right e claim proof other_claim other_proof claim_room proof_room b₁ b₂ b₃ b₄ joined).1.correct

    -- "its nodes being the new root, the first tree and the second, renumbered in that order"
    pub joined_nodes : (J : Joinable e claim proof other_claim other_proof claim_room proof_room)
        × (files w.claim w.proof ≡ good (record {
          claim = one_goal (table J.first) (joined_goal (table J.first) e (members J.first) (members J.second));
          beside = one_tree (
              joined_root e (joined_goal (table J.first) e (members J.first) (members J.second)) (length (nodes J.first))
              ∷ (shifted 1 (nodes J.first) ++ shifted (length (nodes J.first) + 1) (nodes J.second))
              );
        }))
    joined_nodes = joining.join_read e claim proof other_claim other_proof claim_room proof_room b₁ b₂ b₃ b₄ joined

-- 2: an evaluation of a claim in a model, with the slices it is lent
module _ (claim model : List ℕ) (l : LentWords) (bc : Bytes claim) (bm : Bytes model) where
  -- it is refused as earned: 1, the claim by bytes, 20 and 71 over all entries, 21 to 23 entry by entry, then the model by bytes
  pub evaluation_refused : {n q : ℕ} → ((evaluating claim model l).answer ≡ refused n q) ↔ EvaluationEarned claim model l n q
  evaluation_refused = evaluation.refusal claim model l bc bm

  -- it finishes exactly when slices are long enough, the claim is well formed and the model is a model file
  pub evaluation_exact : ((evaluating claim model l).answer ≡ accepted) ↔ Evaluable claim model l
  evaluation_exact = evaluation.exact claim model l bc bm

  -- then bit s of an entry's word says whether the entry by itself is true at state s
  pub evaluated_word : (k : Evaluable claim model l) (e s : ℕ) → e < length k.read.claim.entries → s < length k.read.beside
      → bit (get_or (evaluating claim model l).lent.words e 0) s ≡ own (model_of k.read.beside) k.read.claim.entries e s
  evaluated_word k e s h = word_bit claim model l bc bm k e h s

-- 2: meaning. In a model M over a well-formed table, with names set as ρ says:
module _ (M : Model) (t : Table) (wf : WellFormed t) where
  module _ (e : ℕ) (ρ : Env) (s : ℕ) where
    -- kind 0 is true at no state, kind 1 at all
    pub false_nowhere : kind t e ≡ Kind.FALSE → meaning M t e ρ s ≡ false
    false_nowhere = by_kind.false_meaning M t wf e ρ s

    pub true_everywhere : kind t e ≡ Kind.TRUE → meaning M t e ρ s ≡ true
    true_everywhere = by_kind.true_meaning M t wf e ρ s

    -- a letter is true where the state has it, its negation elsewhere
    pub letter_where : kind t e ≡ Kind.LETTER → (meaning M t e ρ s ≡ true) ↔ (M.letter s (entry t e).a ≡ true)
    letter_where = by_kind.letter_meaning M t wf e ρ s

    pub negated_where : kind t e ≡ Kind.NEGATED → (meaning M t e ρ s ≡ true) ↔ (M.letter s (entry t e).a ≡ false)
    negated_where = by_kind.negated_meaning M t wf e ρ s

    -- A or B where at least one of the two is, A and B where both are
    pub or_where : kind t e ≡ Kind.OR
        → (meaning M t e ρ s ≡ true) ↔ ((meaning M t (entry t e).a ρ s ≡ true) ⊎ (meaning M t (entry t e).b ρ s ≡ true))
    or_where = by_kind.or_meaning M t wf e ρ s

    pub and_where : kind t e ≡ Kind.AND
        → (meaning M t e ρ s ≡ true) ↔ ((meaning M t (entry t e).a ρ s ≡ true) × (meaning M t (entry t e).b ρ s ≡ true))
    and_where = by_kind.and_meaning M t wf e ρ s

    -- a diamond where some successor by its action has its operand true, a box where all have
    pub diamond_where : kind t e ≡ Kind.DIAMOND
        → (meaning M t e ρ s ≡ true) ↔ ((u : ℕ) × Successor M (action t e) s u × (meaning M t (entry t e).a ρ u ≡ true))
    diamond_where = by_kind.diamond_meaning M t wf e ρ s

    pub box_where : kind t e ≡ Kind.BOX
        → (meaning M t e ρ s ≡ true) ↔ ((u : ℕ) → Successor M (action t e) s u → meaning M t (entry t e).a ρ u ≡ true)
    box_where = box_meaning M t wf e ρ s

    -- a name is true on the set of states set for its fixpoint
    pub name_where : kind t e ≡ Kind.NAME → meaning M t e ρ s ≡ ρ (entry t e).a s
    name_where = by_kind.name_meaning M t wf e ρ s

  -- a mu is the least set of states that, set for its own name, is also its body's meaning
  pub mu_is_least : (e : ℕ) (ρ : Env) → kind t e ≡ Kind.MU
      → SameStates M.size (meaning M t e ρ) (round M t e (entry t e).a ρ (meaning M t e ρ))
      × ((S : StateSet) → Sub M.size (round M t e (entry t e).a ρ S) S → Sub M.size (meaning M t e ρ) S)
  mu_is_least = mu_meaning M t wf

  -- a nu the greatest
  pub nu_is_greatest : (e : ℕ) (ρ : Env) → kind t e ≡ Kind.NU
      → SameStates M.size (meaning M t e ρ) (round M t e (entry t e).a ρ (meaning M t e ρ))
      × ((S : StateSet) → Sub M.size S (round M t e (entry t e).a ρ S) → Sub M.size S (meaning M t e ρ))
  nu_is_greatest = nu_meaning M t wf

  -- iterated from no state (mu) or all states (nu), it settles within as many rounds as there are states
  pub mu_settles : (e : ℕ) (ρ : Env) → kind t e ≡ Kind.MU → let F = round M t e (entry t e).a ρ in
      SameStates M.size (iter F M.size (start mu)) (iter F (suc M.size) (start mu))
  mu_settles e ρ q = fix_settles M t wf e _ mu (mu_shape t e q) ρ

  pub nu_settles : (e : ℕ) (ρ : Env) → kind t e ≡ Kind.NU → let F = round M t e (entry t e).a ρ in
      SameStates M.size (iter F M.size (start nu)) (iter F (suc M.size) (start nu))
  nu_settles e ρ q = fix_settles M t wf e _ nu (nu_shape t e q) ρ

  -- it depends on free names only
  pub free_names_only : (e : ℕ) (ρ σ : Env) → ((x : ℕ) → Free t e x → SameStates M.size (ρ x) (σ x)) → SameStates M.size (meaning M t e ρ) (meaning M t e σ)
  free_names_only = meaning_local M t wf

  -- an entry by itself has each free name set to that fixpoint's own meaning
  pub by_itself : (e : ℕ) (ρ : Env) → ((x : ℕ) → Free t e x → SameStates M.size (ρ x) (own M t x)) → SameStates M.size (own M t e) (meaning M t e ρ)
  by_itself = by_kind.own_meaning M t wf

-- a file encodes one claim, spelled in one way
pub one_table : {bytes : List ℕ} {c d : SpelledClaim} → ClaimFile bytes c → ClaimFile bytes d → c ≡ d
one_table = one_claim

-- the round trips: decoding an encoding gives the records back, encoding what was decoded gives the bytes back
pub claim_round_trip : (c : SpelledClaim) → FitClaim c → read_claim_lem (encode_claim c) ≡ good c
claim_round_trip = claim_decodes

pub claim_bytes_back : {bytes : List ℕ} {c : SpelledClaim} → Bytes bytes → read_claim_lem bytes ≡ good c → encode_claim c ≡ bytes
claim_bytes_back = claim_encodes

pub proof_round_trip : {c : Claim} {d : Derivation} → FitProof c d → read_proof c (encode_proof c.form d) ≡ good d
proof_round_trip = proof_decodes

pub proof_bytes_back : (c : Claim) {bytes : List ℕ} {d : Derivation} → Bytes bytes → read_proof c bytes ≡ good d → encode_proof c.form d ≡ bytes
proof_bytes_back = proof_encodes

-- T-01: what is written is a file or a refusal. No refusal writes a byte; a file stands in front, and bytes beyond its end are untouched
module _ (w : Reading (List ℕ)) (out : List ℕ) where
  pub refusal_writes_nothing : {n q : ℕ} → w ≡ refused_reading n q → laid_into w out ≡ out
  refusal_writes_nothing = written.refused_untouched w out

  pub file_stands_in_front : {file : List ℕ} → w ≡ good file → (take (length file) (laid_into w out) ≡ file) × (drop (length file) (laid_into w out) ≡ drop (length file) out)
  file_stands_in_front = written.file_in_front w out

-- what the reader makes of records that stand for a file of a form (T-05). Where the goals' member counts add up to the members, and CLM1 has one,
-- it is what the reader says of that file; else 12 where the goal count stands, unless the reader finds a fault up to there. The file that stops
-- there ends early, or is whole, where there is no goal (T-06)
module _ (f : Form) (c : ClaimRecords) where
  pub claim_as_file : goals_fit f c.counts c.members ≡ true → claim_reading f c ≡ read_formed_lem (claim_file f c)
  claim_as_file = written.fitting_goals f c

  module _ (unfit : goals_fit f c.counts c.members ≡ false) where
    pub claim_unfit : {p : ℕ} → read_claim_lem (claim_head f c.count (take c.count c.entries) (length c.counts)) ≡ refused_reading 11 p
        → claim_reading f c ≡ refused_reading 12 (goal_place c)
    claim_unfit = written.unfit_goals f c unfit

    pub claim_unfit_whole : {x : SpelledClaim} → read_claim_lem (claim_head f c.count (take c.count c.entries) (length c.counts)) ≡ good x
        → claim_reading f c ≡ refused_reading 12 (goal_place c)
    claim_unfit_whole = written.unfit_whole f c unfit

    pub claim_unfit_later : {m p : ℕ} → (m ≡ 11 → ⊥) → read_claim_lem (claim_head f c.count (take c.count c.entries) (length c.counts)) ≡ refused_reading m p
        → claim_reading f c ≡ refused_reading m p
    claim_unfit_later = written.unfit_before f c unfit

-- the same of a proof's records beside a claim: 34 where the roots begin, unless they are as many as the goals, or none in PRF1
module _ (f : Form) (d : ProofRecords) (k : Claim) where
  pub proof_as_file : roots_fit f (length k.goals) d.roots ≡ true → proof_reading f d k ≡ read_proof k (proof_file f d)
  proof_as_file = written.fitting_roots f d k

  module _ (unfit : roots_fit f (length k.goals) d.roots ≡ false) where
    pub roots_unfit : {p : ℕ} → read_proof k (proof_head f d.count) ≡ refused_reading 31 p → proof_reading f d k ≡ refused_reading 34 6
    roots_unfit = written.unfit_roots f d k unfit

    pub roots_unfit_whole : {x : Derivation} → read_proof k (proof_head f d.count) ≡ good x → proof_reading f d k ≡ refused_reading 34 6
    roots_unfit_whole = written.unfit_empty f d k unfit

    pub roots_unfit_later : {m p : ℕ} → (m ≡ 31 → ⊥) → read_proof k (proof_head f d.count) ≡ refused_reading m p → proof_reading f d k ≡ refused_reading m p
    roots_unfit_later = written.unfit_count f d k unfit

-- writing a claim's records, and a proof's over them, into a slice with room for so many bytes
module _ (c : ClaimRecords) (room : ℕ) where
  -- refusal 1 comes first, then 10 for a number that is no form
  pub claim_short_first : short_claim c ≡ true → writing_claim c room ≡ refused_reading 1 0
  claim_short_first = written.claim_first c room

  pub claim_no_form : short_claim c ≡ false → ((f : Form) → c.form ≡ form_number f → ⊥) → writing_claim c room ≡ refused_reading 10 0
  claim_no_form = written.claim_formless c room

  module _ (f : Form) (named : c.form ≡ form_number f) where
    -- then the one that the reader would give for the file that the records make, however short the output slice is
    pub claim_refused_as_read : short_claim c ≡ false → {n q : ℕ} → claim_reading f c ≡ refused_reading n q → writing_claim c room ≡ refused_reading n q
    claim_refused_as_read = written.claim_refuses c room f named

    -- 70 is judged after the records
    pub claim_room_last : short_claim c ≡ false → (k : Claim) → claim_reading f c ≡ good k → room < length (claim_file f c) → writing_claim c room ≡ refused_reading 70 0
    claim_room_last = written.claim_last c room f named

    -- reading a written file gives the records back, within the form, and it is never longer than 1,592 bytes (CLM1) or 2,344 (CLM2)
    pub claim_reads_back : {file : List ℕ} → writing_claim c room ≡ good file
        → (read_formed_lem file ≡ good (claim_of f c)) × ClaimGiven c (claim_of f c) × (length file ≤ longest_claim f)
    claim_reads_back = written.claim_back c room f named

    -- a slice of that length never earns 70
    pub claim_has_room : short_claim c ≡ false → (k : Claim) → claim_reading f c ≡ good k → longest_claim f ≤ room → writing_claim c room ≡ good (claim_file f c)
    claim_has_room = claim_roomy c room f named

  -- writing the records of an accepted claim gives its bytes back
  pub claim_written_again : {claim proof : List ℕ} → Bytes claim → Bytes proof → (k : Correct claim proof) → ClaimGiven c k.read.claim
      → 256 ≤ length c.entries → length claim ≤ room → writing_claim c room ≡ good claim
  claim_written_again bc bp k given long = written.accepted_claim_again bc bp k c given long room

  module _ (d : ProofRecords) where
    pub proof_short_first : (short_claim c || short_proof d) ≡ true → writing_proof c d room ≡ refused_reading 1 0
    proof_short_first = written.proof_first c room d

    pub proof_no_form : (short_claim c || short_proof d) ≡ false → ((f : Form) → c.form ≡ form_number f → ⊥) → writing_proof c d room ≡ refused_reading 10 0
    proof_no_form = written.proof_formless c room d

    module _ (f : Form) (named : c.form ≡ form_number f) where
      -- the claim's records, then the proof's
      pub proof_refused_as_read : (short_claim c || short_proof d) ≡ false → {n q : ℕ} → both_reading f c d ≡ refused_reading n q
          → writing_proof c d room ≡ refused_reading n q
      proof_refused_as_read = written.proof_refuses c room d f named

      -- then 35, and 70 last
      module _ (long : (short_claim c || short_proof d) ≡ false) (x : Files Derivation) (read : both_reading f c d ≡ good x) where
        pub proof_tree_refused : {n q : ℕ} → tree_judged x.beside.roots x.beside.nodes ≡ refused n q → writing_proof c d room ≡ refused_reading n q
        proof_tree_refused = written.proof_by_tree c room d f named long x read

        pub proof_room_last : tree_judged x.beside.roots x.beside.nodes ≡ accepted → room < length (proof_file f d) → writing_proof c d room ≡ refused_reading 70 0
        proof_room_last = written.proof_last c room d f named long x read

      -- an accepted proof never needs over 58,374 bytes in PRF1, and in PRF2 two bytes more for each goal: 58,406 at most
      pub proof_reads_back : {file : List ℕ} → writing_proof c d room ≡ good file
          → (files (claim_file f c) file ≡ good (record { claim = claim_of f c; beside = derivation_of f d })) × ProofGiven f d (derivation_of f d)
          × (length file ≤ longest_proof f (length c.counts))
      proof_reads_back = written.proof_back c room d f named

      pub proof_has_room : short_claim c ≡ false → short_proof d ≡ false → (x : Files Derivation) → both_reading f c d ≡ good x
          → tree_judged x.beside.roots x.beside.nodes ≡ accepted → longest_proof f (length c.counts) ≤ room → writing_proof c d room ≡ good (proof_file f d)
      proof_has_room = proof_roomy c d room f named

    pub proof_written_again : {claim proof : List ℕ} → Bytes claim → Bytes proof → (k : Correct claim proof) → ClaimGiven c k.read.claim
        → ProofGiven k.read.claim.form d k.read.beside → 256 ≤ length c.entries → LongProof d → length proof ≤ room
        → writing_proof c d room ≡ good proof
    proof_written_again bc bp k given nodes long = written.accepted_proof_again bc bp k c given long room d nodes
