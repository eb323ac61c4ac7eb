-- goals that fit, ready to be laid down: 74, 70, and the whole
use Rattle.std.specs.Prelude.{◌≡◌, Bool, true, ◌&&◌, List, [], ◌∷◌, ℕ, ◌+◌, ◌*◌, ◌<◌, ◌≤◌, leb, take, set}
use Rattle.std.proofs.Math.Path.{refl, ap}
use Rattle.std.proofs.Common.{ap₂, ◌∙◌, arith, le-leb, length-take-le}
use Rattle.std.proofs.lemmas.Bool.{lt-leb}
use Rattle.std.proofs.Math.ListN.{length}
use Rattle.verdict.specs.Verdict.{accepted, refused, pick}
use Rattle.encoding.specs.File as file
use Rattle.encoding.specs.File.{Reading, good}
use Rattle.formula.specs.Table.{Table}
use Rattle.formula.specs.Nodes.{Proof}
use Rattle.formula.specs.Claim.{clm1}
use Rattle.formula.specs.Plain.{table_of}
use Rattle.claim_files.specs.ClaimFile.{encode_claim}
use Rattle.nodes.specs.ProofDecode.{proof_in}
use Rattle.reader.specs.Files.{firstly}
use Rattle.writing.specs.RecordBytes.{split}
use Rattle.writing.specs.Goals.{total}
use Rattle.writing.specs.Spelling.{spelled_claim}
use Rattle.laying.specs.Goals.{GoalsRoom}
use Rattle.joining.specs.Joined.{claim_bytes, proof_bytes, joined_nodes}
use Rattle.joining.specs.Lengths.{proof_length}
use Rattle.joining.specs.Answer.{room, sized}
use Rattle.joined_proofs.specs.Laid.{Members, Tree}
use Rattle.demands.specs.Join.{Whole}

-- an accepted proof file: its nodes are those that stand there
pub record HalfProof (s : List ℕ) : Type 0 where
  pub tree : Tree s
  pub bytes : s ≡ proof_bytes (proof_in s 6)
  pub near : length s ≤ 58374

-- the table in columns, the members of the joined goal in front of an array, and the length of the joined claim
pub record Ready (e : ℕ) (ks xs ys : List ℕ) (n len : ℕ) (ms : List ℕ) (k : ℕ) (first second : List ℕ) : Type 0 where
  pub entries : n ≤ 256
  pub entry : e < 256
  pub members : Members ms k
  pub some : 0 < k
  pub long : len ≡ length (claim_bytes (table_of ks xs ys n) (take k ms))
  pub near : len ≤ 65535
  pub first_proof : HalfProof first
  pub second_proof : HalfProof second

module _ (t : Table) (g : List ℕ) (p q : Proof) (e : ℕ) where
  abbrev pub whole : Whole
  whole = record { claim = claim_bytes t g; proof = proof_bytes (joined_nodes e g p q) }

  module _ (claim_room proof_room : ℕ) where
    -- 74, then 70
    abbrev pub laid_down : Reading Whole
    laid_down = firstly (sized t g p q e claim_room proof_room) (good whole)

    abbrev by : Bool → Bool → Bool → Reading Whole
    by a b c = firstly (pick a (pick (b && c) accepted (refused 70 0)) (refused 74 0)) (good whole)

    pub too_many : 1024 < length p + length q + 1 → laid_down ≡ file.refused 74 0
    unfolding sized room
    too_many h = ap (λ (a : Bool). by a (leb (length whole.claim) claim_room) (leb (length whole.proof) proof_room)) (lt-leb (length p + length q + 1) 1024 h)

    module _ (few : length p + length q + 1 ≤ 1024) where
      few_nodes : laid_down ≡ by true (leb (length whole.claim) claim_room) (leb (length whole.proof) proof_room)
      unfolding sized room
      few_nodes = ap (λ (a : Bool). by a (leb (length whole.claim) claim_room) (leb (length whole.proof) proof_room)) (le-leb (length p + length q + 1) 1024 few)

      pub claim_short : claim_room < length whole.claim → laid_down ≡ file.refused 70 0
      claim_short h = few_nodes ∙ ap (λ (b : Bool). by true b (leb (length whole.proof) proof_room)) (lt-leb (length whole.claim) claim_room h)

      pub proof_short : length whole.claim ≤ claim_room → proof_room < length whole.proof → laid_down ≡ file.refused 70 0
      proof_short h k =
          few_nodes ∙ ap₂ {C = Reading Whole} (λ b c. by true b c) (le-leb (length whole.claim) claim_room h) (lt-leb (length whole.proof) proof_room k)

      pub both_fit : length whole.claim ≤ claim_room → length whole.proof ≤ proof_room → laid_down ≡ good whole
      both_fit h k =
          few_nodes ∙ ap₂ {C = Reading Whole} (λ b c. by true b c) (le-leb (length whole.claim) claim_room h) (le-leb (length whole.proof) proof_room k)

module _ {e : ℕ} {ks xs ys : List ℕ} {n len : ℕ} {ms : List ℕ} {k : ℕ} {first second : List ℕ} (R : Ready e ks xs ys n len ms k first second) where
  many : length (take k ms) ≡ k
  many = length-take-le k ms (omega (arith, R.members.few, R.members.long))

  -- the joined proof's length, from those of the two
  pub proof_long : length (proof_bytes (joined_nodes e (take k ms) (proof_in first 6) (proof_in second 6))) ≡ length first + length second + 2 * k + 3
  proof_long = omega (
    arith,
    many,
    proof_length e (take k ms) (proof_in first 6) (proof_in second 6) (omega (arith, many, R.some)),
    ap length R.first_proof.bytes,
    ap length R.second_proof.bytes,
  )

  -- one goal, whose members stand in front of the array
  pub one_count : (gs : List ℕ) → gs ≡ set (0 ∷ []) 0 k → split gs ms ≡ take k ms ∷ []
  unfolding split
  one_count gs e = rw e refl

  pub claim_is : (gs : List ℕ) → gs ≡ set (0 ∷ []) 0 k
      → encode_claim (spelled_claim clm1 (table_of ks xs ys n) (split gs ms)) ≡ claim_bytes (table_of ks xs ys n) (take k ms)
  claim_is gs e = ap (λ (g : List (List ℕ)). encode_claim (spelled_claim clm1 (table_of ks xs ys n) g)) (one_count gs e)

  -- there is room for one goal of so many members
  pub one_goal_room : (gs : List ℕ) → gs ≡ set (0 ∷ []) 0 k → GoalsRoom gs ms
  unfolding total
  one_goal_room gs e = rw e (record { few = omega arith; held = omega (arith, R.members.few, R.members.long) })
