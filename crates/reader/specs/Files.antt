-- the files as document 01 orders them: the claim by bytes, its table, then the file beside it
use Rattle.std.specs.Prelude.{List, ℕ}
use Rattle.verdict.specs.Verdict as verdicts
use Rattle.verdict.specs.Verdict.{Verdict, accepted}
use Rattle.encoding.specs.File.{Reading, refused, good}
use Rattle.formula.specs.Spelled.{records_of, zeros}
use Rattle.formula.specs.Claim.{Claim, SpelledClaim, claim_of, Derivation}
use Rattle.conditions.specs.Judge.{judge_table}
use Rattle.claim_files.specs.ReadClaim.{read_claim_lem}
use Rattle.proof_files.specs.ReadProof.{read_proof}

-- whatever stands first, and then a reading
abbrev pub firstly : {A : Type 0} → Verdict → Reading A → Reading A
firstly accepted next = next
firstly (verdicts.refused n q) next = refused n q

-- a reading in sight of what was read before
abbrev pub and_then : {A B : Type 0} → Reading A → (A → Reading B) → Reading B
and_then (refused n q) next = refused n q
and_then (good x) next = next x

-- 20 and 71 over all entries, then 21, 22, 23 entry by entry
abbrev pub formed : SpelledClaim → Reading Claim
formed c = firstly (judge_table (zeros c.spelling) (records_of c.spelling)) (good (claim_of c))

-- 10 to 14, then 20, 71 and 21 to 23: a well-formed claim
unfoldable pub read_formed_lem : List ℕ → Reading Claim
unfolding read_claim_lem judge_table
read_formed_lem claim = and_then (read_claim_lem claim) formed

-- a well-formed claim, and what the file beside it holds
pub record Files (A : Type 0) : Type 0 where
  pub claim : Claim
  pub beside : A

-- the file beside the claim is read in sight of it
abbrev pub beside_claim : {A : Type 0} → (Claim → Reading A) → Claim → Reading (Files A)
beside_claim read c = and_then (read c) (λ x. good (record { claim = c; beside = x }))

abbrev pub reading : {A : Type 0} → List ℕ → (Claim → Reading A) → Reading (Files A)
reading claim read = and_then (read_formed_lem claim) (beside_claim read)

-- then 30 to 34: all that comes before the rules
unfoldable pub files : List ℕ → List ℕ → Reading (Files Derivation)
unfolding read_formed_lem read_proof
files claim proof = reading claim (λ c. read_proof c proof)
