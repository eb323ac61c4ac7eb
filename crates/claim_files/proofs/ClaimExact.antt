-- what is read as a claim is a claim file of what was decoded, and a claim file is read so
use Rattle.std.specs.Prelude.{◌≡◌, ◌↔◌, List, ℕ}
use Rattle.std.proofs.Math.Path.{refl}
use Rattle.std.proofs.Common.{sym, ◌∙◌}
use Rattle.formula.specs.Spelled.{Spelled}
use Rattle.formula.specs.Claim.{Form, SpelledClaim}
use Rattle.encoding.specs.Encode.{Bytes}
use Rattle.encoding.specs.File.{good}
use Rattle.encoding.specs.ParseLaws.{Exact, exact_as, seq_exact, via_exact}
use Rattle.encoding.specs.ListLaws.{listed_exact}
use Rattle.encoding.specs.FileLaws as File
use Rattle.encoding.proofs.FileLaws as FileProofs
use Rattle.claim_files.specs.ClaimFile.{claim_opening, encode_goals, encode_body, encode_claim}
use Rattle.claim_files.specs.ClaimFile.{FitEntries, FitGoals, FitClaim, FitIn, FormFile, ClaimFile}
use Rattle.claim_files.specs.ReadClaim.{early, goals, claim_of, body, read_form, form_of, read_claim_lem}
use Rattle.claim_files.specs.ClaimExact.{claim_form, entries_exact, form_claim, form_opens, goal_count_exact, members_exact, read_in}

pub goals_exact : (f : Form) (es : List Spelled) → FitEntries f es → Exact (goals f es) (encode_goals f) (FitGoals f es)
unfolding goals
goals_exact f es h =
    exact_as (λ gs k. record { count = k.0; each = k.1 }) (λ gs k. (k.count, k.each)) (listed_exact (goal_count_exact f) (members_exact f es h))

module _ (f : Form) where
  pub body_exact : Exact (body f) encode_body (FitIn f)
  unfolding body
  body_exact =
      via_exact (seq_exact (entries_exact f) (goals_exact f)) (claim_of f) (λ c. (c.spelling, c.goals))
      (λ c (e, k). ((rw (← e) k.entries, rw (← e) k.goals), rw (← e) refl, rw (← e) refl))
      (λ p h. ((refl, record { entries = h.0; goals = h.1 }), refl))

  -- a file of one form
  pub form_good : {bytes : List ℕ} {c : SpelledClaim} → FormFile f bytes c → read_form f bytes ≡ good c
  unfolding read_form
  form_good k = File.file_good (claim_opening f) 10 early (body f) body_exact k

  pub good_form : {bytes : List ℕ} {c : SpelledClaim} → Bytes bytes → read_form f bytes ≡ good c → FormFile f bytes c
  unfolding read_form
  good_form b h = FileProofs.good_file (claim_opening f) 10 early (body f) body_exact b h

-- a claim file is read, and decoded
pub claim_good : {bytes : List ℕ} {c : SpelledClaim} → ClaimFile bytes c → read_claim_lem bytes ≡ good c
claim_good {bytes} {c} k = read_in c.form bytes (form_opens c.form bytes (_, k.encoded)) ∙ form_good c.form (form_claim k)

-- what is read is a claim file, of what was decoded
pub good_claim : {bytes : List ℕ} {c : SpelledClaim} → Bytes bytes → read_claim_lem bytes ≡ good c → ClaimFile bytes c
unfolding read_claim_lem
good_claim {bytes} b h = claim_form (good_form (form_of bytes) b h)

pub claim_exact : {bytes : List ℕ} {c : SpelledClaim} → Bytes bytes → ClaimFile bytes c ↔ (read_claim_lem bytes ≡ good c)
claim_exact b = (claim_good, good_claim b)

-- one file, one decoding
pub one_claim : {bytes : List ℕ} {c d : SpelledClaim} → ClaimFile bytes c → ClaimFile bytes d → c ≡ d
one_claim f g = File.good_same (sym (claim_good f) ∙ claim_good g)

-- decoding what was encoded gives the records back
pub claim_decodes : (c : SpelledClaim) → FitClaim c → read_claim_lem (encode_claim c) ≡ good c
claim_decodes c f = claim_good (record { encoded = refl; fits = f })

-- encoding what was decoded gives the bytes back
pub claim_encodes : {bytes : List ℕ} {c : SpelledClaim} → Bytes bytes → read_claim_lem bytes ≡ good c → encode_claim c ≡ bytes
claim_encodes b h = sym (good_claim b h).encoded
