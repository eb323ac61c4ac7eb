-- a well-formed claim and its proof in the forms for one goal: their records, and their bytes by these
use Rattle.std.specs.Prelude.{◌≡◌, refl, ℕ, suc, ◌≤◌, length}
use Rattle.std.proofs.Common.{sym, ap, ap₂, subst, ◌∙◌, arith}
use mathlib.Core.List.{List, [], ◌∷◌, Memᴰ}
use Rattle.verdict.specs.Lists.{Each, none, more, Rising}
use Rattle.verdict.specs.EachLaws.{each_member}
use Rattle.formula.specs.Spelled.{Spelled, records_of, table_by, zeros}
use Rattle.formula.specs.Claim.{Form, clm1, Claim, SpelledClaim, claim_of, Derivation}
use Rattle.conditions.specs.Formed.{Unwritten}
use Rattle.encoding.specs.Encode.{Counts}
use Rattle.claim_files.specs.ClaimFile.{encode_claim, FitEntry, FitEntries, FitClaim, ClaimFile}
use Rattle.claim_files.specs.ClaimRecords.{one_goal_lem, member_count, member_formula}
use Rattle.proof_files.specs.ProofFile.{FitNodes, FitRoots, encode_proof}
use Rattle.calculus.specs.Goals.{goal}
use Rattle.reader.specs.Files.{Files}
use Rattle.reader.specs.WellFormed.{ClaimFormed, WellFormed}
use Rattle.writing.specs.Spelling.{spelling_of, spelled_claim, spelled_so}
use Rattle.joining.specs.Goals.{Members}
use Rattle.joining.specs.Joined.{one_goal, one_tree, claim_bytes, proof_bytes}
use Rattle.joining.specs.Lengths.{claim_near}

-- entries that write no 0 out have one spelling
spellings_so : {ss : List Spelled} → Each FitEntry ss → Unwritten (zeros ss) (records_of ss) → spelling_of (records_of ss) ≡ ss
unfolding table_by
spellings_so none u = refl
spellings_so (more {x = s} {l = ss} f fs) u = ap₂ {C = List Spelled} (λ x l. x ∷ l) (spelled_so s f (u 0 (omega arith))) (spellings_so fs (λ e h. u (suc e) (omega arith)))

only : (gs : List (List ℕ)) → length gs ≡ 1 → (ms : List ℕ) × (gs ≡ ms ∷ [])
only [] h = absurd (omega arith)
only (ms ∷ []) h = (ms, refl)
only (ms ∷ ns ∷ gs) h = absurd (omega arith)

-- a claim file for one goal
pub record HalfClaim (claim : List ℕ) (c : Claim) : Type 0 where
  pub is : c ≡ one_goal c.entries (goal c 0)
  pub bytes : claim ≡ claim_bytes c.entries (goal c 0)
  pub near : length claim ≤ 1592
  pub entries : FitEntries clm1 (spelling_of c.entries)
  pub count : Counts 1 24 (length (goal c 0))
  pub rising : Rising (goal c 0)
  pub members : Members c.entries (goal c 0)

module _ {claim : List ℕ} {s : SpelledClaim} (F : ClaimFile claim s) (one : s.form ≡ clm1) (u : Unwritten (zeros s.spelling) (records_of s.spelling)) where
  spelled_half : (ms : List ℕ) → s.goals ≡ ms ∷ [] → HalfClaim claim (claim_of s)
  spelled_half ms goals =
      let spelling = spellings_so F.fits.entries.each u in
      let here : goal (claim_of s) 0 ≡ ms = ap (λ (gs : List (List ℕ)). goal (record { form = s.form; entries = records_of s.spelling; goals = gs }) 0) goals in
      let inside : Memᴰ ms s.goals = subst (Memᴰ ms) (sym goals) (mathlib.Core.List.Memᴰ.head refl) in
      let same : s ≡ spelled_claim clm1 (records_of s.spelling) (ms ∷ []) =
      ap₂ {C = SpelledClaim} (λ f gs. record { form = f; spelling = s.spelling; goals = gs }) one goals
      ∙ ap (λ (ss : List Spelled). record { form = clm1; spelling = ss; goals = ms ∷ [] }) (sym spelling) in
      record {
        is = rw here (ap₂ {C = Claim} (λ f gs. record { form = f; entries = records_of s.spelling; goals = gs }) one goals);
        bytes = rw here (F.encoded ∙ ap encode_claim same);
        near = omega (arith, ap length (F.encoded ∙ ap encode_claim same), claim_near (records_of s.spelling) ms (subst FitClaim same F.fits));
        entries = rw spelling (subst (λ (f : Form). FitEntries f s.spelling) one F.fits.entries);
        count = rw here (member_count F ms inside);
        rising = rw here (each_member F.fits.goals.each ms inside).rising;
        members = rw here (member_formula F ms inside);
      }

pub half_claim : {claim : List ℕ} {c : Claim} → ClaimFormed claim c → c.form ≡ clm1 → HalfClaim claim c
half_claim {claim} {c} F one =
    let spelled_one : F.spelled.form ≡ clm1 = ap (λ (d : Claim). d.form) (sym F.records) ∙ one in
    let (ms, goals) = only F.spelled.goals (one_goal_lem F.claim_file spelled_one) in
    rw F.records (spelled_half F.claim_file spelled_one (subst (λ (d : Claim). Unwritten (zeros F.spelled.spelling) d.entries) F.records F.unwritten) ms goals)

-- with its proof
pub record Half (claim proof : List ℕ) (f : Files Derivation) : Type 0 where
  pub claim_half : HalfClaim claim f.claim
  pub is : f.beside ≡ one_tree f.beside.nodes
  pub bytes : proof ≡ proof_bytes f.beside.nodes
  pub nodes : FitNodes clm1 f.claim.entries f.beside.nodes

pub half : {claim proof : List ℕ} {f : Files Derivation} → WellFormed claim proof f → f.claim.form ≡ clm1 → Half claim proof f
half {claim} {proof} {f} W one =
    let fits = W.beside_formed.fits in
    let roots : f.beside.roots ≡ 0 ∷ [] = subst (λ (k : Form). FitRoots k (length f.claim.goals) (length f.beside.nodes) f.beside.roots) one fits.roots in
    record {
      claim_half = half_claim W.claim_formed one;
      is = ap (λ (rs : List ℕ). record { roots = rs; nodes = f.beside.nodes }) roots;
      bytes = W.beside_formed.encoded ∙ ap₂ {C = List ℕ} (λ k rs. encode_proof k (record { roots = rs; nodes = f.beside.nodes })) one roots;
      nodes = subst (λ (k : Form). FitNodes k f.claim.entries f.beside.nodes) one fits.nodes;
    }
