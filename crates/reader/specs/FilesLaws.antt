-- the files as the program reads them, and what holds of files that are well formed
use Rattle.std.specs.Prelude.{◌≡◌, List, [], ℕ, ◌<◌, ◌≤◌, length, take, Ok, Err}
use Rattle.std.proofs.Math.Path.{refl}
use Rattle.std.proofs.Common.{sym, subst, ap, ◌∙◌, arith, length-take}
use Rattle.std.proofs.lemmas.List.{length-replicate}
use Rattle.verdict.specs.Verdict as verdicts
use Rattle.verdict.specs.Verdict.{Verdict, accepted}
use Rattle.verdict.specs.VerdictLaws.{accepted_not_refused}
use Rattle.verdict.specs.declared.Refusal.{Refusal}
use Rattle.encoding.specs.File.{Reading, refused, good}
use Rattle.encoding.specs.FileLaws.{good_same, refused_not_good}
use Rattle.encoding.specs.Outcome.{verdict_of, RefusedWith}
use Rattle.formula.specs.Table.{Table}
use Rattle.formula.specs.Spelled.{records_of, marked_of, zeros}
use Rattle.formula.specs.Claim.{Form, clm1, clm2, form_number, Claim, SpelledClaim, claim_of, marked_claim, Derivation}
use Rattle.formula.specs.Plain.{table_of, table_of_length, table_of_kind}
use Rattle.formula.specs.Held.{held_claim, goals_of_length}
use Rattle.conditions.specs.Judge.{plainly, judge_table}
use Rattle.conditions.proofs.JudgeExact.{judge_accepts}
use Rattle.claim_files.specs.ReadClaim.{read_claim_lem}
use Rattle.claims.specs.ClaimWalk.{ClaimGot, held_reading}
use Rattle.proof_files.specs.ReadProof.{read_proof}
use Rattle.proof_files.specs.ProofParts.{kind_claim}
use Rattle.proofs.specs.ProofKinds.{by_kinds}
use Rattle.formula.specs.NamedForm.{names}
use Rattle.nodes.specs.ProofDecode.{words_at_length, nodes_place_lem, roots_in, derivation_in, proof_in, Decodes}
use Rattle.nodes.specs.RootsStored.{RootsStored}
use Rattle.nodes.specs.ProofGood.{good_decoded}
use Rattle.reader.specs.Files.{Files, firstly, and_then, formed, read_formed_lem, beside_claim, files}
use Rattle.reader.specs.Spellings.{held_judged, held_plainly}
use Rattle.reader.specs.Found.{FilesRead, FilesGot, FilesTell, FewRead}
use Rattle.reader.specs.declared.FileCounts.{FileCounts}

-- what a reading was whose verdict is known
pub refused_reading : {A : Type 0} (r : Reading A) {n q : ℕ} → verdict_of r ≡ verdicts.refused n q → r ≡ refused n q
refused_reading (refused m o) {n} {q} h = let i : m ≡ n = cc in let j : o ≡ q = cc in rw (i, j) refl
refused_reading (good x) h = absurd (accepted_not_refused (sym h))

pub record Accepts {A : Type 0} (r : Reading A) : Type 0 where
  pub value : A
  pub was : r ≡ good value

pub accepts : {A : Type 0} (r : Reading A) → verdict_of r ≡ accepted → Accepts r
accepts (refused n q) h = absurd (accepted_not_refused h)
accepts (good x) h = record { value = x; was = refl }

-- the claim by bytes, then its table
module _ (claim : List ℕ) where
  pub unread_claim : {n q : ℕ} → RefusedWith (held_reading (read_claim_lem claim)) n q → RefusedWith (read_formed_lem claim) n q
  unfolding read_formed_lem
  unread_claim {n} {q} u = record { was = go (read_claim_lem claim) u.was; small = u.small }
    where
      go : (r : Reading SpelledClaim) → held_reading r ≡ refused n q → and_then r formed ≡ refused n q
      go (refused m o) h = let i : m ≡ n = cc h in let j : o ≡ q = cc h in rw (i, j) refl
      go (good c) h = absurd (refused_not_good (sym h))

  module _ {ks xs ys gs ms : List ℕ} {f n k : ℕ} (g : ClaimGot (held_reading (read_claim_lem claim)) ks xs ys gs ms f n k) where
    -- the claim as it is spelled
    spelling : (s : SpelledClaim) × (read_claim_lem claim ≡ good s) × (marked_claim s ≡ g.claim)
    spelling = go (read_claim_lem claim) refl g.was
      where
        go : (r : Reading SpelledClaim) → read_claim_lem claim ≡ r → held_reading r ≡ good g.claim → (s : SpelledClaim) × (read_claim_lem claim ≡ good s) × (marked_claim s ≡ g.claim)
        go (refused m q) e h = absurd (refused_not_good h)
        go (good s) e h = (s, e, good_same h)

    abbrev s : SpelledClaim
    s = spelling.0

    held_table : table_of ks xs ys n ≡ marked_of s.spelling
    held_table = ap (λ (c : Claim). c.entries) (g.held.same ∙ sym spelling.2)

    past_claim : read_formed_lem claim ≡ formed s
    unfolding read_formed_lem
    past_claim = rw spelling.1 refl

    -- the table that is held is judged as the claim's
    as_spelled : {v : Verdict} → judge_table plainly (table_of ks xs ys n) ≡ v → judge_table (zeros s.spelling) (records_of s.spelling) ≡ v
    as_spelled h = sym (held_judged s.spelling) ∙ ap (judge_table plainly) (sym held_table) ∙ h

    judged : {v : Verdict} → judge_table plainly (table_of ks xs ys n) ≡ v → formed s ≡ firstly v (good (claim_of s))
    judged h = ap (λ (v : Verdict). firstly v (good (claim_of s))) (as_spelled h)

    pub unformed_claim : {m q : ℕ} → verdicts.refused m q ≡ judge_table plainly (table_of ks xs ys n) → (m < 65536) × (q < 65536) → RefusedWith (read_formed_lem claim) m q
    unformed_claim h u = record { was = past_claim ∙ judged (sym h); small = u }

    -- where it passes, no 0 is written out: it holds the records
    pub formed_claim : accepted ≡ judge_table plainly (table_of ks xs ys n) → ClaimGot (read_formed_lem claim) ks xs ys gs ms f n k
    formed_claim h =
        let plain : marked_of s.spelling ≡ records_of s.spelling = held_plainly s.spelling ((judge_accepts (zeros s.spelling) (records_of s.spelling)).0 (as_spelled (sym h))).1 in
        let same : g.claim ≡ claim_of s = sym spelling.2 ∙ ap (λ (t : Table). record { form = s.form; entries = t; goals = s.goals }) plain in
        record { claim = claim_of s; was = past_claim ∙ judged (sym h); form = rw same at g.form; held = rw same at g.held }

-- of a claim that is held, the form, the kinds and the number of goals are all that the reading of a proof looks at
pub held_kinds : (f : Form) (ks xs ys : List ℕ) (n : ℕ) (gs ms : List ℕ) (k : ℕ) (s : List ℕ) → read_proof (held_claim f ks xs ys n gs ms k) s ≡ read_proof (kind_claim f ks n k) s
held_kinds f ks xs ys n gs ms k s =
    by_kinds (held_claim f ks xs ys n gs ms k) (record { many = table_of_length ks xs ys n; same = table_of_kind ks xs ys n }) s
    ∙ ap (λ (j : ℕ). read_proof (kind_claim f ks n j) s) (goals_of_length gs ms k)

-- and a proof that passes by them decodes
module _ (f : Form) (ks : List ℕ) (n k : ℕ) (s : List ℕ) where
  decoded : {d : Derivation} → read_proof (kind_claim f ks n k) s ≡ good d → Decodes s (nodes_place_lem f k) × (d ≡ derivation_in f k s)
  decoded {d} h =
      let D = good_decoded (kind_claim f ks n k) s h in
      subst (λ (j : ℕ). Decodes s (nodes_place_lem f j) × (d ≡ derivation_in f j s)) (length-replicate k []) (D.decodes, D.same)

  pub kinds_decode : accepted ≡ verdict_of (read_proof (kind_claim f ks n k) s) → Decodes s (nodes_place_lem f k)
  kinds_decode h = (decoded (accepts (read_proof (kind_claim f ks n k) s) (sym h)).was).0

-- so the array has room for its roots
pub roots_room : {f n k : ℕ} → FewRead f n k → {form : Form} → f ≡ form_number form → {s old os : List ℕ} → RootsStored form k s old os → k ≤ length os
roots_room {k = k} few {form} named {s = s} {os = os} r = omega (arith, length-take k os, ap length r.held, long form (λ e. few.one (sym (names few.form few.number) ∙ names form named ∙ e)))
  where
    long : (f : Form) → (f ≡ clm1 → k ≡ 1) → length (roots_in f k s) ≡ k
    long clm1 one = sym (one refl)
    long clm2 one = words_at_length s 6 k

-- then the proof
module _ (claim proof : List ℕ) where
  pub unread_formed : {n q : ℕ} → RefusedWith (read_formed_lem claim) n q → RefusedWith (files claim proof) n q
  unfolding files
  unread_formed u = record { was = rw u.was refl; small = u.small }

  module _ {ks xs ys gs ms : List ℕ} {f n k : ℕ} (g : ClaimGot (read_formed_lem claim) ks xs ys gs ms f n k) where
    abbrev form : Form
    form = g.claim.form

    by_kinds_held : read_proof g.claim proof ≡ read_proof (kind_claim form ks n k) proof
    by_kinds_held = ap (λ (c : Claim). read_proof c proof) (sym g.held.same) ∙ held_kinds form ks xs ys n gs ms k proof

    past_formed : files claim proof ≡ beside_claim (λ c. read_proof c proof) g.claim
    unfolding files
    past_formed = rw g.was refl

    read_as : {r : Reading Derivation} → read_proof (kind_claim form ks n k) proof ≡ r → beside_claim (λ c. read_proof c proof) g.claim ≡ and_then r (λ d. good (record { claim = g.claim; beside = d }))
    read_as e = ap (λ (r : Reading Derivation). and_then r (λ d. good (record { claim = g.claim; beside = d }))) (by_kinds_held ∙ e)

    pub unread_proof : {m q : ℕ} → verdicts.refused m q ≡ verdict_of (read_proof (kind_claim form ks n k) proof) → (m < 65536) × (q < 65536) → RefusedWith (files claim proof) m q
    unread_proof h s = record { was = past_formed ∙ read_as (refused_reading (read_proof (kind_claim form ks n k) proof) (sym h)); small = s }

    module _ (h : accepted ≡ verdict_of (read_proof (kind_claim form ks n k) proof)) where
      read : Accepts (read_proof (kind_claim form ks n k) proof)
      read = accepts (read_proof (kind_claim form ks n k) proof) (sym h)

      pub both_read : {os : List ℕ} {m at : ℕ} → take k os ≡ roots_in form k proof → k ≤ length os → at ≡ nodes_place_lem form k → at ≤ 38 → m ≡ length (proof_in proof at)
          → FilesGot (files claim proof) ks xs ys gs ms os n k m at
      both_read rooted room place near e =
          let same = (decoded form ks n k proof read.was).1 in
          record {
            files = record { claim = g.claim; beside = read.value };
            was = past_formed ∙ read_as read.was;
            held = g.held;
            roots = rooted ∙ sym (ap (λ (d : Derivation). d.roots) same);
            room = room;
            nodes = e ∙ ap (λ (z : ℕ). length (proof_in proof z)) place ∙ sym (ap (λ (d : Derivation). length d.nodes) same);
            place = place;
            near = near;
          }

-- in an arm that knows which answer it is
module _ {r : Reading (Files Derivation)} (ks xs ys gs ms os : List ℕ) {w : FilesRead} (t : FilesTell r ks xs ys gs ms os w) where
  pub files_as_read : {c : FileCounts} → w ≡ Ok c → FilesGot r ks xs ys gs ms os c.entries c.goals c.nodes c.at
  files_as_read e = rw e at t

  pub files_as_refused : {e : Refusal ℕ} → w ≡ Err e → RefusedWith r e.number e.place
  files_as_refused e = rw e at t

-- whatever stands first: when it refuses, and when it accepts
module _ (before : Verdict) (next : Reading (Files Derivation)) where
  pub first_unread : {n q : ℕ} → before ≡ verdicts.refused n q → (n < 65536) × (q < 65536) → RefusedWith (firstly before next) n q
  first_unread h l = record { was = rw h refl; small = l }

  pub first_passed : before ≡ accepted → (ks xs ys gs ms os : List ℕ) (f : FilesRead) → FilesTell next ks xs ys gs ms os f
      → FilesTell (firstly before next) ks xs ys gs ms os f
  first_passed h ks xs ys gs ms os f d = rw h d
