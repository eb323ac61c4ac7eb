-- what is answered and laid down, by what the judges of records found
use Rattle.std.specs.Prelude.{◌≡◌, refl, ◌⊎◌, List, Bool, true, false, not, ◌||◌, ℕ, zero, suc, ◌+◌, ◌<◌, ◌≤◌, ◌^◌, ltb, eqb, length, get_or}
use Rattle.std.proofs.Common.{sym, ◌∙◌, inl, inr, arith, lt-ltb, le-ltb}
use Rattle.std.proofs.lemmas.Bool.{not-true, not-false}
use Rattle.verdict.specs.Verdict as verdicts
use Rattle.verdict.specs.Verdict.{packed}
use Rattle.verdict.specs.Tells.{Tells, fails, or_tells, eqb_tells}
use Rattle.verdict.specs.Lists.{Each, more, written, values_from}
use Rattle.formula.specs.Table.{Table}
use Rattle.formula.specs.Claim.{Form, clm1, clm2, form_number}
use Rattle.formula.specs.Records.{NodeRecord}
use Rattle.formula.specs.Plain.{table_of}
use Rattle.encoding.specs.File.{Reading, refused}
use Rattle.claim_files.specs.ClaimFile.{GoalCount, encode_claim}
use Rattle.proof_files.specs.ProofFile.{encode_proof}
use Rattle.proof_files.specs.ProofParts.{kind_table}
use Rattle.formula.specs.NamedForm.{named_form, names}
use Rattle.writing.specs.RecordBytes.{split}
use Rattle.writing.specs.Goals.{roots_of, goals_fit_lem}
use Rattle.writing.specs.Spelling.{spelled_claim}
use Rattle.writing.specs.Writing.{ClaimRecords, ProofRecords, writing_claim, writing_proof, file_number, laid_into}
use Rattle.writing.specs.Ends.{End, next, stop}
use Rattle.writing.specs.ProofEnds.{nodes_over}
use Rattle.writing.specs.Encoded.{claim_judged, proof_judged, ClaimPasses}
use Rattle.writing.specs.Promises.{WriteClaim, WriteProof}
use Rattle.writing.proofs.Promises.{write_claim_lem, write_proof_lem}
use Rattle.writing.specs.Held.{plain_record, records_of, ColumnsFor, ClaimWritten, ProofWritten, NodesGiven}
use Rattle.writing.specs.Answers.{answered, claim_short, claim_formless, proof_short, proof_formless}
use Rattle.writing.proofs.Answers.{claim_answers, claim_stops_proof, proof_answers}
use Rattle.laying.specs.Laying.{NodeRoom}
use Rattle.laying.specs.Goals.{GoalsRoom}

-- the numbers that name a form
abbrev pub formed : ℕ → Bool
formed n = eqb n (form_number clm1) || eqb n (form_number clm2)

formed_tells : (n : ℕ) → Tells (formed n) ((n ≡ form_number clm1) ⊎ (n ≡ form_number clm2))
formed_tells n = or_tells (eqb_tells n (form_number clm1)) (eqb_tells n (form_number clm2))

pub names_form : {n : ℕ} → formed n ≡ true → n ≡ form_number (named_form n)
names_form {n} h = go ((formed_tells n).says h)
  where
    go : (n ≡ form_number clm1) ⊎ (n ≡ form_number clm2) → n ≡ form_number (named_form n)
    go (inl e) = rw (names clm1 e) e
    go (inr e) = rw (names clm2 e) e

pub names_none : {n : ℕ} → formed n ≡ false → (f : Form) → n ≡ form_number f → ⊥
names_none {n} h clm1 e = fails (formed_tells n) h (inl e)
names_none {n} h clm2 e = fails (formed_tells n) h (inr e)

-- as the code asks
pub asked_form : (n : ℕ) {t : Bool} → t ≡ formed n → not t ≡ false → n ≡ form_number (named_form n)
asked_form n {t} e h = names_form (sym e ∙ not-false t h)

pub asked_none : (n : ℕ) {t : Bool} → t ≡ formed n → not t ≡ true → formed n ≡ false
asked_none n {t} e h = sym e ∙ not-true t h

-- a proof's records stand beside a claim's that have passed, in the form that is told
pub record Beside (form goals entries : ℕ) : Type 0 where
  pub table : entries ≤ 256
  pub named : form ≡ form_number (named_form form)
  pub few : goals ≤ 16
  pub many : GoalCount (named_form form) goals

-- the number answered and the output slice afterwards, for a file or a refusal
pub record Wrote (w : Reading (List ℕ)) (out : List ℕ) (r : ℕ) (out' : List ℕ) : Type 0 where
  pub answer : r ≡ file_number w
  pub laid : out' ≡ laid_into w out

-- what a proof's records earn once its claim's have passed
abbrev pub proved_by : Form → ℕ → Table → ℕ → List ℕ → List NodeRecord → List ℕ → ℕ → Reading (List ℕ)
proved_by f k t n os vs cs room = answered (proof_judged f k t n os vs cs) room (encode_proof f (record { roots = roots_of f os; nodes = nodes_over vs cs }))

-- a refusal, and nothing written; no room; a file
pub wrote_refusal : {e : End} (room : ℕ) (file out : List ℕ) {r m q : ℕ} → e ≡ stop m q → r ≡ 2 ^ 32 + packed (verdicts.refused m q) → Wrote (answered e room file) out r out
wrote_refusal room file out found is = rw found (record { answer = is; laid = refl })

pub wrote_no_room : {e : End} (file out : List ℕ) {o r : ℕ} → e ≡ next o → length out < o → r ≡ 2 ^ 32 + packed (verdicts.refused 70 0)
    → Wrote (answered e (length out) file) out r out
wrote_no_room file out {o} found less is = rw (found, lt-ltb (length out) o less) (record { answer = is; laid = refl })

pub wrote_file : {e : End} (file out out' : List ℕ) {o : ℕ} → e ≡ next o → o ≤ length out → o ≡ length file → out' ≡ written file out
    → Wrote (answered e (length out) file) out o out'
wrote_file file out out' {o} found less long laid = rw (found, le-ltb (length out) o less) (record { answer = long; laid = laid })

-- the promises, by what was answered
pub claim_promised : (c : ClaimRecords) (out : List ℕ) {r : ℕ} {out' : List ℕ} {w : Reading (List ℕ)} → writing_claim c (length out) ≡ w → Wrote w out r out' → WriteClaim c out r out'
claim_promised c out {r} {out'} e k = write_claim_lem c out r out' (rw e k.answer) (rw e k.laid)

pub proof_promised : (c : ClaimRecords) (d : ProofRecords) (out : List ℕ) {r : ℕ} {out' : List ℕ} {w : Reading (List ℕ)} → writing_proof c d (length out) ≡ w → Wrote w out r out' → WriteProof c d out r out'
proof_promised c d out {r} {out'} e k = write_proof_lem c d out r out' (rw e k.answer) (rw e k.laid)

-- a claim's records in columns, by what was answered
module _ (form lent n : ℕ) (ks xs ys gs ms out : List ℕ) where
  abbrev given : Table → ClaimRecords
  given es = record { form = form; entries = es; count = n; counts = gs; members = ms }

  module _ {r : ℕ} {out' : List ℕ} where
    pub claim_too_short : lent < 256 → Wrote (refused 1 0) out r out' → ClaimWritten form lent n ks xs ys gs ms out r out'
    claim_too_short h w es long held = claim_promised (given es) out (claim_short form es n ks xs ys gs ms held (omega arith) (length out)) w

    module _ (h : 256 ≤ lent) where
      pub claim_of_no_form : formed form ≡ false → Wrote (refused 10 0) out r out' → ClaimWritten form lent n ks xs ys gs ms out r out'
      claim_of_no_form none w es long held =
          claim_promised (given es) out (claim_formless form es n ks xs ys gs ms held (omega arith) (names_none none clm1) (names_none none clm2) (length out)) w

      pub claim_written : (f : Form) → form ≡ form_number f
          → Wrote (answered (claim_judged f n (table_of ks xs ys n) gs ms) (length out) (encode_claim (spelled_claim f (table_of ks xs ys n) (split gs ms)))) out r out'
          → ClaimWritten form lent n ks xs ys gs ms out r out'
      claim_written f named w es long held = claim_promised (given es) out (claim_answers form es n ks xs ys gs ms held (omega arith) f named (length out)) w

-- a proof's
module _ (form lent n : ℕ) (ks xs ys gs ms : List ℕ) (nodes_lent m : ℕ) (rs ls ns os cs out : List ℕ) where
  abbrev beside : List NodeRecord → ProofRecords
  beside vs = record { nodes = vs; count = m; roots = os; codes = cs }

  abbrev over : Table → ClaimRecords
  over es = record { form = form; entries = es; count = n; counts = gs; members = ms }

  abbrev Promised : ℕ → List ℕ → Type 0
  Promised r out' = ProofWritten form lent n ks xs ys gs ms nodes_lent m rs ls ns os cs out r out'

  module _ {r : ℕ} {out' : List ℕ} where
    pub proof_too_short : ((ltb lent 256 || (ltb nodes_lent 1024 || ltb (length cs) 24576)) ≡ true) → Wrote (refused 1 0) out r out' → Promised r out'
    proof_too_short h w es vs long long_nodes held held_nodes =
        proof_promised (over es) (beside vs) out
        (proof_short form es n ks xs ys gs ms held vs m rs ls ns os cs held_nodes (rw (long, long_nodes) h) (length out)) w

    module _ (h : 256 ≤ lent) (k : 1024 ≤ nodes_lent) (l : 24576 ≤ length cs) where
      pub proof_of_no_form : formed form ≡ false → Wrote (refused 10 0) out r out' → Promised r out'
      proof_of_no_form none w es vs long long_nodes held held_nodes =
          proof_promised (over es) (beside vs) out
          (proof_formless form es n ks xs ys gs ms held vs m rs ls ns os cs held_nodes (omega arith) (omega arith) l (names_none none clm1) (names_none none clm2) (length out)) w

      module _ (f : Form) (named : form ≡ form_number f) where
        pub claim_refused_first : {a q : ℕ} → claim_judged f n (table_of ks xs ys n) gs ms ≡ stop a q → Wrote (refused a q) out r out' → Promised r out'
        claim_refused_first e w es vs long long_nodes held held_nodes =
            proof_promised (over es) (beside vs) out
            (claim_stops_proof form es n ks xs ys gs ms held vs m rs ls ns os cs held_nodes (omega arith) (omega arith) l f named (length out) e) w

        pub proof_written : {o : ℕ} → claim_judged f n (table_of ks xs ys n) gs ms ≡ next o
            → Wrote (proved_by f (length gs) (kind_table ks n) m os (records_of rs ls ns m) cs (length out)) out r out' → Promised r out'
        proof_written e w es vs long long_nodes held held_nodes =
            proof_promised (over es) (beside vs) out
            (proof_answers form es n ks xs ys gs ms held vs m rs ls ns os cs held_nodes (omega arith) (omega arith) l f named e (length out)) w

-- the goals of a claim whose records have passed, as the bytes are laid from them
few_goals : (f : Form) (k : ℕ) → GoalCount f k → k ≤ 16
few_goals clm1 k one = omega arith
few_goals clm2 k many = many.1

pub goals_room : {f : Form} {n : ℕ} {t : Table} {gs ms : List ℕ} {o : ℕ} → ClaimPasses f n t gs ms o → GoalsRoom gs ms
goals_room {f} {gs = gs} {ms = ms} p = record { few = few_goals f (length gs) p.goals; held = omega (arith, (goals_fit_lem f gs ms p.fit).1) }

-- and what they are to a proof's records
pub stands_beside : {form n : ℕ} {t : Table} {gs ms : List ℕ} {o : ℕ} → form ≡ form_number (named_form form) → ClaimPasses (named_form form) n t gs ms o → Beside form (length gs) n
stands_beside {form} {gs = gs} named p = record { table = p.entries; named = named; few = few_goals (named_form form) (length gs) p.goals; many = p.goals }

-- columns for so many nodes, and codes enough for as many
pub nodes_given : {m : ℕ} {rs ls ns cs : List ℕ} → 24576 ≤ length cs → (m ≤ 1024 → ColumnsFor m rs ls ns) → m ≤ 1024 → NodesGiven rs ls ns cs m
nodes_given codes columns few =
    let c = columns few in
    record { most = few; rules = c.rules; links = c.links; counts = c.counts; codes = omega arith }

-- what is laid down has no node of more than 24 codes
few_each : (rs ls ns : List ℕ) (e k : ℕ) → Each (λ v. v.count ≤ 24) (values_from (plain_record rs ls ns) e k) → (i : ℕ) → i < k → get_or ns (e + i) 0 ≤ 24
unfolding values_from
few_each rs ls ns e zero f i h = absurd (omega arith)
few_each rs ls ns e (suc k) (more f fs) zero h = let z : e + 0 ≡ e = omega arith in rw z f
few_each rs ls ns e (suc k) (more f fs) (suc i) h = let z : e + suc i ≡ suc e + i = omega arith in rw z (few_each rs ls ns (suc e) k fs i (omega arith))

pub node_room : (rs ls ns cs : List ℕ) (m : ℕ) → NodesGiven rs ls ns cs m → Each (λ v. v.count ≤ 24) (records_of rs ls ns m) → NodeRoom rs ls ns cs m
node_room rs ls ns cs m g f = record { given = g; few = λ v h. let z : v ≡ 0 + v = omega arith in rw z (few_each rs ls ns 0 m f v h) }
