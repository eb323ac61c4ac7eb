-- the files behind what stands before them, judged as they stand in the lent slices
use Rattle.std.specs.Prelude.{◌≡◌, refl, List, ℕ, ◌≤◌, T, length, Ok, Err}
use Rattle.std.proofs.Common.{sym, ap, ◌∙◌, arith}
use Rattle.verdict.specs.Verdict as verdicts
use Rattle.verdict.specs.Verdict.{Verdict, accepted}
use Rattle.verdict.specs.Lists.{written}
use Rattle.verdict.specs.Shown.{shown}
use Rattle.encoding.specs.Encode.{Bytes}
use Rattle.encoding.specs.File.{Reading, refused, good}
use Rattle.encoding.specs.FileLaws.{refused_not_good}
use Rattle.formula.specs.Table.{Table}
use Rattle.formula.specs.Claim.{Form, clm1, clm2, Claim, Derivation}
use Rattle.formula.specs.Plain.{table_of, table_of_length}
use Rattle.formula.specs.Held.{held_claim, goals_of}
use Rattle.nodes.specs.ProofDecode.{nodes_place_lem}
use Rattle.calculus.specs.Judge.{judge}
use Rattle.records.specs.Records.{shown_entry, shown_entries, entries_of, EntryRoom, EntriesLoaded}
use Rattle.records.specs.Shown.{map_written, entries_shown, loaded_table}
use Rattle.records.specs.declared.Entry.{Entry}
use Rattle.records.specs.declared.Node.{Node}
use Rattle.reader.specs.Files.{Files, firstly, files}
use Rattle.reader.specs.Begins.{Begins, refusal}
use Rattle.reader.specs.Found.{FilesGot, FilesTell}
use Rattle.reader.specs.declared.FileCounts.{FileCounts}
use Rattle.verdict.specs.declared.Refusal.{Refusal}
use Rattle.laid.specs.Numbering.{numberable_as}
use Rattle.laid.specs.Readable.{Readable, proof_at, count, same_proof, same_entries, readable, readable_judged}
use Rattle.standing.specs.Standing.{RoomFor, JudgedStored}
use Rattle.standing.specs.StandingLaws.{first_shown, no_shorter}
use Rattle.demands.specs.Slices.{decoded_into}
use Rattle.demands.specs.Present.{presented_by}
use Rattle.lent_files.specs.LentSlices.{lent_of}

-- what is answered, and what is left in the slices: as presenting is defined, whatever the tag
pub record LentJudged (x : Reading (Files Derivation)) (es : List Entry) (vs : List Node) (cs : List ℕ) (v : Verdict) (es' : List Entry) (vs' : List Node) (cs' : List ℕ) : Type 0 where
  pub answer : (tag : ℕ) → v ≡ (presented_by x tag (lent_of es vs cs)).answer
  pub lent : (tag : ℕ) → lent_of es' vs' cs' ≡ (presented_by x tag (lent_of es vs cs)).lent

-- the same of two lent files behind what stands before them, and that a lent slice of bytes holds bytes
pub record LentTold (before : Verdict) (claim proof : List ℕ) (es : List Entry) (vs : List Node) (cs : List ℕ) (v : Verdict) (es' : List Entry) (vs' : List Node) (cs' : List ℕ) : Type 0 where
  pub judged : LentJudged (firstly before (files claim proof)) es vs cs v es' vs' cs'
  pub claim_bytes_lem : Bytes claim
  pub proof_bytes_lem : Bytes proof

-- the slices that "slices long enough" asks for
pub record AllLong (es : List Entry) (vs : List Node) (cs : List ℕ) : Type 0 where
  pub entries : 256 ≤ length es
  pub nodes : 1024 ≤ length vs
  pub codes : 24576 ≤ length cs

-- what is refused at the beginning stands, and leaves the slices as they were
pub early_stands : {before : Verdict} (claim proof : List ℕ) (es : List Entry) (vs : List Node) (cs : List ℕ) (v : Verdict) → Begins before claim v → T (refusal v)
    → LentJudged (firstly before (files claim proof)) es vs cs v es vs cs
early_stands claim proof es vs cs accepted begun h = absurd h
early_stands claim proof es vs cs (verdicts.refused n q) begun h = rw (begun.stands n q refl proof) (record { answer = λ tag. refl; lent = λ tag. refl })

module _ (claim proof : List ℕ) (ks xs ys gs ms os : List ℕ) where
  -- there are counts: nothing was refused, neither before the files nor in them
  pub nothing_refused : {c : FileCounts} (before : Verdict) → FilesTell (firstly before (files claim proof)) ks xs ys gs ms os (Ok c)
      → (before ≡ accepted) × FilesGot (files claim proof) ks xs ys gs ms os c.entries c.goals c.nodes c.at
  nothing_refused accepted told = (refl, told)
  nothing_refused (verdicts.refused n q) told = absurd (refused_not_good told.was)

  -- a refusal leaves the slices as they were
  pub refusal_stands : (es : List Entry) (vs : List Node) (cs : List ℕ) {e : Refusal ℕ} (before : Verdict) → FilesTell (firstly before (files claim proof)) ks xs ys gs ms os (Err e)
      → LentJudged (firstly before (files claim proof)) es vs cs (verdicts.refused e.number e.place) es vs cs
  refusal_stands es vs cs before told = rw told.was (record { answer = λ tag. refl; lent = λ tag. refl })

-- both files are read: their entries are stored, loaded from where they stand, and judged with the nodes
module _ (claim proof : List ℕ) (bc : Bytes claim) (bp : Bytes proof) {ks xs ys gs ms os : List ℕ} {n k m at : ℕ} (g : FilesGot (files claim proof) ks xs ys gs ms os n k m at)
    {es : List Entry} {vs : List Node} {cs : List ℕ} (long : AllLong es vs cs) where
  r : Readable ks xs ys n gs ms k os proof at m
  r = readable claim proof bc bp g

  entry_room : EntryRoom ks xs ys n
  entry_room = (g.held.kinds, g.held.a_fields, g.held.b_fields)

  pub may_store : EntryRoom ks xs ys n × (n ≤ length es)
  may_store = (entry_room, omega (arith, g.held.entries, long.entries))

  module _ {es' : List Entry} (e : es' ≡ written (entries_of ks xs ys n) es) where
    table_stored : shown_entries es' ≡ written (table_of ks xs ys n) (shown_entries es)
    table_stored = ap shown_entries e ∙ map_written shown_entry (entries_of ks xs ys n) es ∙ ap (λ (t : Table). written t (shown_entries es)) (entries_shown ks xs ys n)

    there : n ≤ length es'
    there = omega (arith, ap length e, may_store.1, entries_kept)
      where
        entries_kept : length es ≤ length (written (entries_of ks xs ys n) es)
        entries_kept = no_shorter (entries_of ks xs ys n) es

    pub may_load : EntryRoom ks xs ys n × (n ≤ length es')
    may_load = (entry_room, there)

    module _ {ks' xs' ys' : List ℕ} (loaded : EntriesLoaded es' n ks xs ys ks' xs' ys') where
      table_same : table_of ks' xs' ys' n ≡ table_of ks xs ys n
      table_same =
          loaded_table es' n there loaded
          ∙ first_shown shown_entry es' (table_of ks xs ys n) (shown_entries es) n table_stored (sym (table_of_length ks xs ys n))

      claim_same : (f : Form) → held_claim f ks' xs' ys' n gs ms k ≡ held_claim f ks xs ys n gs ms k
      claim_same f = ap (λ (t : Table). record { form = f; entries = t; goals = goals_of gs ms k }) table_same

      pub may_judge : Readable ks' xs' ys' n gs ms k os proof at m × RoomFor 1024 m vs cs
      may_judge = (
        record {
          table = numberable_as table_same r.table;
          goals = r.goals;
          decodes = r.decodes;
          near = r.near;
          form = r.form;
          file = rw (claim_same r.form) r.file;
          nodes = r.nodes;
        },
        record { rows = count r; nodes = omega (arith, count r, long.nodes); codes = omega (arith, count r, long.codes) },
      )

      module _ {before : Verdict} (first : before ≡ accepted) {v : Verdict} {vs' : List Node} {cs' : List ℕ}
          (judged : JudgedStored (λ f. held_claim f ks' xs' ys' n gs ms k) (proof_at proof at os k) vs cs v vs' cs') where
        verdict_is : v ≡ judge g.files.claim g.files.beside
        verdict_is =
            let f = r.form in
            judged.verdict f ∙ ap (λ (c : Claim). judge c (proof_at proof at os k)) (claim_same f) ∙ sym (readable_judged claim proof bc bp g f)

        lent_is : lent_of es' vs' cs' ≡ decoded_into g.files (lent_of es vs cs)
        lent_is =
            let nodes_are = same_proof claim proof bc bp g in
            rw (table_stored, sym (same_entries claim proof bc bp g), judged.stored.nodes, judged.stored.codes, sym nodes_are) refl

        pub lent_judged : LentJudged (firstly before (files claim proof)) es vs cs v es' vs' cs'
        lent_judged = rw (first, g.was) (record { answer = λ tag. verdict_is; lent = λ tag. lent_is })
