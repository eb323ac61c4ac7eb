-- the writer answers what its judges find in the columns that hold the records
use Rattle.std.specs.Prelude.{◌≡◌, List, [], ℕ, ◌≤◌, ltb, length, take}
use Rattle.std.proofs.Math.Path.{refl}
use Rattle.std.proofs.Common.{sym, ap, ◌∙◌, arith}
use Rattle.std.proofs.Math.Decide.{dec_le}
use Rattle.std.proofs.lemmas.List.{length-replicate}
use Rattle.verdict.specs.Verdict as verdicts
use Rattle.verdict.specs.Verdict.{Verdict, accepted}
use Rattle.verdict.specs.Lists.{values_from_length}
use Rattle.formula.specs.Table.{Table}
use Rattle.formula.specs.Claim.{Form, form_number, fewest, Derivation}
use Rattle.formula.specs.Records.{NodeRecord}
use Rattle.formula.specs.Plain.{table_of, table_of_length, table_of_kind}
use Rattle.encoding.specs.Parse.{pick}
use Rattle.encoding.specs.File.{Reading, refused, good}
use Rattle.claim_files.specs.ClaimFile.{encode_claim}
use Rattle.proof_files.specs.ProofFile.{encode_proof}
use Rattle.proof_files.specs.ProofParts.{kind_table, kind_claim}
use Rattle.tree.specs.Owners.{tree_judged}
use Rattle.reader.specs.Files.{firstly, and_then}
use Rattle.writing.specs.RecordBytes.{claim_bytes, split, proof_bytes}
use Rattle.writing.specs.Goals.{roots_of, split_count}
use Rattle.writing.specs.Spelling.{spelled_claim}
use Rattle.writing.specs.Writing.{ClaimRecords, ProofRecords, claim_file, proof_file, if_room, claim_reading, proof_reading, both_reading, writing_claim, writing_proof}
use Rattle.writing.specs.Ends.{End, next, stop, go_on, read_by, stop_not_next}
use Rattle.writing.specs.FieldEnds.{out_of_range}
use Rattle.writing.specs.ProofEnds.{nodes_over, proof_end}
use Rattle.writing.proofs.ProofEnds.{proof_passed}
use Rattle.writing.specs.ClaimTrips.{claim_of, form_named}
use Rattle.writing.specs.ProofTrips.{derivation_of}
use Rattle.writing.specs.Encoded.{judged, claim_judged, proof_judged, ClaimPasses}
use Rattle.writing.proofs.Encoded.{claim_passes, proof_passes}
use Rattle.writing.specs.Readings.{by_kinds_alone}
use Rattle.writing.proofs.Readings.{claim_reading_lem, proof_reading_lem}
use Rattle.writing.specs.Held.{plain_record, records_of, EntriesHeld, NodesHeld}
use Rattle.writing.specs.Answers.{answered, enough_all, enough_claim}

room_answered : (room o : ℕ) (file encoded : List ℕ) → o ≡ length encoded → file ≡ encoded → if_room room file ≡ pick (ltb room o) (refused 70 0) (good encoded)
room_answered room o file encoded long same = rw (same, long) refl

module _ (form : ℕ) (es : Table) (n : ℕ) (ks xs ys gs ms : List ℕ) (held : EntriesHeld es n ks xs ys) where
  abbrev given : ClaimRecords
  given = record { form = form; entries = es; count = n; counts = gs; members = ms }

  abbrev t : Table
  t = table_of ks xs ys n

  abbrev claimed : ℕ → Form → Reading (List ℕ)
  claimed room f = and_then (claim_reading f given) (λ _. if_room room (claim_file f given))

  module _ (long : 256 ≤ length es) where
    module _ (f : Form) (named : form ≡ form_number f) where
      same_judged : claim_judged f n (take n es) gs ms ≡ claim_judged f n t gs ms
      same_judged = go (dec_le n 256)
        where
          go : Dec (n ≤ 256) → claim_judged f n (take n es) gs ms ≡ claim_judged f n t gs ms
          go (yes few) = ap (λ (l : Table). claim_judged f n l gs ms) (held long few)
          go (no many) = rw (out_of_range (fewest f) 256 n (λ w. omega (arith, w.1))) refl

      read_as : {e : End} → claim_judged f n t gs ms ≡ e → claim_reading f given ≡ read_by (claim_of f given) e
      read_as h = claim_reading_lem f given (enough_claim form es n ks xs ys gs ms held long) ∙ ap (read_by (claim_of f given)) (same_judged ∙ h)

      claim_stops : {m q : ℕ} (room : ℕ) → claim_judged f n t gs ms ≡ stop m q → writing_claim given room ≡ refused m q
      unfolding writing_claim
      claim_stops room h = rw (enough_claim form es n ks xs ys gs ms held long, form_named f (claimed room) named, read_as h) refl

      module _ {o : ℕ} (h : claim_judged f n t gs ms ≡ next o) where
        passes : ClaimPasses f n t gs ms o
        passes = claim_passes f n t gs ms (table_of_length ks xs ys n) h

        same_table : take n es ≡ t
        same_table = held long passes.entries

        past_claim : (room : ℕ) → writing_claim given room ≡ answered (next o) room (encode_claim (spelled_claim f t (split gs ms)))
        unfolding writing_claim
        past_claim room =
            rw (enough_claim form es n ks xs ys gs ms held long, form_named f (claimed room) named, read_as h)
            (room_answered room o (claim_file f given) _ passes.end (ap (λ (l : Table). claim_bytes f n l (split gs ms)) same_table ∙ passes.encoded))

      pub claim_answers : (room : ℕ) → writing_claim given room ≡ answered (claim_judged f n t gs ms) room (encode_claim (spelled_claim f t (split gs ms)))
      claim_answers room = go (claim_judged f n t gs ms) refl
        where
          go : (e : End) → claim_judged f n t gs ms ≡ e → writing_claim given room ≡ answered e room (encode_claim (spelled_claim f t (split gs ms)))
          go (stop m q) h = claim_stops room h
          go (next o) h = past_claim h room

-- a proof's records over the same claim: its kinds are all that the judge of nodes looks at
module _ (form : ℕ) (es : Table) (n : ℕ) (ks xs ys gs ms : List ℕ) (held : EntriesHeld es n ks xs ys)
    (vs : List NodeRecord) (m : ℕ) (rs ls ns os cs : List ℕ) (held_nodes : NodesHeld vs m rs ls ns) where
  abbrev beside : ProofRecords
  beside = record { nodes = vs; count = m; roots = os; codes = cs }

  abbrev over : ClaimRecords
  over = record { form = form; entries = es; count = n; counts = gs; members = ms }

  abbrev records : List NodeRecord
  records = records_of rs ls ns m

  abbrev derived : Form → Derivation
  derived f = record { roots = roots_of f os; nodes = nodes_over records cs }

  abbrev proved : ℕ → Form → Reading (List ℕ)
  proved room f = and_then (both_reading f over beside) (λ x. firstly (tree_judged x.beside.roots x.beside.nodes) (if_room room (proof_file f beside)))

  module _ (long : 256 ≤ length es) (long_nodes : 1024 ≤ length vs) (long_codes : 24576 ≤ length cs) where
    module _ (f : Form) (named : form ≡ form_number f) where
      -- the claim's records come first
      pub claim_stops_proof : {k q : ℕ} (room : ℕ) → claim_judged f n (table_of ks xs ys n) gs ms ≡ stop k q → writing_proof over beside room ≡ refused k q
      unfolding writing_proof both_reading
      claim_stops_proof room h = rw (enough_all form es n ks xs ys gs ms held vs m rs ls ns os cs held_nodes long long_nodes long_codes, form_named f (proved room) named, read_as form es n ks xs ys gs ms held long f named h) refl

      abbrev end : End
      end = proof_end f (length gs) (kind_table ks n) m os records cs

      module _ {o : ℕ} (h : claim_judged f n (table_of ks xs ys n) gs ms ≡ next o) where
        same_nodes : m ≤ 1024 → take m vs ≡ records
        same_nodes = held_nodes long_nodes

        same_ends : proof_end f (length gs) (kind_table ks n) m os (take m vs) cs ≡ end
        same_ends = go (dec_le m 1024)
          where
            go : Dec (m ≤ 1024) → proof_end f (length gs) (kind_table ks n) m os (take m vs) cs ≡ end
            go (yes few) = ap (λ (l : List NodeRecord). proof_end f (length gs) (kind_table ks n) m os l cs) (same_nodes few)
            go (no many) = rw (out_of_range (fewest f) 1024 m (λ w. omega (arith, w.1))) refl

        over_kinds : proof_reading f beside (claim_of f over) ≡ proof_reading f beside (kind_claim f ks n (length gs))
        over_kinds =
            ap (λ (l : Table). proof_reading f beside (record { form = f; entries = l; goals = split gs ms })) (same_table form es n ks xs ys gs ms held long f named h)
            ∙ by_kinds_alone (record { form = f; entries = table_of ks xs ys n; goals = split gs ms }) beside (record { many = table_of_length ks xs ys n; same = table_of_kind ks xs ys n })
            ∙ ap (λ (k : ℕ). proof_reading f beside (kind_claim f ks n k)) (split_count gs ms)

        read_proof : {e : End} → end ≡ e → proof_reading f beside (claim_of f over) ≡ read_by (derivation_of f beside) e
        read_proof k =
            over_kinds
            ∙ proof_reading_lem (kind_claim f ks n (length gs)) beside (record { nodes = long_nodes; codes = long_codes })
            ∙ ap (λ (k : ℕ). read_by (derivation_of f beside) (proof_end f k (kind_table ks n) m os (take m vs) cs)) (length-replicate {A = List ℕ} (length gs) [])
            ∙ ap (read_by (derivation_of f beside)) (same_ends ∙ k)

        read_claim : claim_reading f over ≡ good (claim_of f over)
        read_claim = read_as form es n ks xs ys gs ms held long f named h

        -- 32 to 34
        bytes_stop : {k q : ℕ} (room : ℕ) → end ≡ stop k q → writing_proof over beside room ≡ refused k q
        unfolding writing_proof both_reading
        bytes_stop room e = rw (enough_all form es n ks xs ys gs ms held vs m rs ls ns os cs held_nodes long long_nodes long_codes, form_named f (proved room) named, read_claim, read_proof e) refl

        few_nodes : {u : ℕ} → end ≡ next u → m ≤ 1024
        few_nodes e = (proof_passed f (length gs) (kind_table ks n) m os records cs (λ _. values_from_length (plain_record rs ls ns) 0 m) long_codes _ e).nodes.1

        same_derived : {u : ℕ} → end ≡ next u → derivation_of f beside ≡ derived f
        same_derived e = ap (λ (l : List NodeRecord). record { roots = roots_of f os; nodes = nodes_over l cs }) (same_nodes (few_nodes e))

        past_bytes : {u : ℕ} (room : ℕ) → end ≡ next u → writing_proof over beside room ≡ firstly (tree_judged (derived f).roots (derived f).nodes) (if_room room (proof_file f beside))
        unfolding writing_proof both_reading
        past_bytes room e =
            rw (enough_all form es n ks xs ys gs ms held vs m rs ls ns os cs held_nodes long long_nodes long_codes, form_named f (proved room) named, read_claim, read_proof e)
            (ap (λ (d : Derivation). firstly (tree_judged d.roots d.nodes) (if_room room (proof_file f beside))) (same_derived e))

        proof_stops : {k q : ℕ} (room : ℕ) → proof_judged f (length gs) (kind_table ks n) m os records cs ≡ stop k q → writing_proof over beside room ≡ refused k q
        proof_stops {k} {q} room j = go end refl j
          where
            by_tree : (v : Verdict) (u : ℕ) → judged v u ≡ stop k q → v ≡ verdicts.refused k q
            by_tree accepted u e = absurd (stop_not_next (sym e))
            by_tree (verdicts.refused a b) u e = cc e

            go : (e : End) → end ≡ e → go_on e (judged (tree_judged (derived f).roots (derived f).nodes)) ≡ stop k q → writing_proof over beside room ≡ refused k q
            go (stop a b) e j = bytes_stop room (e ∙ j)
            go (next u) e j = past_bytes room e ∙ rw (by_tree (tree_judged (derived f).roots (derived f).nodes) u j) refl

        past_proof : {u : ℕ} → proof_judged f (length gs) (kind_table ks n) m os records cs ≡ next u → (room : ℕ) → writing_proof over beside room ≡ answered (next u) room (encode_proof f (derived f))
        past_proof {u} j room =
            let p = proof_passes f (length gs) (kind_table ks n) m os records cs (λ _. values_from_length (plain_record rs ls ns) 0 m) long_codes j in
            let same : proof_file f beside ≡ encode_proof f (derived f) = ap (λ (l : List NodeRecord). proof_bytes f m os l cs) (same_nodes p.nodes) ∙ p.encoded in
            past_bytes room p.walked ∙ rw p.tree (room_answered room u (proof_file f beside) _ p.end same)

        pub proof_answers : (room : ℕ) → writing_proof over beside room ≡ answered (proof_judged f (length gs) (kind_table ks n) m os records cs) room (encode_proof f (derived f))
        proof_answers room = go (proof_judged f (length gs) (kind_table ks n) m os records cs) refl
          where
            go : (e : End) → proof_judged f (length gs) (kind_table ks n) m os records cs ≡ e → writing_proof over beside room ≡ answered e room (encode_proof f (derived f))
            go (stop k q) j = proof_stops room j
            go (next u) j = past_proof j room
