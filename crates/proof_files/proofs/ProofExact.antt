-- what is read as a proof is a proof file of what was decoded, and a proof file is read so
use Rattle.std.specs.Prelude.{◌≡◌, ◌↔◌, List, [], ◌∷◌, ◌++◌, Bool, true, false, length}
use Rattle.std.proofs.Math.Path.{refl, ap}
use Rattle.std.proofs.Common.{sym, arith}
use Prim.Native.Nat.{ℕ, ◌+◌, ◌≤◌}
use Rattle.verdict.specs.Lists.{Each, none, Rising}
use Rattle.formula.specs.Rule
use Rattle.formula.specs.Table.{Table}
use Rattle.formula.specs.Nodes.{Proof}
use Rattle.formula.specs.Claim.{fewest, Claim, Derivation}
use Rattle.bits.specs.IfSet.{if_set_lem, if_set_le}
use Rattle.formula.specs.Fields.{low_map_lem}
use Rattle.encoding.specs.Encode.{Bytes, TwoBytes, encode_two, encode_part, encode_all, Counts}
use Rattle.encoding.specs.File.{good}
use Rattle.encoding.specs.ParseLaws.{Exact, seq_exact, via_exact, guard_exact, bytes_exact}
use Rattle.encoding.specs.ListLaws.{listed_exact}
use Rattle.encoding.specs.FileLaws as File
use Rattle.encoding.proofs.FileLaws as FileProofs
use Rattle.encoding.specs.Known.{known_exact}
use Rattle.proof_files.specs.ProofFile.{proof_opening, encode_rule, encode_links, links, encode_codes, full, encode_node, encode_roots, encode_body, encode_proof}
use Rattle.proof_files.specs.ProofFile.{Code, FitNode, FitRoots, FitProof, ProofFile}
use Rattle.proof_files.specs.ReadProof.{early, rule_of, rule_byte, made, node, nodes, derivation_of, body, read_proof}
use Rattle.proof_files.specs.ProofExact.{FitSequent, bit_stands, codes_exact, count_exact, fields_exact, fits_map, low_bits, map_fits_lem, roots_exact, rule_tells}

pub rule_exact : Exact rule_byte encode_rule (λ h. h.0 ≤ Rule.BACK)
rule_exact =
    via_exact (guard_exact (bytes_exact early) 33 rule_tells) rule_of (λ h. (low_map_lem h.0 + if_set_lem h.1 16, h.0))
    (λ h k. (((omega (arith, low_bits h.0, if_set_le h.1 16), omega arith), (k, map_fits_lem h.0 h.1)), ap (λ (b : Bool). (h.0, b)) (bit_stands h.0 h.1), refl))
    (λ p k. (k.1.0, ap (λ (m : ℕ). m ∷ p.1 ∷ []) (fits_map p.0 p.1 k.1.1)))

fits_sequent : (t : Table) (cs : List ℕ) → length cs ≤ 24 → Rising cs → Each (Code t) cs → FitSequent t (full cs) cs
fits_sequent t [] l r k = refl
fits_sequent t (c ∷ cs) l r k = record { count = (omega arith, l); rising = r; each = k }

full_sequent : (t : Table) (b : Bool) (cs : List ℕ) → FitSequent t b cs → b ≡ full cs
full_sequent t true [] f = absurd (omega (arith, f.count))
full_sequent t true (c ∷ cs) f = refl
full_sequent t false cs f = sym (ap full f)

empty_rises : Rising []
empty_rises i h = absurd (omega arith)

sequent_fits : (t : Table) (b : Bool) (cs : List ℕ) → FitSequent t b cs → (length cs ≤ 24) × Rising cs × Each (Code t) cs
sequent_fits t true cs f = (f.count.1, f.rising, f.each)
sequent_fits t false cs f = rw f (omega arith, empty_rises, none)

pub node_exact : (t : Table) → Exact (node t) encode_node (FitNode t)
unfolding node
node_exact t =
    via_exact (seq_exact rule_exact (λ h _. seq_exact (fields_exact h.0) (λ _ _. codes_exact t h.1))) made
    (λ v. ((v.rule, full v.codes), (links v, v.codes)))
    (λ v f. ((f.known, (f.fields, fits_sequent t v.codes f.few f.rising f.members)), refl, refl))
    (λ w h.
    let cs : List ℕ = w.1.1 in
    let (i, j, k) = sequent_fits t w.0.1 cs h.1.1 in (
      record { known = h.0; fields = h.1.0; few = i; rising = j; members = k },
      ap (λ (b : Bool). encode_rule (w.0.0, b) ++ (encode_links w.0.0 w.1.0 ++ encode_part b encode_codes cs)) (full_sequent t w.0.1 cs h.1.1),
    ))

pub nodes_exact : (t : Table) (n : ℕ) → Exact (nodes t n) (encode_all encode_node) (λ p. (length p ≡ n) × Each (FitNode t) p)
unfolding nodes
nodes_exact t n = listed_exact (known_exact n) (node_exact t)

module _ (c : Claim) where
  -- node count, roots and nodes as they are read
  abbrev Counted : ℕ × (List ℕ × Proof) → Type 0
  Counted w =
      (TwoBytes w.0 × Counts (fewest c.form) 1024 w.0)
      × (FitRoots c.form (length c.goals) w.0 w.1.0 × ((length w.1.1 ≡ w.0) × Each (FitNode c.entries) w.1.1))

  pub body_exact : Exact (body c) (encode_body c.form) (FitProof c)
  unfolding body
  body_exact =
      via_exact
      (seq_exact (count_exact c.form) (λ n h. seq_exact (roots_exact c.form (length c.goals) n h.1.1) (λ _ _. nodes_exact c.entries n)))
      derivation_of
      (λ d. (length d.nodes, (d.roots, d.nodes)))
      (λ d k. (((omega (arith, k.nodes.count), k.nodes.count), (k.roots, (refl, k.nodes.each))), refl, refl))
      from
    where
      from : (w : ℕ × (List ℕ × Proof)) → Counted w
          → FitProof c (derivation_of w) × (encode_two w.0 ++ (encode_roots c.form w.1.0 ++ encode_all encode_node w.1.1) ≡ encode_body c.form (derivation_of w))
      from w (h, (k, (e, l))) = (
        record { nodes = record { count = rw e h.1; each = l }; roots = rw e k },
        ap (λ (n : ℕ). encode_two n ++ (encode_roots c.form w.1.0 ++ encode_all encode_node w.1.1)) (sym e),
      )

module _ {c : Claim} where
  -- a proof file is read, and decoded
  pub proof_good : {bytes : List ℕ} {d : Derivation} → ProofFile c bytes d → read_proof c bytes ≡ good d
  unfolding read_proof
  proof_good f = File.file_good (proof_opening c.form) 30 early (body c) (body_exact c) f

  -- what is read is a proof file, of what was decoded
  pub good_proof : {bytes : List ℕ} {d : Derivation} → Bytes bytes → read_proof c bytes ≡ good d → ProofFile c bytes d
  unfolding read_proof
  good_proof b h = FileProofs.good_file (proof_opening c.form) 30 early (body c) (body_exact c) b h

  pub proof_exact : {bytes : List ℕ} {d : Derivation} → Bytes bytes → ProofFile c bytes d ↔ (read_proof c bytes ≡ good d)
  proof_exact b = (proof_good, good_proof b)

  -- one file, one decoding
  pub one_proof : {bytes : List ℕ} {d e : Derivation} → ProofFile c bytes d → ProofFile c bytes e → d ≡ e
  one_proof f g = File.one_decoding (proof_opening c.form) 30 early (body c) (body_exact c) f g

  -- decoding what was encoded gives the records back
  pub proof_decodes : {d : Derivation} → FitProof c d → read_proof c (encode_proof c.form d) ≡ good d
  proof_decodes f = proof_good (record { encoded = refl; fits = f })

-- encoding what was decoded gives the bytes back
pub proof_encodes : (c : Claim) {bytes : List ℕ} {d : Derivation} → Bytes bytes → read_proof c bytes ≡ good d → encode_proof c.form d ≡ bytes
proof_encodes c b h = sym (good_proof {c = c} b h).encoded
