-- a proof file is refused with a number at a place just when its bytes earn that
use Rattle.std.specs.Prelude.{◌≡◌, refl, ◌↔◌, ◌⊎◌, List, false, ℕ, ◌<◌, ◌≤◌, length}
use Rattle.std.proofs.Common.{sym, ap, inl, inr, append-nil, arith}
use Rattle.verdict.specs.Lists.{Each, Rising}
use Rattle.verdict.specs.Tells.{fails}
use Rattle.formula.specs.Table.{Table}
use Rattle.formula.specs.Nodes.{Proof}
use Rattle.formula.specs.Claim.{Form, clm1, clm2, form_number, fewest, Claim, Derivation}
use Rattle.encoding.specs.Encode.{Bytes, TwoBytes, encode_two, encode_all, Counts}
use Rattle.encoding.specs.Stages.{Stages, raw, tested, after, followed, climbing}
use Rattle.encoding.specs.ChainLaws.{each_as, chain_each, each_chain}
use Rattle.encoding.specs.ParseLaws.{two_exact}
use Rattle.encoding.specs.Widths.{two_takes}
use Rattle.encoding.specs.FaultLaws.{Refuses, Stands, CutIn, WrongIn, renames_each, refuses_as, via_refuses, seq_refuses}
use Rattle.encoding.specs.ListFaults.{count_refuses, times_refuses}
use Rattle.encoding.proofs.ListFaults.{rising_refuses}
use Rattle.encoding.specs.File.{refused, no_opening}
use Rattle.encoding.specs.FileLaws as File
use Rattle.encoding.proofs.FileLaws as FileProofs
use Rattle.encoding.specs.Opening.{opens, opens_tells}
use Rattle.encoding.specs.Known.{nothing, known_exact, known_refuses}
use Rattle.proof_files.specs.ProofFile.{proof_opening, encode_node, encode_roots, FitNode, FitRoots, ProofFile}
use Rattle.proof_files.specs.ReadProof.{early, roots, nodes, derivation_of, body, read_proof}
use Rattle.proof_files.specs.ProofExact.{count_exact, node_tells, roots_exact}
use Rattle.proof_files.proofs.ProofExact.{node_exact, body_exact}
use Rattle.proof_files.specs.ProofDocument.{node_stages, SomeRoots, root_stages, at_node_count, at_root, at_node, proof_stages, ProofEarns}
use Rattle.proof_files.proofs.NodeFaults.{node_refuses}

-- the stages as the parsers are joined
abbrev RootParts : ℕ → ℕ → Stages
RootParts g n = climbing nothing (λ k. k ≡ g) (raw 0) 2 encode_two TwoBytes (λ r. r < n) 34

module _ (g n : ℕ) where
  before : {k : ℕ} {rs : List ℕ} → k ≡ g → (length rs < k) × Rising rs × Each (λ (r : ℕ). TwoBytes r × (r < n)) rs → SomeRoots clm2 g n rs
  before e (i, u, a) = record { several = refl; fewer = rw (← e) i; rising = u; each = each_as (λ r h. h.1) a }

  -- the count of the roots is known, and cannot stop the reading
  parts_cut : (σ : (RootParts g n).Stage) (t : List ℕ) → (RootParts g n).Reached σ → length t < (RootParts g n).width σ → CutIn (root_stages clm2 g n) ((RootParts g n).done σ) t
  parts_cut (inl σ) t r l = absurd (omega arith)
  parts_cut (inr (k, (rs, σ))) t (e, (h, z)) l = (rs, before e h, sym (append-nil (encode_all encode_two rs)), l)

  parts_wrong : (σ : (RootParts g n).Stage) (w : List ℕ) (m : ℕ) → (RootParts g n).Reached σ → (RootParts g n).Wrong σ w m → WrongIn (root_stages clm2 g n) ((RootParts g n).done σ) w m
  parts_wrong (inl σ) w m r u = absurd u
  parts_wrong (inr (k, (rs, σ))) w m (e, (h, z)) u = (rs, before e h, sym (append-nil (encode_all encode_two rs)), u)

  -- of so few nodes every number is one of two bytes
  stages_parts : n ≤ 1024 → Stands (root_stages clm2 g n) (RootParts g n)
  stages_parts few rs r = record {
    stage = inr (g, (rs, tt));
    reached = (refl, ((r.fewer, r.rising, each_as (λ x h. (omega arith, h)) r.each), tt));
    same = append-nil (encode_all encode_two rs);
    wide = refl;
    wrongs = λ w m u. u;
  }

-- PRF1 writes no roots
unwritten : {g n : ℕ} {rs : List ℕ} → SomeRoots clm1 g n rs → ⊥
unwritten r = let z : ◌≡◌ {A = ℕ} 1 2 = ap form_number r.several in omega arith

roots_refuse : (f : Form) (g n : ℕ) → n ≤ 1024 → Refuses early (roots f g n) (root_stages f g n)
unfolding roots
roots_refuse clm1 g n few =
    refuses_as
    (record { cut = λ σ t r l. absurd (omega arith); wrong = λ σ w m r u. absurd u })
    (renames_each (λ rs r. absurd (unwritten r)))
    (known_refuses early _)
roots_refuse clm2 g n few =
    refuses_as (record { cut = parts_cut g n; wrong = parts_wrong g n }) (renames_each (stages_parts g n few))
    (rising_refuses (known_exact g) (known_refuses early g) (two_exact early) (two_takes early) (node_tells n) 34)

-- nodes that do not look at each other
abbrev NodesParts : Table → ℕ → Stages
NodesParts t n = after (encode_all encode_node) (λ (p : Proof). (length p < n) × Each (FitNode t) p) (λ _. node_stages t)

nodes_refuse : (t : Table) (n : ℕ) → Refuses early (nodes t n) (NodesParts t n)
unfolding nodes
nodes_refuse t n =
    refuses_as
    (renames_each (λ (p, σ) ((i, h), r). record { stage = (p, σ); reached = ((i, chain_each h), r); same = refl; wide = refl; wrongs = λ w m u. u }))
    (renames_each (λ (p, σ) ((i, h), r). record { stage = (p, σ); reached = ((i, each_chain h), r); same = refl; wide = refl; wrongs = λ w m u. u }))
    (times_refuses (λ _. node_exact t) (λ _. node_refuses t) n 0)

module _ (c : Claim) where
  abbrev Parts : Stages
  Parts =
      followed encode_two (λ n. TwoBytes n × Counts (fewest c.form) 1024 n) (tested 2 encode_two TwoBytes (Counts (fewest c.form) 1024) 32)
      (λ n. followed (encode_roots c.form) (FitRoots c.form (length c.goals) n) (root_stages c.form (length c.goals) n) (λ _. NodesParts c.entries n))

  -- each part is a stage in the documents' words
  parts_proof : Stands Parts (proof_stages c)
  parts_proof (inl σ) r = record { stage = at_node_count; reached = tt; same = refl; wide = refl; wrongs = λ w m u. u }
  parts_proof (inr (n, inl rs)) (k, r) = record { stage = at_root n rs; reached = (k.1, r); same = refl; wide = refl; wrongs = λ w m u. u }
  parts_proof (inr (n, inr (rs, (p, σ)))) (k, (h, ((i, a), r))) = record {
    stage = at_node n rs p σ;
    reached = (record { count = k.1; roots = h; fewer = i; each = a }, r);
    same = refl;
    wide = refl;
    wrongs = λ w m u. u;
  }

  proof_parts_lem : Stands (proof_stages c) Parts
  proof_parts_lem at_node_count r = record { stage = inl tt; reached = tt; same = refl; wide = refl; wrongs = λ w m u. u }
  proof_parts_lem (at_root n rs) (k, r) = record { stage = inr (n, inl rs); reached = ((omega arith, k), r); same = refl; wide = refl; wrongs = λ w m u. u }
  proof_parts_lem (at_node n rs p σ) (s, r) = record {
    stage = inr (n, inr (rs, (p, σ)));
    reached = ((omega (arith, s.count), s.count), (s.roots, ((s.fewer, s.each), r)));
    same = refl;
    wide = refl;
    wrongs = λ w m u. u;
  }

  pub body_refuses : Refuses early (body c) (proof_stages c)
  unfolding body
  body_refuses =
      via_refuses
      (refuses_as (renames_each parts_proof) (renames_each proof_parts_lem)
      (seq_refuses (count_refuses (fewest c.form) 1024 32 (two_takes early) (two_exact early)) (count_exact c.form)
      (λ n k. seq_refuses (roots_refuse c.form (length c.goals) n k.1.1) (roots_exact c.form (length c.goals) n k.1.1) (λ _ _. nodes_refuse c.entries n))))
      derivation_of

module _ (c : Claim) where
  -- no number lies
  pub proof_earned : {bytes : List ℕ} {n q : ℕ} → Bytes bytes → read_proof c bytes ≡ refused n q → ProofEarns c bytes n q
  unfolding read_proof
  proof_earned b h = FileProofs.refused_earned (proof_opening c.form) 30 early (body c) (body_exact c) (body_refuses c) b h

  -- and each is given where it is earned
  pub proof_refused : {bytes : List ℕ} {n q : ℕ} → ProofEarns c bytes n q → read_proof c bytes ≡ refused n q
  unfolding read_proof
  proof_refused e = File.earned_refused (proof_opening c.form) 30 early (body c) (body_exact c) (body_refuses c) e

  -- exactly what the documents say is refused, with its number and place
  pub proof_refusal : {bytes : List ℕ} {n q : ℕ} → Bytes bytes → (read_proof c bytes ≡ refused n q) ↔ ProofEarns c bytes n q
  proof_refusal b = (proof_earned b, proof_refused)

  pub one_proof_refusal : {bytes : List ℕ} {n q m r : ℕ} → ProofEarns c bytes n q → ProofEarns c bytes m r → (n ≡ m) × (q ≡ r)
  one_proof_refusal f g = FileProofs.one_refusal (proof_opening c.form) 30 early (body c) (body_exact c) (body_refuses c) f g

  pub proof_or_refusal : (bytes : List ℕ) → Bytes bytes → ((d : Derivation) × ProofFile c bytes d) ⊎ ((n : ℕ) × (q : ℕ) × ProofEarns c bytes n q)
  proof_or_refusal bytes b = FileProofs.outcome (proof_opening c.form) 30 early (body c) (body_exact c) (body_refuses c) bytes b

  pub proof_not_both : {bytes : List ℕ} {d : Derivation} {n q : ℕ} → ProofFile c bytes d → ProofEarns c bytes n q → ⊥
  proof_not_both f g = FileProofs.not_both (proof_opening c.form) 30 early (body c) (body_exact c) (body_refuses c) f g

  -- the program's test of the opening decides refusal 30
  pub proof_closed : (bytes : List ℕ) → opens (proof_opening c.form) bytes ≡ false → read_proof c bytes ≡ refused 30 0
  proof_closed bytes h = proof_refused (no_opening (λ r e. fails (opens_tells (proof_opening c.form) bytes) h (r, e)))
