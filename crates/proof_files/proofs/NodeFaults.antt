-- which faults the parser of a node reports: what comes next there, and what may not
use Rattle.std.specs.Prelude.{refl, List, [], ◌++◌, true, false, ℕ, ◌+◌, ◌≤◌}
use Rattle.std.proofs.Common.{sym, ap, inl, inr, append-nil, arith}
use Rattle.std.proofs.lemmas.Bool.{false≢true}
use Rattle.formula.specs.Rule
use Rattle.formula.specs.Table.{Table}
use Rattle.formula.specs.Codes.{Formula, entry_of_lem}
use Rattle.bits.specs.IfSet.{if_set_lem}
use Rattle.formula.specs.Fields.{has_principal_lem, has_first_lem, has_second_lem, has_back_lem}
use Rattle.encoding.specs.Encode.{OneByte, TwoBytes, PairOfBytes, encode_byte, encode_pair, encode_two, encode_all, Counts}
use Rattle.encoding.specs.Stages.{Stages, raw, tested, present, followed, climbing}
use Rattle.encoding.specs.ParseLaws.{byte_exact, bytes_exact, two_exact}
use Rattle.encoding.specs.ListLaws.{count_exact}
use Rattle.encoding.specs.Widths.{byte_takes, bytes_take, two_takes}
use Rattle.encoding.specs.FaultLaws.{Refuses, Stands, renames_each, refuses_as, raw_refuses, via_refuses, part_refuses, seq_refuses, tested_refuses}
use Rattle.encoding.specs.ListFaults.{count_refuses}
use Rattle.encoding.proofs.ListFaults.{rising_refuses}
use Rattle.formula.specs.Members.{formula_tells}
use Rattle.proof_files.specs.ProofFile.{encode_rule, encode_links, FitRule, FitLinks}
use Rattle.proof_files.specs.ReadProof.{early, rule_of, sequent, made, node}
use Rattle.proof_files.specs.ProofExact.{rule_tells, fields_exact}
use Rattle.proof_files.proofs.ProofExact.{rule_exact}
use Rattle.proof_files.specs.ProofDocument.{at_rule, at_fields, at_code_count, at_code, node_stages}
use Rattle.proof_files.specs.NodeFaults.{fields_take}

-- the stages as the parsers are joined
abbrev CodesParts : Table → Stages
CodesParts t = climbing encode_byte (λ n. OneByte n × Counts 1 24 n) (tested 1 encode_byte OneByte (Counts 1 24) 32) 2 encode_two TwoBytes (λ c. Formula t (entry_of_lem c)) 34

abbrev LinksPart : ℕ → Stages
LinksPart r = raw (if_set_lem (has_principal_lem r) 2 + (if_set_lem (has_first_lem r) 2 + (if_set_lem (has_second_lem r) 2 + if_set_lem (has_back_lem r) 2)))

abbrev NodeParts : Table → Stages
NodeParts t =
    followed encode_rule (λ h. h.0 ≤ Rule.BACK) (tested 2 encode_pair PairOfBytes FitRule 33)
    (λ h. followed (encode_links h.0) (FitLinks h.0) (LinksPart h.0) (λ _. present h.1 (CodesParts t)))

sequent_refuses : (t : Table) → Refuses early (sequent t) (CodesParts t)
unfolding sequent
sequent_refuses t =
    rising_refuses (count_exact 1 24 32 (byte_exact early)) (count_refuses 1 24 32 (byte_takes early) (byte_exact early)) (two_exact early) (two_takes early)
    (λ c. formula_tells t (entry_of_lem c)) 34

parts_refuse : (t : Table) → Refuses early (node t) (NodeParts t)
unfolding node
parts_refuse t =
    via_refuses
    (seq_refuses (via_refuses (tested_refuses (bytes_take early) (bytes_exact early) 33 rule_tells) rule_of) rule_exact
    (λ h _. seq_refuses (raw_refuses (fields_take h.0)) (fields_exact h.0) (λ _ _. part_refuses [] (sequent_refuses t) h.1)))
    made

module _ (t : Table) where
  -- each part is a stage in the documents' words
  parts_stages : Stands (NodeParts t) (node_stages t)
  parts_stages (inl σ) r = record { stage = at_rule; reached = tt; same = refl; wide = refl; wrongs = λ w n u. u }
  parts_stages (inr ((r, b), inl σ)) (k, z) = record {
    stage = at_fields r b;
    reached = k;
    same = refl;
    wide = refl;
    wrongs = λ w n u. u;
  }
  parts_stages (inr ((r, false), inr (v, σ))) (k, (f, (e, z))) = absurd (false≢true e)
  parts_stages (inr ((r, true), inr (v, inl σ))) (k, (f, (e, z))) = record {
    stage = at_code_count r v;
    reached = (k, f);
    same = ap (λ (s : List ℕ). encode_rule (r, true) ++ s) (sym (append-nil (encode_links r v)));
    wide = refl;
    wrongs = λ w n u. u;
  }
  parts_stages (inr ((r, true), inr (v, inr (m, (cs, σ))))) (k, (f, (e, (d, ((j, u, a), z))))) = record {
    stage = at_code r v m cs;
    reached = (k, f, record { count = d.1; fewer = j; rising = u; each = a });
    same = ap (λ (s : List ℕ). encode_rule (r, true) ++ (encode_links r v ++ (encode_byte m ++ s))) (sym (append-nil (encode_all encode_two cs)));
    wide = refl;
    wrongs = λ w n u. u;
  }

  stages_parts : Stands (node_stages t) (NodeParts t)
  stages_parts at_rule r = record { stage = inl tt; reached = tt; same = refl; wide = refl; wrongs = λ w n u. u }
  stages_parts (at_fields r b) k = record {
    stage = inr ((r, b), inl tt);
    reached = (k, tt);
    same = refl;
    wide = refl;
    wrongs = λ w n u. u;
  }
  stages_parts (at_code_count r v) (k, f) = record {
    stage = inr ((r, true), inr (v, inl tt));
    reached = (k, (f, (refl, tt)));
    same = ap (λ (s : List ℕ). encode_rule (r, true) ++ s) (append-nil (encode_links r v));
    wide = refl;
    wrongs = λ w n u. u;
  }
  stages_parts (at_code r v m cs) (k, f, c) = record {
    stage = inr ((r, true), inr (v, inr (m, (cs, tt))));
    reached = (k, (f, (refl, ((omega (arith, c.count), c.count), ((c.fewer, c.rising, c.each), tt)))));
    same = ap (λ (s : List ℕ). encode_rule (r, true) ++ (encode_links r v ++ (encode_byte m ++ s))) (append-nil (encode_all encode_two cs));
    wide = refl;
    wrongs = λ w n u. u;
  }

  pub node_refuses : Refuses early (node t) (node_stages t)
  node_refuses = refuses_as (renames_each parts_stages) (renames_each stages_parts) (parts_refuse t)
