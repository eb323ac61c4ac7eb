-- what follows the opening of a claim file is refused with a number at a place just where the documents' stages say so
use Rattle.std.specs.Prelude.{◌≡◌, refl, List, [], ◌++◌, ℕ, ◌+◌}
use Rattle.std.proofs.Common.{sym, ap, inl, inr, append-nil, arith}
use Rattle.verdict.specs.Lists.{Each}
use Rattle.formula.specs.Spelled.{Spelled, a_stands_lem, b_stands_lem, records_of, record_of, by_length}
use Rattle.formula.specs.Claim.{Form, clm1, clm2, form_number, fewest}
use Rattle.formula.specs.Codes.{Formula}
use Rattle.bits.specs.IfSet.{if_set_lem}
use Rattle.encoding.specs.Encode.{TwoBytes, PairOfBytes, encode_pair, encode_two, encode_all, Counts}
use Rattle.encoding.specs.Parse.{Got, fault, got}
use Rattle.encoding.specs.GotLaws.{fault_not_got}
use Rattle.encoding.specs.Stages.{Stages, Stopped, ends_early, wrong, Unfit, raw, tested, followed, listing, climbing}
use Rattle.encoding.specs.ParseLaws.{bytes_exact, two_exact}
use Rattle.encoding.specs.ListLaws.{count_exact}
use Rattle.encoding.specs.ChainLaws.{each_as}
use Rattle.encoding.specs.Widths.{seq_takes, bytes_take, two_takes}
use Rattle.encoding.specs.FaultLaws.{Refuses, Stands, renames_each, refuses_as, raw_refuses, via_refuses, seq_refuses, tested_refuses}
use Rattle.encoding.specs.ListFaults.{count_refuses, listed_refuses}
use Rattle.encoding.proofs.ListFaults.{rising_refuses}
use Rattle.formula.specs.Members.{formula_tells}
use Rattle.encoding.specs.FieldLaws.{field_takes}
use Rattle.claim_files.specs.ClaimFile.{encode_entry, encode_entries, encode_members, encode_goal_count, FitKind, FitEntry, FitEntries, FitMembers, GoalCount}
use Rattle.claim_files.specs.ReadClaim.{early, made, entry, entries, members, goal_count, goals, claim_of, body}
use Rattle.claim_files.specs.ClaimExact.{fit_byte, kind_tells, kind_exact, entry_exact, entries_exact, members_exact, goal_count_exact}
use Rattle.claim_files.specs.ClaimDocument.{at_entry_count, at_entry, at_fields, at_goal_count, at_member_count, at_member, claim_stages}

-- the stages as the parsers are joined
abbrev EntryParts : Stages
EntryParts =
    followed encode_pair (λ p. PairOfBytes p × FitKind p) (tested 2 encode_pair PairOfBytes FitKind 13)
    (λ p. raw (if_set_lem (a_stands_lem p.0) 2 + if_set_lem (b_stands_lem p.0) 2))

abbrev CountPart : ℕ → ℕ → Stages
CountPart least top = tested 2 encode_two TwoBytes (Counts least top) 12

abbrev EntriesParts : Form → Stages
EntriesParts f = listing encode_two (λ n. TwoBytes n × Counts (fewest f) 256 n) (CountPart (fewest f) 256) encode_entry FitEntry EntryParts

abbrev MembersParts : List Spelled → Stages
MembersParts es = climbing encode_two (λ n. TwoBytes n × Counts 1 24 n) (CountPart 1 24) 2 encode_two TwoBytes (Formula (records_of es)) 14

-- the goal count stands in CLM2 alone
abbrev GoalCountPart : Form → Stages
GoalCountPart f = record { Stage = Unit; done = λ _. []; Reached = λ _. f ≡ clm2; width = λ _. 2; Wrong = λ _. Unfit encode_two TwoBytes (Counts 0 16) 72 }

abbrev GoalsParts : Form → List Spelled → Stages
GoalsParts f es = listing (encode_goal_count f) (GoalCount f) (GoalCountPart f) encode_members (FitMembers es) (MembersParts es)

entry_refuses : Refuses early entry EntryParts
entry_refuses =
    via_refuses
    (seq_refuses (tested_refuses (bytes_take early) (bytes_exact early) 13 kind_tells) kind_exact
    (λ p _. raw_refuses (seq_takes (field_takes early (a_stands_lem p.0)) (λ _. field_takes early (b_stands_lem p.0)))))
    made

entries_refuse : (f : Form) → Refuses early (entries f) (EntriesParts f)
unfolding entries
entries_refuse f =
    listed_refuses (count_exact (fewest f) 256 12 (two_exact early)) (count_refuses (fewest f) 256 12 (two_takes early) (two_exact early)) entry_exact entry_refuses

members_refuse : (es : List Spelled) → Refuses early (members es) (MembersParts es)
unfolding members
members_refuse es = rising_refuses (count_exact 1 24 12 (two_exact early)) (count_refuses 1 24 12 (two_takes early) (two_exact early)) (two_exact early) (two_takes early) (formula_tells (records_of es)) 14

goal_count_refuses : (f : Form) → Refuses early (goal_count f) (GoalCountPart f)
goal_count_refuses clm1 = record { says = λ s at n q b h. absurd (fault_not_got (sym h)); holds = holds }
  where
    other : clm1 ≡ clm2 → ⊥
    other e = let z : ◌≡◌ {A = ℕ} 1 2 = ap form_number e in omega arith

    holds : (s : List ℕ) (at n q : ℕ) → Stopped early (GoalCountPart clm1) s at n q → ◌≡◌ {A = Got ℕ} (got 1 s at) (fault n q)
    holds s at n q (ends_early σ t r i l) = absurd (other r)
    holds s at n q (wrong σ w t r i k) = absurd (other r)
goal_count_refuses clm2 = refuses_as (renames_each into) (renames_each from) (count_refuses 0 16 72 (two_takes early) (two_exact early))
  where
    into : Stands (tested 2 encode_two TwoBytes (Counts 0 16) 72) (GoalCountPart clm2)
    into σ r = record { stage = tt; reached = refl; same = refl; wide = refl; wrongs = λ w n u. u }

    from : Stands (GoalCountPart clm2) (tested 2 encode_two TwoBytes (Counts 0 16) 72)
    from σ r = record { stage = tt; reached = tt; same = refl; wide = refl; wrongs = λ w n u. u }

module _ (f : Form) where
  goals_refuse : (es : List Spelled) → FitEntries f es → Refuses early (goals f es) (GoalsParts f es)
  unfolding goals
  goals_refuse es h = listed_refuses (goal_count_exact f) (goal_count_refuses f) (members_exact f es h) (members_refuse es)

  abbrev Parts : Stages
  Parts = followed encode_entries (FitEntries f) (EntriesParts f) (GoalsParts f)

  parts_refuse : Refuses early (body f) Parts
  unfolding body
  parts_refuse = via_refuses (seq_refuses (entries_refuse f) (entries_exact f) goals_refuse) (claim_of f)

  -- each part is a stage in the documents' words
  parts_stages : Stands Parts (claim_stages f)
  parts_stages (inl (inl σ)) r = record { stage = at_entry_count; reached = tt; same = refl; wide = refl; wrongs = λ w n u. u }
  parts_stages (inl (inr (n, (es, inl σ)))) (c, ((i, h), r)) = record {
    stage = at_entry n es;
    reached = record { count = c.1; fewer = i; each = h };
    same = ap (λ (s : List ℕ). encode_two n ++ s) (sym (append-nil (encode_all encode_entry es)));
    wide = refl;
    wrongs = λ w n u. u;
  }
  parts_stages (inl (inr (n, (es, inr (p, σ))))) (c, ((i, h), (l, r))) = record {
    stage = at_fields n es p;
    reached = (record { count = c.1; fewer = i; each = h }, l.1);
    same = refl;
    wide = refl;
    wrongs = λ w n u. u;
  }
  parts_stages (inr (es, inl σ)) (h, e) = record { stage = at_goal_count es; reached = (e, h); same = sym (append-nil (encode_entries es)); wide = refl; wrongs = λ w n u. u }
  parts_stages (inr (es, inr (k, (gs, inl σ)))) (h, (c, ((i, g), r))) = record {
    stage = at_member_count es k gs;
    reached = record { entries = h; count = c; fewer = i; each = g };
    same = ap (λ (s : List ℕ). encode_entries es ++ (encode_goal_count f k ++ s)) (sym (append-nil (encode_all encode_members gs)));
    wide = refl;
    wrongs = λ w n u. u;
  }
  parts_stages (inr (es, inr (k, (gs, inr (n, (ms, σ)))))) (h, (c, ((i, g), (d, ((j, l, m), r))))) = record {
    stage = at_member es k gs n ms;
    reached =
        record {
          goals = record { entries = h; count = c; fewer = i; each = g };
          count = d.1;
          fewer = j;
          rising = l;
          each = each_as (λ x (_, q). q) m;
        };
    same = ap (λ (s : List ℕ). encode_entries es ++ (encode_goal_count f k ++ (encode_all encode_members gs ++ (encode_two n ++ s)))) (sym (append-nil (encode_all encode_two ms)));
    wide = refl;
    wrongs = λ w n u. u;
  }

  stages_parts : Stands (claim_stages f) Parts
  stages_parts at_entry_count r = record { stage = inl (inl tt); reached = tt; same = refl; wide = refl; wrongs = λ w n u. u }
  stages_parts (at_entry n es) r = record {
    stage = inl (inr (n, (es, inl tt)));
    reached = ((omega (arith, r.count), r.count), ((r.fewer, r.each), tt));
    same = ap (λ (s : List ℕ). encode_two n ++ s) (append-nil (encode_all encode_entry es));
    wide = refl;
    wrongs = λ w n u. u;
  }
  stages_parts (at_fields n es p) (r, l) = record {
    stage = inl (inr (n, (es, inr (p, tt))));
    reached = ((omega (arith, r.count), r.count), ((r.fewer, r.each), (((fit_byte p.0 p.1 l.1, omega (arith, l.0)), l), tt)));
    same = refl;
    wide = refl;
    wrongs = λ w n u. u;
  }
  stages_parts (at_goal_count es) (e, h) = record { stage = inr (es, inl tt); reached = (h, e); same = append-nil (encode_entries es); wide = refl; wrongs = λ w n u. u }
  stages_parts (at_member_count es k gs) r = record {
    stage = inr (es, inr (k, (gs, inl tt)));
    reached = (r.entries, (r.count, ((r.fewer, r.each), tt)));
    same = ap (λ (s : List ℕ). encode_entries es ++ (encode_goal_count f k ++ s)) (append-nil (encode_all encode_members gs));
    wide = refl;
    wrongs = λ w n u. u;
  }
  stages_parts (at_member es k gs n ms) r =
      let g = r.goals in
      let each : Each (λ (m : ℕ). TwoBytes m × Formula (records_of es) m) ms = each_as (λ m q. (omega (arith, q.inside, g.entries.count, by_length record_of es), q)) r.each in
      record {
        stage = inr (es, inr (k, (gs, inr (n, (ms, tt)))));
        reached = (g.entries, (g.count, ((g.fewer, g.each), ((omega (arith, r.count), r.count), ((r.fewer, r.rising, each), tt)))));
        same = ap (λ (s : List ℕ). encode_entries es ++ (encode_goal_count f k ++ (encode_all encode_members gs ++ (encode_two n ++ s)))) (append-nil (encode_all encode_two ms));
        wide = refl;
        wrongs = λ w n u. u;
      }

  pub body_refuses : Refuses early (body f) (claim_stages f)
  body_refuses = refuses_as (renames_each parts_stages) (renames_each stages_parts) parts_refuse
