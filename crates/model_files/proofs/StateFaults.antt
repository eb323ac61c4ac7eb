-- which faults the bytes of a state have, and that each is reported
use Rattle.std.specs.Prelude.{◌≡◌, refl, List, [], ◌++◌, Bool, true, false, ℕ, zero, suc, ◌<◌, length}
use Rattle.std.proofs.Common.{sym, subst, ap, ◌∙◌, inl, inr, append-nil, append_assoc, arith}
use Rattle.std.proofs.Math.Decide.{dec_lt}
use Rattle.verdict.specs.Lists.{Each, Rising}
use Rattle.verdict.specs.Tells.{Tells, ltb_tells}
use Rattle.encoding.specs.Encode.{OneByte, encode_byte, encode_part, encode_all, Counts}
use Rattle.encoding.specs.Parse.{Parser, via, seq, part, byte, times}
use Rattle.encoding.specs.Stages.{Stages, raw, Unfit, unfit, tested, joined, followed, present, climbing}
use Rattle.encoding.specs.ParseLaws.{Exact, seq_exact, guard_exact, part_exact, byte_exact}
use Rattle.encoding.specs.ChainLaws.{each_as}
use Rattle.encoding.specs.Widths.{byte_takes}
use Rattle.encoding.specs.FaultLaws.{Refuses, CutIn, WrongIn, refuses_as, raw_refuses, via_refuses, part_refuses, seq_refuses, guard_refuses}
use Rattle.encoding.proofs.ListFaults.{rising_refuses}
use Rattle.encoding.specs.Known.{nothing, known_exact, known_refuses}
use Rattle.model_files.specs.Actions.{ACTIONS}
use Rattle.model_files.specs.ModelFile.{Form}
use Rattle.model_files.specs.ReadModel.{early, header, lists, begun, made, state}
use Rattle.model_files.specs.Header.{Head, FitPart, NotZero, Begun}
use Rattle.model_files.specs.HeaderExact.{filled_tells}
use Rattle.model_files.specs.HeaderFaults.{unfilled, zero-fits}
use Rattle.model_files.proofs.HeaderFaults.{begun_none}
use Rattle.model_files.specs.Begun.{encode_begun, FitBegun}
use Rattle.model_files.specs.BegunExact.{begun_exact}
use Rattle.model_files.specs.OneMore.{stands, some, counted, with_list, one_more_lem}
use Rattle.model_files.proofs.OneMore.{one_more}
use Rattle.model_files.specs.ModelDocument.{StateStage, at_map, at_mask, at_actions, at_count, at_successor, state_done, state_width, SomeLists, SomeSuccessors, StateReached, StateWrong, unfit_map, zero_mask, zero_actions, zero_count, unfit_successor, state_stages}

-- a parser that reads the same
refuses_same : {A : Type 0} {p q : Parser A} {X : Stages} → ((s : List ℕ) (at : ℕ) → p s at ≡ q s at) → Refuses early q X → Refuses early p X
refuses_same e R = record {
  says = λ s at n q b h. R.says s at n q b (sym (e s at) ∙ h);
  holds = λ s at n q h. e s at ∙ R.holds s at n q h;
}

-- no list is read yet
none_yet : (f : Form) (n : ℕ) (s : List ℕ) (at : ℕ) → begun f n 0 s at ≡ via (λ (h : Head). (h, [])) (header f) s at
unfolding begun lists times
none_yet f n s at = refl

module _ (f : Form) (n : ℕ) (k : Counts 1 64 n) (c : ℕ) where
  -- the stages of one list more, as the parsers are joined
  abbrev Fits : Begun → Type 0
  Fits w = (length w.1 ≡ c) × FitBegun f n w

  abbrev encode_counted : Begun × ℕ → List ℕ
  encode_counted z = encode_begun f z.0 ++ encode_part (stands c z.0) encode_byte z.1

  abbrev There : Begun × ℕ → Type 0
  There z = Fits z.0 × FitPart 256 (stands c z.0) z.1

  abbrev Filled : Begun × ℕ → Type 0
  Filled z = NotZero (stands c z.0) z.1

  there_exact : Exact (seq (begun f n c) (λ w. part 0 (stands c w) (byte early))) encode_counted There
  there_exact = seq_exact (begun_exact n k f c) (λ w _. part_exact (FitPart 256) (byte_exact early) refl (λ x h. h) (stands c w))

  some_tells : (z : Begun × ℕ) → Tells (some c z) (Filled z)
  some_tells z = filled_tells (stands c z.0) z.1

  counted_exact : Exact (counted f n c) encode_counted (λ z. There z × Filled z)
  counted_exact = guard_exact there_exact _ some_tells

  abbrev CountParts : Stages
  CountParts = joined (followed (encode_begun f) Fits (state_stages f n c) (λ w. present (stands c w) (raw 1))) (tested 0 encode_counted There Filled 63)

  abbrev Parts : Stages
  Parts = followed encode_counted (λ z. There z × Filled z) CountParts (λ z. climbing nothing (λ m. m ≡ z.1) (raw 0) 1 encode_byte OneByte (λ u. u < n) 64)

  parts_refuse : Refuses early (begun f n c) (state_stages f n c) → Refuses early (one_more_lem f n c) Parts
  unfolding times
  parts_refuse R =
      via_refuses
      (seq_refuses
      (guard_refuses (seq_refuses R (begun_exact n k f c) (λ w _. part_refuses 0 (raw_refuses (byte_takes early)) (stands c w))) there_exact _ some_tells)
      counted_exact
      (λ z _. rising_refuses (known_exact z.1) (known_refuses early z.1) (byte_exact early) (byte_takes early) (λ u. ltb_tells u n) _))
      with_list

  -- what holds before the list of action c holds before one after it
  grow_lists : {w : Begun} → SomeLists f n c w → SomeLists f n (suc c) w
  grow_lists s = record { fits = s.fits; fewer = omega (arith, s.fewer); stands = s.stands }

  grow_reached : (σ : StateStage) → StateReached f n c σ → StateReached f n (suc c) σ
  grow_reached at_map r = r
  grow_reached (at_mask m) r = r
  grow_reached (at_actions w) r = r
  grow_reached (at_count w) r = grow_lists r
  grow_reached (at_successor w m us) r = record { lists = grow_lists r.lists; count = r.count; fewer = r.fewer; rising = r.rising; each = r.each }

  grow_wrong : {σ : StateStage} {w : List ℕ} {number : ℕ} → StateWrong f n c σ w number → StateWrong f n (suc c) σ w number
  grow_wrong (unfit_map m b u) = unfit_map m b u
  grow_wrong (zero_mask m h b) = zero_mask m h b
  grow_wrong (zero_actions w e h b) = zero_actions w e h b
  grow_wrong (zero_count w s) = zero_count w (grow_lists s)
  grow_wrong (unfit_successor w m us u b x) = unfit_successor w m us u b x

  -- the list of action c itself
  here : {w : Begun} → Fits w → stands c w ≡ true → SomeLists f n (suc c) w
  here {w} (many, fits) b = record { fits = fits; fewer = omega arith; stands = ap (λ (i : ℕ). stands i w) many ∙ b }

  counts : {m : ℕ} (b : Bool) → FitPart 256 b m → 0 < m → (b ≡ true) × OneByte m
  counts true h l = (refl, h)
  counts false h l = absurd (omega arith)

  -- some of m successors, as they were read
  abbrev Read : ℕ → List ℕ → Type 0
  Read m us = (length us < m) × Rising us × Each (λ u. OneByte u × (u < n)) us

  done_here : (w : Begun) (m : ℕ) (us : List ℕ) → stands c w ≡ true → state_done f n (at_successor w m us) ≡ encode_counted (w, m) ++ (encode_all encode_byte us ++ [])
  done_here w m us b =
      ap (λ (l : List ℕ). encode_begun f w ++ (encode_byte m ++ l)) (sym (append-nil (encode_all encode_byte us)))
      ∙ sym (append_assoc (encode_begun f w) (encode_byte m) (encode_all encode_byte us ++ []))
      ∙ ap (λ (b : Bool). (encode_begun f w ++ encode_part b encode_byte m) ++ (encode_all encode_byte us ++ [])) (sym b)

  some_here : (z : Begun × ℕ) (m : ℕ) (us : List ℕ) → There z → m ≡ z.1 → Read m us → SomeSuccessors f n (suc c) z.0 z.1 us × (stands c z.0 ≡ true)
  some_here z m us (h, p) e (i, r, b) =
      let (s, o) = counts (stands c z.0) p (omega arith) in
      (record { lists = here h s; count = o; fewer = rw (← e) i; rising = r; each = each_as (λ u q. q.1) b }, s)

  -- each part that can be cut, or wrong, is a stage in the documents' words
  parts_cut : (σ : Parts.Stage) (t : List ℕ) → Parts.Reached σ → length t < Parts.width σ → CutIn (state_stages f n (suc c)) (Parts.done σ) t
  parts_cut (inl (inl (inl σ))) t r l = (σ, grow_reached σ r, refl, l)
  parts_cut (inl (inl (inr (w, σ)))) t (h, (b, r)) l = (at_count w, here h b, sym (append-nil (encode_begun f w)), l)
  parts_cut (inl (inr σ)) t r l = absurd (omega arith)
  parts_cut (inr (z, inl σ)) t r l = absurd (omega arith)
  parts_cut (inr (z, inr (m, (us, σ)))) t ((h, _), (e, (g, r))) l =
      let (s, b) = some_here z m us h e g in
      (at_successor z.0 z.1 us, s, done_here z.0 z.1 us b, l)

  parts_wrong : (σ : Parts.Stage) (w : List ℕ) (number : ℕ) → Parts.Reached σ → Parts.Wrong σ w number → WrongIn (state_stages f n (suc c)) (Parts.done σ) w number
  parts_wrong (inl (inl (inl σ))) w number r u = (σ, grow_reached σ r, refl, grow_wrong u)
  parts_wrong (inl (inl (inr (w, σ)))) v number r u = absurd u
  parts_wrong (inl (inr σ)) w number r (unfit z h u) =
      let (b, e) = unfilled (stands c z.0) z.1 u in
      (at_map, tt, refl, rw (e, b) (zero_count z.0 (here h.0 b)))
  parts_wrong (inr (z, inl σ)) w number r u = absurd u
  parts_wrong (inr (z, inr (m, (us, σ)))) w number ((h, _), (e, (g, r))) (unfit x o u) =
      let (s, b) = some_here z m us h e g in
      (at_successor z.0 z.1 us, s, done_here z.0 z.1 us b, unfit_successor z.0 z.1 us x o u)

  -- and each stage is one of the parts
  shrink : {w : Begun} → SomeLists f n (suc c) w → length w.1 < c → SomeLists f n c w
  shrink s l = record { fits = s.fits; fewer = l; stands = s.stands }

  at_here : {w : Begun} → SomeLists f n (suc c) w → (length w.1 < c → ⊥) → Fits w × (stands c w ≡ true)
  at_here {w} s l =
      let many : length w.1 ≡ c = omega (arith, s.fewer, l) in
      ((many, s.fits), ap (λ (i : ℕ). stands i w) (sym many) ∙ s.stands)

  there_here : {w : Begun} {m : ℕ} {us : List ℕ} → SomeSuccessors f n (suc c) w m us → (length w.1 < c → ⊥) → (There (w, m) × Filled (w, m)) × (stands c w ≡ true)
  there_here {w} {m} s l =
      let (h, b) = at_here s.lists l in
      (((h, rw b s.count), λ _ e. omega (arith, s.fewer)), b)

  some_read : {w : Begun} {m : ℕ} {us : List ℕ} → SomeSuccessors f n (suc c) w m us → Read m us
  some_read s = (s.fewer, s.rising, each_as (λ u q. (omega (arith, k), q)) s.each)

  stages_cut : (σ : StateStage) (t : List ℕ) → StateReached f n (suc c) σ → length t < state_width σ → CutIn Parts (state_done f n σ) t
  stages_cut at_map t r l = (inl (inl (inl at_map)), tt, refl, l)
  stages_cut (at_mask m) t r l = (inl (inl (inl (at_mask m))), r, refl, l)
  stages_cut (at_actions w) t r l = (inl (inl (inl (at_actions w))), r, refl, l)
  stages_cut (at_count w) t r l = go (dec_lt (length w.1) c)
    where
      go : Dec (length w.1 < c) → CutIn Parts (encode_begun f w) t
      go (yes i) = (inl (inl (inl (at_count w))), shrink r i, refl, l)
      go (no i) = let (h, b) = at_here r i in (inl (inl (inr (w, tt))), (h, (b, tt)), append-nil (encode_begun f w), l)
  stages_cut (at_successor w m us) t r l = go (dec_lt (length w.1) c)
    where
      go : Dec (length w.1 < c) → CutIn Parts (state_done f n (at_successor w m us)) t
      go (yes i) =
          (inl (inl (inl (at_successor w m us))), record { lists = shrink r.lists i; count = r.count; fewer = r.fewer; rising = r.rising; each = r.each }, refl, l)
      go (no i) =
          let (h, b) = there_here r i in
          (inr ((w, m), inr (m, (us, tt))), (h, (refl, (some_read r, tt))), sym (done_here w m us b), l)

  stages_wrong : (σ : StateStage) (w : List ℕ) (number : ℕ) → StateReached f n (suc c) σ → StateWrong f n (suc c) σ w number → WrongIn Parts (state_done f n σ) w number
  stages_wrong at_map w number r (unfit_map m b u) = (inl (inl (inl at_map)), tt, refl, unfit_map m b u)
  stages_wrong at_map w number r (zero_mask m h b) = (inl (inl (inl at_map)), tt, refl, zero_mask m h b)
  stages_wrong at_map w number r (zero_actions z e h b) = (inl (inl (inl at_map)), tt, refl, zero_actions z e h b)
  stages_wrong at_map w number r (zero_count z s) = go (dec_lt (length z.1) c)
    where
      go : Dec (length z.1 < c) → WrongIn Parts [] (encode_begun f z ++ encode_byte 0) 63
      go (yes i) = (inl (inl (inl at_map)), tt, refl, zero_count z (shrink s i))
      go (no i) =
          let (h, b) = at_here s i in
          let wrong : Unfit encode_counted There Filled 63 (encode_counted (z, 0)) 63 = unfit (z, 0) (h, zero-fits 256 (stands c z) (omega arith)) (λ g. g b refl) in
          (inl (inr tt), tt, refl, subst (λ (b : Bool). Unfit encode_counted There Filled 63 (encode_begun f z ++ encode_part b encode_byte 0) 63) b wrong)
  stages_wrong (at_mask _) w number r x = elim x [ ]
  stages_wrong (at_actions _) w number r x = elim x [ ]
  stages_wrong (at_count _) w number r x = elim x [ ]
  stages_wrong (at_successor z m us) w number r (unfit_successor z' m' us' x o u) = go (dec_lt (length z.1) c)
    where
      go : Dec (length z.1 < c) → WrongIn Parts (state_done f n (at_successor z m us)) (encode_byte x) 64
      go (yes i) = (
        inl (inl (inl (at_successor z m us))),
        record { lists = shrink r.lists i; count = r.count; fewer = r.fewer; rising = r.rising; each = r.each },
        refl,
        unfit_successor z m us x o u,
      )
      go (no i) =
          let (h, b) = there_here r i in
          (inr ((z, m), inr (m, (us, tt))), (h, (refl, (some_read r, tt))), sym (done_here z m us b), unfit x o u)

  more_refuses : Refuses early (begun f n c) (state_stages f n c) → Refuses early (begun f n (suc c)) (state_stages f n (suc c))
  more_refuses R =
      refuses_same (λ s at. one_more n c at f s)
      (refuses_as (record { cut = parts_cut; wrong = parts_wrong }) (record { cut = stages_cut; wrong = stages_wrong }) (parts_refuse R))

module _ (f : Form) (n : ℕ) (k : Counts 1 64 n) where
  begun_refuses : (c : ℕ) → Refuses early (begun f n c) (state_stages f n c)
  begun_refuses zero = refuses_same (none_yet f n) (via_refuses (begun_none f n) (λ (h : Head). (h, [])))
  begun_refuses (suc c) = more_refuses f n k c (begun_refuses c)

  pub state_refuses : Refuses early (state f n) (state_stages f n ACTIONS)
  unfolding state
  state_refuses = via_refuses (begun_refuses ACTIONS) made
