-- which faults the header of a state has, and that each is reported
use Rattle.std.specs.Prelude.{◌≡◌, refl, List, Bool, true, false, ℕ, ◌<◌, ◌≤◌, ◌^◌, length}
use Rattle.std.proofs.Common.{sym, subst, inl, inr, append-nil, arith}
use Rattle.std.proofs.lemmas.Bool.{false≢true}
use Rattle.verdict.specs.Tells.{leb_tells}
use Rattle.encoding.specs.Encode.{OneByte, encode_byte}
use Rattle.encoding.specs.Stages.{Stages, raw, unfit, tested, joined, followed, present}
use Rattle.encoding.specs.ParseLaws.{byte_exact}
use Rattle.encoding.specs.Widths.{Takes, byte_takes, two_takes, four_takes}
use Rattle.encoding.specs.FaultLaws.{Refuses, CutIn, WrongIn, refuses_as, raw_refuses, part_refuses, seq_refuses, guard_refuses, tested_refuses}
use Rattle.encoding.specs.Known.{known_takes}
use Rattle.model_files.specs.ModelFile.{Form, mdl1, mdl2}
use Rattle.model_files.specs.ReadModel.{early, masked, actions, header}
use Rattle.model_files.specs.Header.{letters_stand, list_stands, NotZero, encode_masked, Masked, FitMasked, FitActions, encode_header, Header}
use Rattle.model_files.specs.HeaderExact.{filled_tells, map_exact, mask_exact, masked_exact, actions_exact}
use Rattle.model_files.specs.ModelDocument.{StateStage, at_map, at_mask, at_actions, at_count, at_successor, state_done, state_width, StateReached, StateWrong, unfit_map, zero_mask, zero_actions, zero_count, unfit_successor, state_stages}
use Rattle.model_files.specs.HeaderFaults.{unfilled, zero-fits}

-- the header: its stages as the parsers are joined
abbrev MapPart : Stages
MapPart = tested 1 encode_byte OneByte (λ m. m ≤ 3) 63

abbrev MaskedParts : Stages
MaskedParts =
    joined (followed encode_byte (λ m. OneByte m × (m ≤ 3)) MapPart (λ m. present (letters_stand m) (raw 4)))
    (tested 0 encode_masked Masked (λ w. NotZero (letters_stand w.0) w.1) 63)

abbrev action_bytes : Form → ℕ
action_bytes mdl1 = 0
action_bytes mdl2 = 2

abbrev HeaderParts : Form → Stages
HeaderParts f =
    joined (followed encode_masked FitMasked MaskedParts (λ w. present (list_stands w.0) (raw (action_bytes f))))
    (tested 0 (encode_header f) (Header f) (λ h. NotZero (list_stands h.0.0) h.1) 63)

masked_refuses : Refuses early masked MaskedParts
masked_refuses =
    guard_refuses
    (seq_refuses (tested_refuses (byte_takes early) (byte_exact early) _ (λ m. leb_tells m 3)) map_exact
    (λ m _. part_refuses 0 (raw_refuses (four_takes early)) (letters_stand m)))
    mask_exact _ (λ w. filled_tells (letters_stand w.0) w.1)

actions_take : (f : Form) → Takes early (actions f) (action_bytes f)
actions_take mdl1 = known_takes early 1
actions_take mdl2 = two_takes early

header_refuses : (f : Form) → Refuses early (header f) (HeaderParts f)
header_refuses f =
    guard_refuses (seq_refuses masked_refuses masked_exact (λ w _. part_refuses 0 (raw_refuses (actions_take f)) (list_stands w.0))) (actions_exact f) _
    (λ h. filled_tells (list_stands h.0.0) h.1)

-- a form that writes a map of actions
written : (f : Form) (t : List ℕ) → length t < action_bytes f → (f ≡ mdl2) × (length t < 2)
written mdl1 t l = absurd (omega arith)
written mdl2 t l = (refl, l)

zero_written : (f : Form) (stands : Bool) → stands ≡ true → FitActions f stands 0 → f ≡ mdl2
zero_written f false h k = absurd (false≢true h)
zero_written mdl1 true h k = absurd (omega arith)
zero_written mdl2 true h k = refl

zero_actions_fit : (f : Form) (stands : Bool) → f ≡ mdl2 → FitActions f stands 0
zero_actions_fit f true e = rw e (omega arith)
zero_actions_fit f false e = refl

module _ (f : Form) (n : ℕ) where
  -- each part that can be cut, or wrong, is a stage in the documents' words
  header_cut : (σ : (HeaderParts f).Stage) (t : List ℕ) → (HeaderParts f).Reached σ → length t < (HeaderParts f).width σ → CutIn (state_stages f n 0) ((HeaderParts f).done σ) t
  header_cut (inl (inl (inl (inl σ)))) t r l = (at_map, tt, refl, l)
  header_cut (inl (inl (inl (inr (m, σ))))) t (k, (b, r)) l = (at_mask m, (k.1, b), refl, l)
  header_cut (inl (inl (inr σ))) t r l = absurd (omega arith)
  header_cut (inl (inr (w, σ))) t (k, (b, r)) l = let (e, i) = written f t l in (at_actions w, (e, k, b), sym (append-nil (encode_masked w)), i)
  header_cut (inr σ) t r l = absurd (omega arith)

  header_wrong : (σ : (HeaderParts f).Stage) (w : List ℕ) (number : ℕ) → (HeaderParts f).Reached σ → (HeaderParts f).Wrong σ w number
      → WrongIn (state_stages f n 0) ((HeaderParts f).done σ) w number
  header_wrong (inl (inl (inl (inl σ)))) w number r (unfit m b u) = (at_map, tt, refl, unfit_map m b u)
  header_wrong (inl (inl (inl (inr (m, σ))))) w number r u = absurd u
  header_wrong (inl (inl (inr σ))) w number r (unfit z k u) =
      let (b, e) = unfilled (letters_stand z.0) z.1 u in
      (at_map, tt, refl, subst (λ (x : ℕ). StateWrong f n 0 at_map (encode_masked (z.0, x)) 63) (sym e) (zero_mask z.0 k.map_fits_lem b))
  header_wrong (inl (inr (w, σ))) v number r u = absurd u
  header_wrong (inr σ) w number r (unfit h k u) =
      let (b, e) = unfilled (list_stands h.0.0) h.1 u in
      let i : f ≡ mdl2 = zero_written f (list_stands h.0.0) b (rw e at k.actions_fit) in
      (at_map, tt, refl, subst (λ (x : ℕ). StateWrong f n 0 at_map (encode_header f (h.0, x)) 63) (sym e) (zero_actions h.0 i k.masked b))

  -- and each stage is one of the parts
  cut_header : (σ : StateStage) (t : List ℕ) → StateReached f n 0 σ → length t < state_width σ → CutIn (HeaderParts f) (state_done f n σ) t
  cut_header at_map t r l = (inl (inl (inl (inl tt))), tt, refl, l)
  cut_header (at_mask m) t (k, b) l = (inl (inl (inl (inr (m, tt)))), ((omega arith, k), (b, tt)), refl, l)
  cut_header (at_actions w) t (e, k, b) l = (inl (inr (w, tt)), (k, (b, tt)), append-nil (encode_masked w), rw e l)
  cut_header (at_count w) t r l = absurd (omega (arith, r.fewer))
  cut_header (at_successor w k us) t r l = absurd (omega (arith, r.lists.fewer))

  wrong_header : (σ : StateStage) (w : List ℕ) (number : ℕ) → StateReached f n 0 σ → StateWrong f n 0 σ w number → WrongIn (HeaderParts f) (state_done f n σ) w number
  wrong_header at_map w number r (unfit_map m b u) = (inl (inl (inl (inl tt))), tt, refl, unfit m b u)
  wrong_header at_map w number r (zero_mask m k b) =
      (inl (inl (inr tt)), tt, refl, unfit (m, 0) (record { map_fits_lem = k; mask_fits = zero-fits (2 ^ 32) (letters_stand m) (omega arith) }) (λ z. z b refl))
  wrong_header at_map w number r (zero_actions z e k b) =
      (inr tt, tt, refl, unfit (z, 0) (record { masked = k; actions_fit = zero_actions_fit f (list_stands z.0) e }) (λ z. z b refl))
  wrong_header at_map w number r (zero_count z s) = absurd (omega (arith, s.fewer))
  wrong_header (at_mask _) w number r x = elim x [ ]
  wrong_header (at_actions _) w number r x = elim x [ ]
  wrong_header (at_count _) w number r x = elim x [ ]
  wrong_header (at_successor z k us) w number r (unfit_successor z' k' us' u b x) = absurd (omega (arith, r.lists.fewer))

  pub begun_none : Refuses early (header f) (state_stages f n 0)
  begun_none = refuses_as (record { cut = header_cut; wrong = header_wrong }) (record { cut = cut_header; wrong = wrong_header }) (header_refuses f)
