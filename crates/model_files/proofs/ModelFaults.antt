-- a model file is refused with a number at a place just when its bytes earn that
use Rattle.std.specs.Prelude.{◌≡◌, refl, ◌↔◌, ◌⊎◌, Bool, true, false, length}
use Rattle.std.proofs.Common.{sym, subst, ◌∙◌, inl, inr, arith}
use mathlib.Core.List.{List}
use Prim.Native.Nat.{ℕ, ◌<◌}
use Rattle.verdict.specs.Tells.{fails, fails_holds}
use Rattle.encoding.specs.Encode.{Bytes, OneByte, encode_byte, Counts}
use Rattle.encoding.specs.Stages.{Stages, raw, tested, followed, listing}
use Rattle.encoding.specs.ParseLaws.{byte_exact}
use Rattle.encoding.specs.Widths.{byte_takes}
use Rattle.encoding.specs.FaultLaws.{Refuses, CutIn, WrongIn, refuses_as, via_refuses, seq_refuses}
use Rattle.encoding.specs.ListFaults.{count_refuses, listed_refuses}
use Rattle.encoding.specs.File.{Reading, refused, good}
use Rattle.encoding.specs.FileLaws as File
use Rattle.encoding.proofs.FileLaws as FileProofs
use Rattle.encoding.specs.FileLaws.{Opens}
use Rattle.encoding.specs.Opening.{opens, opens_tells}
use Rattle.encoding.specs.Walk.{file_closed}
use Rattle.encoding.specs.Known.{nothing, known_exact, known_refuses}
use Rattle.model_files.specs.Actions.{ACTIONS}
use Rattle.model_files.specs.ModelFile.{Form, mdl1, mdl2, State, opening, encode_state, ModelFile}
use Rattle.model_files.specs.ReadModel.{early, body, read_form, form_by, form_of, read_model}
use Rattle.model_files.specs.ModelExact.{StateIn, count_exact, form_opens, read_in}
use Rattle.model_files.proofs.ModelExact.{state_exact, body_exact, model_good, good_model}
use Rattle.model_files.specs.ModelDocument.{state_stages, ModelStage, at_state_count, at_state, done, Reached, width, Wrong, model_stages, FormEarns, ModelEarns, no_opening, by_form}
use Rattle.model_files.proofs.StateFaults.{state_refuses}

module _ (f : Form) where
  -- the stages as the parsers are joined
  abbrev Parts : Stages
  Parts =
      followed encode_byte (λ n. OneByte n × Counts 1 64 n) (tested 1 encode_byte OneByte (Counts 1 64) 62)
      (λ n. listing nothing (λ k. k ≡ n) (raw 0) (encode_state f) (StateIn f n) (state_stages f n ACTIONS))

  parts_refuse : Refuses early (body f) Parts
  unfolding body
  parts_refuse =
      via_refuses
      (seq_refuses (count_refuses _ _ _ (byte_takes early) (byte_exact early)) count_exact
      (λ n c. listed_refuses (known_exact n) (known_refuses early n) (state_exact f n c.1) (state_refuses f n c.1)))
      (λ (w : ℕ × List State). w.1)

  -- each part that can be cut, or wrong, is a stage in the documents' words
  parts_cut : (σ : Parts.Stage) (t : List ℕ) → Parts.Reached σ → length t < Parts.width σ → CutIn (model_stages f) (Parts.done σ) t
  parts_cut (inl σ) t r l = (at_state_count, tt, refl, l)
  parts_cut (inr (n, inl σ)) t r l = absurd (omega arith)
  parts_cut (inr (n, inr (k, (m, σ)))) t (c, (e, ((i, h), r))) l = (at_state n m σ, (record { count = c.1; fewer = rw (← e) i; each = h }, r), refl, l)

  parts_wrong : (σ : Parts.Stage) (w : List ℕ) (number : ℕ) → Parts.Reached σ → Parts.Wrong σ w number → WrongIn (model_stages f) (Parts.done σ) w number
  parts_wrong (inl σ) w number r u = (at_state_count, tt, refl, u)
  parts_wrong (inr (n, inl σ)) w number r u = absurd u
  parts_wrong (inr (n, inr (k, (m, σ)))) w number (c, (e, ((i, h), r))) u = (at_state n m σ, (record { count = c.1; fewer = rw (← e) i; each = h }, r), refl, u)

  -- and each stage is one of the parts
  stages_cut : (σ : ModelStage) (t : List ℕ) → Reached f σ → length t < width f σ → CutIn Parts (done f σ) t
  stages_cut at_state_count t r l = (inl tt, tt, refl, l)
  stages_cut (at_state n m σ) t (s, r) l = (inr (n, inr (n, (m, σ))), ((omega (arith, s.count), s.count), (refl, ((s.fewer, s.each), r))), refl, l)

  stages_wrong : (σ : ModelStage) (w : List ℕ) (number : ℕ) → Reached f σ → Wrong f σ w number → WrongIn Parts (done f σ) w number
  stages_wrong at_state_count w number r u = (inl tt, tt, refl, u)
  stages_wrong (at_state n m σ) w number (s, r) u = (inr (n, inr (n, (m, σ))), ((omega (arith, s.count), s.count), (refl, ((s.fewer, s.each), r))), refl, u)

  pub body_refuses : Refuses early (body f) (model_stages f)
  body_refuses = refuses_as (record { cut = parts_cut; wrong = parts_wrong }) (record { cut = stages_cut; wrong = stages_wrong }) parts_refuse

  -- a file of one form
  form_earned : {bytes : List ℕ} {n q : ℕ} → Bytes bytes → read_form f bytes ≡ refused n q → FormEarns f bytes n q
  unfolding read_form
  form_earned b h = FileProofs.refused_earned (opening f) 60 early (body f) (body_exact f) body_refuses b h

  form_refused : {bytes : List ℕ} {n q : ℕ} → FormEarns f bytes n q → read_form f bytes ≡ refused n q
  unfolding read_form
  form_refused e = File.earned_refused (opening f) 60 early (body f) (body_exact f) body_refuses e

-- neither opening stands in front
closed : (bytes : List ℕ) → ((f : Form) → Opens (opening f) bytes → ⊥) → read_model bytes ≡ refused 60 0
unfolding read_model read_form
closed bytes h = file_closed (opening (form_of bytes)) 60 early (body (form_of bytes)) bytes (fails_holds (opens_tells (opening (form_of bytes)) bytes) (h (form_of bytes)))

-- MDL2 by its opening, and else MDL1
opened : (bytes : List ℕ) → ((f : Form) → Opens (opening f) bytes → ⊥) ⊎ Opens (opening (form_of bytes)) bytes
opened bytes = go (opens (opening mdl2) bytes) refl (opens (opening mdl1) bytes) refl
  where
    go : (b : Bool) → opens (opening mdl2) bytes ≡ b → (c : Bool) → opens (opening mdl1) bytes ≡ c
        → ((f : Form) → Opens (opening f) bytes → ⊥) ⊎ Opens (opening (form_by b)) bytes
    go true e c i = inr ((opens_tells (opening mdl2) bytes).says e)
    go false e true i = inr ((opens_tells (opening mdl1) bytes).says i)
    go false e false i = inl neither
      where
        neither : (f : Form) → Opens (opening f) bytes → ⊥
        neither mdl1 o = fails (opens_tells (opening mdl1) bytes) i o
        neither mdl2 o = fails (opens_tells (opening mdl2) bytes) e o

-- no number lies
pub model_earned : {bytes : List ℕ} {n q : ℕ} → Bytes bytes → read_model bytes ≡ refused n q → ModelEarns bytes n q
model_earned {bytes} {n} {q} b h = go (opened bytes)
  where
    go : ((f : Form) → Opens (opening f) bytes → ⊥) ⊎ Opens (opening (form_of bytes)) bytes → ModelEarns bytes n q
    go (inl c) =
        let (i, j) = File.refused_same {A = List State} (sym (closed bytes c) ∙ h) in
        subst (λ (q : ℕ). ModelEarns bytes n q) j (subst (λ (n : ℕ). ModelEarns bytes n 0) i (no_opening c))
    go (inr o) = by_form (form_of bytes) o (form_earned (form_of bytes) b (sym (read_in (form_of bytes) bytes refl) ∙ h))

-- and each is given where it is earned
pub model_refused : {bytes : List ℕ} {n q : ℕ} → ModelEarns bytes n q → read_model bytes ≡ refused n q
model_refused {bytes} (no_opening c) = closed bytes c
model_refused {bytes} (by_form f o e) = read_in f bytes (form_opens f bytes o) ∙ form_refused f e

-- exactly what the documents say is refused, with its number and place
pub model_refusal : {bytes : List ℕ} {n q : ℕ} → Bytes bytes → (read_model bytes ≡ refused n q) ↔ ModelEarns bytes n q
model_refusal b = (model_earned b, model_refused)

pub one_model_refusal : {bytes : List ℕ} {n q m r : ℕ} → ModelEarns bytes n q → ModelEarns bytes m r → (n ≡ m) × (q ≡ r)
one_model_refusal e g = File.refused_same {A = List State} (sym (model_refused e) ∙ model_refused g)

pub model_or_refusal : (bytes : List ℕ) → Bytes bytes → ((m : List State) × ModelFile bytes m) ⊎ ((n : ℕ) × (q : ℕ) × ModelEarns bytes n q)
model_or_refusal bytes b = go (read_model bytes) refl
  where
    go : (z : Reading (List State)) → read_model bytes ≡ z → ((m : List State) × ModelFile bytes m) ⊎ ((n : ℕ) × (q : ℕ) × ModelEarns bytes n q)
    go (good m) h = inl (m, good_model b h)
    go (refused n q) h = inr (n, q, model_earned b h)

pub model_not_both : {bytes : List ℕ} {m : List State} {n q : ℕ} → ModelFile bytes m → ModelEarns bytes n q → ⊥
model_not_both k e = File.refused_not_good (sym (model_refused e) ∙ model_good k)
