-- what is read as a model is a model file of what was decoded, and a model file is read so
use Rattle.std.specs.Prelude.{◌≡◌, ◌↔◌, length, get_or}
use Rattle.std.proofs.Math.Path.{refl, ap}
use Rattle.std.proofs.Common.{sym, ◌∙◌, arith}
use mathlib.Core.List.{List, [], ◌∷◌, ◌++◌}
use Prim.Native.Nat.{ℕ, suc, ◌<◌}
use Rattle.verdict.specs.Lists.{Each, none, more}
use Rattle.verdict.specs.EachLaws.{each_at}
use Rattle.encoding.specs.Encode.{Bytes, OneByte, encode_byte, encode_all, Counts}
use Rattle.encoding.specs.File.{good}
use Rattle.encoding.specs.ParseLaws.{Exact, seq_exact, via_exact}
use Rattle.encoding.specs.ChainLaws.{each_as}
use Rattle.encoding.specs.ListLaws.{listed_exact}
use Rattle.encoding.specs.FileLaws as File
use Rattle.encoding.proofs.FileLaws as FileProofs
use Rattle.encoding.specs.Known.{known_exact}
use Rattle.model_files.specs.Actions.{ACTIONS, map_bit}
use Rattle.model_files.specs.ModelFile.{Form, State, opening, has_list, encode_state, encode_body, encode_model, FitList, FitIn, FormFile, ModelFile}
use Rattle.model_files.specs.ReadModel.{early, made, state, body, read_form, form_of, read_model}
use Rattle.model_files.specs.Header.{Head, Begun}
use Rattle.model_files.specs.Begun.{encode_begun, FitBegun}
use Rattle.model_files.specs.BegunExact.{begun_exact}
use Rattle.model_files.specs.StateHeader.{mask_small, header_of, header_fits, header_same, header_first, begun_holds}
use Rattle.model_files.specs.ModelExact.{StateIn, count_exact, each_both, form_model, form_opens, model_form, read_in}

-- what holds at each number holds of each element
each_from : {A : Type 0} {P : A → Type 0} (d : A) (l : List A) → ((i : ℕ) → i < length l → P (get_or l i d)) → Each P l
each_from d [] h = none
each_from d (x ∷ l) h = more (h 0 (omega arith)) (each_from d l (λ i k. h (suc i) (omega arith)))

-- a state and its bytes in the order of the reading
abbrev begun_of : State → Begun
begun_of s = (header_of s, s.lists)

abbrev Whole : Form → ℕ → Begun → Type 0
Whole f n w = (length w.1 ≡ ACTIONS) × FitBegun f n w

pub state_exact : (f : Form) (n : ℕ) → Counts 1 64 n → Exact (state f n) (encode_state f) (StateIn f n)
unfolding state
state_exact f n c = via_exact (begun_exact n c f ACTIONS) made begun_of to from
  where
    empty : FitList n []
    empty = record { rising = λ i h. absurd (omega arith); in_range = none }

    to : (s : State) → StateIn f n s → Whole f n (begun_of s) × (made (begun_of s) ≡ s) × (encode_begun f (begun_of s) ≡ encode_state f s)
    to s (k, h) = (
      (
        k.actions,
        record {
          header = header_fits f s k.letters h;
          each = λ i l. record { some = sym (map_bit ACTIONS (λ (a : ℕ). has_list (get_or s.lists a [])) i (omega (arith, k.actions))); fits = each_at [] empty k.each i };
        },
      ),
      refl,
      header_first f s,
    )

    from : (w : Begun) → Whole f n w → StateIn f n (made w) × (encode_begun f w ≡ encode_state f (made w))
    from w (many, b) = (
      (
        record { letters = mask_small w.0 b.header; actions = many; each = each_from [] w.1 (λ i l. (b.each i l).fits) },
        begun_holds f n w many b,
      ),
      ap (λ (h : Head). encode_begun f (h, w.1)) (sym (header_same f n w many b)) ∙ header_first f (made w),
    )

abbrev Counted : Form → ℕ × List State → Type 0
Counted f w = (OneByte w.0 × Counts 1 64 w.0) × ((length w.1 ≡ w.0) × Each (StateIn f w.0) w.1)

module _ (f : Form) where
  pub body_exact : Exact (body f) (encode_body f) (FitIn f)
  unfolding body
  body_exact =
      via_exact (seq_exact count_exact (λ n h. listed_exact (known_exact n) (state_exact f n h.1))) (λ (w : ℕ × List State). w.1) (λ m. (length m, m))
      (λ m k. (((omega (arith, k.fits.count), k.fits.count), (refl, each_both k.fits.each k.holds)), refl, refl))
      from
    where
      from : (w : ℕ × List State) → Counted f w → FitIn f w.1 × (encode_byte w.0 ++ encode_all (encode_state f) w.1 ≡ encode_body f w.1)
      from w h = (
        record {
          fits = record { count = rw h.1.0 h.0.1; each = rw h.1.0 (each_as (λ s k. k.0) h.1.1) };
          holds = each_as (λ s k. k.1) h.1.1;
        },
        ap (λ (n : ℕ). encode_byte n ++ encode_all (encode_state f) w.1) (sym h.1.0),
      )

  -- a file of one form
  pub form_good : {bytes : List ℕ} {m : List State} → FormFile f bytes m → read_form f bytes ≡ good m
  unfolding read_form
  form_good k = File.file_good (opening f) 60 early (body f) body_exact k

  pub good_form : {bytes : List ℕ} {m : List State} → Bytes bytes → read_form f bytes ≡ good m → FormFile f bytes m
  unfolding read_form
  good_form b h = FileProofs.good_file (opening f) 60 early (body f) body_exact b h

-- a model file is read, and decoded
pub model_good : {bytes : List ℕ} {m : List State} → ModelFile bytes m → read_model bytes ≡ good m
model_good {bytes} k = read_in k.form bytes (form_opens k.form bytes (_, k.encoded)) ∙ form_good k.form (form_model k)

-- what is read is a model file, of what was decoded
pub good_model : {bytes : List ℕ} {m : List State} → Bytes bytes → read_model bytes ≡ good m → ModelFile bytes m
unfolding read_model
good_model {bytes} b h = model_form (good_form (form_of bytes) b h)

pub model_exact : {bytes : List ℕ} {m : List State} → Bytes bytes → ModelFile bytes m ↔ (read_model bytes ≡ good m)
model_exact b = (model_good, good_model b)

-- one file, one decoding
pub one_model : {bytes : List ℕ} {m l : List State} → ModelFile bytes m → ModelFile bytes l → m ≡ l
one_model f g = File.good_same (sym (model_good f) ∙ model_good g)

-- decoding what was encoded gives the states back
pub model_decodes : (f : Form) (m : List State) → FitIn f m → read_model (encode_model f m) ≡ good m
model_decodes f m k = model_good (model_form (record { encoded = refl; fits = k }))

-- encoding what was decoded gives the bytes back
pub model_encodes : {bytes : List ℕ} {m : List State} → Bytes bytes → read_model bytes ≡ good m → encode_model (form_of bytes) m ≡ bytes
unfolding read_model
model_encodes {bytes} b h = sym (good_form (form_of bytes) b h).encoded
