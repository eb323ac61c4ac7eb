-- the parts of a model file up to its states, and a file by its form
use Rattle.std.specs.Prelude.{◌≡◌, get_or}
use Rattle.std.proofs.Math.Path.{ap}
use Rattle.std.proofs.Common.{sym, ◌∙◌, arith}
use mathlib.Core.List.{List}
use Prim.Native.Nat.{ℕ}
use Rattle.verdict.specs.Lists.{Each, none, more}
use Rattle.verdict.specs.Tells.{fails_holds}
use Rattle.encoding.specs.Encode.{OneByte, encode_byte, Counts}
use Rattle.encoding.specs.Opening.{opens_tells}
use Rattle.encoding.specs.ParseLaws.{Exact, byte_exact}
use Rattle.encoding.specs.ListLaws as lists
use Rattle.encoding.specs.FileLaws.{Opens}
use Rattle.model_files.specs.ModelFile.{Form, mdl1, mdl2, State, opening, FitState, Holds, FormFile, ModelFile}
use Rattle.model_files.specs.ReadModel.{early, state_count, read_form, form_by, form_of, read_model}

abbrev pub StateIn : Form → ℕ → State → Type 0
StateIn f n s = FitState n s × Holds f s

pub count_exact : Exact state_count encode_byte (λ n. OneByte n × Counts 1 64 n)
count_exact = lists.count_exact _ _ _ (byte_exact early)

pub each_both : {A : Type 0} {P Q : A → Type 0} {l : List A} → Each P l → Each Q l → Each (λ x. P x × Q x) l
each_both none none = none
each_both (more h e) (more k g) = more (h, k) (each_both e g)

-- the two openings differ in their last letter
one_opening : {bytes : List ℕ} → Opens (opening mdl1) bytes → Opens (opening mdl2) bytes → ⊥
one_opening (r, e) (t, i) =
    let z : ◌≡◌ {A = ℕ} 49 50 = sym (ap (λ (s : List ℕ). get_or s 3 0) e) ∙ ap (λ (s : List ℕ). get_or s 3 0) i in
    omega arith

-- a file that opens as one of a form is read as one of it
pub form_opens : (f : Form) (bytes : List ℕ) → Opens (opening f) bytes → form_of bytes ≡ f
form_opens mdl1 bytes o = ap form_by (fails_holds (opens_tells (opening mdl2) bytes) (one_opening o))
form_opens mdl2 bytes o = ap form_by ((opens_tells (opening mdl2) bytes).holds o)

pub read_in : (f : Form) (bytes : List ℕ) → form_of bytes ≡ f → read_model bytes ≡ read_form f bytes
unfolding read_model
read_in f bytes e = ap (λ (g : Form). read_form g bytes) e

pub model_form : {f : Form} {bytes : List ℕ} {m : List State} → FormFile f bytes m → ModelFile bytes m
model_form {f} k = record { form = f; encoded = k.encoded; fits = k.fits.fits; holds = k.fits.holds }

pub form_model : {bytes : List ℕ} {m : List State} (k : ModelFile bytes m) → FormFile k.form bytes m
form_model k = record { encoded = k.encoded; fits = record { fits = k.fits; holds = k.holds } }
