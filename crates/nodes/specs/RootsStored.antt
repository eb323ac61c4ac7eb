-- the roots of a file stored into the array that a caller lends
use Rattle.std.specs.Prelude.{◌≡◌, List, [], ℕ, ◌+◌, ◌*◌, ◌≤◌, length, take, drop, set}
use Rattle.std.proofs.Common.{sym, subst, ap, ◌∙◌, arith}
use Rattle.std.proofs.lemmas.List.Edits.{sets}
use Rattle.std.proofs.Math.Seq.{take-append_seam}
use Rattle.verdict.specs.Lists.{written}
use Rattle.verdict.specs.WrittenLaws.{written_on}
use Rattle.formula.specs.Claim.{Form, clm1, clm2, form_number}
use Rattle.formula.specs.NamedForm.{names, names_several, names_one}
use Rattle.nodes.specs.ProofDecode.{words_at, words_at_length, roots_in, nodes_place_lem}

-- the roots of k goals stand in the file, in the form that a number names
pub record HasRoots (number k : ℕ) (s : List ℕ) : Type 0 where
  pub form : Form
  pub named : number ≡ form_number form
  pub few : k ≤ 16
  -- the form for one goal has one
  pub one : form ≡ clm1 → k ≡ 1
  pub long : nodes_place_lem form k ≤ length s

-- they stand in front of the array, which is unchanged beyond them
pub record RootsStored (f : Form) (k : ℕ) (s old new : List ℕ) : Type 0 where
  pub held : take k new ≡ roots_in f k s
  pub stored : new ≡ written (roots_in f k s) old

module _ {number k : ℕ} {s : List ℕ} (h : HasRoots number k s) where
  -- two bytes for each root of the form for several goals
  pub several_long : number ≡ form_number clm2 → 6 + 2 * k ≤ length s
  several_long e = let f : h.form ≡ clm2 = sym (names h.form h.named) ∙ names_several e in rw f at h.long

  pub single : (number ≡ form_number clm2 → ⊥) → k ≡ 1
  single d = h.one (sym (names h.form h.named) ∙ names_one d)

-- numbers that are stored from the front on are written there
front : (ws old : List ℕ) {new : List ℕ} → length ws ≤ length old → new ≡ sets old 0 ws → (take (length ws) new ≡ ws) × (new ≡ written ws old)
front ws old {new} fits e =
    let stored : new ≡ written ws old = e ∙ written_on [] ws old (omega arith) in
    (ap (take (length ws)) stored ∙ take-append_seam ws (drop (length ws) old), stored)

stored_roots : (f : Form) (k : ℕ) (s old : List ℕ) {new : List ℕ} → length (roots_in f k s) ≡ k → k ≤ length old → new ≡ sets old 0 (roots_in f k s) → RootsStored f k s old new
stored_roots f k s old {new} long fits e =
    let (held, stored) = front (roots_in f k s) old (omega arith) e in
    record { held = subst (λ (n : ℕ). take n new ≡ roots_in f k s) long held; stored = stored }

module _ (k : ℕ) (s old : List ℕ) {new : List ℕ} where
  pub several_stored : k ≤ length old → new ≡ sets old 0 (words_at s 6 k) → RootsStored clm2 k s old new
  several_stored fits e = stored_roots clm2 k s old (words_at_length s 6 k) fits e

  pub one_stored : k ≡ 1 → k ≤ length old → new ≡ set old 0 0 → RootsStored clm1 k s old new
  one_stored one fits e = stored_roots clm1 k s old (sym one) fits e
