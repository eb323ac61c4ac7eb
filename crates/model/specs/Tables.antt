-- the tables that a walk over a good model file fills, state by state
use Rattle.std.specs.Prelude.{◌≡◌, List, [], ◌∷◌, ◌++◌, ℕ, ◌+◌, ◌<◌, ◌≤◌, length, get_or, set, replicate}
use Rattle.std.proofs.Common.{sym, ap, ◌∙◌, arith}
use Rattle.model_files.specs.ModelFile.{State}
use Rattle.model_files.specs.ReadModel.{form_of}
use Rattle.model_files.specs.Described.{successor_table}
use Rattle.model_files.specs.Decoded.{GoodModel, states_of, mask_table}
use Rattle.model.specs.HeaderSteps.{InModel}
use Rattle.model.specs.Rows.{row_of, row-none}
use Rattle.model.specs.Stored.{stored, stored_none, stored_more, stored_past, masks_stored, marks_stored}
use Rattle.model.specs.Decoding.{StateThere, StatePut}
use Rattle.model.specs.FileDecoding.{Decoding, good_counts, good_many, decoding_begins, decoding_ends, decoding_steps, state_there}

abbrev masks_of : List State → List ℕ
masks_of m = stored (λ s. s.mask) m

abbrev rows_of : List State → List (List ℕ)
rows_of m = stored (λ s. row_of s.lists) m

-- i states stand in the tables
pub record Tabled (s : List ℕ) (i at : ℕ) (masks : List ℕ) (marks : List (List ℕ)) : Type 0 where
  pub read : List State
  pub decoding : Decoding s i at read
  pub masked : masks ≡ masks_of read
  pub marked : marks ≡ rows_of read

module _ (s : List ℕ) (g : GoodModel s) where
  pub tabled_begins : Tabled s 0 5 (replicate 64 0) (replicate 64 (replicate 64 0))
  tabled_begins = record {
    read = [];
    decoding = decoding_begins s g;
    masked = stored_none (λ s. s.mask);
    marked = ap (replicate 64) row-none ∙ stored_none (λ s. row_of s.lists);
  }

  module _ {i at : ℕ} {masks : List ℕ} {marks : List (List ℕ)} (t : Tabled s i at masks marks) where
    pub tabled_ends : length (states_of s) ≤ i → (marks ≡ successor_table (states_of s)) × (masks ≡ mask_table (states_of s))
    tabled_ends h =
        let e : t.read ≡ states_of s = decoding_ends s g t.decoding (omega (arith, good_many s g)) in
        (t.marked ∙ ap rows_of e ∙ sym (marks_stored (states_of s)), t.masked ∙ ap masks_of e ∙ sym (masks_stored (states_of s)))

    module _ (h : i < length (states_of s)) where
      more : i < get_or s 4 0
      more = omega (arith, good_many s g)

      pub next_placed : InModel s at
      next_placed = record { within = t.decoding.inside; low = omega (arith, t.decoding.near, good_counts s g, more) }

      pub next_there : StateThere (form_of s) s at
      next_there = state_there s g t.decoding more

      pub next_unmarked : get_or marks i [] ≡ row_of []
      next_unmarked =
          let many = t.decoding.walking.many in
          ap (λ (l : List (List ℕ)). get_or l i []) t.marked
          ∙ stored_past (λ s. row_of s.lists) t.read [] i (omega arith) (omega (arith, good_counts s g, more))

      pub tabled_steps : {mask next : ℕ} {row : List ℕ} → StatePut (form_of s) s at mask next row → Tabled s (i + 1) next (set masks i mask) (set marks i row)
      tabled_steps {mask} {next} {row} p =
          let x : State = p.read in
          let many = t.decoding.walking.many in
          let room : i < 64 = omega (arith, good_counts s g, more) in
          record {
            read = t.read ++ (x ∷ []);
            decoding = decoding_steps s g t.decoding more p;
            masked = ap (λ (l : List ℕ). set l i mask) t.masked ∙ ap (set (masks_of t.read) i) p.masked ∙ stored_more (λ s. s.mask) t.read x i many room;
            marked =
                ap (λ (l : List (List ℕ)). set l i row) t.marked
                ∙ ap (set (rows_of t.read) i) p.marked
                ∙ stored_more (λ s. row_of s.lists) t.read x i many room;
          }
