-- the program's one-level test is that of the theory, where its columns hold what they should
use Rattle.std.specs.Prelude.{◌≡◌, refl, Bool, true, false, List, ℕ, ◌+◌, ◌<◌, ◌≤◌, length, get_or}
use Rattle.std.proofs.Common.{sym, ap, ◌∙◌, inl, arith}
use Rattle.verdict.specs.Tells.{Tells}
use Rattle.formula.specs.Kind
use Rattle.formula.specs.Table.{Table}
use Rattle.formula.specs.Shape.{Shape, leaf, two, step, fix, name, Leaf, never, always, letter, negated, Two, Step, Fix, shape, NoName}
use Rattle.formula.specs.Plain.{table_of, table_of_length}
use Rattle.conditions.specs.Free.{Free}
use Rattle.conditions.specs.WellFormed.{WellFormed}
use Rattle.conditions.specs.WellFormedLaws.{operand_below}
use Rattle.conditions.specs.KindShapes.{plain_shape}
use Rattle.operands.specs.OperandBounds.{plain_shape_lem}
use Rattle.name_sets.specs.Ordered.{Bits}
use Rattle.name_sets.specs.RowWords.{row_of}
use Rattle.numbering.specs.Only.{marks, same_count}
use Rattle.numbering.specs.Forms.{names, Fits, within, in_operand}
use Rattle.numbering.specs.Filled.{Alike, Level}
use Rattle.numbering.specs.Count.{tally, tally_bound, length_tally, body_tally}
use Rattle.one_level.specs.Kinds.{kind_of, first_of, second_of, acting, acting_own, remake, kind_back, first_back, second_back, remake_plain}
use Rattle.one_level.specs.Kinds.{kind_two, kind_step, kind_fix, kind_same_two, kind_same_step, kind_same_fix}
use Rattle.one_level.specs.Agree.{agree_says, agree_holds}
use Rattle.one_level.specs.Fit.{cell, Fit, fit_bare, fit_letter, fit_two, fit_step, fit_fix}

-- a body has one name more than its fixpoint, or as many: the counts tell which

within_apart : (b c : Bool) (x y : ℕ) → within c y + x ≡ within b x + y → b ≡ c
within_apart true true x y h = refl
within_apart true false x y h = absurd (omega arith)
within_apart false true x y h = absurd (omega arith)
within_apart false false x y h = refl

within_sums : (b c : Bool) (x y : ℕ) → b ≡ c → within c y + x ≡ within b x + y
within_sums b c x y h = rw (← h) (go b)
  where
    go : (b : Bool) → within b y + x ≡ within b x + y
    go true = omega arith
    go false = omega arith

module _ (ks xs ys : List ℕ) (n : ℕ) (is_free : ℕ → ℕ → Bool) where
  abbrev T : Table
  T = table_of ks xs ys n

  -- what the columns say
  pub record Columns (ts us vs : List ℕ) : Type 0 where
    pub small : n ≤ 256
    pub known : (e : ℕ) → e < n → get_or ks e 0 ≤ Kind.NAME
    pub totals : (e : ℕ) → e < n → get_or ts e 0 ≡ tally (is_free e) n
    pub firsts : (e a b : ℕ) (o : Two) → e < n → shape T e ≡ two o a b → Bits (row_of us e) (marks (is_free a) (names T is_free e))
    pub seconds : (e a b : ℕ) (o : Two) → e < n → shape T e ≡ two o a b → Bits (row_of vs e) (marks (is_free b) (names T is_free e))

  -- i and j names are bound in the operands of e, k in e itself
  abbrev pub Index : ℕ → ℕ → ℕ → ℕ → Shape → Type 0
  Index i j k e (leaf l) = Unit {0}
  Index i j k e (two o a b) = (i ≡ in_operand T is_free a k e) × (j ≡ in_operand T is_free b k e)
  Index i j k e (step m a) = i ≡ k
  Index i j k e (fix σ a) = i ≡ within (is_free a e) k
  Index i j k e (name x) = Unit {0}

  module _ (ts us vs : List ℕ) (C : Columns ts us vs) where
    module _ (e : ℕ) (E : e < n) {v : Shape} (q : shape T e ≡ v) where
      plain : plain_shape (get_or ks e 0) (get_or xs e 0) (get_or ys e 0) ≡ v
      plain = sym (plain_shape_lem ks xs ys n e E) ∙ q

      pub kind_at : kind_of v ≡ get_or ks e 0
      kind_at = sym (ap kind_of plain) ∙ kind_back (get_or xs e 0) (get_or ys e 0) (get_or ks e 0) (C.known e E)

      pub first-at : Kind.LETTER ≤ get_or ks e 0 → first_of v ≡ get_or xs e 0
      first-at h = sym (ap first_of plain) ∙ first_back (get_or xs e 0) (get_or ys e 0) (get_or ks e 0) h (C.known e E)

      pub second_at : Kind.OR ≤ get_or ks e 0 → get_or ks e 0 ≤ Kind.BOX → second_of v ≡ get_or ys e 0
      second_at h l = sym (ap second_of plain) ∙ second_back (get_or xs e 0) (get_or ys e 0) (get_or ks e 0) h l

    -- the operands of e as the columns have them
    pub index_columns : (e : ℕ) → e < n → (g : ℕ → ℕ → ℕ) (k : ℕ) (v : Shape) → shape T e ≡ v
        → Index (g (first_of v) 0) (g (second_of v) 0) k e v → Index (g (get_or xs e 0) 0) (g (get_or ys e 0) 0) k e v
    index_columns e E g k (leaf l) q ix = tt
    index_columns e E g k (two o a b) q (u, w) =
        let z = kind_at e E q in
        let (lo, hi) = kind_two o a b in
        (ap (λ (m : ℕ). g m 0) (sym (first-at e E q (omega arith))) ∙ u, ap (λ (m : ℕ). g m 0) (sym (second_at e E q (omega arith) (omega arith))) ∙ w)
    index_columns e E g k (step m a) q u =
        let z = kind_at e E q in
        let (lo, hi) = kind_step m a in
        ap (λ (m : ℕ). g m 0) (sym (first-at e E q (omega arith))) ∙ u
    index_columns e E g k (fix σ a) q u =
        let z = kind_at e E q in
        let (lo, hi) = kind_fix σ a in
        ap (λ (m : ℕ). g m 0) (sym (first-at e E q (omega arith))) ∙ u
    index_columns e E g k (name x) q ix = tt

    module _ (wf : WellFormed T) (tells : (e x : ℕ) → Tells (is_free e x) (Free T e x)) (rs : List ℕ) where
      -- the counts of a fixpoint and its body
      body_total : (g a : ℕ) (σ : Fix) → shape T g ≡ fix σ a → g < n → get_or ts a 0 ≡ within (is_free a g) (get_or ts g 0)
      body_total g a σ q G =
          C.totals a (omega (arith, operand_below T wf g a q refl)) ∙ body_tally T wf is_free tells g a σ q n G
          ∙ ap (within (is_free a g)) (sym (C.totals g G))

      module _ (k i j e f : ℕ) (E : e < n) (F : f < n) (x : Fits T is_free k e) (y : Fits T is_free k f) where
        abbrev FitHere : Type 0
        FitHere = Fit ks xs ys ts rs us vs k i j e f

        -- of the same kind: the shape of e with the fields of f
        remade : get_or ks f 0 ≡ get_or ks e 0 → {v : Shape} → shape T e ≡ v → shape T f ≡ remake v (get_or xs f 0) (get_or ys f 0)
        remade s q =
            plain_shape_lem ks xs ys n f F ∙ ap (λ (z : ℕ). plain_shape z (get_or xs f 0) (get_or ys f 0)) s
            ∙ sym (remake_plain (get_or xs e 0) (get_or ys e 0) (get_or xs f 0) (get_or ys f 0) (get_or ks e 0))
            ∙ ap (λ (v : Shape). remake v (get_or xs f 0) (get_or ys f 0)) (plain e E q)

        short : k ≤ 256
        short =
            let u : length (names T is_free e) ≡ tally (is_free e) (length T) = length_tally (is_free e) (length T) in
            omega (arith, C.small, x.enough, tally_bound (is_free e) (length T), table_of_length ks xs ys n)

        -- what the test says, shape by shape
        says : (v : Shape) → shape T e ≡ v → NoName v → Index i j k e v → FitHere → Level T is_free (cell rs) k e f v (shape T f)
        says (leaf never) q r ix t = remade t.kinds q
        says (leaf always) q r ix t = remade t.kinds q
        says (leaf (letter l)) q r ix t =
            let z = kind_at e E q in
            remade t.kinds q ∙ ap (λ (y : ℕ). leaf (letter y)) (t.letters (omega arith) (omega arith) ∙ sym (first-at e E q (omega arith)))
        says (leaf (negated l)) q r ix t =
            let z = kind_at e E q in
            remade t.kinds q ∙ ap (λ (y : ℕ). leaf (negated y)) (t.letters (omega arith) (omega arith) ∙ sym (first-at e E q (omega arith)))
        says (two o a b) q r (u, w) t =
            let z = kind_at e E q in
            let (lo, hi) = kind_two o a b in
            let g = remade t.kinds q in
            let A = first-at e E q (omega arith) in
            let B = second_at e E q (omega arith) (omega arith) in
            let both = t.two (omega arith) (omega arith) in (
              get_or xs f 0,
              get_or ys f 0,
              g,
              agree_says _ _ (is_free a) _ _ _ k short x.enough y.enough (C.firsts e a b o E q) (C.firsts f _ _ o F g)
                  (λ i b. sym (both.first_names i b)),
              agree_says _ _ (is_free b) _ _ _ k short x.enough y.enough (C.seconds e a b o E q) (C.seconds f _ _ o F g)
                  (λ i b. sym (both.second_names i b)),
              rw (← u, A) (sym (t.first (omega arith) (omega arith))),
              rw (← w, B) (sym both.second),
            )
        says (step m a) q r u t =
            let z = kind_at e E q in
            let (lo, hi) = kind_step m a in
            let A = first-at e E q (omega arith) in
            let B = t.actions (omega arith) (omega arith) ∙ sym (second_at e E q (omega arith) (omega arith)) in (
              get_or xs f 0,
              remade t.kinds q ∙ ap (λ (d : ℕ). step (acting m d) (get_or xs f 0)) B ∙ ap (λ (m : Step). step m (get_or xs f 0)) (acting_own m),
              rw (← u, A) (sym (t.first (omega arith) (omega arith))),
            )
        says (fix σ a) q r u t =
            let z = kind_at e E q in
            let (lo, hi) = kind_fix σ a in
            let A : a ≡ get_or xs e 0 = first-at e E q (omega arith) in
            let g = remade t.kinds q in
            let total : get_or ts (get_or xs e 0) 0 ≡ within (is_free a e) (get_or ts e 0) = ap (λ (m : ℕ). get_or ts m 0) (sym A) ∙ body_total e a σ q E in (
              get_or xs f 0,
              g,
              within_apart (is_free a e) (is_free (get_or xs f 0) f) (get_or ts e 0) (get_or ts f 0)
                  (ap (λ (m : ℕ). m + get_or ts e 0) (sym (body_total f _ σ g F)) ∙ t.own (omega arith) (omega arith) ∙ ap (λ (m : ℕ). m + get_or ts f 0) total),
              rw (← u, A) (sym (t.first (omega arith) (omega arith))),
            )
        says (name z) q r ix t = absurd r

        same_kind : (v w : Shape) → shape T e ≡ v → shape T f ≡ w → kind_of v ≡ kind_of w → get_or ks f 0 ≡ get_or ks e 0
        same_kind v w q r s = sym (kind_at f F r) ∙ sym s ∙ kind_at e E q

        -- and that it holds of entries that are alike
        holds : (v : Shape) → shape T e ≡ v → Index i j k e v → Level T is_free (cell rs) k e f v (shape T f) → FitHere
        holds (leaf l) q ix h = go l q h
          where
            go : (l : Leaf) → shape T e ≡ leaf l → shape T f ≡ leaf l → FitHere
            go never q h = let z = kind_at e E q in fit_bare (same_kind (leaf never) (leaf never) q h refl) (inl (omega arith))
            go always q h = let z = kind_at e E q in fit_bare (same_kind (leaf always) (leaf always) q h refl) (inl (omega arith))
            go (letter p) q h =
                let z = kind_at e E q in
                let s = same_kind (leaf (letter p)) (leaf (letter p)) q h refl in
                fit_letter s (omega arith) (sym (first-at f F h (omega arith)) ∙ first-at e E q (omega arith))
            go (negated p) q h =
                let z = kind_at e E q in
                let s = same_kind (leaf (negated p)) (leaf (negated p)) q h refl in
                fit_letter s (omega arith) (sym (first-at f F h (omega arith)) ∙ first-at e E q (omega arith))
        holds (two o a b) q (u, w) (c, d, g, m, l, r, s) =
            let z = same_kind (two o a b) (two o c d) q g (kind_same_two o a b c d) in
            let v = kind_at e E q in
            let (lo, hi) = kind_two o a b in
            let A = first-at e E q (omega arith) in
            let B = second_at e E q (omega arith) (omega arith) in
            let D = first-at f F g (omega arith) in
            let G = second_at f F g (omega arith) (omega arith) in
            fit_two z (omega arith) (rw (← D, ← A, u) (sym r)) (omega arith)
            (record {
              second = rw (← G, ← B, w) (sym s);
              first_names = λ at in_k.
                  sym (agree_holds _ _ (is_free a) (is_free c) _ _ k short x.enough y.enough (C.firsts e _ _ o E q) (C.firsts f _ _ o F g) m at in_k);
              second_names = λ at in_k.
                  sym (agree_holds _ _ (is_free b) (is_free d) _ _ k short x.enough y.enough (C.seconds e _ _ o E q) (C.seconds f _ _ o F g) l at in_k);
            })
        holds (step m a) q u (c, g, r) =
            let z = same_kind (step m a) (step m c) q g (kind_same_step m a c) in
            let v = kind_at e E q in
            let (lo, hi) = kind_step m a in
            let A = first-at e E q (omega arith) in
            let D = first-at f F g (omega arith) in
            let B = second_at e E q (omega arith) (omega arith) in
            let G = second_at f F g (omega arith) (omega arith) in
            fit_step z (omega arith) (rw (← D, ← A, u) (sym r)) (omega arith) (omega arith) (sym G ∙ B)
        holds (fix σ a) q u (c, g, s, r) =
            let z = same_kind (fix σ a) (fix σ c) q g (kind_same_fix σ a c) in
            let v = kind_at e E q in
            let (lo, hi) = kind_fix σ a in
            let A : a ≡ get_or xs e 0 = first-at e E q (omega arith) in
            let D : c ≡ get_or xs f 0 = first-at f F g (omega arith) in
            let sums = within_sums (is_free a e) (is_free c f) (get_or ts e 0) (get_or ts f 0) s in
            fit_fix z (omega arith) (rw (← D, ← A, u) (sym r)) (omega arith)
            (rw (← D, ← A) (ap (λ (m : ℕ). m + get_or ts e 0) (body_total f c σ g F) ∙ sums ∙ ap (λ (m : ℕ). m + get_or ts f 0) (sym (body_total e a σ q E))))
        holds (name z) q ix h = absurd h

        -- alike entries have the same numbers of names bound in their operands
        index_moves : (v w : Shape) → Level T is_free (cell rs) k e f v w → Index i j k e v → Index i j k f w
        index_moves (leaf l) w q ix = rw q tt
        index_moves (two o a b) w (c, d, q, m, l, r, s) (u, z) =
            rw q (u ∙ same_count (is_free a) (is_free c) _ _ m, z ∙ same_count (is_free b) (is_free d) _ _ l)
        index_moves (step m a) w (c, q, r) ix = rw q ix
        index_moves (fix σ a) w (c, q, s, r) ix = rw q (ix ∙ ap (λ (b : Bool). within b k) s)
        index_moves (name z) w h ix = absurd h

        pub fit_says : NoName (shape T e) → Index i j k e (shape T e) → FitHere → Alike T is_free (cell rs) k e f
        fit_says r ix t = says (shape T e) refl r ix t

        pub fit_holds : Index i j k e (shape T e) → Alike T is_free (cell rs) k e f → FitHere
        fit_holds ix h = holds (shape T e) refl ix h

        pub alike_index : Alike T is_free (cell rs) k e f → Index i j k e (shape T e) → Index i j k f (shape T f)
        alike_index = index_moves (shape T e) (shape T f)
