-- One number more keeps what stands: that of a name, that of an entry that is alike, or a fresh one.
use Rattle.std.specs.Prelude.{◌≡◌, refl, ◌≢◌, ◌⊎◌, Bool, List, ℕ, suc, ◌+◌, ◌*◌, ◌<◌, length, get_or, set}
use Rattle.std.proofs.Common.{sym, ap, subst, ◌∙◌, inl, inr, arith, get_or-set_same, get_or-set_other}
use Rattle.std.proofs.Math.Decide.{dec_lt, ℕ_discrete}
use Rattle.formula.specs.Table.{Table}
use Rattle.formula.specs.Shape.{name, shape, NoName}
use Rattle.formula.specs.TableLaws.{name_or_not}
use Rattle.formula.specs.Plain.{table_of, table_of_length}
use Rattle.conditions.specs.WellFormedLaws.{name_fix}
use Rattle.numbering.specs.Filled.{Alike, Filled}
use Rattle.numbering.specs.LevelLaws.{alike_no_name}
use Rattle.numbering.specs.Filling.{With, Taken, Fresh, filled_as, place_name}
use Rattle.numbering.proofs.Filling.{place}
use Rattle.numbering.specs.Count.{tally, none_below, name_tally}
use Rattle.one_level.specs.Fit.{cell, Fit}
use Rattle.one_level.specs.LevelTest.{Columns, fit_says, fit_holds}
use Rattle.rounds.specs.Stand.{On, left, left_is, Stand, Turn, fits, few, inside, k-is, here, k_few, kids, index}

module _ {ks xs ys : List ℕ} {n : ℕ} {is_free : ℕ → ℕ → Bool} {rs bs : List ℕ} {q e : ℕ} (t : Turn ks xs ys n is_free rs bs q e) where
  abbrev T : Table
  T = table_of ks xs ys n

  abbrev Stands : ℕ → ℕ → Type 0
  Stands = On n is_free bs

  abbrev k : ℕ
  k = left n is_free e q

  count : length T ≡ n
  count = table_of_length ks xs ys n

  module _ (v : ℕ) where
    abbrev new : List ℕ
    new = set rs (256 * k + e) v

    abbrev moved : List ℕ
    moved = set bs e k

    cell_new : cell new k e ≡ v
    cell_new = get_or-set_same rs (256 * k + e) v 0 (omega (arith, (inside t), t.small, t.cells, (k-is t), few t.wf t.tells n e q (inside t) t.round))

    pub cell_old : (j d : ℕ) → Stands j d → cell new j d ≡ cell rs j d
    cell_old j d (i, a, b) = get_or-set_other rs (256 * k + e) (256 * j + d) v 0
        (λ z.
        let w : d ≡ e = omega (arith, (inside t), t.small) in
        let u : get_or bs d 0 ≡ suc k = ap (λ (x : ℕ). get_or bs x 0) w ∙ (here t) in
        omega (arith, (inside t), t.small))

    moved_here : get_or moved e 0 ≡ k
    moved_here = get_or-set_same bs e k 0 (omega (arith, (inside t), t.small, t.bounds))

    moved_other : (d : ℕ) → d ≢ e → get_or moved d 0 ≡ get_or bs d 0
    moved_other d h = get_or-set_other bs e d k 0 h

    into : (j d : ℕ) → With Stands k e j d → On n is_free moved j d
    into j d (inl (i, a, b)) = go (ℕ_discrete d e)
      where
        go : Dec (d ≡ e) → On n is_free moved j d
        go (yes z) =
            let u : get_or moved d 0 ≡ k = ap (λ (x : ℕ). get_or moved x 0) z ∙ moved_here in
            let w : get_or bs d 0 ≡ suc k = ap (λ (x : ℕ). get_or bs x 0) z ∙ (here t) in
            (i, omega arith, b)
        go (no z) = let u = moved_other d z in (i, omega arith, b)
    into j d (inr (u, w)) = rw (u, w) ((inside t), omega (arith, moved_here), (k_few t))

    pub from : (j d : ℕ) → On n is_free moved j d → With Stands k e j d
    from j d (i, a, b) = go (ℕ_discrete d e) (ℕ_discrete j k)
      where
        go : Dec (d ≡ e) → Dec (j ≡ k) → With Stands k e j d
        go (yes z) (yes w) = inr (w, z)
        go (yes z) (no w) =
            let u : get_or moved d 0 ≡ k = ap (λ (x : ℕ). get_or moved x 0) z ∙ moved_here in
            let y : get_or bs d 0 ≡ suc k = ap (λ (x : ℕ). get_or bs x 0) z ∙ (here t) in
            inl (i, omega arith, b)
        go (no z) w = let u = moved_other d z in inl (i, omega arith, b)

    -- not yet
    fresh_here : Stands k e → ⊥
    fresh_here (i, a, b) = omega (arith, (here t))

    no_255 : Stands 1 255 → ⊥
    no_255 (i, a, b) = omega (arith, none_below T t.wf is_free t.tells 255 n (omega (arith, t.small)))

    -- the number of what stands stands, but for that of bound names
    abbrev Home : ℕ → Type 0
    Home f = Stands k (cell rs k f) ⊎ ((k ≡ 1) × (cell rs k f ≡ 255))

    home : (f : ℕ) → Stands k f → Home f
    home f O = go (name_or_not (shape T f))
      where
        go : ((x : ℕ) × (shape T f ≡ name x)) ⊎ NoName (shape T f) → Home f
        go (inr r) = inl (t.stand.homes k f O r)
        go (inl (x, r)) = by (ℕ_discrete k 0) (ℕ_discrete k 1)
          where
            one : tally (is_free f) n ≡ 1
            one = name_tally T t.wf is_free t.tells f x r n (omega (arith, (t.wf.names_above f x r).1, count))

            by : Dec (k ≡ 0) → Dec (k ≡ 1) → Home f
            by (yes z) w =
                let (A, B) = t.stand.filled.free f x (rw z at O) r in
                let (σ, a, s) = name_fix T t.wf f x r in
                inl (rw (z, B) (t.stand.homes 0 x A (rw s tt)))
            by (no z) (yes w) = inr (w, rw w (t.stand.bound_names f x (rw w at O) r))
            by (no z) (no w) = absurd (omega (arith, O.2, one))

    -- a name
    module _ (x : ℕ) (r : shape T e ≡ name x) (written_out : k ≡ 0 → v ≡ cell rs 0 x) (bound : k ≢ 0 → v ≡ 255) where
      x_in : x < n
      x_in = omega (arith, (t.wf.names_above e x r).1, count)

      fixpoint_stands : 0 ≡ k → Stands 0 x
      fixpoint_stands z = (x_in, omega (arith, at_zero (dec_lt x q)), omega arith)
        where
          at_zero : Dec (x < q) → get_or bs x 0 ≡ 0
          at_zero (yes l) = absurd (omega (arith, name_tally T t.wf is_free t.tells e x r q l, (k-is t)))
          at_zero (no l) =
              t.todo x x_in (omega (arith, (t.wf.names_above e x r).0)) ∙ left_is n is_free x (suc q) (omega (arith, x_in))
              ∙ none_below T t.wf is_free t.tells x (suc q) (omega arith)

      cell_at : (j : ℕ) → j ≡ k → cell new j e ≡ v
      cell_at j z = ap (λ (m : ℕ). cell new m e) z ∙ cell_new

      cell_bound : 1 ≡ k → cell new 1 e ≡ 255
      cell_bound z = cell_at 1 z ∙ bound (λ w. omega arith)

      name_filled : Filled T is_free (cell new) (With Stands k e)
      name_filled = place_name T is_free (cell rs) (cell new) Stands t.stand.filled k e cell_old x r
          (λ z. (fixpoint_stands z, cell_at 0 z ∙ written_out (sym z)))
          (λ z f y O s. cell_bound z ∙ sym (t.stand.bound_names f y O s))
          (λ z f O s h. no_255 (subst (λ (w : ℕ). Stands 1 w) (sym h ∙ cell_bound z) (t.stand.homes 1 f O s)))

      pub name_stands : Stand ks xs ys n is_free new moved
      name_stands = record {
        filled = filled_as T is_free (cell new) (With Stands k e) (On n is_free moved) into from name_filled;
        homes = λ j d O s. homes j d (from j d O) s;
        bound_names = λ d y O s. bound_names d y (from 1 d O) s;
      }
        where
          homes : (j d : ℕ) → With Stands k e j d → NoName (shape T d) → On n is_free moved j (cell new j d)
          homes j d (inl O) s = rw (cell_old j d O) (into j _ (inl (t.stand.homes j d O s)))
          homes j d (inr (u, w)) s = let z : shape T d ≡ name x = ap (shape T) w ∙ r in absurd (rw z at s)

          bound_names : (d y : ℕ) → With Stands k e 1 d → shape T d ≡ name y → cell new 1 d ≡ 255
          bound_names d y (inl O) s = cell_old 1 d O ∙ t.stand.bound_names d y O s
          bound_names d y (inr (u, w)) s = ap (λ (m : ℕ). cell new 1 m) w ∙ cell_bound u

    -- no name
    module _ (r : NoName (shape T e)) where
      choice_stands : Taken T is_free (cell rs) Stands k e v ⊎ Fresh T is_free (cell rs) Stands k e v → On n is_free moved k v
          → Stand ks xs ys n is_free new moved
      choice_stands c own = record {
        filled = filled_as T is_free (cell new) (With Stands k e) (On n is_free moved) into from
            (place T is_free (cell rs) (cell new) Stands t.stand.filled k e cell_old r (kids t) (rw cell_new c));
        homes = λ j d O s. homes j d (from j d O) s;
        bound_names = λ d y O s. bound_names d y (from 1 d O) s;
      }
        where
          homes : (j d : ℕ) → With Stands k e j d → NoName (shape T d) → On n is_free moved j (cell new j d)
          homes j d (inl O) s = rw (cell_old j d O) (into j _ (inl (t.stand.homes j d O s)))
          homes j d (inr (u, w)) s = rw (u, w, cell_new) own

          bound_names : (d y : ℕ) → With Stands k e 1 d → shape T d ≡ name y → cell new 1 d ≡ 255
          bound_names d y (inl O) s = cell_old 1 d O ∙ t.stand.bound_names d y O s
          bound_names d y (inr (u, w)) s = let z : shape T e ≡ name y = ap (shape T) (sym w) ∙ s in absurd (rw z at r)

      module _ (ts us vs : List ℕ) (C : Columns ks xs ys n is_free ts us vs) where
        abbrev FitHere : ℕ → Type 0
        FitHere f = Fit ks xs ys ts rs us vs k (get_or bs (get_or xs e 0) 0) (get_or bs (get_or ys e 0) 0) e f

        -- the program's test of one that stands
        test : (f : ℕ) → Stands k f → (FitHere f → Alike T is_free (cell rs) k e f) × (Alike T is_free (cell rs) k e f → FitHere f)
        test f O =
            let x = fits count k e (inside t) (k_few t) in
            let y = fits count k f O.0 O.2 in (
              fit_says ks xs ys n is_free ts us vs C t.wf t.tells rs k _ _ e f (inside t) O.0 x y r (index t ts us vs C),
              fit_holds ks xs ys n is_free ts us vs C t.wf t.tells rs k _ _ e f (inside t) O.0 x y (index t ts us vs C),
            )

        -- one that stands is like it
        pub taken_stands : (f : ℕ) → Stands k f → FitHere f → v ≡ cell rs k f → Stand ks xs ys n is_free new moved
        taken_stands f O h z =
            let level = (test f O).0 h in
            let s = alike_no_name T is_free (cell rs) k e f level in
            choice_stands (inl (record { like = f; stands = O; level = level; number = z })) (into k v (inl (rw z (t.stand.homes k f O s))))

        -- none that stands is
        pub fresh_stands : ((f : ℕ) → Stands k f → FitHere f → ⊥) → v ≡ e → Stand ks xs ys n is_free new moved
        fresh_stands none z =
            choice_stands (inr (record {
              none_like = λ f O h. none f O ((test f O).1 h);
              none_has = λ f O h. has f O (sym h ∙ z) (home f O);
            })) (into k v (inr (refl, z)))
          where
            has : (f : ℕ) → Stands k f → cell rs k f ≡ e → Home f → ⊥
            has f O h (inl H) = fresh_here (rw h at H)
            has f O h (inr (u, w)) =
                let y : e ≡ 255 = sym h ∙ w in
                let g : tally (is_free e) n ≡ 0 = none_below T t.wf is_free t.tells e n (omega (arith, t.small)) in
                omega (arith, (k_few t))
