-- The marks of what stands: an entry that is the same form as one that stands has its mark, so where that mark is not there, none stands.
use Rattle.std.specs.Prelude.{◌≡◌, refl, Bool, true, ◌||◌, List, ℕ, ◌+◌, ◌*◌, ◌<◌, ◌≤◌, eqb, get_or, set}
use Rattle.std.proofs.Common.{sym, ap, ◌∙◌, inl, inr, arith, eq-eqb}
use Rattle.std.proofs.Math.Bool.{or-true}
use Rattle.std.proofs.Math.Decide.{dec_lt}
use Rattle.formula.specs.Kind
use Rattle.formula.specs.Table.{Table}
use Rattle.formula.specs.Shape.{Shape, leaf, two, step, fix, name, Leaf, never, always, letter, negated, shape, NoName}
use Rattle.formula.specs.Plain.{table_of, table_of_length}
use Rattle.bits.specs.WordSet.{in_set}
use Rattle.numbering.specs.Filled.{Operands}
use Rattle.numbering.specs.LevelLaws.{alike_no_name}
use Rattle.numbering.specs.Filling.{With}
use Rattle.one_level.specs.Kinds.{kind_of, first_of, second_of, kind_two, kind_step, kind_fix}
use Rattle.one_level.specs.Fit.{cell, Fit}
use Rattle.one_level.specs.LevelTest.{Columns, Index, kind_at, first-at, second_at, fit_says, alike_index}
use Rattle.searching.specs.Search.{mark_in_lem, mark_of, mark_constant, mark_letter, mark_two, mark_step, mark_one}
use Rattle.rounds.specs.Stand.{On, left, fits, Turn, inside, k_few, kids, index}
use Rattle.rounds.specs.NumberMore.{cell_old, from}

-- a mark goes by what the one-level test compares
mark_same : (k x y n m u v p q : ℕ) → (Kind.LETTER ≤ k → k < Kind.OR → x ≡ u) → (Kind.OR ≤ k → n ≡ p) → (Kind.OR ≤ k → k ≤ Kind.AND → m ≡ q)
    → (Kind.DIAMOND ≤ k → k ≤ Kind.BOX → y ≡ v) → mark_in_lem k x y n m ≡ mark_in_lem k u v p q
mark_same k x y n m u v p q letters first second actions = go (dec_lt k Kind.LETTER) (dec_lt k Kind.OR) (dec_lt Kind.AND k) (dec_lt Kind.BOX k)
  where
    go : Dec (k < Kind.LETTER) → Dec (k < Kind.OR) → Dec (Kind.AND < k) → Dec (Kind.BOX < k) → mark_in_lem k x y n m ≡ mark_in_lem k u v p q
    go (yes a) b c d = mark_constant k x y n m a ∙ sym (mark_constant k u v p q a)
    go (no a) (yes b) c d = mark_letter k x y n m (omega arith) b ∙ rw (letters (omega arith) b) (sym (mark_letter k u v p q (omega arith) b))
    go (no a) (no b) (no c) d =
        mark_two k x y n m (omega arith) (omega arith)
        ∙ rw (first (omega arith), second (omega arith) (omega arith)) (sym (mark_two k u v p q (omega arith) (omega arith)))
    go (no a) (no b) (yes c) (no d) =
        mark_step k x y n m (omega arith) (omega arith)
        ∙ rw (first (omega arith), actions (omega arith) (omega arith)) (sym (mark_step k u v p q (omega arith) (omega arith)))
    go (no a) (no b) (yes c) (yes d) = mark_one k x y n m d ∙ rw (first (omega arith)) (sym (mark_one k u v p q d))

-- ss has the mark of everything that stands and is no name
abbrev pub Marked : List ℕ → List ℕ → List ℕ → ℕ → (ℕ → ℕ → Bool) → List ℕ → List ℕ → List ℕ → Type 0
Marked ks xs ys n is_free rs bs ss =
    let v = shape (table_of ks xs ys n) in
    (k f : ℕ) → On n is_free bs k f → NoName (v f) → (i j : ℕ) → Index ks xs ys n is_free i j k f (v f)
    → in_set ss (512 * k + mark_of ks xs ys rs i j f) ≡ true

module _ {ks xs ys : List ℕ} {n : ℕ} {is_free : ℕ → ℕ → Bool} {ts us vs : List ℕ} (C : Columns ks xs ys n is_free ts us vs) where
  abbrev T : Table
  T = table_of ks xs ys n

  abbrev IndexOf : ℕ → ℕ → ℕ → ℕ → Shape → Type 0
  IndexOf = Index ks xs ys n is_free

  -- the fields of an entry by its shape
  module _ (f : ℕ) (F : f < n) {v : Shape} (s : shape T f ≡ v) where
    kind_is : kind_of v ≡ get_or ks f 0
    kind_is = kind_at ks xs ys n is_free ts us vs C f F s

    first-is : Kind.OR ≤ kind_of v → first_of v ≡ get_or xs f 0
    first-is h = first-at ks xs ys n is_free ts us vs C f F s (omega (arith, kind_is))

    second_is : Kind.OR ≤ kind_of v → kind_of v ≤ Kind.AND → second_of v ≡ get_or ys f 0
    second_is h l = second_at ks xs ys n is_free ts us vs C f F s (omega (arith, kind_is)) (omega (arith, kind_is))

  -- an entry keeps its mark while its operands keep their numbers
  mark_stays : (rs new : List ℕ) (on : ℕ → ℕ → Type 0) → ((j d : ℕ) → on j d → cell new j d ≡ cell rs j d)
      → (k f : ℕ) → f < n → (v : Shape) → shape T f ≡ v → NoName v → Operands T is_free on k f v
      → (i j a b : ℕ) → IndexOf i j k f v → IndexOf a b k f v → mark_of ks xs ys new i j f ≡ mark_of ks xs ys rs a b f
  mark_stays rs new on old k f F (leaf l) s r O i j a b I J =
      let low = kind_leaf l in
      let z = kind_is f F s in
      mark_same (get_or ks f 0) _ _ _ _ _ _ _ _ (λ _ _. refl) (λ h. absurd (omega arith)) (λ h. absurd (omega arith)) (λ _ _. refl)
    where
      kind_leaf : (l : Leaf) → kind_of (leaf l) < Kind.OR
      kind_leaf never = omega arith
      kind_leaf always = omega arith
      kind_leaf (letter p) = omega arith
      kind_leaf (negated p) = omega arith
  mark_stays rs new on old k f F (two o x y) s r (A, B) i j a b (I, H) (J, G) =
      let (lo, hi) = kind_two o x y in
      let p = first-is f F s lo in
      let q = second_is f F s lo hi in
      mark_same (get_or ks f 0) _ _ _ _ _ _ _ _ (λ _ _. refl) (λ _. rw (← p, I, J) (old _ _ A)) (λ _ _. rw (← q, H, G) (old _ _ B)) (λ _ _. refl)
  mark_stays rs new on old k f F (step m x) s r A i j a b I J =
      let z = kind_is f F s in
      let (lo, hi) = kind_step m x in
      let p = first-is f F s (omega arith) in
      mark_same (get_or ks f 0) _ _ _ _ _ _ _ _ (λ _ _. refl) (λ _. rw (← p, I, J) (old _ _ A)) (λ _ h. absurd (omega arith)) (λ _ _. refl)
  mark_stays rs new on old k f F (fix σ x) s r A i j a b I J =
      let z = kind_is f F s in
      let (lo, hi) = kind_fix σ x in
      let p = first-is f F s (omega arith) in
      mark_same (get_or ks f 0) _ _ _ _ _ _ _ _ (λ _ _. refl) (λ _. rw (← p, I, J) (old _ _ A)) (λ _ h. absurd (omega arith)) (λ _ _. refl)
  mark_stays rs new on old k f F (name x) s r O i j a b I J = absurd r

  module _ {rs bs : List ℕ} {q e : ℕ} (t : Turn ks xs ys n is_free rs bs q e) (ss : List ℕ) (M : Marked ks xs ys n is_free rs bs ss) where
    abbrev Stands : ℕ → ℕ → Type 0
    Stands = On n is_free bs

    abbrev k : ℕ
    k = left n is_free e q

    abbrev i : ℕ
    i = get_or bs (get_or xs e 0) 0

    abbrev j : ℕ
    j = get_or bs (get_or ys e 0) 0

    abbrev own : ℕ
    own = 512 * k + mark_of ks xs ys rs i j e

    indexed : IndexOf i j k e (shape T e)
    indexed = index t ts us vs C

    proper : (v : Shape) → shape T e ≡ v → NoName v → get_or ks e 0 ≤ Kind.NU
    proper v s r = go v r (kind_is e (inside t) s)
      where
        go : (v : Shape) → NoName v → kind_of v ≡ get_or ks e 0 → get_or ks e 0 ≤ Kind.NU
        go (leaf never) r z = omega arith
        go (leaf always) r z = omega arith
        go (leaf (letter p)) r z = omega arith
        go (leaf (negated p)) r z = omega arith
        go (two o a b) r z = let (lo, hi) = kind_two o a b in omega arith
        go (step m a) r z = let (lo, hi) = kind_step m a in omega arith
        go (fix σ a) r z = let (lo, hi) = kind_fix σ a in omega arith
        go (name x) r z = absurd r

    -- the mark of one that fits is there
    pub fit_marked : NoName (shape T e) → (f : ℕ) → Stands k f → Fit ks xs ys ts rs us vs k i j e f → in_set ss own ≡ true
    fit_marked r f O h =
        let count = table_of_length ks xs ys n in
        let x = fits count k e (inside t) (k_few t) in
        let y = fits count k f O.0 O.2 in
        let level = fit_says ks xs ys n is_free ts us vs C t.wf t.tells rs k i j e f (inside t) O.0 x y r indexed h in
        let J = alike_index ks xs ys n is_free ts us vs C t.wf t.tells rs k i j e f (inside t) O.0 x y level indexed in
        ap (λ (m : ℕ). in_set ss (512 * k + m)) (sym same) ∙ M k f O (alike_no_name T is_free (cell rs) k e f level) i j J
      where
        same : mark_of ks xs ys rs i j f ≡ mark_of ks xs ys rs i j e
        same =
            let nu = proper (shape T e) refl r in
            rw h.kinds
            (mark_same (get_or ks e 0) _ _ _ _ _ _ _ _ (λ a b. h.letters a (omega arith)) (λ a. h.first a (omega arith)) (λ a b. (h.two a b).second)
            h.actions)

    -- one number more
    module _ (v : ℕ) where
      abbrev new : List ℕ
      new = set rs (256 * k + e) v

      abbrev moved : List ℕ
      moved = set bs e k

      -- what stood keeps its mark
      old_marked : (ns : List ℕ) → ((d : ℕ) → in_set ss d ≡ true → in_set ns d ≡ true) → (h f : ℕ) → Stands h f → NoName (shape T f)
          → (a b : ℕ) → IndexOf a b h f (shape T f) → in_set ns (512 * h + mark_of ks xs ys new a b f) ≡ true
      old_marked ns keeps h f O s a b J =
          let closed = t.stand.filled.closed h f O in
          let stays = mark_stays rs new Stands (cell_old t v) h f O.0 (shape T f) refl s closed a b a b J J in
          keeps _ (ap (λ (m : ℕ). in_set ss (512 * h + m)) stays ∙ M h f O s a b J)

      pub name_marked : (x : ℕ) → shape T e ≡ name x → Marked ks xs ys n is_free new moved ss
      name_marked x r h f O s a b J = go (from t v h f O)
        where
          go : With Stands k e h f → in_set ss (512 * h + mark_of ks xs ys new a b f) ≡ true
          go (inl A) = old_marked ss (λ d z. z) h f A s a b J
          go (inr (u, w)) = let z : shape T f ≡ name x = ap (shape T) w ∙ r in absurd (rw z at s)

      pub formula_marked : NoName (shape T e) → (ns : List ℕ) → ((d : ℕ) → in_set ns d ≡ (in_set ss d || eqb d own))
          → Marked ks xs ys n is_free new moved ns
      formula_marked r ns N h f O s a b J = go (from t v h f O)
        where
          own_mark : in_set ns own ≡ true
          own_mark = N own ∙ rw (eq-eqb own own refl) (or-true (in_set ss own))

          go : With Stands k e h f → in_set ns (512 * h + mark_of ks xs ys new a b f) ≡ true
          go (inl A) = old_marked ns (λ d z. N d ∙ rw z refl) h f A s a b J
          go (inr (u, w)) =
              let z : IndexOf a b k e (shape T e) = rw (u, w) at J in
              let stays = mark_stays rs new Stands (cell_old t v) k e (inside t) (shape T e) refl r (kids t) a b i j z indexed in
              rw (u, w) (ap (λ (m : ℕ). in_set ns (512 * k + m)) stays ∙ own_mark)
