-- which numbers of a set are in another, by place, as a pass from the lowest up marks them
use Rattle.std.specs.Prelude.{◌≡◌, refl, Bool, true, not, ◌||◌, ◌&&◌, eqb, ltb, length, get_or}
use Rattle.std.proofs.Math.Path.{sym, ap}
use Rattle.std.proofs.Common.{◌∙◌, true≢false, arith, length-append, eq-eqb, ne_eqb, lt-ltb, le-ltb}
use Rattle.std.proofs.Math.Bool.{false, or-true, or-false, and-true, and-false}
use mathlib.Core.List.{List, [], ◌∷◌, ◌++◌, append-nil}
use Prim.Native.Nat.{ℕ, zero, suc, ◌+◌, ◌<◌, ◌≤◌, min}
use Rattle.std.proofs.Math.Decide.{dec_lt, ℕ_discrete}
use Rattle.std.proofs.Math.ListN.{get_or-eq_default, get_or-append}
use Rattle.std.proofs.lemmas.List.{get_or_at}
use Rattle.verdict.specs.Tests.{keep}
use Rattle.verdict.specs.Tells.{tells_self, and_tells}
use Rattle.numbering.specs.Only.{only, marks, range, length_marks, append_marks}
use Rattle.numbering.specs.Count.{more, tally, tally_suc, tally_bound, only_split, length_tally}
use Rattle.name_sets.specs.NameSets.{holds, Marks}
use Rattle.name_sets.specs.Ordered.{Bits, Lowest}
use Rattle.name_sets.specs.declared.Names.{Names}
use Rattle.thinning.specs.declared.Passed.{Passed}

-- which of the numbers of own below n are in inner
abbrev pub among : Names → Names → ℕ → List Bool
among own inner n = marks (holds inner) (only (holds own) (range 0 n))

-- the numbers of own below n are passed
pub record Thinned (own inner : Names) (n : ℕ) (s : Passed) : Type 0 where
  pub size_is : s.size ≡ tally (holds own) n
  pub marks_are : Bits s.marks (among own inner n)

-- number x is one more
pub record Grown (inner : Names) (x : ℕ) (s r : Passed) : Type 0 where
  pub size_is : r.size ≡ s.size + 1
  pub marks_are : (l : List Bool) → length l ≡ s.size → Bits s.marks l → Bits r.marks (l ++ (holds inner x ∷ []))

-- one number more

-- but at the end of a list, a mark behind it changes nothing
last_other : (l : List Bool) (b : Bool) (i : ℕ) → (i ≡ length l → ⊥) → get_or (l ++ (b ∷ [])) i false ≡ get_or l i false
last_other l b i h = go (dec_lt i (length l))
  where
    go : Dec (i < length l) → get_or (l ++ (b ∷ [])) i false ≡ get_or l i false
    go (yes m) = get_or-append l (b ∷ []) false i m
    go (no m) =
        get_or-eq_default (l ++ (b ∷ [])) false (let u = length-append l (b ∷ []) in omega arith)
        ∙ sym (get_or-eq_default l false (omega arith))

module _ {inner : Names} {x : ℕ} {s r : Passed} (size : r.size ≡ s.size + 1) where
  pub grown_without : holds inner x ≡ false → r.marks ≡ s.marks → Grown inner x s r
  grown_without u z = record {
    size_is = size;
    marks_are = λ l h m. rw (u, z) (λ i b. m i b ∙ sym (go l i (ℕ_discrete i (length l))));
  }
    where
      go : (l : List Bool) (i : ℕ) → Dec (i ≡ length l) → get_or (l ++ (false ∷ [])) i false ≡ get_or l i false
      go l i (yes e) = get_or_at l false [] false i (sym e) ∙ sym (get_or-eq_default l false (omega arith))
      go l i (no e) = last_other l false i e

  pub grown_with : holds inner x ≡ true → Marks r.marks (λ n. holds s.marks n || eqb n s.size) → Grown inner x s r
  grown_with u z = record {
    size_is = size;
    marks_are = λ l h m. rw u (λ i b. z i b ∙ go l h m i b (ℕ_discrete i (length l)));
  }
    where
      go : (l : List Bool) → length l ≡ s.size → Bits s.marks l → (i : ℕ) → i < 256 → Dec (i ≡ length l)
          → (holds s.marks i || eqb i s.size) ≡ get_or (l ++ (true ∷ [])) i false
      go l h m i b (yes e) = rw (eq-eqb i s.size (e ∙ h)) (or-true (holds s.marks i)) ∙ sym (get_or_at l true [] false i (sym e))
      go l h m i b (no e) =
          rw (ne_eqb i s.size (λ z. e (z ∙ sym h))) (or-false (holds s.marks i)) ∙ m i b ∙ sym (last_other l true i e)

module _ (own inner : Names) where
  among_suc : (x : ℕ) → among own inner (suc x) ≡ among own inner x ++ marks (holds inner) (keep (holds own x) x [])
  unfolding only range
  among_suc x =
      ap (marks (holds inner)) (only_split (holds own) x 1 0 (suc x) x (omega arith) (omega arith))
      ∙ append_marks (holds inner) (only (holds own) (range 0 x)) (only (holds own) (range x 1))

  pub among_length : (x : ℕ) → length (among own inner x) ≡ tally (holds own) x
  among_length x = length_marks (holds inner) (only (holds own) (range 0 x)) ∙ length_tally (holds own) x

  none_passed : (s : Passed) → s.size ≡ 0 → Marks s.marks (λ n. false) → Thinned own inner 0 s
  unfolding tally only range marks
  none_passed s z m = record { size_is = z; marks_are = λ i b. m i b ∙ sym (get_or-eq_default [] false {n = i} (omega arith)) }

  passed_without : (s : Passed) (x : ℕ) → holds own x ≡ false → Thinned own inner x s → Thinned own inner (suc x) s
  unfolding marks
  passed_without s x q S = record {
    size_is = S.size_is ∙ sym (tally_suc (holds own) x ∙ rw q refl);
    marks_are = rw (among_suc x, q, append-nil (among own inner x)) S.marks_are;
  }

  passed_with : (s r : Passed) (x : ℕ) → holds own x ≡ true → Grown inner x s r → Thinned own inner x s → Thinned own inner (suc x) r
  unfolding marks
  passed_with s r x q G S = record {
    size_is =
        let one_more : s.size + 1 ≡ suc (tally (holds own) x) = omega (arith, S.size_is) in
        G.size_is ∙ one_more ∙ sym (tally_suc (holds own) x ∙ ap (λ (b : Bool). more b (tally (holds own) x)) q);
    marks_are = rw (among_suc x, q) (G.marks_are (among own inner x) (among_length x ∙ sym S.size_is) S.marks_are);
  }

  -- none of own lies between
  passed_on : (s : Passed) (x y : ℕ) → x ≤ y → ((c : ℕ) → x ≤ c → c < y → holds own c ≡ false)
      → Thinned own inner x s → Thinned own inner y s
  passed_on s x zero h none S = let z : x ≡ 0 = omega arith in rw z at S
  passed_on s x (suc y) h none S = go (ℕ_discrete x (suc y)) (λ l. passed_on s x y l (λ c u w. none c u (omega arith)) S)
    where
      go : Dec (x ≡ suc y) → (x ≤ y → Thinned own inner y s) → Thinned own inner (suc y) s
      go (yes e) ih = rw e at S
      go (no e) ih = passed_without s y (none y (omega arith) (omega arith)) (ih (omega arith))

-- the pass

-- the set has the numbers of own from x on
abbrev pub From : Names → ℕ → Names → Type 0
From own x rest = Marks rest (λ c. holds own c && not (ltb c x))

-- where the pass over the numbers below n stands: those below x are passed, and x is the lowest of the rest
pub record Thinning (own inner : Names) (n : ℕ) (s : Passed) (rest : Names) (x : ℕ) : Type 0 where
  pub passed : Thinned own inner (min x n) s
  pub left : From own x rest
  pub next : Lowest rest x

module _ (own : Names) where
  -- the numbers from y on, the lowest of which is x
  none_between : (rest : Names) (x y : ℕ) → Lowest rest x → From own y rest → (c : ℕ) → y ≤ c → c < x → holds own c ≡ false
  none_between rest x y L R c h l =
      let s = L.small in
      sym (and-true (holds own c)) ∙ ap (λ (b : Bool). holds own c && not b) (sym (le-ltb c y h)) ∙ sym (R c (omega arith))
      ∙ L.none_below c l

  from_lowest : (rest : Names) (x y : ℕ) → y ≤ x → Lowest rest x → From own y rest → From own x rest
  from_lowest rest x y h L R c b = go (dec_lt c x)
    where
      go : Dec (c < x) → holds rest c ≡ (holds own c && not (ltb c x))
      go (yes l) = L.none_below c l ∙ sym (and-false (holds own c)) ∙ ap (λ (b : Bool). holds own c && not b) (sym (lt-ltb c x l))
      go (no l) = R c b ∙ rw (le-ltb c y (omega arith), le-ltb c x (omega arith)) refl

  from_first : From own 0 own
  from_first c b = sym (and-true (holds own c)) ∙ ap (λ (b : Bool). holds own c && not b) (sym (le-ltb c 0 (omega arith)))

module _ {own inner : Names} {n : ℕ} (small : n ≤ 256) where
  pub thinning_starts : {s : Passed} → s.size ≡ 0 → Marks s.marks (λ n. false) → {x : ℕ} → Lowest own x
      → Thinning own inner n s own x
  thinning_starts {s} z m {x} L = record {
    passed = passed_on own inner s 0 (min x n) (omega arith) (λ c _ l. L.none_below c (omega arith)) (none_passed own inner s z m);
    left = from_lowest own own x 0 (omega arith) L (from_first own);
    next = L;
  }

  module _ {s : Passed} {rest : Names} {x : ℕ} (now : Thinning own inner n s rest x) where
    pub thinning_ends : n ≤ x → Thinned own inner n s
    thinning_ends h = let all : min x n ≡ n = omega arith in rw all at now.passed

    module _ (inside : x < n) where
      pub size-within : s.size ≤ x
      size-within = omega (arith, now.passed.size_is, tally_bound (holds own) (min x n))

      here : holds own x ≡ true
      here = ((and_tells (tells_self (holds own x)) (tells_self (not (ltb x x)))).says
          (sym (now.left x (omega arith)) ∙ now.next.has (omega arith))).0

      -- x is taken out, and y is the lowest of what is left
      module _ (one : Names) {later : Names} {y : ℕ} (O : Marks one (λ c. eqb c x)) (R : Marks later (λ c. holds rest c && not (holds one c)))
          (L : Lowest later y) where
        after : From own (suc x) later
        after c b = R c b ∙ rw (now.left c b, O c b) (go (ℕ_discrete c x) (dec_lt c x))
          where
            go : Dec (c ≡ x) → Dec (c < x) → ((holds own c && not (ltb c x)) && not (eqb c x)) ≡ (holds own c && not (ltb c (suc x)))
            go (yes e) l =
                rw (eq-eqb c x e, lt-ltb c (suc x) (omega arith), and-false (holds own c)) (and-false (holds own c && not (ltb c x)))
            go (no e) (yes l) = rw (lt-ltb c x l, lt-ltb c (suc x) (omega arith), and-false (holds own c)) refl
            go (no e) (no l) =
                rw (ne_eqb c x e, le-ltb c x (omega arith), le-ltb c (suc x) (omega arith)) (and-true (holds own c && not false))

        pub thinning_nearer : x < y
        thinning_nearer = go (dec_lt x y)
          where
            go : Dec (x < y) → x < y
            go (yes l) = l
            go (no l) =
                let z = ((and_tells (tells_self (holds own y)) (tells_self (not (ltb y (suc x))))).says
                (sym (after y (omega arith)) ∙ L.has (omega arith))).1 in
                absurd (true≢false (sym z ∙ ap not (lt-ltb y (suc x) (omega arith))))

        pub thinning_on : {r : Passed} → Grown inner x s r → Thinning own inner n r later y
        thinning_on {r} G =
            let up = thinning_nearer in
            let now_at : min x n ≡ x = omega arith in
            record {
              passed = passed_on own inner r (suc x) (min y n) (omega arith)
                  (λ c h l. none_between own later y (suc x) L after c h (omega arith))
                  (passed_with own inner s r x here G (rw now_at at now.passed));
              left = from_lowest own later y (suc x) (omega arith) L after;
              next = L;
            }
