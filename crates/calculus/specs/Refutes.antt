-- what it means that a state refutes a sequent, plainly and within a number of modal steps
use Rattle.std.specs.Prelude.{◌≡◌, refl, ℕ, zero, suc, pred, ◌+◌, ◌-◌, ◌<◌, ◌≤◌}
use Rattle.std.proofs.Common.{sym, ⊎_elim, zero-add, suc-add, arith}
use mathlib.Core.List.Memᴰ
use mathlib.Core.List.{List, [], ◌∷◌, Memᴰ}
use Rattle.verdict.specs.Sets.{Set, ◌⊆◌, elements, image, image_⊆}
use Rattle.formula.specs.Table.{Table}
use Rattle.formula.specs.Codes.{Formula, entry_of_lem, focus_of}
use Rattle.written.specs.Written.{written}
use Rattle.meaning.specs.States.{Model}
use Rattle.calculus.specs.Sequents.{Member, member, read}
use Rattle.calculus.specs.Falsity.{Falsity, Family, Passes, OneLess}

module _ {t : Table} {m : Model} (M : Falsity t m) where
  -- each listed entry, by itself, is false at s
  pub record Refutes (s : ℕ) (S : Set ℕ) : Type 0 where
    pub inside : s < m.size
    pub all : S ⊆ (λ c. M.false_at (entry_of_lem c) s)

  -- what a member owes by its focus: out of focus falsity, in focus a refutation within j
  abbrev pub Owed : ℕ → ℕ → Family
  Owed j zero = M.false_at
  Owed j (suc f) = M.Refuted j

  -- the same after a modal step
  abbrev pub OwedNext : ℕ → ℕ → Family
  OwedNext j zero = M.false_at
  OwedNext j (suc f) = OneLess M.Refuted j

  -- a member fails by every entry of its formula
  abbrev pub Fails : ℕ → ℕ → Set Member
  Fails j s (F, f) = (e : ℕ) → Formula t e → written t e ≡ F → Owed j f e s

  pub record RefutesWithin (j s : ℕ) (S : Set Member) : Type 0 where
    pub inside : s < m.size
    pub all : S ⊆ Fails j s

  pub owed_passes : (j f : ℕ) → Passes t m (Owed j f) (OwedNext j f)
  owed_passes j zero = M.false_passes
  owed_passes j (suc f) = M.refuted_passes j

  pub owed_false : (j f e s : ℕ) → s < m.size → Owed j f e s → M.false_at e s
  owed_false j zero e s h o = o
  owed_false j (suc f) e s h o = M.refuted_false j e s h o

  -- a step leaves one modal step less, whatever the focus
  pub owed_next : (j f e s : ℕ) → OwedNext j f e s → Owed (pred j) f e s
  owed_next j zero e s o = o
  owed_next j (suc f) e s (i, q, o) = rw q o

  -- in focus there was a step to spare
  pub focused_next : (j f e s : ℕ) → f ≡ 1 → OwedNext j f e s → pred j < j
  focused_next j zero e s h o = absurd (omega arith)
  focused_next j (suc f) e s h (i, q, o) = omega arith

  -- one entry that owes will do: what is owed goes by the formula
  pub fails_member : (j s e f : ℕ) → s < m.size → Owed j f e s → Fails j s (member t e f)
  fails_member j s e zero h o g F q = M.false_like e g s h (sym q) o
  fails_member j s e (suc f) h o g F q = M.refuted_like j e g s h F (sym q) o

  -- more steps do as well
  add_steps : (k j e s : ℕ) → M.Refuted j e s → M.Refuted (k + j) e s
  add_steps zero j e s o = rw zero-add o
  add_steps (suc k) j e s o = rw suc-add (M.more_steps (k + j) e s (add_steps k j e s o))

  pub refuted_more : (i j e s : ℕ) → i ≤ j → M.Refuted i e s → M.Refuted j e s
  refuted_more i j e s h o = let q : j - i + i ≡ j = omega arith in rw q at (add_steps (j - i) i e s o)

  pub owed_more : (i j f e s : ℕ) → i ≤ j → Owed i f e s → Owed j f e s
  owed_more i j zero e s h o = o
  owed_more i j (suc f) e s h o = refuted_more i j e s h o

  pub fails_more : (i j s : ℕ) → i ≤ j → Fails i s ⊆ Fails j s
  fails_more i j s h (F, f) o e G q = owed_more i j f e s h (o e G q)

  -- what is false is owed within some number of steps, whatever the focus
  pub owed_some : (f e s : ℕ) → s < m.size → Formula t e → M.false_at e s → (j : ℕ) × Owed j f e s
  owed_some zero e s h r o = (0, o)
  owed_some (suc f) e s h r o = M.complete e s h r o

  -- one number of steps for all members
  pub all_within : (s : ℕ)
      → s < m.size
      → (l : List ℕ)
      → elements l ⊆ (λ c. Formula t (entry_of_lem c))
      → elements l ⊆ (λ c. M.false_at (entry_of_lem c) s)
      → (j : ℕ) × (elements l ⊆ (λ c. Owed j (focus_of c) (entry_of_lem c) s))
  all_within s h [] r o = (0, λ c n. absurd (Memᴰ.not-nil n))
  all_within s h (x ∷ l) r o =
      let (i, f) = all_within s h l (λ c n. r c (Memᴰ.tail n)) (λ c n. o c (Memᴰ.tail n)) in
      let (k, g) = owed_some (focus_of x) (entry_of_lem x) s h (r x (Memᴰ.head refl)) (o x (Memᴰ.head refl)) in (
        k + i,
        λ c n. ⊎_elim
            (λ (q : c ≡ x). rw q (owed_more k (k + i) (focus_of x) (entry_of_lem x) s (omega arith) g))
            (λ (q : Memᴰ c l). owed_more i (k + i) (focus_of c) (entry_of_lem c) s (omega arith) (f c q))
            (Memᴰ.cases_cons n),
      )

  -- then the sequent that is listed fails
  pub listed_fails : (j s : ℕ) → s < m.size → {S : Set ℕ} → S ⊆ (λ c. Owed j (focus_of c) (entry_of_lem c) s) → image (read t) S ⊆ Fails j s
  listed_fails j s h o = image_⊆ (Fails j s) (read t) (λ c n. fails_member j s (entry_of_lem c) (focus_of c) h (o c n))
