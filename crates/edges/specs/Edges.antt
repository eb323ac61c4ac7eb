-- the words get bits edge by edge: word 64 * a + s gets bit u where action a leads from s to u
use Rattle.std.specs.Prelude.{◌≡◌, refl, ◌⊎◌, List, Bool, true, false, not, ◌&&◌, ℕ, ◌+◌, ◌*◌, ◌-◌, ◌/◌, ◌%◌, ◌<◌, ◌≤◌, eqb, get_or, replicate}
use Rattle.std.proofs.Common.{sym, ap, ◌∙◌, subst, inl, inr, true≢false, arith, eq-eqb, ne_eqb}
use Rattle.std.proofs.lemmas.Bool.{false≢true}
use Rattle.std.proofs.Math.Decide.{ℕ_discrete, dec_lt}
use Rattle.std.proofs.lemmas.List.{length-replicate}
use Rattle.std.proofs.Math.ListN.{get_or-eq_default}
use Rattle.std.specs.Int.Bits.{bit_and}
use Rattle.verdict.specs.Tells.{Tells, tells_as, tells_self, and_tells, fails_holds, same_test}
use Rattle.bits.specs.Bits.{bit, no_bit, and_bit}
use Rattle.bits.specs.WordLaws.{without_bit, without_bit_lem}
use Rattle.bits.specs.LowestBit.{LowestBit}
use Rattle.model_files.specs.DescribedLaws.{cell}
use Rattle.bits.specs.WordSet.{zeros_at}
use Rattle.states.specs.BitLaws.{bits_same}
use Rattle.states.proofs.StateWords.{by_bits}
use Rattle.states.specs.Rows.{row_word_lem, RowWords}
use Rattle.marks.specs.Lanes.{FourMarks, four_bit, lanes_bit}
use Rattle.entry_sets.specs.Counting.{count, count_less}
use Rattle.edges.specs.Added.{Added, At, added_none, added_as, added_more}

-- bit p of a word of four marks side by side is the mark of state u + p / 16 by action p % 16: of those that W picks, bit k of word i
pub record Put (W : ℕ → Type 0) (n s u i k : ℕ) : Type 0 where
  pub state : i % 64 ≡ s
  pub from : u ≤ k
  pub near : k < u + 4
  pub inside : k < n
  pub stands : W (16 * (k - u) + i / 64)

abbrev pub PutOf : (ℕ → Bool) → ℕ → ℕ → ℕ → ℕ → ℕ → Type 0
PutOf W n s u i k = Put (λ q. W q ≡ true) n s u i k

put_as : {U W : ℕ → Type 0} {n s u i k : ℕ} → ((q : ℕ) → U q → W q) → Put U n s u i k → Put W n s u i k
put_as f x = record { state = x.state; from = x.from; near = x.near; inside = x.inside; stands = f _ x.stands }

-- those that are put already
abbrev Done : ℕ → ℕ → ℕ → Type 0
Done w rest q = (bit w q ≡ true) × (bit rest q ≡ false)

-- the loop over the bits of a word
pub record Putting (w n s u : ℕ) (old : List ℕ) (rest : ℕ) (now : List ℕ) : Type 0 where
  pub added : Added (Put (Done w rest) n s u) old now
  pub left : (q : ℕ) → bit rest q ≡ true → bit w q ≡ true

pub putting_begins : (w n s u : ℕ) (old : List ℕ) → Putting w n s u old w old
putting_begins w n s u old = record { added = added_none old (λ i k h x. true≢false (sym x.stands.0 ∙ x.stands.1)); left = λ q h. h }

pub putting_ends : {w n s u : ℕ} {old : List ℕ} {rest : ℕ} {now : List ℕ} → Putting w n s u old rest now → rest ≡ 0 → Added (PutOf (λ q. bit w q) n s u) old now
putting_ends P e = added_as (λ i k h. put_as (λ q x. x.0)) (λ i k h. put_as (λ q x. (x, ap (λ (r : ℕ). bit r q) e ∙ no_bit q))) P.added

module _ {w n s u : ℕ} {old : List ℕ} {rest : ℕ} {now : List ℕ} (P : Putting w n s u old rest now) {p : ℕ} (L : LowestBit rest p) (hs : s < 64) {less : ℕ} (C : less ≡ without_bit rest (p % 64)) where
  cleared : (q : ℕ) → bit less q ≡ (bit rest q && not (eqb q p))
  cleared q = ap (λ (x : ℕ). bit x q) (C ∙ ap (without_bit rest) (omega (arith, L.small))) ∙ without_bit_lem rest p q L.small

  pub cleared_at : bit less p ≡ false
  cleared_at = cleared p ∙ rw (eq-eqb p p refl) (and-false (bit rest p))
    where
      and-false : (b : Bool) → (b && false) ≡ false
      and-false true = refl
      and-false false = refl

  pub cleared_within : (q : ℕ) → bit less q ≡ true → bit rest q ≡ true
  cleared_within q h = go (bit rest q) (sym (cleared q) ∙ h)
    where
      go : (b : Bool) → (b && not (eqb q p)) ≡ true → b ≡ true
      go true z = refl
      go false z = absurd (false≢true z)

  -- where a bit is cleared, it was before or it is p
  cleared_only : (q : ℕ) → (q ≡ p → ⊥) → bit less q ≡ false → bit rest q ≡ false
  cleared_only q ne h = go (bit rest q) (sym (cleared q) ∙ h)
    where
      go : (b : Bool) → (b && not (eqb q p)) ≡ false → b ≡ false
      go true z = absurd (true≢false (ap not (sym (ne_eqb q p ne)) ∙ z))
      go false z = refl

  stays : (q : ℕ) → bit rest q ≡ false → bit less q ≡ false
  stays q h = cleared q ∙ rw h refl

  pub putting_steps : {next : List ℕ} → Added (At (64 * (p % 16) + s) (u + p / 16) n) now next → Putting w n s u old less next
  putting_steps A = record {
    added = added_as (λ i k h. into i k) (λ i k h. back i k h) (added_more P.added A);
    left = λ q h. P.left q (cleared_within q h);
  }
    where
      into : (i k : ℕ) → Put (Done w rest) n s u i k ⊎ At (64 * (p % 16) + s) (u + p / 16) n i k → Put (Done w less) n s u i k
      into i k (inl x) = put_as (λ q (a, b). (a, stays q b)) x
      into i k (inr (e, f, g)) =
          let same : p ≡ 16 * (k - u) + i / 64 = omega arith in
          record {
            state = omega arith;
            from = omega arith;
            near = omega (arith, L.small);
            inside = g;
            stands = (ap (bit w) (sym same) ∙ P.left p L.stands, ap (bit less) (sym same) ∙ cleared_at);
          }

      back : (i k : ℕ) → i < 1024 → Put (Done w less) n s u i k → Put (Done w rest) n s u i k ⊎ At (64 * (p % 16) + s) (u + p / 16) n i k
      back i k h x = go (ℕ_discrete (16 * (k - u) + i / 64) p)
        where
          go : Dec (16 * (k - u) + i / 64 ≡ p) → Put (Done w rest) n s u i k ⊎ At (64 * (p % 16) + s) (u + p / 16) n i k
          go (yes e) = inr (omega (arith, x.state), omega (arith, x.from), x.inside)
          go (no ne) = inl (record { state = x.state; from = x.from; near = x.near; inside = x.inside; stands = (x.stands.0, cleared_only _ ne x.stands.1) })

  pub fewer_left : count 64 (bit less) < count 64 (bit rest)
  fewer_left = count_less 64 (bit less) (bit rest) (λ q h. cleared_within q h) p L.small cleared_at L.stands

-- an edge by an action that is used, from state i % 64 by action i / 64
pub record Leads (marks : List (List ℕ)) (used n i k : ℕ) : Type 0 where
  pub inside : k < n
  pub wanted : bit used (i / 64) ≡ true
  pub stands : bit (cell marks (i % 64) k) (i / 64) ≡ true

-- those from state s, to the states below u, and from the states below s
abbrev pub From : ℕ → List (List ℕ) → ℕ → ℕ → ℕ → ℕ → Type 0
From s marks used n i k = (i % 64 ≡ s) × Leads marks used n i k

abbrev pub FromTo : ℕ → ℕ → List (List ℕ) → ℕ → ℕ → ℕ → ℕ → Type 0
FromTo s u marks used n i k = (k < u) × From s marks used n i k

abbrev pub FromBelow : ℕ → List (List ℕ) → ℕ → ℕ → ℕ → ℕ → Type 0
FromBelow s marks used n i k = (i % 64 < s) × Leads marks used n i k

-- the bits of four marks, of the actions that are used
module _ {marks : List (List ℕ)} {s u w : ℕ} (F : FourMarks marks s u w) {used mask : ℕ} (is : mask ≡ used * 281479271743489) (small : used < 65536) where
  both : (i k : ℕ) → i < 1024 → u ≤ k → k < u + 4
      → Tells (bit (bit_and w mask) (16 * (k - u) + i / 64)) ((bit (cell marks s k) (i / 64) ≡ true) × (bit used (i / 64) ≡ true))
  both i k h l m =
      let here : bit w (16 * (k - u) + i / 64) ≡ bit (cell marks s k) (i / 64) =
      four_bit F (k - u) (i / 64) (omega arith) (omega arith) ∙ ap (λ (j : ℕ). bit (cell marks s j) (i / 64)) (omega arith) in
      let lane : bit mask (16 * (k - u) + i / 64) ≡ bit used (i / 64) = ap (λ (x : ℕ). bit x (16 * (k - u) + i / 64)) is ∙ lanes_bit used (k - u) (i / 64) small (omega arith) (omega arith) in
      rw (and_bit w mask (16 * (k - u) + i / 64), here, lane) (and_tells (tells_self (bit (cell marks s k) (i / 64))) (tells_self (bit used (i / 64))))

  pub four_more : {n : ℕ} {old mid new : List ℕ} → Added (FromTo s u marks used n) old mid → Added (PutOf (bit (bit_and w mask)) n s u) mid new
      → Added (FromTo s (u + 4) marks used n) old new
  four_more {n} A B = added_as into back (added_more A B)
    where
      into : (i k : ℕ) → i < 1024 → FromTo s u marks used n i k ⊎ PutOf (bit (bit_and w mask)) n s u i k → FromTo s (u + 4) marks used n i k
      into i k h (inl (l, x)) = (omega arith, x)
      into i k h (inr x) =
          let (stands, wanted) = (both i k h x.from x.near).says x.stands in
          (x.near, (x.state, record { inside = x.inside; wanted = wanted; stands = ap (λ (j : ℕ). bit (cell marks j k) (i / 64)) x.state ∙ stands }))

      back : (i k : ℕ) → i < 1024 → FromTo s (u + 4) marks used n i k → FromTo s u marks used n i k ⊎ PutOf (bit (bit_and w mask)) n s u i k
      back i k h (l, (e, x)) = go (dec_lt k u)
        where
          go : Dec (k < u) → FromTo s u marks used n i k ⊎ PutOf (bit (bit_and w mask)) n s u i k
          go (yes m) = inl (m, (e, x))
          go (no m) = inr (record {
            state = e;
            from = omega arith;
            near = l;
            inside = x.inside;
            stands = (both i k h (omega arith) l).holds (sym (ap (λ (j : ℕ). bit (cell marks j k) (i / 64)) e) ∙ x.stands, x.wanted);
          })

module _ {marks : List (List ℕ)} {used n : ℕ} where
  pub four_none : (s : ℕ) (old : List ℕ) → Added (FromTo s 0 marks used n) old old
  four_none s old = added_none old (λ i k h x. omega (arith, x.0))

  pub four_all : {s u : ℕ} {old new : List ℕ} → n ≤ u → Added (FromTo s u marks used n) old new → Added (From s marks used n) old new
  four_all l A = added_as (λ i k h x. x.1) (λ i k h x. (omega (arith, x.1.inside), x)) A

  pub states_none : (old : List ℕ) → Added (FromBelow 0 marks used n) old old
  states_none old = added_none old (λ i k h x. omega (arith, x.0))

  pub states_more : {s : ℕ} {old mid new : List ℕ} → Added (FromBelow s marks used n) old mid → Added (From s marks used n) mid new → Added (FromBelow (s + 1) marks used n) old new
  states_more {s} A B = added_as into back (added_more A B)
    where
      into : (i k : ℕ) → i < 1024 → FromBelow s marks used n i k ⊎ From s marks used n i k → FromBelow (s + 1) marks used n i k
      into i k h (inl (l, x)) = (omega arith, x)
      into i k h (inr (e, x)) = (omega arith, x)

      back : (i k : ℕ) → i < 1024 → FromBelow (s + 1) marks used n i k → FromBelow s marks used n i k ⊎ From s marks used n i k
      back i k h (l, x) = go (ℕ_discrete (i % 64) s)
        where
          go : Dec (i % 64 ≡ s) → FromBelow s marks used n i k ⊎ From s marks used n i k
          go (yes e) = inr (e, x)
          go (no ne) = inl (omega arith, x)

  -- from nothing, they are the words of the rows
  from_nothing : {rows : List ℕ} → n ≤ 64 → Added (FromBelow n marks used n) (replicate 1024 0) rows → RowWords marks used n (replicate 1024 0) 16 rows
  from_nothing {rows} few A = record { long = A.long; there = there; away = λ i none. away i none (dec_lt i 1024) }
    where
      zeros : List ℕ
      zeros = replicate 1024 0

      tells : (i k : ℕ) → i < 1024 → Tells (bit (get_or rows i 0) k) (FromBelow n marks used n i k)
      tells i k h = tells_as only inr (A.tells i k h)
        where
          only : (bit (get_or (replicate 1024 0) i 0) k ≡ true) ⊎ FromBelow n marks used n i k → FromBelow n marks used n i k
          only (inl x) = absurd (false≢true (sym (ap (λ (w : ℕ). bit w k) (zeros_at 1024 i) ∙ no_bit k) ∙ x))
          only (inr x) = x

      there : (a s : ℕ) → a < 16 → bit used a ≡ true → s < n → get_or rows (64 * a + s) 0 ≡ row_word_lem marks n a s
      there a s h b l = by_bits n (λ u. bit (cell marks s u) a) (get_or rows (64 * a + s) 0) same (λ k m. fails_holds (tells i k (omega arith)) (λ x. omega (arith, x.1.inside)))
        where
          i : ℕ
          i = 64 * a + s

          action : (64 * a + s) / 64 ≡ a
          action = omega arith

          state : (64 * a + s) % 64 ≡ s
          state = omega arith

          same : (k : ℕ) → k < n → bit (get_or rows (64 * a + s) 0) k ≡ bit (cell marks s k) a
          same k m = same_test (tells (64 * a + s) k (omega arith)) (tells_as into back (tells_self (bit (cell marks s k) a)))
            where
              into : bit (cell marks s k) a ≡ true → FromBelow n marks used n (64 * a + s) k
              into x = (omega arith, record { inside = m; wanted = ap (bit used) action ∙ b; stands = rw (state, action) x })

              back : FromBelow n marks used n (64 * a + s) k → bit (cell marks s k) a ≡ true
              back (p, x) = rw (state, action) at x.stands

      away : (i : ℕ) → ((a s : ℕ) → a < 16 → bit used a ≡ true → s < n → i ≡ 64 * a + s → ⊥) → Dec (i < 1024) → get_or rows i 0 ≡ get_or (replicate 1024 0) i 0
      away i none (yes h) =
          bits_same (get_or rows i 0) (get_or (replicate 1024 0) i 0)
          (λ k. fails_holds (tells i k h) (λ x. none (i / 64) (i % 64) (omega arith) x.1.wanted x.0 (omega arith)) ∙ sym (ap (λ (w : ℕ). bit w k) (zeros_at 1024 i) ∙ no_bit k))
      away i none (no h) = get_or-eq_default rows 0 (omega (arith, A.long, length-replicate {A = ℕ} 1024 0)) ∙ sym (zeros_at 1024 i)

  pub states_all : {old rows : List ℕ} → old ≡ replicate 1024 0 → n ≤ 64 → Added (FromBelow n marks used n) old rows → RowWords marks used n old 16 rows
  states_all {old} {rows} e few A =
      subst (λ (z : List ℕ). RowWords marks used n z 16 rows) (sym e) (from_nothing few (subst (λ (z : List ℕ). Added (FromBelow n marks used n) z rows) e A))
