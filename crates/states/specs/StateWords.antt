-- the word of a set of states, by its bits, and what a test of the words of a row and of a set tells
use Rattle.std.specs.Prelude.{◌≡◌, refl, List, Bool, true, false, not, ◌||◌, ◌&&◌, ℕ, ◌<◌, ◌≤◌, eqb, ltb, get_or}
use Rattle.std.proofs.Common.{ap, ◌∙◌, sym, arith, eq-eqb, ne_eqb}
use Rattle.std.proofs.Math.Decide.{dec_lt, ℕ_discrete}
use Rattle.std.specs.Int.Bits.{bit_and}
use Rattle.meaning.specs.Truth.{some, every, some_false, none-some, every_true, all_every}
use Rattle.meaning.specs.States.{StateSet}
use Rattle.bits.specs.Bits.{bit, no_bit, and_bit}
use Rattle.states.specs.BitLaws.{bits_same}

-- bit k of w for state k below n, and all further bits zero
abbrev pub IsWord : ℕ → StateSet → ℕ → Type 0
IsWord n A w = (k : ℕ) → bit w k ≡ (ltb k n && A k)

-- the first m words have no bit past the last of n states
abbrev pub Inside : ℕ → ℕ → List ℕ → Type 0
Inside n m ws = (e s : ℕ) → e < m → n ≤ s → bit (get_or ws e 0) s ≡ false

-- the sets that the words stand for
abbrev pub sets_of : List ℕ → ℕ → StateSet
sets_of ws e = bit (get_or ws e 0)

-- the tests that the code makes of a state's row x of successors, which are states, and a word w
module _ (n x w : ℕ) (inside : (u : ℕ) → n ≤ u → bit x u ≡ false) where
  -- a successor in w: `x & w != 0`
  pub diamond_test : not (eqb (bit_and x w) 0) ≡ some n (λ u. bit x u && bit w u)
  diamond_test = go (ℕ_discrete (bit_and x w) 0) (some n (λ u. bit x u && bit w u)) refl
    where
      both : (u : ℕ) → some n (λ u. bit x u && bit w u) ≡ false → Dec (u < n) → bit (bit_and x w) u ≡ bit 0 u
      both u e (yes l) = and_bit x w u ∙ some_false n _ e u l ∙ sym (no_bit u)
      both u e (no l) = and_bit x w u ∙ rw (inside u (omega arith)) (sym (no_bit u))

      go : Dec (bit_and x w ≡ 0) → (b : Bool) → some n (λ u. bit x u && bit w u) ≡ b → not (eqb (bit_and x w) 0) ≡ b
      go (yes z) b e =
          rw (eq-eqb (bit_and x w) 0 z) (sym (none-some n _ (λ u l. sym (and_bit x w u) ∙ ap (λ (y : ℕ). bit y u) z ∙ no_bit u)) ∙ e)
      go (no z) true e = rw (ne_eqb (bit_and x w) 0 z) refl
      go (no z) false e = absurd (z (bits_same (bit_and x w) 0 (λ u. both u e (dec_lt u n))))

  -- all successors in w: `x & w == x`
  pub box_test : eqb (bit_and x w) x ≡ every n (λ u. not (bit x u) || bit w u)
  box_test = go (ℕ_discrete (bit_and x w) x) (every n (λ u. not (bit x u) || bit w u)) refl
    where
      covers : (a b : Bool) → (a && b) ≡ a → (not a || b) ≡ true
      covers true b h = h
      covers false b h = refl

      covered : (a b : Bool) → (not a || b) ≡ true → (a && b) ≡ a
      covered true b h = h
      covered false b h = refl

      all : (u : ℕ) → every n (λ u. not (bit x u) || bit w u) ≡ true → Dec (u < n) → bit (bit_and x w) u ≡ bit x u
      all u e (yes l) = and_bit x w u ∙ covered (bit x u) (bit w u) (every_true n _ e u l)
      all u e (no l) = and_bit x w u ∙ rw (inside u (omega arith)) refl

      go : Dec (bit_and x w ≡ x) → (b : Bool) → every n (λ u. not (bit x u) || bit w u) ≡ b → eqb (bit_and x w) x ≡ b
      go (yes z) b e =
          rw (eq-eqb (bit_and x w) x z)
          (sym (all_every n _ (λ u l. covers (bit x u) (bit w u) (sym (and_bit x w u) ∙ ap (λ (y : ℕ). bit y u) z))) ∙ e)
      go (no z) true e = absurd (z (bits_same (bit_and x w) x (λ u. all u e (dec_lt u n))))
      go (no z) false e = ne_eqb (bit_and x w) x z
