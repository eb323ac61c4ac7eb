-- the box step in plain numbers: all others are diamonds of the principal's action, and every member is stepped to its target
use Rattle.std.specs.Prelude.{◌≡◌, refl, ◌⊎◌, List, [], ◌∷◌, Bool, true, false, ◌||◌, ◌&&◌, ℕ, ◌+◌, ◌<◌, ◌≤◌, length, get_or}
use Rattle.std.proofs.Common.{ap, ◌∙◌, sym, inl, inr, arith}
use Rattle.std.proofs.Math.Path.{ap₂}
use mathlib.Core.List.Memᴰ
use Rattle.std.proofs.Math.Dec.{eqb}
use Rattle.verdict.specs.Sets.{elements}
use Rattle.verdict.specs.Tests.{all, each}
use Rattle.verdict.specs.Tells.{Tells, eqb_tells, or_tells, and_tells}
use Rattle.verdict.specs.SetTells.{all_tells}
use Rattle.formula.specs.Kind
use Rattle.formula.specs.Table.{Table, entry, kind, action}
use Rattle.formula.specs.Plain.{table_of, table_of_kind, table_of_b, table_of_length}
use Rattle.formula.specs.ShapeLaws.{diamond_shape, box_shape}
use Rattle.formula.specs.Target.{target_a}
use Rattle.formula.specs.Codes.{Formula, entry_of_lem, focus_of}
use Rattle.written.proofs.SameKind.{box_like}
use Rattle.written.specs.Canon.{key}
use Rattle.written.proofs.CanonLaws.{canon_says}
use Rattle.calculus.specs.Rules.{stepped}
use Rattle.calculus.specs.Judge.{diamond_of}
use Rattle.sequents.specs.Part.{part, part-more, part_none}
use Rattle.sequents.specs.Keys.{key_at, key_of_lem, key_at_lem, key_code, each_same}
use Rattle.sequents.specs.Placed.{Formulas, Coded}
use Rattle.sequents.specs.KeptLaws.{Operand-in, a_operand, target_inside}

-- a diamond of action m, in the columns of kinds and of field B
abbrev diamond_at : List ℕ → List ℕ → ℕ → ℕ → Bool
diamond_at ks ys m e = eqb (get_or ks e 0) Kind.DIAMOND && eqb (get_or ys e 0) m

-- a member of a box step: the principal, which is given by its key, or a diamond of its action m
abbrev pub boxed : List ℕ → List ℕ → List ℕ → ℕ → ℕ → ℕ → Bool
boxed ks ys ns p m c = eqb (key_of_lem ns c) p || diamond_at ks ys m (entry_of_lem c)

-- the target of a modal member, with the member's focus, as a member
abbrev pub stepped_key : List ℕ → Table → ℕ → ℕ
stepped_key ns t c = key_at ns (target_a t (entry_of_lem c)) (focus_of c)

-- a test over a part, at its first element
module _ (f : ℕ → Bool) (cs : List ℕ) (i j : ℕ) (h : i < j) (k : j ≤ length cs) where
  pub all_on : f (get_or cs i 0) ≡ true → all f (part cs i j) ≡ all f (part cs (i + 1) j)
  unfolding all
  all_on e = rw (part-more cs i j h k) (rw e refl)

  pub all-stop : f (get_or cs i 0) ≡ false → all f (part cs i j) ≡ false
  unfolding all
  all-stop e = rw (part-more cs i j h k) (rw e refl)

pub all_end : (f : ℕ → Bool) (cs : List ℕ) (i j : ℕ) → j ≤ i → all f (part cs i j) ≡ true
unfolding all
all_end f cs i j h = rw (part_none cs i j h) refl

-- the member c has an operand
abbrev pub Modal : List ℕ → List ℕ → List ℕ → ℕ → ℕ → Type 0
Modal ks xs ys n c = Operand-in ks xs xs n (entry_of_lem c) (entry (table_of ks xs ys n) (entry_of_lem c)).a

-- a test made alike of each element
all_same : {f g : ℕ → Bool} (l : List ℕ) → ((x : ℕ) → elements l x → f x ≡ g x) → all f l ≡ all g l
unfolding all
all_same [] h = refl
all_same (x ∷ l) h = ap₂ {C = Bool} (λ a b. a && b) (h x (Memᴰ.head refl)) (all_same l (λ y m. h y (Memᴰ.tail m)))

-- a principal p, and the codes l of its node, all of formulas
module _ {ks xs ys ns : List ℕ} {n p : ℕ} (C : Coded ks xs ys ns n p) (l : List ℕ) (formulas : Formulas (table_of ks xs ys n) l) where
  abbrev T : Table
  T = table_of ks xs ys n

  principal : Formula T (entry_of_lem p)
  principal = record { inside = omega (arith, C.inside, table_of_length ks xs ys n); no_name = C.no_name }

  entries : (c : ℕ) → elements l c → entry_of_lem c < n
  entries c m = omega (arith, (formulas c m).inside, table_of_length ks xs ys n)

  key-is : (c : ℕ) → Formula T (entry_of_lem c) → key_of_lem ns c ≡ key T c
  key-is c F = key_at_lem C.numbers (entry_of_lem c) (focus_of c) F.inside

  -- what the code asks of each
  abbrev Boxed : ℕ → Bool
  Boxed = boxed ks ys ns (key_of_lem ns p) (get_or ys (entry_of_lem p) 0)

  -- it is the judge's test, code by code
  pub others_boxed : all Boxed l ≡ all (λ c. eqb (key T c) (key T p) || diamond_of T (action T (entry_of_lem p)) (entry_of_lem c)) l
  unfolding diamond_of
  others_boxed = all_same l (λ c m. ap₂ {C = Bool} (λ x y. x || y)
      (ap₂ {C = Bool} eqb (key-is c (formulas c m)) (key-is p principal))
      (ap₂ {C = Bool} (λ x y. x && y)
      (ap (λ (k : ℕ). eqb k Kind.DIAMOND) (sym (table_of_kind ks xs ys n (entry_of_lem c) (entries c m))))
      (ap₂ {C = Bool} eqb (sym (table_of_b ks xs ys n (entry_of_lem c) (entries c m))) (sym (table_of_b ks xs ys n (entry_of_lem p) C.inside)))))

  -- and the targets are the judge's
  pub targets_stepped : ((c : ℕ) → elements l c → Modal ks xs ys n c) → each (stepped_key ns T) l ≡ each (λ c. key T (stepped T c)) l
  targets_stepped M = each_same l (λ c m.
      let o = M c m in
      key_code C.numbers (target_a T (entry_of_lem c)) (focus_of c) (omega arith)
      (omega (arith, target_inside ks xs ys n C.small C.well _ (rw (← o.is) at o.inside), table_of_length ks xs ys n)))

  -- of one key with the principal: a box like it
  twin : get_or ks (entry_of_lem p) 0 ≡ Kind.BOX → (c : ℕ) → Formula T (entry_of_lem c) → key_of_lem ns c ≡ key_of_lem ns p → kind T (entry_of_lem c) ≡ Kind.BOX
  twin q c F e =
      let a = C.numbers.each (entry_of_lem p) principal.inside in
      let b = C.numbers.each (entry_of_lem c) F.inside in
      let same = canon_says T (entry_of_lem p) (entry_of_lem c) principal F (omega (arith, a, b, e)) in
      (box_like T C.well (entry_of_lem p) (entry_of_lem c) (table_of_kind ks xs ys n (entry_of_lem p) C.inside ∙ q) F same).0

  pub modal : get_or ks (entry_of_lem p) 0 ≡ Kind.BOX → all Boxed l ≡ true → (c : ℕ) → elements l c → Modal ks xs ys n c
  modal q h c m = go ((all_tells tells l).says h c m)
    where
      Either : ℕ → Type 0
      Either d = (key_of_lem ns d ≡ key_of_lem ns p) ⊎ ((get_or ks (entry_of_lem d) 0 ≡ Kind.DIAMOND) × (get_or ys (entry_of_lem d) 0 ≡ get_or ys (entry_of_lem p) 0))

      tells : (d : ℕ) → Tells (Boxed d) (Either d)
      tells d = or_tells (eqb_tells (key_of_lem ns d) (key_of_lem ns p)) (and_tells (eqb_tells (get_or ks (entry_of_lem d) 0) Kind.DIAMOND) (eqb_tells (get_or ys (entry_of_lem d) 0) (get_or ys (entry_of_lem p) 0)))

      go : Either c → Modal ks xs ys n c
      go (inl e) = a_operand ks xs ys n C.small C.well (entry_of_lem c) (entries c m) (box_shape T (entry_of_lem c) (twin q c (formulas c m) e)) refl
      go (inr (e, _)) = a_operand ks xs ys n C.small C.well (entry_of_lem c) (entries c m)
          (diamond_shape T (entry_of_lem c) (table_of_kind ks xs ys n (entry_of_lem c) (entries c m) ∙ e)) refl
