-- an entry without names has no place to mark; in an operand that has all names of its entry, every place is marked
use Rattle.std.specs.Prelude.{◌≡◌, refl, Bool, true, false, not, ◌&&◌, List, [], ◌∷◌, ℕ, zero, suc, ◌/◌, ◌%◌, ◌<◌, ◌≤◌, ltb, length, get_or}
use Rattle.std.proofs.Common.{sym, ap, ◌∙◌, true≢false, arith, lt-ltb, le-ltb}
use Rattle.std.proofs.Math.Decide.{dec_lt}
use Rattle.std.proofs.Math.ListN.{get_or-eq_default}
use Rattle.verdict.specs.Lists.{more}
use Rattle.verdict.specs.Tells.{tells_self, and_tells}
use Rattle.bits.specs.Bits.{no_bit}
use Rattle.numbering.specs.Only.{All, only, marks, range, only_passes, passes_too}
use Rattle.numbering.specs.Count.{tally, length_tally}
use Rattle.name_sets.specs.NameSets.{word, holds, Marks, Shared}
use Rattle.name_sets.specs.Ordered.{Bits}
use Rattle.name_sets.specs.declared.Names.{Names}
use Rattle.thinning.specs.Marked.{among, among_length}

pub none_among : (own inner x : Names) (n : ℕ) → tally (holds own) n ≡ 0 → Marks x (λ _. false) → Bits x (among own inner n)
none_among own inner x n empty none i b = none i b ∙ sym (get_or-eq_default (among own inner n) false {n = i} (omega (arith, among_length own inner n, empty)))

-- every number of own is in inner
abbrev pub Within : Names → Names → Type 0
Within own inner = (c : ℕ) → c < 256 → holds own c ≡ true → holds inner c ≡ true

-- what is in own and not in inner
pub within_less : (own inner lacking : Names) → Marks lacking (λ c. holds own c && not (holds inner c)) → (Shared lacking lacking → ⊥) → Within own inner
within_less own inner lacking L empty c b h = go (holds inner c) refl
  where
    go : (i : Bool) → holds inner c ≡ i → i ≡ true
    go true q = refl
    go false q = let z : holds lacking c ≡ true = L c b ∙ rw (h, q) refl in absurd (empty (c, b, z, z))

pub within_none : (own inner lacking : Names) → Marks lacking (λ c. holds own c && not (holds inner c)) → Within own inner → Shared lacking lacking → ⊥
within_none own inner lacking L all (c, b, h, _) =
    let (o, n) = (and_tells (tells_self (holds own c)) (tells_self (not (holds inner c)))).says (sym (L c b) ∙ h) in
    true≢false (sym n ∙ ap not (all c b o))

-- a set has no number from 256 on
holds_small : (n : Names) (x : ℕ) → holds n x ≡ true → x < 256
unfolding holds
holds_small n x h = go (dec_lt x 256)
  where
    beyond : (i : ℕ) → 4 ≤ i → word n i ≡ 0
    beyond zero m = absurd (omega arith)
    beyond (suc zero) m = absurd (omega arith)
    beyond (suc (suc zero)) m = absurd (omega arith)
    beyond (suc (suc (suc zero))) m = absurd (omega arith)
    beyond (suc (suc (suc (suc i)))) m = refl

    go : Dec (x < 256) → x < 256
    go (yes l) = l
    go (no l) = absurd (true≢false (sym h ∙ rw (beyond (x / 64) (omega arith)) (no_bit (x % 64))))

-- where all numbers pass, every place is marked
all_marked : (q : ℕ → Bool) (l : List ℕ) → All q l → (i : ℕ) → get_or (marks q l) i false ≡ ltb i (length l)
unfolding marks
all_marked q [] h i = get_or-eq_default [] false {n = i} (omega arith) ∙ sym (le-ltb i 0 (omega arith))
all_marked q (y ∷ l) (more e h) zero = e ∙ sym (lt-ltb 0 (suc (length l)) (omega arith))
all_marked q (y ∷ l) (more e h) (suc i) = all_marked q l h i ∙ go (dec_lt i (length l))
  where
    go : Dec (i < length l) → ltb i (length l) ≡ ltb (suc i) (suc (length l))
    go (yes m) = lt-ltb i (length l) m ∙ sym (lt-ltb (suc i) (suc (length l)) (omega arith))
    go (no m) = le-ltb i (length l) (omega arith) ∙ sym (le-ltb (suc i) (suc (length l)) (omega arith))

-- so where inner has all of own, the marks are the first places
pub all_among : (own inner x : Names) (n k : ℕ) → Within own inner → k ≡ tally (holds own) n → Marks x (λ c. ltb c k) → Bits x (among own inner n)
all_among own inner x n k all count low i b =
    let names = only (holds own) (range 0 n) in
    let pass = passes_too (holds own) (holds inner) names (λ c h. all c (holds_small own c h) h) (only_passes (holds own) (range 0 n)) in
    low i b ∙ ap (ltb i) (count ∙ sym (length_tally (holds own) n)) ∙ sym (all_marked (holds inner) names pass i)
