-- sizes and offsets, node by node, for the proofs of the code
use Rattle.std.specs.Prelude.{◌≡◌, refl, List, [], ◌∷◌, ℕ, zero, suc, ◌+◌, ◌-◌, ◌<◌, ◌≤◌, length, get_or, set}
use Rattle.std.proofs.Common.{sym, ◌∙◌, arith, length-set, get_or-set_same, get_or-set_other}
use Rattle.std.proofs.Math.Decide.{ℕ_discrete}
use Rattle.tree.specs.Owners.{Parented}
use Rattle.spans.specs.Spans.{up, total, CountedOnce, Counted}

total_none : (l : List ℕ) → total l 0 ≡ 0
unfolding total
total_none [] = refl
total_none (x ∷ l) = refl

total_suc : (l : List ℕ) (v : ℕ) → total l (suc v) ≡ total l v + get_or l v 0
unfolding total
total_suc [] v = refl
total_suc (x ∷ []) zero = omega arith
total_suc (x ∷ y ∷ l) zero = omega arith
total_suc (x ∷ l) (suc v) = omega (arith, total_suc l v)

total_part : (l : List ℕ) (i v : ℕ) → i < v → get_or l i 0 ≤ total l v
unfolding total
total_part l i zero h = absurd (omega arith)
total_part [] i (suc v) h = omega arith
total_part (x ∷ l) zero (suc v) h = omega arith
total_part (x ∷ l) (suc i) (suc v) h = omega (arith, total_part l i v (omega arith))

total-set : (l : List ℕ) (i x v : ℕ) → i < length l → i < v → total (set l i (get_or l i 0 + x)) v ≡ total l v + x
unfolding total
total-set l i x zero room h = absurd (omega arith)
total-set [] i x (suc v) room h = absurd (omega arith)
total-set (y ∷ l) zero x (suc v) room h = omega arith
total-set (y ∷ l) (suc i) x (suc v) room h = omega (arith, total-set l i x v (omega arith) (omega arith))

total_ones : (l : List ℕ) (v : ℕ) → v ≤ length l → ((w : ℕ) → w < v → get_or l w 0 ≡ 1) → total l v ≡ v
unfolding total
total_ones [] zero h one = refl
total_ones [] (suc v) h one = absurd (omega arith)
total_ones (x ∷ l) zero h one = refl
total_ones (x ∷ l) (suc v) h one = omega (arith, one 0 (omega arith), total_ones l v (omega arith) (λ w k. one (suc w) (omega arith)))

-- at first each node is counted for itself, and no tree is
pub none_counted : (owners : List ℕ) {n : ℕ} {offsets sizes : List ℕ} → CountedOnce n offsets sizes → Counted owners n n offsets (0 ∷ sizes)
unfolding total
none_counted owners {n} {offsets} {sizes} O = record {
  room = (O.room.0, omega (arith, O.room));
  some = λ w h. omega (arith, O.ones w h);
  after = λ w h k. absurd (omega arith);
  within = λ w h k. absurd (omega arith);
  apart = λ x y h k l. absurd (omega arith);
  all = omega (arith, total_ones sizes n O.room.1 O.ones);
}

-- node v is counted under its owner
module _ (owners : List ℕ) (n v : ℕ) (P : Parented owners n) (real : v < n) (offsets sums : List ℕ) (C : Counted owners n (suc v) offsets sums) where
  abbrev o : ℕ
  o = get_or owners v 0

  parent_below : o ≤ v
  parent_below = P v real

  abbrev size : ℕ
  size = get_or sums (suc v) 0

  counted_all : total sums (suc v) + size ≡ n
  counted_all = sym (total_suc sums (suc v)) ∙ C.all

  -- the two are among the n nodes
  pub size_fits : get_or sums o 0 + size ≤ n
  size_fits = omega (arith, counted_all, total_part sums o (suc v) (omega (arith, parent_below)))

  abbrev more : List ℕ
  more = set sums o (get_or sums o 0 + size)

  more_here : get_or more o 0 ≡ get_or sums o 0 + size
  more_here = get_or-set_same sums o (get_or sums o 0 + size) 0 (omega (arith, parent_below, C.room))

  more_else : (i : ℕ) → v < i → get_or more i 0 ≡ get_or sums i 0
  more_else i h = get_or-set_other sums o i (get_or sums o 0 + size) 0 (λ e. omega (arith, parent_below))

  more_most : (i : ℕ) → get_or sums i 0 ≤ get_or more i 0
  more_most i = go (ℕ_discrete i o)
    where
      go : Dec (i ≡ o) → get_or sums i 0 ≤ get_or more i 0
      go (yes e) = rw e (omega (arith, more_here))
      go (no k) = omega (arith, get_or-set_other sums o i (get_or sums o 0 + size) 0 k)

  abbrev further : List ℕ
  further = set offsets v (get_or sums o 0)

  further_here : get_or further v 0 ≡ get_or sums o 0
  further_here = get_or-set_same offsets v (get_or sums o 0) 0 (omega (arith, C.room))

  further_else : (w : ℕ) → v < w → get_or further w 0 ≡ get_or offsets w 0
  further_else w h = get_or-set_other offsets v w (get_or sums o 0) 0 (λ e. omega arith)

  pub count_more : Counted owners n v further more
  count_more = record {
    room = simp length-set C.room;
    some = λ w h. omega (arith, C.some w h, more_most (suc w));
    after = after;
    within = within;
    apart = apart;
    all = omega (arith, total-set sums o size (suc v) (omega (arith, parent_below, C.room)) (omega (arith, parent_below)), counted_all);
  }
    where
      -- a parent counts itself
      owner_some : (i : ℕ) → 0 < i → i ≤ v → 0 < get_or sums i 0
      owner_some zero h k = absurd (omega arith)
      owner_some (suc i) h k = C.some i (omega arith)

      after : (w : ℕ) → v ≤ w → w < n → 0 < get_or owners w 0 → 0 < get_or further w 0
      after w k l h = go (ℕ_discrete w v)
        where
          go : Dec (w ≡ v) → 0 < get_or further w 0
          go (yes e) = rw e (omega (arith, further_here, owner_some o (rw e at h) parent_below))
          go (no d) = omega (arith, further_else w (omega arith), C.after w (omega arith) l h)

      within : (w : ℕ) → v ≤ w → w < n → get_or further w 0 + get_or more (suc w) 0 ≤ get_or more (get_or owners w 0) 0
      within w k l = go (ℕ_discrete w v)
        where
          go : Dec (w ≡ v) → get_or further w 0 + get_or more (suc w) 0 ≤ get_or more (get_or owners w 0) 0
          go (yes e) = rw e (omega (arith, further_here, more_here, more_else (suc v) (omega arith)))
          go (no d) = omega (arith, further_else w (omega arith), more_else (suc w) (omega arith), more_most (get_or owners w 0), C.within w (omega arith) l)

      apart : (x y : ℕ) → v ≤ x → x < y → y < n → get_or owners x 0 ≡ get_or owners y 0 → get_or further y 0 + get_or more (suc y) 0 ≤ get_or further x 0
      apart x y k l i q = go (ℕ_discrete x v)
        where
          go : Dec (x ≡ v) → get_or further y 0 + get_or more (suc y) 0 ≤ get_or further x 0
          go (yes e) = rw e (omega (arith, further_here, further_else y (omega arith), more_else (suc y) (omega arith), rw (← q, e) at (C.within y (omega arith) i)))
          go (no d) = omega (arith, further_else x (omega arith), further_else y (omega arith), more_else (suc y) (omega arith), C.apart x y (omega arith) l i q)

-- the same for the code, which counts the node before u, with the trees apart from the nodes
module _ (owners : List ℕ) (n u : ℕ) (P : Parented owners n) (some : 0 < u) (most : u ≤ n) (offsets sizes : List ℕ) (taken : ℕ) (C : Counted owners n u offsets (taken ∷ sizes)) where
  abbrev last : ℕ
  last = u - 1

  given : Counted owners n (suc last) offsets (taken ∷ sizes)
  given = let e : suc last ≡ u = omega arith in rw e C

  module _ (root : get_or owners last 0 ≡ 0) where
    pub root_fits : taken + get_or sizes last 0 ≤ n
    root_fits = rw root at (size_fits owners n last P (omega arith) offsets (taken ∷ sizes) given)

    pub count_root : Counted owners n last (set offsets last taken) ((taken + get_or sizes last 0) ∷ sizes)
    count_root = rw root at (count_more owners n last P (omega arith) offsets (taken ∷ sizes) given)

  module _ (child : 0 < get_or owners last 0) where
    abbrev above : ℕ
    above = up owners last

    owned : get_or owners last 0 ≡ suc above
    owned = omega arith

    pub child_fits : get_or sizes above 0 + get_or sizes last 0 ≤ n
    child_fits = rw owned at (size_fits owners n last P (omega arith) offsets (taken ∷ sizes) given)

    pub count_child : Counted owners n last (set offsets last (get_or sizes above 0)) (taken ∷ set sizes above (get_or sizes above 0 + get_or sizes last 0))
    count_child = rw owned at (count_more owners n last P (omega arith) offsets (taken ∷ sizes) given)

-- all trees have all nodes
pub count_done : (owners : List ℕ) (n : ℕ) {v : ℕ} {offsets sizes : List ℕ} {taken : ℕ} → v ≤ 0 → Counted owners n v offsets (taken ∷ sizes) → Counted owners n 0 offsets (n ∷ sizes)
unfolding total
count_done owners n {v} {offsets} {sizes} {taken} h C =
    let e : v ≡ 0 = omega arith in
    let z : Counted owners n 0 offsets (taken ∷ sizes) = rw e at C in
    let m : taken ≡ n = omega (arith, z.all, total_none sizes) in
    rw m at z
