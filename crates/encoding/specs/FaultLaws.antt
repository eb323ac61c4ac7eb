-- which faults a parser reports, and that it reports each: one law for each way of joining parsers
use Rattle.std.specs.Prelude.{◌≡◌, refl, ◌⊎◌, List, ◌++◌, Bool, true, false, ℕ, ◌+◌, ◌<◌, length}
use Rattle.std.proofs.Common.{sym, subst, ap, ◌∙◌, inl, inr, append_assoc, arith, length-append}
use Rattle.std.proofs.lemmas.Bool.{false≢true}
use Rattle.std.proofs.Math.Decide.{dec_lt}
use Rattle.verdict.specs.Tells.{Tells, fails, fails_holds}
use Rattle.encoding.specs.Encode.{Bytes}
use Rattle.encoding.specs.Parse.{Got, fault, got, Parser, pick, bind, seq, guard, via, part}
use Rattle.encoding.specs.Stages.{Stages, Stopped, ends_early, wrong, raw, unfit, tested, joined, after, present, followed}
use Rattle.encoding.specs.GotLaws.{fault_not_got, same_number, same_place, pick_fault}
use Rattle.encoding.specs.ParseLaws.{Exact, left_off}
use Rattle.encoding.specs.Widths.{Takes}

pub record Refuses {A : Type 0} (early : ℕ) (p : Parser A) (X : Stages) : Type 0 where
  pub says : (s : List ℕ) (at n q : ℕ) → Bytes s → p s at ≡ fault n q → Stopped early X s at n q
  pub holds : (s : List ℕ) (at n q : ℕ) → Stopped early X s at n q → p s at ≡ fault n q

-- a stage of Y with these bytes before it, too few for what comes next, or wrong ones
abbrev pub CutIn : Stages → List ℕ → List ℕ → Type 0
CutIn Y d t = (τ : Y.Stage) × Y.Reached τ × (Y.done τ ≡ d) × (length t < Y.width τ)

abbrev pub WrongIn : Stages → List ℕ → List ℕ → ℕ → Type 0
WrongIn Y d w n = (τ : Y.Stage) × Y.Reached τ × (Y.done τ ≡ d) × Y.Wrong τ w n

-- the faults of X are found among those of Y, with the same bytes before them
pub record Renames (X Y : Stages) : Type 0 where
  pub cut : (σ : X.Stage) (t : List ℕ) → X.Reached σ → length t < X.width σ → CutIn Y (X.done σ) t
  pub wrong : (σ : X.Stage) (w : List ℕ) (n : ℕ) → X.Reached σ → X.Wrong σ w n → WrongIn Y (X.done σ) w n

-- a stage of Y for one of X
pub record StageOf (X Y : Stages) (σ : X.Stage) : Type 0 where
  pub stage : Y.Stage
  pub reached : Y.Reached stage
  pub same : Y.done stage ≡ X.done σ
  pub wide : X.width σ ≡ Y.width stage
  pub wrongs : (w : List ℕ) (n : ℕ) → X.Wrong σ w n → Y.Wrong stage w n

-- each stage of X is one of Y
abbrev pub Stands : Stages → Stages → Type 0
Stands X Y = (σ : X.Stage) → X.Reached σ → StageOf X Y σ

pub renames_each : {X Y : Stages} → Stands X Y → Renames X Y
renames_each {X} {Y} f = record {
  cut = λ σ t r l. let g = f σ r in (g.stage, g.reached, g.same, subst (λ w. length t < w) g.wide l);
  wrong = λ σ w n r u. let g = f σ r in (g.stage, g.reached, g.same, g.wrongs w n u);
}

module _ {early : ℕ} {s : List ℕ} {at : ℕ} where
  -- a fault by another name of its number and place
  move : {X : Stages} {n q m r : ℕ} → n ≡ m → q ≡ r → Stopped early X s at n q → Stopped early X s at m r
  move {X} {q = q} {m = m} i j h = subst (λ r. Stopped early X s at m r) j (subst (λ n. Stopped early X s at n q) i h)

  pub renamed : {X Y : Stages} {n q : ℕ} → Renames X Y → Stopped early X s at n q → Stopped early Y s at n q
  renamed R (ends_early σ t r i l) =
      let (τ, u, e, k) = R.cut σ t r l in
      ends_early τ t u (rw e i) k
  renamed {X} {Y} R (wrong σ w t {n} r i k) =
      let (τ, u, e, h) = R.wrong σ w n r k in
      move refl (ap (λ (d : List ℕ). at + length d) e) (wrong τ w t u (rw e i) h)

  in_first : {X Y : Stages} {n q : ℕ} → Stopped early X s at n q → Stopped early (joined X Y) s at n q
  in_first (ends_early σ t r i l) = ends_early (inl σ) t r i l
  in_first (wrong σ w t r i k) = wrong (inl σ) w t r i k

  in_second : {X Y : Stages} {n q : ℕ} → Stopped early Y s at n q → Stopped early (joined X Y) s at n q
  in_second (ends_early σ t r i l) = ends_early (inr σ) t r i l
  in_second (wrong σ w t r i k) = wrong (inr σ) w t r i k

  in_either : {X Y : Stages} {n q : ℕ} → Stopped early (joined X Y) s at n q → Stopped early X s at n q ⊎ Stopped early Y s at n q
  in_either (ends_early (inl σ) t r i l) = inl (ends_early σ t r i l)
  in_either (ends_early (inr σ) t r i l) = inr (ends_early σ t r i l)
  in_either (wrong (inl σ) w t r i k) = inl (wrong σ w t r i k)
  in_either (wrong (inr σ) w t r i k) = inr (wrong σ w t r i k)

  module _ {A : Type 0} (e : A → List ℕ) (P : A → Type 0) (Y : A → Stages) where
    -- a fault in what follows an encoded value
    in_after : (x : A) (t : List ℕ) {n q : ℕ} → P x → s ≡ e x ++ t → Stopped early (Y x) t (at + length (e x)) n q → Stopped early (after e P Y) s at n q
    in_after x t h i (ends_early σ u r j l) =
        let z : length s ≡ length (e x) + length t = ap length i ∙ length-append (e x) t in
        move refl (omega arith) (ends_early (x, σ) u (h, r) (i ∙ ap (λ (t : List ℕ). e x ++ t) j ∙ sym (append_assoc (e x) ((Y x).done σ) u)) l)
    in_after x t h i (wrong σ w u r j k) =
        move refl (omega (arith, length-append (e x) ((Y x).done σ)))
        (wrong (x, σ) w u (h, r) (i ∙ ap (λ (t : List ℕ). e x ++ t) j ∙ sym (append_assoc (e x) ((Y x).done σ) (w ++ u))) k)

    after_in : {n q : ℕ} → Stopped early (after e P Y) s at n q → (x : A) × (t : List ℕ) × P x × (s ≡ e x ++ t) × Stopped early (Y x) t (at + length (e x)) n q
    after_in (ends_early (x, σ) u r j l) =
        let t : List ℕ = (Y x).done σ ++ u in
        let i : s ≡ e x ++ t = j ∙ append_assoc (e x) ((Y x).done σ) u in
        let z : length s ≡ length (e x) + length t = ap length i ∙ length-append (e x) t in
        (x, t, r.0, i, subst (λ q. Stopped early (Y x) t (at + length (e x)) early q) (omega arith) (ends_early σ u r.1 refl l))
    after_in (wrong (x, σ) w u {n} r j k) =
        let t : List ℕ = (Y x).done σ ++ (w ++ u) in (
          x,
          t,
          r.0,
          j ∙ append_assoc (e x) ((Y x).done σ) (w ++ u),
          subst (λ q. Stopped early (Y x) t (at + length (e x)) n q) (omega (arith, length-append (e x) ((Y x).done σ))) (wrong σ w u r.1 refl k),
        )

pub refuses_as : {A : Type 0} {early : ℕ} {p : Parser A} {X Y : Stages} → Renames X Y → Renames Y X → Refuses early p X → Refuses early p Y
refuses_as f g R = record { says = λ s at n q b h. renamed f (R.says s at n q b h); holds = λ s at n q h. R.holds s at n q (renamed g h) }

pub raw_refuses : {A : Type 0} {early : ℕ} {p : Parser A} {w : ℕ} → Takes early p w → Refuses early p (raw w)
raw_refuses {early = early} {p = p} {w = w} T = record { says = λ s at n q b h. says s at n q h (dec_lt (length s) w); holds = holds }
  where
    says : (s : List ℕ) (at n q : ℕ) → p s at ≡ fault n q → Dec (length s < w) → Stopped early (raw w) s at n q
    says s at n q h (yes l) =
        let e = sym (T.cut s at l) ∙ h in
        move (same_number e) (same_place e) (ends_early tt s tt refl l)
    says s at n q h (no l) =
        let (x, r, u, i) = T.whole s at (omega arith) in
        absurd (fault_not_got (sym h ∙ u))

    holds : (s : List ℕ) (at n q : ℕ) → Stopped early (raw w) s at n q → p s at ≡ fault n q
    holds s at n q (ends_early σ t r i l) = T.cut s at (rw i l)
    holds s at n q (wrong σ v t r i k) = absurd k

pub via_refuses : {A B : Type 0} {early : ℕ} {p : Parser A} {X : Stages} → Refuses early p X → (h : A → B) → Refuses early (via h p) X
via_refuses {A} {p = p} R h = record { says = λ s at n q b k. R.says s at n q b (back (p s at) k); holds = λ s at n q k. rw (R.holds s at n q k) refl }
  where
    back : (g : Got A) {n q : ℕ} → bind g (λ x r o. got (h x) r o) ≡ fault n q → g ≡ fault n q
    back (fault m r) k = rw (same_number k, same_place k) refl
    back (got x r o) k = absurd (fault_not_got (sym k))

pub part_refuses : {A : Type 0} {early : ℕ} {p : Parser A} {X : Stages} (blank : A) → Refuses early p X → (b : Bool) → Refuses early (part blank b p) (present b X)
part_refuses {early = early} {p = p} {X = X} blank R true =
    refuses_as
    (renames_each (λ σ r. record { stage = σ; reached = (refl, r); same = refl; wide = refl; wrongs = λ w n u. u }))
    (renames_each (λ σ r. record { stage = σ; reached = r.1; same = refl; wide = refl; wrongs = λ w n u. u }))
    R
part_refuses {A} {early = early} {X = X} blank R false = record { says = λ s at n q b h. absurd (fault_not_got (sym h)); holds = holds }
  where
    holds : (s : List ℕ) (at n q : ℕ) → Stopped early (present false X) s at n q → ◌≡◌ {A = Got A} (got blank s at) (fault n q)
    holds s at n q (ends_early σ t r i l) = absurd (false≢true r.0)
    holds s at n q (wrong σ w t r i k) = absurd (false≢true r.0)

module _ {A : Type 0} {early : ℕ} {p : Parser A} {X : Stages} {e : A → List ℕ} {P : A → Type 0} (R : Refuses early p X) (E : Exact p e P) where
  pub then_refuses : {B : Type 0} {k : A → Parser B} {Y : A → Stages} → ((x : A) → P x → Refuses early (k x) (Y x)) → Refuses early (λ s at. bind (p s at) k) (followed e P X Y)
  then_refuses {B} {k} {Y} S = record { says = λ s at n q b h. says s at n q b (p s at) refl h; holds = λ s at n q h. holds s at n q (in_either h) }
    where
      says : (s : List ℕ) (at n q : ℕ) → Bytes s → (g : Got A) → p s at ≡ g → bind g k ≡ fault n q → Stopped early (followed e P X Y) s at n q
      says s at n q b (fault m r) w h = in_first (R.says s at n q b (rw (w, same_number h, same_place h) refl))
      says s at n q b (got x t o) w h =
          let W = E.wrote s at x t o b w in
          let i : o ≡ at + length (e x) = left_off E s at x t o b w in
          in_second (in_after e P Y x t W.fits W.split ((S x W.fits).says t (at + length (e x)) n q W.left (subst (λ (o : ℕ). k x t o ≡ fault n q) i h)))

      holds : (s : List ℕ) (at n q : ℕ) → Stopped early X s at n q ⊎ Stopped early (after e P Y) s at n q → bind (p s at) k ≡ fault n q
      holds s at n q (inl h) = rw (R.holds s at n q h) refl
      holds s at n q (inr h) =
          let (x, t, f, i, z) = after_in e P Y h in
          let v : p s at ≡ got x t (at + length (e x)) = ap (λ (u : List ℕ). p u at) i ∙ E.reads x f t at in
          ap (λ (g : Got A). bind g k) v ∙ (S x f).holds t (at + length (e x)) n q z

  pub seq_refuses : {B : Type 0} {q : A → Parser B} {Y : A → Stages} → ((x : A) → P x → Refuses early (q x) (Y x)) → Refuses early (seq p q) (followed e P X Y)
  seq_refuses {B} {q} {Y} S = then_refuses {k = λ x. via (λ (y : B). (x, y)) (q x)} {Y = Y} (λ x h. via_refuses (S x h) (λ (y : B). (x, y)))

  pub guard_refuses : (k : ℕ) {ok : A → Bool} {Q : A → Type 0} → ((x : A) → Tells (ok x) (Q x)) → Refuses early (guard ok k p) (joined X (tested 0 e P Q k))
  guard_refuses k {ok} {Q} T = record { says = λ s at n q b h. says s at n q b (p s at) refl h; holds = λ s at n q h. holds s at n q (in_either h) }
    where
      says : (s : List ℕ) (at n q : ℕ) → Bytes s → (g : Got A) → p s at ≡ g → bind g (λ x r o. pick (ok x) (got x r o) (fault k at)) ≡ fault n q
          → Stopped early (joined X (tested 0 e P Q k)) s at n q
      says s at n q b (fault m r) w h = in_first (R.says s at n q b (rw (w, same_number h, same_place h) refl))
      says s at n q b (got x t o) w h =
          let W = E.wrote s at x t o b w in
          let (u, v, z) = pick_fault (ok x) x t o k at h in
          in_second (move v (omega arith) (wrong tt (e x) t tt W.split (unfit x W.fits (fails (T x) u))))

      holds : (s : List ℕ) (at n q : ℕ) → Stopped early X s at n q ⊎ Stopped early (tested 0 e P Q k) s at n q → guard ok k p s at ≡ fault n q
      holds s at n q (inl h) = rw (R.holds s at n q h) refl
      holds s at n q (inr (ends_early σ t r i l)) = absurd (omega arith)
      holds s at n q (inr (wrong σ w t r i (unfit x f u))) =
          let z : at + 0 ≡ at = omega arith in
          rw (i, E.reads x f t at, fails_holds (T x) u, z) refl

-- a test of what takes w bytes
pub tested_refuses : {A : Type 0} {early : ℕ} {p : Parser A} {w : ℕ} {e : A → List ℕ} {P : A → Type 0} → Takes early p w → Exact p e P
    → (k : ℕ) {ok : A → Bool} {Q : A → Type 0} → ((x : A) → Tells (ok x) (Q x)) → Refuses early (guard ok k p) (tested w e P Q k)
tested_refuses {w = w} {e = e} {P = P} T E k {Q = Q} U = refuses_as (record { cut = cut; wrong = wrongs }) back (guard_refuses (raw_refuses T) E k U)
  where
    both : Stages
    both = joined (raw w) (tested 0 e P Q k)

    cut : (σ : both.Stage) (t : List ℕ) → both.Reached σ → length t < both.width σ → CutIn (tested w e P Q k) (both.done σ) t
    cut (inl σ) t r l = (tt, tt, refl, l)
    cut (inr σ) t r l = absurd (omega arith)

    wrongs : (σ : both.Stage) (v : List ℕ) (n : ℕ) → both.Reached σ → both.Wrong σ v n → WrongIn (tested w e P Q k) (both.done σ) v n
    wrongs (inl σ) v n r u = absurd u
    wrongs (inr σ) v n r u = (tt, tt, refl, u)

    back : Renames (tested w e P Q k) (joined (raw w) (tested 0 e P Q k))
    back = record { cut = λ σ t r l. (inl tt, tt, refl, l); wrong = λ σ v n r u. (inr tt, tt, refl, u) }
