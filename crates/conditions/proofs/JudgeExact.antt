-- the judge of 20, 71 and 21 to 23 is exact
use Rattle.std.specs.Prelude.{◌≡◌, ◌⊎◌, ◌↔◌, Bool, true, false, not, ◌||◌, ℕ, ◌<◌, ◌≤◌, length}
use Rattle.std.proofs.Math.Path.{refl, subst⁻¹}
use Rattle.std.proofs.Common.{sym, ◌∙◌, subst, inl, inr, arith}
use Rattle.std.proofs.lemmas.Bool.{false≢true, not-false}
use Rattle.formula.specs.Table.{Table}
use Rattle.formula.specs.Shape.{Shape, leaf, two, step, fix, name, never, always, letter, negated, diamond, box, Fix, mu, nu, shape, Operand, Fixpoint}
use Rattle.conditions.specs.Free.{Free, named, inside}
use Rattle.formula.specs.TableLaws.{in_table}
use Rattle.conditions.specs.Conditions.{Bad, OutOfBounds, FarShape, FarAction, WrongAction, NotAbove, Alternates, nu_in_mu, mu_in_nu, OwnUnguarded}
use Rattle.conditions.specs.Formed.{InBounds, Placed, Unwritten, Fits, Earns, bounds, action, above, alternation, unguarded, Formed}
use Rattle.verdict.specs.Tests.{choose}
use Rattle.verdict.specs.Tells.{Tells, tells_as, tells_self, fails, fails_holds, not_tells, or_tells}
use Rattle.verdict.specs.Verdict.{Verdict, accepted, refused, scan}
use Rattle.verdict.specs.VerdictLaws.{accepted_not_refused, First, Passes, scan_says, scan_holds, scan_refuses, scan_first}
use Rattle.conditions.specs.Judge.{bad, far, frees, opens, is_mu, is_nu, marks, low, mixed, loose, judge_by, judge_table}
use Rattle.conditions.specs.TestLaws.{bad_tells, far_tells, under, operand_under, alternates_fix, own_fix, low_tells, mixed_tells, unguarded_tells, fits_tells}
use Rattle.conditions.specs.JudgeExact.{Clean, num20}

-- nothing is to be said past the table's end
leaf_free : (t : Table) (e x : ℕ) → Free t e x → shape t e ≡ leaf never → ⊥
leaf_free t e x (named q) p = let z : ◌≡◌ {A = ℕ} 0 1 = cc in omega arith
leaf_free t e x (inside {c = c} v q o k f) p = subst (λ (u : Shape). Operand u c) (sym q ∙ p) o

out_in : (t : Table) (e : ℕ) → OutOfBounds t e → e < length t
out_in t e h = in_table t e (λ p. subst (Bad t e) p h)

far_in : (t : Table) (e : ℕ) → FarAction t e → e < length t
far_in t e h = in_table t e (λ p. subst FarShape p h)

above_in : (t : Table) (e : ℕ) → NotAbove t e → e < length t
above_in t e (x, f, l) = in_table t e (leaf_free t e x f)

alternates_in : (t : Table) (e : ℕ) → Alternates t e → e < length t
alternates_in t e z = in_table t e (λ p. subst Fixpoint p (alternates_fix t e z))

own_in : (t : Table) (e : ℕ) → OwnUnguarded t e → e < length t
own_in t e z = in_table t e (λ p. subst Fixpoint p (own_fix t e z))

wrong_in : (z : ℕ → Bool) (t : Table) (e : ℕ) → WrongAction z t e → e < length t
wrong_in z t e (inl h) = far_in t e h
wrong_in z t e (inr (l, h)) = l

placed_all : (z : ℕ → Bool) (t : Table) → ((w : ℕ) → w < length t → Placed z t w) → (w : ℕ) → Placed z t w
placed_all z t f w = record { bounded = λ h. (f w (out_in t w h)).bounded h; acts = λ h. (f w (wrong_in z t w h)).acts h }

fit_all : (t : Table) → ((w : ℕ) → w < length t → Fits t w) → (w : ℕ) → Fits t w
fit_all t f w = record {
  above = λ h. (f w (above_in t w h)).above h;
  alike = λ h. (f w (alternates_in t w h)).alike h;
  guarded = λ h. (f w (own_in t w h)).guarded h;
}

module _ (z : ℕ → Bool) (t : Table) where
  abbrev out : ℕ → Bool
  out e = bad t e (shape t e)

  abbrev ok20 : ℕ → Bool
  ok20 e = not (out e || (far (shape t e) || z e))

  abbrev lo : ℕ → Bool
  lo e = low (frees t) e

  abbrev mi : ℕ → Bool
  mi e = mixed t (frees t) (marks is_mu t) (marks is_nu t) e

  abbrev un : ℕ → Bool
  un e = loose t (opens t) e

  abbrev ok_rest : ℕ → Bool
  ok_rest e = not (lo e || (mi e || un e))

  abbrev num_rest : ℕ → ℕ
  num_rest e = choose (lo e) 21 (choose (mi e) 22 23)

  abbrev second : Verdict
  second = scan ok_rest num_rest (length t) 0 accepted

  judge_is : judge_table z t ≡ scan ok20 (num20 z t) (length t) 0 second
  unfolding judge_table judge_by
  judge_is = refl

  out_tells : (e : ℕ) → Tells (out e) (OutOfBounds t e)
  out_tells e = bad_tells t e (shape t e)

  wrong_tells : (e : ℕ) → e < length t → Tells (far (shape t e) || z e) (WrongAction z t e)
  wrong_tells e l = or_tells (far_tells (shape t e)) (tells_as (λ h. (l, h)) (λ (_, h). h) (tells_self (z e)))

  ok20_tells : (e : ℕ) → e < length t → Tells (ok20 e) (Placed z t e)
  ok20_tells e l =
      tells_as (λ n. record { bounded = λ h. n (inl h); acts = λ h. n (inr h) }) (λ p. by p.bounded p.acts)
      (not_tells (or_tells (out_tells e) (wrong_tells e l)))
    where
      by : InBounds t e → (WrongAction z t e → ⊥) → (OutOfBounds t e) ⊎ (WrongAction z t e) → ⊥
      by b n (inl h) = b h
      by b n (inr h) = n h

  passes_placed : Passes ok20 0 (length t) → (w : ℕ) → Placed z t w
  passes_placed f = placed_all z t (λ w l. (ok20_tells w l).says (f w (omega arith) (omega arith)))

  passes_fit : ((w : ℕ) → Placed z t w) → Passes ok_rest 0 (length t) → (w : ℕ) → Fits t w
  passes_fit p f = fit_all t (λ w l. (fits_tells t (λ u. (p u).bounded) w).says (f w (omega arith) (omega arith)))

  accepted_clean : judge_table z t ≡ accepted → Clean z t
  accepted_clean h =
      let (f, r) = scan_says ok20 (num20 z t) (length t) 0 second (sym judge_is ∙ h) in
      let (g, s) = scan_says ok_rest num_rest (length t) 0 accepted r in
      record { placed = passes_placed f; fit = passes_fit (passes_placed f) g }

  clean_accepted : Clean z t → judge_table z t ≡ accepted
  clean_accepted c =
      judge_is
      ∙ scan_holds ok20 (num20 z t) (length t) 0 second (λ w a b. (ok20_tells w (omega arith)).holds (c.placed w))
      ∙ scan_holds ok_rest num_rest (length t) 0 accepted (λ w a b. (fits_tells t (λ u. (c.placed u).bounded) w).holds (c.fit w))

  -- clean is well formed, letters below 32, guarded
  out_at : (e : ℕ) (v : Shape) → shape t e ≡ v → InBounds t e → Bad t e v → ⊥
  out_at e v q k b = k (subst⁻¹ (Bad t e) q b)

  fixpoint_known : (v : Shape) → ((Fixpoint v → ⊥) → ⊥) → Fixpoint v
  fixpoint_known (leaf l) h = h (λ x. x)
  fixpoint_known (two o a b) h = h (λ x. x)
  fixpoint_known (step m a) h = h (λ x. x)
  fixpoint_known (fix σ a) h = tt
  fixpoint_known (name x) h = h (λ y. y)

  one_kind : (e x a b : ℕ) (σ τ : Fix) → (Alternates t e → ⊥) → shape t e ≡ fix σ a → Free t e x → shape t x ≡ fix τ b → σ ≡ τ
  one_kind e x a b mu mu n q f r = refl
  one_kind e x a b mu nu n q f r = absurd (n (nu_in_mu x a b q f r))
  one_kind e x a b nu mu n q f r = absurd (n (mu_in_nu x a b q f r))
  one_kind e x a b nu nu n q f r = refl

  letter_in : (e p : ℕ) → InBounds t e → (shape t e ≡ leaf (letter p)) ⊎ (shape t e ≡ leaf (negated p)) → p < 32
  letter_in e p k (inl q) = under p 32 (out_at e (leaf (letter p)) q k)
  letter_in e p k (inr q) = under p 32 (out_at e (leaf (negated p)) q k)

  action_in : (e n a : ℕ) → (FarAction t e → ⊥) → (shape t e ≡ step (diamond n) a) ⊎ (shape t e ≡ step (box n) a) → n < 16
  action_in e n a k (inl q) = under n 16 (λ h. k (subst⁻¹ FarShape q h))
  action_in e n a k (inr q) = under n 16 (λ h. k (subst⁻¹ FarShape q h))

  clean_formed : Clean z t → Formed t
  clean_formed c = record {
    well = record {
      operands_below = λ e d o. operand_under t e d (shape t e) (c.placed e).bounded o;
      names_above = λ e x q. let k = out_at e (name x) q (c.placed e).bounded in
          (under e x (λ h. k (inl h)), under x (length t) (λ h. k (inr (inl h))), fixpoint_known (shape t x) (λ h. k (inr (inr h))));
      free_above = λ e x f. under e x (λ h. (c.fit e).above (x, f, h));
      no_alternation = λ e x a b σ τ q f r. one_kind e x a b σ τ (c.fit e).alike q f r;
    };
    letters = λ e p s. letter_in e p (c.placed e).bounded s;
    actions = λ e n a s. action_in e n a (λ h. (c.placed e).acts (inl h)) s;
    guards = λ e a σ q u. (c.fit e).guarded (σ, a, q, u);
  }

  formed_bounds : Formed t → (e : ℕ) (v : Shape) → shape t e ≡ v → Bad t e v → ⊥
  formed_bounds w e (leaf never) q h = h
  formed_bounds w e (leaf always) q h = h
  formed_bounds w e (leaf (letter p)) q h = let l = w.letters e p (inl q) in omega arith
  formed_bounds w e (leaf (negated p)) q h = let l = w.letters e p (inr q) in omega arith
  formed_bounds w e (two o a b) q (inl h) = let l = w.well.operands_below e a (subst⁻¹ (λ (u : Shape). Operand u a) q (inl refl)) in omega arith
  formed_bounds w e (two o a b) q (inr h) = let l = w.well.operands_below e b (subst⁻¹ (λ (u : Shape). Operand u b) q (inr refl)) in omega arith
  formed_bounds w e (step m a) q h = let l = w.well.operands_below e a (subst⁻¹ (λ (u : Shape). Operand u a) q refl) in omega arith
  formed_bounds w e (fix σ a) q h = let l = w.well.operands_below e a (subst⁻¹ (λ (u : Shape). Operand u a) q refl) in omega arith
  formed_bounds w e (name x) q (inl h) = let (l, m, n) = w.well.names_above e x q in omega arith
  formed_bounds w e (name x) q (inr (inl h)) = let (l, m, n) = w.well.names_above e x q in omega arith
  formed_bounds w e (name x) q (inr (inr h)) = let (l, m, n) = w.well.names_above e x q in h n

  formed_near : Formed t → (e : ℕ) (v : Shape) → shape t e ≡ v → FarShape v → ⊥
  formed_near w e (leaf l) q h = h
  formed_near w e (two o a b) q h = h
  formed_near w e (step (diamond n) a) q h = let l = w.actions e n a (inl q) in omega arith
  formed_near w e (step (box n) a) q h = let l = w.actions e n a (inr q) in omega arith
  formed_near w e (fix σ a) q h = h
  formed_near w e (name x) q h = h

  formed_alike : Formed t → (e : ℕ) → Alternates t e → ⊥
  formed_alike w e (nu_in_mu x a b q f r) = mu_nu (w.well.no_alternation e x a b mu nu q f r)
    where
      mu_nu : mu ≡ nu → ⊥
      mu_nu p = let z : ◌≡◌ {A = ℕ} 0 1 = cc in omega arith
  formed_alike w e (mu_in_nu x a b q f r) = nu_mu (w.well.no_alternation e x a b nu mu q f r)
    where
      nu_mu : nu ≡ mu → ⊥
      nu_mu p = let z : ◌≡◌ {A = ℕ} 0 1 = cc in omega arith

  clean_unwritten : Clean z t → Unwritten z t
  clean_unwritten c e l = go (z e) refl
    where
      go : (b : Bool) → z e ≡ b → b ≡ false
      go true h = absurd ((c.placed e).acts (inr (l, h)))
      go false h = refl

  formed_acts : Formed t → Unwritten z t → (e : ℕ) → WrongAction z t e → ⊥
  formed_acts w u e (inl h) = formed_near w e (shape t e) refl h
  formed_acts w u e (inr (l, h)) = false≢true (sym (u e l) ∙ h)

  formed_clean : Formed t → Unwritten z t → Clean z t
  formed_clean w u = record {
    placed = λ e. record { bounded = formed_bounds w e (shape t e) refl; acts = formed_acts w u e };
    fit = λ e. record {
      above = λ (x, f, h). let l = w.well.free_above e x f in omega arith;
      alike = formed_alike w e;
      guarded = λ (σ, a, q, u). w.guards e a σ q u;
    };
  }

  -- none of its entries earns 20
  pub formed_bounded : Formed t → (e : ℕ) → bad t e (shape t e) ≡ false
  formed_bounded w e = fails_holds (bad_tells t e (shape t e)) (formed_bounds w e (shape t e) refl)

  -- accepted exactly where the table is well formed and no 0 is written out
  pub judge_accepts : (judge_table z t ≡ accepted) ↔ (Formed t × Unwritten z t)
  judge_accepts = (λ h. let c = accepted_clean h in (clean_formed c, clean_unwritten c), λ (w, u). clean_accepted (formed_clean w u))

  -- what is refused
  module _ (placed : (w : ℕ) → Placed z t w) where
    bounded : (w : ℕ) → InBounds t w
    bounded w = (placed w).bounded

    fit_before : {e : ℕ} → ((w : ℕ) → 0 ≤ w → w < e → ok_rest w ≡ true) → (w : ℕ) → w < e → Fits t w
    fit_before f w l = (fits_tells t bounded w).says (f w (omega arith) l)

    earns_rest : (k e : ℕ) → First ok_rest num_rest 0 (length t) k e → Earns z t k e
    earns_rest k e x = go (lo e) (low_tells t bounded e) (mi e) (mixed_tells t bounded e) (un e) (unguarded_tells t bounded e) (not-false _ x.bad) x.numbered
      where
        go : (a : Bool) → Tells a (NotAbove t e) → (b : Bool) → Tells b (Alternates t e) → (c : Bool) → Tells c (OwnUnguarded t e)
            → (a || (b || c)) ≡ true → choose a 21 (choose b 22 23) ≡ k → Earns z t k e
        go true p b q c r h n = subst (λ (j : ℕ). Earns z t j e) n (above placed (fit_before x.before) (p.says refl))
        go false p true q c r h n = subst (λ (j : ℕ). Earns z t j e) n (alternation placed (fit_before x.before) (fails p refl) (q.says refl))
        go false p false q true r h n = subst (λ (j : ℕ). Earns z t j e) n (unguarded placed (fit_before x.before) (fails p refl) (fails q refl) (r.says refl))
        go false p false q false r h n = absurd (false≢true h)

    rest_earned : (k e : ℕ) → e < length t → ((w : ℕ) → w < e → Fits t w) → (lo e || (mi e || un e)) ≡ true → num_rest e ≡ k → First ok_rest num_rest 0 (length t) k e
    rest_earned k e l f h n = record {
      inside = (omega arith, omega arith);
      bad = rw h refl;
      numbered = n;
      before = λ w a b. (fits_tells t bounded w).holds (f w b);
    }

  refused_earns : (k e : ℕ) → judge_table z t ≡ refused k e → Earns z t k e
  refused_earns k e h = go (scan_refuses ok20 (num20 z t) (length t) 0 second (sym judge_is ∙ h))
    where
      last : ((w : ℕ) → Placed z t w) → First ok_rest num_rest 0 (length t) k e ⊎ (Passes ok_rest 0 (length t) × (accepted ≡ refused k e)) → Earns z t k e
      last p (inl x) = earns_rest p k e x
      last p (inr (f, z)) = absurd (accepted_not_refused (sym z))

      go : First ok20 (num20 z t) 0 (length t) k e ⊎ (Passes ok20 0 (length t) × (second ≡ refused k e)) → Earns z t k e
      go (inl x) = first (out e) (out_tells e) (far (shape t e) || z e) (wrong_tells e inside) (not-false _ x.bad) x.numbered
        where
          inside : e < length t
          inside = omega (arith, x.inside.1)

          before : (w : ℕ) → w < e → Placed z t w
          before w l = (ok20_tells w (omega (arith, inside))).says (x.before w (omega arith) l)

          first : (a : Bool) → Tells a (OutOfBounds t e) → (b : Bool) → Tells b (WrongAction z t e) → (a || b) ≡ true → choose a 20 71 ≡ k → Earns z t k e
          first true p b q h n = subst (λ (j : ℕ). Earns z t j e) n (bounds (p.says refl) before)
          first false p true q h n = subst (λ (j : ℕ). Earns z t j e) n (action (fails p refl) (q.says refl) before)
          first false p false q h n = absurd (false≢true h)
      go (inr (f, r)) = last (passes_placed f) (scan_refuses ok_rest num_rest (length t) 0 accepted r)

  after_placed : {k e : ℕ} → ((w : ℕ) → Placed z t w) → First ok_rest num_rest 0 (length t) k e → judge_table z t ≡ refused k e
  after_placed p x =
      judge_is
      ∙ scan_holds ok20 (num20 z t) (length t) 0 second (λ w a b. (ok20_tells w (omega arith)).holds (p w))
      ∙ scan_first ok_rest num_rest (length t) 0 accepted x

  earned_refused : (k e : ℕ) → Earns z t k e → judge_table z t ≡ refused k e
  earned_refused k e (bounds o f) = judge_is ∙ scan_first ok20 (num20 z t) (length t) 0 second (record {
    inside = (omega arith, omega (arith, out_in t e o));
    bad = rw ((out_tells e).holds o) refl;
    numbered = rw ((out_tells e).holds o) refl;
    before = λ w a b. (ok20_tells w (omega (arith, b, out_in t e o))).holds (f w b);
  })
  earned_refused k e (action i o f) =
      let n = fails_holds (out_tells e) i in
      judge_is ∙ scan_first ok20 (num20 z t) (length t) 0 second (record {
        inside = (omega arith, omega (arith, wrong_in z t e o));
        bad = rw (n, (wrong_tells e (wrong_in z t e o)).holds o) refl;
        numbered = rw n refl;
        before = λ w a b. (ok20_tells w (omega (arith, b, wrong_in z t e o))).holds (f w b);
      })
  earned_refused k e (above p f h) =
      let q = (low_tells t (bounded p) e).holds h in
      after_placed p (rest_earned p 21 e (above_in t e h) f (rw q refl) (rw q refl))
  earned_refused k e (alternation p f n h) =
      let q = fails_holds (low_tells t (bounded p) e) n in
      let r = (mixed_tells t (bounded p) e).holds h in
      after_placed p (rest_earned p 22 e (alternates_in t e h) f (rw (q, r) refl) (rw (q, r) refl))
  earned_refused k e (unguarded p f n m h) =
      let q = fails_holds (low_tells t (bounded p) e) n in
      let r = fails_holds (mixed_tells t (bounded p) e) m in
      let s = (unguarded_tells t (bounded p) e).holds h in
      after_placed p (rest_earned p 23 e (own_in t e h) f (rw (q, r, s) refl) (rw (q, r) refl))

  -- refused with a number at an entry exactly where that is earned
  pub judge_refuses : (k e : ℕ) → (judge_table z t ≡ refused k e) ↔ Earns z t k e
  judge_refuses k e = (refused_earns k e, earned_refused k e)

  -- every table is well formed or earns a refusal, and at most one
  pub formed_or_earns : (Formed t × Unwritten z t) ⊎ ((k : ℕ) × (e : ℕ) × Earns z t k e)
  formed_or_earns = go (judge_table z t) refl
    where
      go : (v : Verdict) → judge_table z t ≡ v → (Formed t × Unwritten z t) ⊎ ((k : ℕ) × (e : ℕ) × Earns z t k e)
      go accepted h = inl (judge_accepts.0 h)
      go (refused k e) h = inr (k, e, refused_earns k e h)

  pub formed_not_earns : (k e : ℕ) → Formed t × Unwritten z t → Earns z t k e → ⊥
  formed_not_earns k e w x = accepted_not_refused (sym (earned_refused k e x) ∙ judge_accepts.1 w)

  pub earns_once : (k e j d : ℕ) → Earns z t k e → Earns z t j d → (k ≡ j) × (e ≡ d)
  earns_once k e j d x y = (cc same, cc same)
    where
      same : refused k e ≡ refused j d
      same = sym (earned_refused k e x) ∙ earned_refused j d y
