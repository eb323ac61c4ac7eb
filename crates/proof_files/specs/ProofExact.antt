-- the parts of a proof file up to its nodes: each is read as it was encoded, and encoded as it was read
use Rattle.std.specs.Prelude.{◌≡◌, ◌⊎◌, List, [], ◌∷◌, Bool, true, false, leb, length}
use Rattle.std.proofs.Math.Path.{refl}
use Rattle.std.proofs.Common.{inl, inr, arith, le-leb}
use Prim.Native.Nat.{ℕ, ◌+◌, ◌<◌, ◌≤◌}
use Rattle.std.proofs.lemmas.Bool.{lt-leb}
use Rattle.verdict.specs.Lists.{Each, Rising}
use Rattle.verdict.specs.Tells.{Tells, and_tells, or_tells, ltb_tells, leb_tells, eqb_tells}
use Rattle.formula.specs.Rule
use Rattle.formula.specs.Table.{Table}
use Rattle.formula.specs.Codes.{entry_of_lem}
use Rattle.formula.specs.Claim.{Form, clm1, clm2, fewest}
use Rattle.bits.specs.IfSet.{if_set_lem, if_set_le}
use Rattle.formula.specs.Fields.{has_principal_lem, has_first_lem, has_second_lem, has_back_lem, low_map_lem}
use Rattle.encoding.specs.Encode.{TwoBytes, encode_two, encode_part, Counts}
use Rattle.encoding.specs.Parse.{part}
use Rattle.encoding.specs.ParseLaws.{Exact, exact_as, seq_exact, part_exact, byte_exact, two_exact}
use Rattle.encoding.specs.ChainLaws.{each_as}
use Rattle.encoding.specs.ListLaws as lists
use Rattle.encoding.proofs.ListLaws.{rising_exact}
use Rattle.encoding.specs.Known.{known_exact}
use Rattle.formula.specs.Members.{formula_tells}
use Rattle.encoding.proofs.FieldLaws.{field_exact}
use Rattle.proof_files.specs.ProofFile.{encode_links, encode_codes, encode_roots}
use Rattle.proof_files.specs.ProofFile.{FitRule, Code, FitLinks, FitRoots}
use Rattle.proof_files.specs.ReadProof.{early, rule_fits, fields, sequent, node_count, is_node, roots}

pub low_bits : (r : ℕ) → low_map_lem r ≤ 15
low_bits r = omega (arith, if_set_le (has_principal_lem r) 1, if_set_le (has_first_lem r) 2, if_set_le (has_second_lem r) 4, if_set_le (has_back_lem r) 8)

pub rule_tells : (p : ℕ × ℕ) → Tells (rule_fits p) (FitRule p)
rule_tells p = and_tells (leb_tells p.1 Rule.BACK) (or_tells (eqb_tells p.0 (low_map_lem p.1)) (eqb_tells p.0 (low_map_lem p.1 + 16)))

-- bit 4 of a map that fits
pub bit_stands : (r : ℕ) (b : Bool) → leb 16 (low_map_lem r + if_set_lem b 16) ≡ b
bit_stands r true = le-leb 16 (low_map_lem r + 16) (omega arith)
bit_stands r false = lt-leb 16 (low_map_lem r + 0) (omega (arith, low_bits r))

pub map_fits_lem : (r : ℕ) (b : Bool) → (low_map_lem r + if_set_lem b 16 ≡ low_map_lem r) ⊎ (low_map_lem r + if_set_lem b 16 ≡ low_map_lem r + 16)
map_fits_lem r true = inr refl
map_fits_lem r false = inl (omega arith)

pub fits_map : (m r : ℕ) → (m ≡ low_map_lem r) ⊎ (m ≡ low_map_lem r + 16) → m ≡ low_map_lem r + if_set_lem (leb 16 m) 16
fits_map m r (inl e) = rw (lt-leb 16 m (omega (arith, low_bits r))) (omega arith)
fits_map m r (inr e) = rw (le-leb 16 m (omega arith)) e

pub fields_exact : (r : ℕ) → Exact (fields r) (encode_links r) (FitLinks r)
fields_exact r =
    exact_as
    (λ v h. record { principal_fits = h.0; first_fits = h.1.0; second_fits = h.1.1.0; back_fits = h.1.1.1 })
    (λ v f. (f.principal_fits, (f.first_fits, (f.second_fits, f.back_fits))))
    (seq_exact (field_exact early (has_principal_lem r))
    (λ _ _. seq_exact (field_exact early (has_first_lem r)) (λ _ _. seq_exact (field_exact early (has_second_lem r)) (λ _ _. field_exact early (has_back_lem r)))))

-- the codes of a sequent that is not empty
pub record FitCodes (t : Table) (cs : List ℕ) : Type 0 where
  pub count : Counts 1 24 (length cs)
  pub rising : Rising cs
  pub each : Each (Code t) cs

-- codes follow, or the sequent is empty
abbrev pub FitSequent : Table → Bool → List ℕ → Type 0
FitSequent t true cs = FitCodes t cs
FitSequent t false cs = cs ≡ []

pub sequent_exact : (t : Table) → Exact (sequent t) encode_codes (FitCodes t)
unfolding sequent
sequent_exact t =
    exact_as (λ cs h. record { count = h.0.1; rising = h.1; each = h.2 }) (λ cs f. ((omega (arith, f.count), f.count), f.rising, f.each))
    (rising_exact (lists.count_exact 1 24 32 (byte_exact early)) (two_exact early) (λ c. formula_tells t (entry_of_lem c)) 34)

pub codes_exact : (t : Table) (b : Bool) → Exact (part [] b (sequent t)) (encode_part b encode_codes) (FitSequent t b)
codes_exact t b = part_exact (FitSequent t) (sequent_exact t) refl (λ cs h. h) b

pub count_exact : (f : Form) → Exact (node_count f) encode_two (λ n. TwoBytes n × Counts (fewest f) 1024 n)
count_exact f = lists.count_exact (fewest f) 1024 32 (two_exact early)

pub node_tells : (n r : ℕ) → Tells (is_node n r) (r < n)
node_tells n r = ltb_tells r n

-- of so few nodes every number is one of two bytes
pub roots_exact : (f : Form) (g n : ℕ) → n ≤ 1024 → Exact (roots f g n) (encode_roots f) (FitRoots f g n)
unfolding roots
roots_exact clm1 g n few = known_exact (0 ∷ [])
roots_exact clm2 g n few =
    exact_as
    (λ rs h. record { as_many = h.0; rising = h.1; each = each_as (λ r k. k.1) h.2 })
    (λ rs k. (k.as_many, k.rising, each_as (λ r l. (omega arith, l)) k.each))
    (rising_exact (known_exact g) (two_exact early) (node_tells n) 34)
