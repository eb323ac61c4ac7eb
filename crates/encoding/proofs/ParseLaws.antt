-- the parser of four bytes is exact
use Rattle.std.specs.Prelude.{◌≡◌, refl, ◌++◌, ℕ, ◌+◌, ◌*◌, ◌/◌, ◌%◌, ◌<◌}
use Rattle.std.proofs.Common.{arith}
use Rattle.encoding.specs.Encode.{encode_two, encode_four}
use Rattle.encoding.specs.Parse.{double, four}
use Rattle.encoding.specs.ParseLaws.{Exact, seq_exact, two_exact, via_exact}

module _ (early : ℕ) where
  pub four_exact : Exact (four early) encode_four (λ n. n < 4294967296)
  four_exact = via_exact (seq_exact (two_exact early) (λ x h. two_exact early)) double (λ n. (n % 65536, n / 65536)) (λ n h. ((omega arith, omega arith), omega arith, refl))
      (λ w h. let u = h.0 in let v = h.1 in (omega arith, low w.0 w.1 u))
    where
      low : (x y : ℕ) → x < 65536 → encode_two x ++ encode_two y ≡ encode_four (x + 65536 * y)
      low x y h =
          let i : (x + 65536 * y) % 65536 ≡ x = omega arith in
          let j : (x + 65536 * y) / 65536 ≡ y = omega arith in
          rw (i, j) refl
