-- the single check keeps its promise
use Rattle.std.specs.Prelude.{◌≡◌, refl, List, ℕ}
use Rattle.verdict.specs.Verdict.{packed, Within}
use Rattle.encoding.specs.Encode.{Bytes}
use Rattle.demands.specs.RefusedAs.{narrow_decoded, refused_as}
use Rattle.demands.specs.Check.{verdict}
use Rattle.demands.proofs.Demands.{accepted_sound, accepted_exact, refused_exact}
use Rattle.demands.proofs.Numbered.{packed_zero}
use Rattle.demands.specs.Single.{SingleCheck}

pub single : (claim proof : List ℕ) → Bytes claim → Bytes proof → (r : ℕ) → r ≡ packed (verdict claim proof) → Within 65536 (verdict claim proof) → SingleCheck claim proof r
single claim proof bc bp r h w = record {
  answer = h;
  sound = λ z. accepted_sound claim proof bc bp (packed_zero claim proof bc bp (rw h at z));
  exact = (
    λ z. (accepted_exact claim proof bc bp).0 (packed_zero claim proof bc bp (rw h at z)),
    λ k. rw (h, (accepted_exact claim proof bc bp).1 k) refl,
  );
  refuses = refused_as 65536 narrow_decoded (verdict claim proof) (λ n q. refused_exact claim proof bc bp) r h w;
}
