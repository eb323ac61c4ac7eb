-- The letters, then the count.
use Rattle.std.proofs.Common.{◌≡◌, sym, ap, ◌∙◌, List, ℕ, ◌+◌, ◌++◌, length, drop, arith}
use Rattle.std.proofs.lemmas.List.Edits.{sets}
use Rattle.encoding.specs.Encode.{encode_two}
use Rattle.laying.specs.Laying.{sets_append, sets_written}
use Rattle.laying.proofs.put_opening.Goals as goal

pub returns : goal.returns
returns c =
    let out : List ℕ = c.args.out.now in
    let letters : List ℕ = c.args.letters.now in
    let count : List ℕ = encode_two c.args.count in
    let four : 4 ≡ 0 + length letters = omega (arith, c.told-letters) in
    let copied : c.copy_from_slice.new.self ++ drop 4 out ≡ sets out 0 letters =
    ap (λ (l : List ℕ). l ++ drop 4 out) c.copy_from_slice.ensures.after ∙ ap (λ (k : ℕ). letters ++ drop k out) (sym c.told-letters) ∙ sym (sets_written letters out (omega (arith, c.told-letters, c.requires.0))) in
    c.put_two.ensures
    ∙ ap (λ (l : List ℕ). sets l 4 count) copied
    ∙ ap (λ (k : ℕ). sets (sets out 0 letters) k count) four
    ∙ sym (sets_append letters count out 0)
