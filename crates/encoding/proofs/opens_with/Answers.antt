-- What the library tells of the letters in front is what the definition asks.
use Rattle.std.proofs.lemmas.Bool.Decides.{Decides-eqb}
use Rattle.std.proofs.lemmas.Slice.Eq.{starts_is}
use Rattle.encoding.specs.Opening.{opens_as}
use Rattle.encoding.proofs.opens_with.Goals as goal

pub returns : goal.returns
returns c =
    let (before, there) = starts_is Decides-eqb c.args.bytes.now c.args.opening.now _ c.starts_with.ensures.value in
    opens_as _ _ _ (λ e. (_, before e)) (λ (rest, e). there rest e)
