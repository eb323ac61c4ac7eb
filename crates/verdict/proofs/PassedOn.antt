-- a refusal that `?` hands on is the one that it met
use Rattle.std.specs.Prelude.{◌≡◌, Result, Err, IsErrAnd}
use Rattle.std.proofs.Math.Path.{ap}
use Rattle.std.proofs.Common.{◌∙◌}
use Rattle.std.proofs.lemmas.Result.{err_from_is_err_and}

pub passed_on : {T E : Type 0} {d : E} (r : Result T E) → IsErrAnd r (λ e. e ≡ d) → r ≡ Err d
passed_on r h = let p = err_from_is_err_and r h in p.1 ∙ ap Err p.2
