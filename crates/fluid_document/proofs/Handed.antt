-- A fault that a `?` hands on.
use Rattle.std.proofs.Common.{◌≡◌, Result, Err, IsErrAnd, ap, ◌∙◌}
use Rattle.std.proofs.lemmas.Result.{err_from_is_err_and}

pub handed_on : {T E : Type 0} (r : Result T E) (fault : E) → IsErrAnd r (λ given. given ≡ fault) → r ≡ Err fault
handed_on r fault is = let given = err_from_is_err_and r is in given.1 ∙ ap Err given.2
