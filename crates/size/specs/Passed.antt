-- What a call answers where `?` passes a refusal on: that refusal, or what it turns into. Assumes nothing.
use Rattle.std.specs.Prelude.{◌≡◌, Result, Ok, Err}
use Rattle.std.specs.Result.{IsErrAnd}
use Rattle.std.proofs.Common.{ap}

pub passed_on : {T E : Type 0} {e : E} {r : Result T E} → IsErrAnd r (λ y. y ≡ e) → r ≡ Err e
passed_on {r = Ok x} h = absurd h
passed_on {r = Err y} h = ap Err h
