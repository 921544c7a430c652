-- What a set-up of the code makes, in the terms of the definitions.
use Rattle.std.specs.Prelude.{◌≡◌, Ok, Err, Option, Result}
use Rattle.sm3.specs.Hash.{Running}
use Rattle.protection.specs.Keys.{Keying}
use Rattle.model.specs.Results.{Made, made, given_back}
use Rattle.endpoint.specs.declared.end.Endpoint.{Endpoint}
use Rattle.endpoint.specs.declared.set_up_refused.SetUpRefused.{SetUpRefused}
use Rattle.endpoint.specs.View.{view}

module _ {P : Type 0} where
  -- the new end, or the refusal with what the protection given back holds
  abbrev pub made_by : (P → Option Keying) → Result (Endpoint P) (SetUpRefused P) → Made Running
  made_by holds (Ok e) = made (view holds e)
  made_by holds (Err x) = given_back x.refusal (holds x.protection)

  -- the protection is in the end, or given back: itself, and not only what it holds
  abbrev pub Has : P → Result (Endpoint P) (SetUpRefused P) → Type 0
  Has p (Ok e) = e.end.protection ≡ p
  Has p (Err x) = x.protection ≡ p
