-- What an end of the code stands for.
use Rattle.std.specs.Prelude.{Option}
use Rattle.sm3.specs.Hash.{Running}
use Rattle.protection.specs.Keys.{Keying}
use Rattle.model.specs.Endpoint.{End}
use Rattle.end_state.specs.View as ends
use Rattle.endpoint.specs.declared.end.Endpoint.{Endpoint}

-- its state with what its protection holds
abbrev pub view : {P : Type 0} → (P → Option Keying) → Endpoint P → End Running
view holds e = ends.view holds e.end
