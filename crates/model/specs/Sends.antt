-- The readings that calls bring to be sent.
use Rattle.std.specs.Prelude.{ℕ, List, [], ◌∷◌, Some, None, Option}
use Rattle.model.specs.declared.refusal.Refusal.{Refusal}
use Rattle.model.specs.Endpoint.{Call, hand_in, turn, answer, look, send, close}

-- the reading that an accepted send brings
abbrev pub brought : Option Refusal → Call → List (List ℕ)
brought (Some r) c = []
brought None (hand_in xs f out place) = []
brought None (turn f out) = []
brought None (answer q a f out) = []
brought None (look q) = []
brought None (send x f out) = x ∷ []
brought None (close f out) = []
