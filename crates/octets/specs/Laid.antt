-- A list laid over a buffer from a place on.
use Rattle.std.specs.Prelude.{ℕ, ◌+◌, ◌-◌, List, ◌++◌, length, take, drop}

-- what of the list finds room stands from the place on; everything else is as it was
unfoldable pub laid : List ℕ → ℕ → List ℕ → List ℕ
laid out at l = take at out ++ (take (length out - at) l ++ drop (at + length l) out)
