-- What the tables for a fixed factor H hold, and eight shifts at once.
use Rattle.std.specs.Prelude.{ℕ, zero, suc, List, map}
use Rattle.std.specs.List.{range_with_len}
use Rattle.gcm.specs.Field.{shifted, turns}

-- n places to the right
unfoldable pub shifts : ℕ → ℕ → ℕ
shifts zero v = v
shifts (suc n) v = shifts n (shifted v)

-- the multiples of H by every octet, that is, by every block of which only the first eight bits can be one
unfoldable pub multiples : ℕ → List ℕ
multiples h = map (λ octet. turns 8 octet 0 h) (range_with_len 0 256)
