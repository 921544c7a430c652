-- What a fault says of the text that was not read.
use Rattle.std.specs.Prelude.{◌≡◌, ℕ, ◌+◌, ◌%◌, ◌<◌, List, length, None, slice_index}
use Rattle.hex_text.specs.declared.HexFault.{HexFault}
use Rattle.hex_text.specs.declared.HexFault.TheVariants.{OddLength, NotDigits, NoMemory}
use Rattle.hex_text.specs.Hex.{digit, pair}

-- an odd number of digits, or no octet at the place named; nothing where memory ran out
abbrev pub Told : HexFault → List ℕ → Type 0
Told OddLength text = length text % 2 ≡ 1
Told (NotDigits at) text = (at < length text) × (pair (digit (slice_index text at)) (digit (slice_index text (at + 1))) ≡ None)
Told NoMemory text = Unit {0}
