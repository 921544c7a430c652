-- GHASH (NIST SP 800-38D, 6.4).
use Rattle.std.specs.Prelude.{ℕ, ◌/◌, List, [], ◌∷◌, length, bit_xor}
use Rattle.gcm.specs.Blocks.{blocks, block_count, filled}
use Rattle.gcm.specs.Field.{product}

-- from Y on, block by block: Y becomes (Y ⊕ X) • H
abbrev pub hashed : ℕ → ℕ → List ℕ → ℕ
hashed h y [] = y
hashed h y (x ∷ xs) = hashed h (product (bit_xor y x) h) xs

-- from Y on over a text with zeros up to whole blocks
abbrev pub absorbed : ℕ → ℕ → List ℕ → ℕ
absorbed h y xs = hashed h y (blocks (block_count xs) (filled xs))

-- GHASH under H of a text of whole blocks, from Y = 0 on
unfoldable pub ghash : ℕ → List ℕ → ℕ
ghash h xs = hashed h 0 (blocks (length xs / 16) xs)
