-- Texts of octets, and blocks of 16 octets as numbers, the first octet the highest.
use Rattle.std.specs.Prelude.{ℕ, zero, suc, ◌+◌, ◌-◌, ◌*◌, ◌/◌, ◌%◌, ◌^◌, List, [], ◌∷◌, ◌++◌, length, take, drop, replicate}

-- octets read as a number, n being what the octets before them gave
abbrev pub value_from : ℕ → List ℕ → ℕ
value_from n [] = n
value_from n (x ∷ xs) = value_from (n * 256 + x) xs

-- a list of octets read as a number
unfoldable pub value : List ℕ → ℕ
value xs = value_from 0 xs

-- the last k octets of a number
abbrev pub octets_of : ℕ → ℕ → List ℕ
octets_of zero n = []
octets_of (suc zero) n = n % 256 ∷ []
octets_of (suc (suc k)) n = n / 256 ^ suc k % 256 ∷ octets_of (suc k) n

-- the octets of a block
abbrev pub octets16 : ℕ → List ℕ
octets16 n = octets_of 16 n

-- how many blocks a text takes, a begun one counted
abbrev pub block_count : List ℕ → ℕ
block_count xs = (length xs + 15) / 16

-- a text with zeros up to whole blocks
unfoldable pub filled : List ℕ → List ℕ
filled xs = xs ++ replicate (block_count xs * 16 - length xs) 0

-- the first n blocks of a text
abbrev pub blocks : ℕ → List ℕ → List ℕ
blocks zero xs = []
blocks (suc n) xs = value (take 16 xs) ∷ blocks n (drop 16 xs)
