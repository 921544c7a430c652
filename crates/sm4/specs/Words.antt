-- Words of 32 bits, as numbers below 2 ^ 32, and their octets, the highest first.
use Rattle.std.specs.Prelude.{ℕ, ◌+◌, ◌-◌, ◌*◌, ◌/◌, ◌%◌, ◌^◌, List, ◌∷◌, bit_or, slice_index}

-- a word rotated left by k places, 0 < k < 32
abbrev pub rotl : ℕ → ℕ → ℕ
rotl k x = bit_or (x * 2 ^ k % 2 ^ 32) (x / 2 ^ (32 - k))

-- four octets as a word
abbrev pub word : ℕ → ℕ → ℕ → ℕ → ℕ
word a b c d = a * 16777216 + b * 65536 + c * 256 + d

-- the word that begins at place i of a list of octets
abbrev pub word_at : List ℕ → ℕ → ℕ
word_at l i = word (slice_index l i) (slice_index l (i + 1)) (slice_index l (i + 2)) (slice_index l (i + 3))

-- the octets of a word, followed by those of a list
abbrev pub put_word : ℕ → List ℕ → List ℕ
put_word x l = (x / 16777216 % 256) ∷ (x / 65536 % 256) ∷ (x / 256 % 256) ∷ (x % 256) ∷ l
