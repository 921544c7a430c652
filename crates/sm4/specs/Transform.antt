-- The transforms of a word that the rounds of SM4 are made of (GB/T 32907-2016).
use Rattle.std.specs.Prelude.{ℕ, ◌/◌, ◌%◌, bit_xor}
use Rattle.sm4.specs.Sbox.{sbox}
use Rattle.sm4.specs.Words.{word, rotl}

-- τ, the nonlinear transform: each octet through the S-box
unfoldable pub tau : ℕ → ℕ
tau x = word (sbox (x / 16777216 % 256)) (sbox (x / 65536 % 256)) (sbox (x / 256 % 256)) (sbox (x % 256))

-- L, the linear transform of the rounds
abbrev pub linear : ℕ → ℕ
linear b = bit_xor (bit_xor (bit_xor (bit_xor b (rotl 2 b)) (rotl 10 b)) (rotl 18 b)) (rotl 24 b)

-- L', the linear transform of the key expansion
abbrev pub linear_key : ℕ → ℕ
linear_key b = bit_xor (bit_xor b (rotl 13 b)) (rotl 23 b)

-- T: τ, then L
unfoldable pub transform : ℕ → ℕ
transform x = linear (tau x)

-- T': τ, then L'
unfoldable pub transform_key : ℕ → ℕ
transform_key x = linear_key (tau x)
