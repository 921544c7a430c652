-- The constants and functions of GB/T 32905-2016, clause 4, on words: natural numbers below 2^32.
use Rattle.std.specs.Prelude.{ℕ, ◌+◌, ◌-◌, ◌*◌, ◌/◌, ◌%◌, ◌^◌, cond, bit_and, bit_or, bit_xor, nat_lt}

-- x rotated left by k bits, k taken modulo 32
abbrev pub rotl : ℕ → ℕ → ℕ
rotl x k = bit_or ((x * 2 ^ (k % 32)) % 2 ^ 32) (x / 2 ^ ((32 - k % 32) % 32))

-- the sum modulo 2^32
abbrev pub sum32 : ℕ → ℕ → ℕ
sum32 x y = (x + y) % 2 ^ 32

-- every bit inverted
abbrev pub not32 : ℕ → ℕ
not32 x = 4294967295 - x

-- the constant T_j of round j, rotated left by j: one word for rounds 0 to 15, another from 16 on
abbrev pub tj : ℕ → ℕ
tj j = cond (nat_lt j 16) (rotl 0x79cc4519 j) (rotl 0x7a879d8a j)

-- the boolean function FF_j: parity for rounds 0 to 15, majority from 16 on
abbrev pub ff : ℕ → ℕ → ℕ → ℕ → ℕ
ff j x y z = cond (nat_lt j 16) (bit_xor (bit_xor x y) z) (bit_or (bit_or (bit_and x y) (bit_and x z)) (bit_and y z))

-- the boolean function GG_j: parity for rounds 0 to 15, then y where x has a one and z where it has a zero
abbrev pub gg : ℕ → ℕ → ℕ → ℕ → ℕ
gg j x y z = cond (nat_lt j 16) (bit_xor (bit_xor x y) z) (bit_or (bit_and x y) (bit_and (not32 x) z))

-- the permutation P0 of the compression function
abbrev pub p0 : ℕ → ℕ
p0 x = bit_xor (bit_xor x (rotl x 9)) (rotl x 17)

-- the permutation P1 of the message expansion
abbrev pub p1 : ℕ → ℕ
p1 x = bit_xor (bit_xor x (rotl x 15)) (rotl x 23)
