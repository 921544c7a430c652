-- The product of blocks (NIST SP 800-38D, 6.3). A block of 128 bits is a number below 2 ^ 128, its first bit the highest.
use Rattle.std.specs.Prelude.{ℕ, zero, suc, ◌*◌, ◌/◌, ◌%◌, ◌^◌, cond, ◌==◌, bit_xor}

-- R = 11100001 || 0^120
abbrev pub R : ℕ
R = 0xe1 * 2 ^ 120

-- V one place to the right, and R added where a one fell out
abbrev pub shifted : ℕ → ℕ
shifted v = cond (v % 2 == 0) (v / 2) (bit_xor (v / 2) R)

-- Z with V added where the bit is one
abbrev pub added : ℕ → ℕ → ℕ → ℕ
added bit z v = cond (bit == 0) z (bit_xor z v)

-- algorithm 1 over the last n bits of X, the first of them first, from Z and V on
unfoldable pub turns : ℕ → ℕ → ℕ → ℕ → ℕ
turns zero x z v = z
turns (suc n) x z v = turns n x (added (x / 2 ^ n % 2) z v) (shifted v)

-- X • Y: 128 turns from Z = 0 and V = Y on
unfoldable pub product : ℕ → ℕ → ℕ
product x y = turns 128 x 0 y
