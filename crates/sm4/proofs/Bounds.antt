-- What stays below 2 ^ 32: the S-box gives octets, and the rounds give words.
use Rattle.std.proofs.Common.{ℕ, ◌*◌, ◌/◌, ◌%◌, ◌^◌, ◌<◌, Bool, ltb, List, [], ◌∷◌, arith, ltb→lt}
use lib.Bits.{bit_xor, xor_lt, or_lt}
use Rattle.sm4.specs.Cipher.{Quad, round, rounds, reversed}
use Rattle.sm4.specs.Sbox.{sbox, sbox_table}
use Rattle.sm4.specs.Transform.{transform, tau, linear}
use Rattle.sm4.specs.Words.{word, rotl}
use Rattle.sm4.proofs.Table.{at}

abbrev small : ℕ → ℕ → Bool
small k x = ltb x 256

pub sbox_lt : (x : ℕ) → x < 256 → sbox x < 256
sbox_lt x h = ltb→lt (sbox x) 256 (at small sbox_table tt x h)

pub word_lt : (a b c d : ℕ) → a < 256 → b < 256 → c < 256 → d < 256 → word a b c d < 2 ^ 32
word_lt a b c d ha hb hc hd = omega arith

linear_lt : (x : ℕ) → x < 2 ^ 32 → linear x < 2 ^ 32
linear_lt x h =
    let r2 : rotl 2 x < 2 ^ 32 = or_lt 32 (x * 2 ^ 2 % 2 ^ 32) (x / 2 ^ 30) (omega arith) (omega arith) in
    let r10 : rotl 10 x < 2 ^ 32 = or_lt 32 (x * 2 ^ 10 % 2 ^ 32) (x / 2 ^ 22) (omega arith) (omega arith) in
    let r18 : rotl 18 x < 2 ^ 32 = or_lt 32 (x * 2 ^ 18 % 2 ^ 32) (x / 2 ^ 14) (omega arith) (omega arith) in
    let r24 : rotl 24 x < 2 ^ 32 = or_lt 32 (x * 2 ^ 24 % 2 ^ 32) (x / 2 ^ 8) (omega arith) (omega arith) in
    xor_lt 32 _ _ (xor_lt 32 _ _ (xor_lt 32 _ _ (xor_lt 32 _ _ h r2) r10) r18) r24

pub transform_lt : (x : ℕ) → transform x < 2 ^ 32
unfolding transform tau
transform_lt x =
    linear_lt (tau x)
    (word_lt _ _ _ _ (sbox_lt (x / 16777216 % 256) (omega arith)) (sbox_lt (x / 65536 % 256) (omega arith)) (sbox_lt (x / 256 % 256) (omega arith))
    (sbox_lt (x % 256) (omega arith)))

-- four numbers that are words
pub record Words (s : Quad) : Type 0 where
  pub w0 : s.x0 < 2 ^ 32
  pub w1 : s.x1 < 2 ^ 32
  pub w2 : s.x2 < 2 ^ 32
  pub w3 : s.x3 < 2 ^ 32

round_words : (k : ℕ) (s : Quad) → Words s → Words (round k s)
round_words k s w = record { w0 = w.w1; w1 = w.w2; w2 = w.w3; w3 = xor_lt 32 s.x0 (transform (bit_xor (bit_xor (bit_xor s.x1 s.x2) s.x3) k)) w.w0 (transform_lt (bit_xor (bit_xor (bit_xor s.x1 s.x2) s.x3) k)) }

pub rounds_words : (ks : List ℕ) (s : Quad) → Words s → Words (rounds ks s)
rounds_words [] s w = w
rounds_words (k ∷ ks) s w = rounds_words ks (round k s) (round_words k s w)

pub reversed_words : (s : Quad) → Words s → Words (reversed s)
reversed_words s w = record { w0 = w.w3; w1 = w.w2; w2 = w.w1; w3 = w.w0 }
