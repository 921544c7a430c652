-- SM3 of a message (GB/T 32905-2016, clause 5), and the same hash taken octet by octet.
use Rattle.std.specs.Prelude.{ℕ, zero, suc, ◌+◌, ◌-◌, ◌*◌, ◌/◌, ◌%◌, ◌^◌, cond, List, [], ◌∷◌, ◌++◌, map, length, take, drop, replicate, ◌==◌, slice_index}
use Rattle.std.specs.List.{range_with_len}
use Rattle.sm3.specs.Compress.{compress}

-- the initial value IV, clause 4.1
abbrev pub iv : List ℕ
iv = 0x7380166f ∷ 0x4914b2b9 ∷ 0x172442d7 ∷ 0xda8a0600 ∷ 0xa96f30bc ∷ 0x163138aa ∷ 0xe38dee4d ∷ 0xb0fb0e4e ∷ []

-- a number as eight octets, the highest first
abbrev pub octets64 : ℕ → List ℕ
octets64 n =
    (n / 72057594037927936 % 256) ∷ (n / 281474976710656 % 256) ∷ (n / 1099511627776 % 256) ∷ (n / 4294967296 % 256)
    ∷ (n / 16777216 % 256) ∷ (n / 65536 % 256) ∷ (n / 256 % 256) ∷ (n % 256) ∷ []

-- what follows a message of n octets: a one bit, zeros up to 8 octets before the end of a block, and the number of bits.
-- The standard's messages have fewer than 2^64 bits; from 2^61 octets on, the number of bits is taken modulo 2^64.
unfoldable pub padding : ℕ → List ℕ
padding n = 128 ∷ (replicate ((119 - n % 64) % 64) 0 ++ octets64 (n * 8 % 2 ^ 64))

-- the padded message
unfoldable pub pad : List ℕ → List ℕ
pad m = m ++ padding (length m)

-- the chaining value after n blocks of 64 octets, from v before them
unfoldable pub blocks : ℕ → List ℕ → List ℕ → List ℕ
blocks zero v xs = v
blocks (suc n) v xs = blocks n (compress v (take 64 xs)) (drop 64 xs)

-- octet i of eight words, the highest octet of each first
abbrev pub octet : List ℕ → ℕ → ℕ
octet v i = slice_index v (i / 4) / 2 ^ (24 - 8 * (i % 4)) % 256

-- the 32 octets of a chaining value
unfoldable pub output : List ℕ → List ℕ
output v = map (octet v) (range_with_len 0 32)

-- the hash of a message
unfoldable pub sm3 : List ℕ → List ℕ
sm3 m = output (blocks (length (pad m) / 64) iv (pad m))

-- a hash under way: the chaining value after the whole blocks, the octets since, and the number of octets modulo 2^64
pub record Running : Type 0 where
  pub chain : List ℕ
  pub pending : List ℕ
  pub count : ℕ

-- nothing taken yet
unfoldable pub start : Running
start = record { chain = iv; pending = []; count = 0 }

-- one octet more: the 64th of a block is compressed with it
abbrev pub taken : Running → ℕ → Running
taken s x =
    cond (length s.pending == 63)
    (record { chain = compress s.chain (s.pending ++ x ∷ []); pending = []; count = (s.count + 1) % 2 ^ 64 })
    (record { chain = s.chain; pending = s.pending ++ x ∷ []; count = (s.count + 1) % 2 ^ 64 })

-- octets more, one after the other
unfoldable pub absorb : Running → List ℕ → Running
absorb s [] = s
absorb s (x ∷ xs) = absorb (taken s x) xs

-- the hash of all that was taken: the padding taken too, and the chaining value's octets
unfoldable pub finished : Running → List ℕ
finished s = output (absorb s (padding s.count)).chain
