-- The message expansion and the compression function of GB/T 32905-2016, clauses 5.3.2 and 5.3.3.
-- A block is a list of 64 octets, a chaining value a list of eight words: the registers A to H.
use Rattle.std.specs.Prelude.{ℕ, zero, suc, ◌+◌, ◌*◌, List, [], ◌∷◌, ◌++◌, map, bit_xor, slice_index}
use Rattle.std.specs.List.{range_with_len}
use Rattle.sm3.specs.Words.{rotl, sum32, p0, p1, ff, gg, tj}

-- word i of a block: four octets, the first the highest
abbrev pub word : List ℕ → ℕ → ℕ
word b i = slice_index b (4 * i) * 16777216 + slice_index b (4 * i + 1) * 65536 + slice_index b (4 * i + 2) * 256 + slice_index b (4 * i + 3)

-- the sixteen words of a block, W_0 to W_15
unfoldable pub words : List ℕ → List ℕ
words b = map (word b) (range_with_len 0 16)

-- W_(k+16), from the words before it
abbrev pub next : ℕ → List ℕ → ℕ
next k ws =
    bit_xor (bit_xor (p1 (bit_xor (bit_xor (slice_index ws k) (slice_index ws (k + 7))) (rotl (slice_index ws (k + 13)) 15))) (rotl (slice_index ws (k + 3)) 7))
    (slice_index ws (k + 10))

-- sixteen words, and the n that follow them
unfoldable pub expand : ℕ → List ℕ → List ℕ
expand zero ws = ws
expand (suc k) ws = expand k ws ++ next k (expand k ws) ∷ []

-- SS1 of round j
abbrev pub ss1 : ℕ → List ℕ → ℕ
ss1 j v = rotl (sum32 (sum32 (rotl (slice_index v 0) 12) (slice_index v 4)) (tj j)) 7

-- SS2 of round j
abbrev pub ss2 : ℕ → List ℕ → ℕ
ss2 j v = bit_xor (ss1 j v) (rotl (slice_index v 0) 12)

-- TT1 of round j, w' being W_j with W_(j+4) added bit by bit
abbrev pub tt1 : ℕ → ℕ → List ℕ → ℕ
tt1 j w' v = sum32 (sum32 (sum32 (ff j (slice_index v 0) (slice_index v 1) (slice_index v 2)) (slice_index v 3)) (ss2 j v)) w'

-- TT2 of round j, w being W_j
abbrev pub tt2 : ℕ → ℕ → List ℕ → ℕ
tt2 j w v = sum32 (sum32 (sum32 (gg j (slice_index v 4) (slice_index v 5) (slice_index v 6)) (slice_index v 7)) (ss1 j v)) w

-- round j on the eight registers, with the words w and w'
abbrev pub round : ℕ → ℕ → ℕ → List ℕ → List ℕ
round j w w' v =
    tt1 j w' v ∷ slice_index v 0 ∷ rotl (slice_index v 1) 9 ∷ slice_index v 2
    ∷ p0 (tt2 j w v) ∷ slice_index v 4 ∷ rotl (slice_index v 5) 19 ∷ slice_index v 6 ∷ []

-- the first n rounds, with the expanded words ws
unfoldable pub rounds : ℕ → List ℕ → List ℕ → List ℕ
rounds zero ws v = v
rounds (suc j) ws v = round j (slice_index ws j) (bit_xor (slice_index ws j) (slice_index ws (j + 4))) (rounds j ws v)

-- two chaining values, added bit by bit
abbrev pub xors : List ℕ → List ℕ → List ℕ
xors u v = map (λ i. bit_xor (slice_index u i) (slice_index v i)) (range_with_len 0 8)

-- the chaining value after the block b, from v before it: 64 rounds, and v added bit by bit
unfoldable pub compress : List ℕ → List ℕ → List ℕ
compress v b = xors (rounds 64 (expand 52 (words b)) v) v
