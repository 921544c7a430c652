-- What is promised of the hash as a whole: messages in pieces, the shape of a hash, and worked examples.
use Rattle.std.specs.Prelude.{◌≡◌, ℕ, zero, suc, ◌<◌, List, [], ◌∷◌, ◌++◌, length, replicate, slice_index}
use Rattle.sm3.specs.Hash.{sm3, Running, start, absorb, finished}

-- pieces taken one after the other
abbrev pub absorb_all : Running → List (List ℕ) → Running
absorb_all s [] = s
absorb_all s (p ∷ ps) = absorb_all (absorb s p) ps

-- pieces put together
abbrev pub joined : List (List ℕ) → List ℕ
joined [] = []
joined (p ∷ ps) = p ++ joined ps

-- a message taken in any pieces has the hash of the pieces put together
abbrev pub Pieces : Type 0
Pieces = (ps : List (List ℕ)) → finished (absorb_all start ps) ≡ sm3 (joined ps)

-- the same for two pieces
abbrev pub TwoPieces : Type 0
TwoPieces = (a b : List ℕ) → finished (absorb (absorb start a) b) ≡ sm3 (a ++ b)

-- a hash has 32 octets
abbrev pub DigestLength : Type 0
DigestLength = (m : List ℕ) → length (sm3 m) ≡ 32

-- each of them below 256
abbrev pub DigestOctets : Type 0
DigestOctets = (m : List ℕ) (k : ℕ) → slice_index (sm3 m) k < 256

-- n copies of a list, put together
abbrev pub copies : ℕ → List ℕ → List ℕ
copies zero xs = []
copies (suc n) xs = xs ++ copies n xs

-- GB/T 32905-2016, annex A, example 1: "abc"
abbrev pub Abc : Type 0
Abc =
    sm3 (97 ∷ 98 ∷ 99 ∷ [])
    ≡ (102 ∷ 199 ∷ 240 ∷ 244 ∷ 98 ∷ 238 ∷ 237 ∷ 217 ∷ 209 ∷ 242 ∷ 212 ∷ 107 ∷ 220 ∷ 16 ∷ 228 ∷ 226 ∷ 65 ∷ 103 ∷ 196 ∷ 135 ∷ 92 ∷ 242 ∷ 247 ∷ 162 ∷ 41 ∷ 125 ∷ 160 ∷ 43 ∷ 143 ∷ 75 ∷ 168 ∷ 224 ∷ [])

-- GB/T 32905-2016, annex A, example 2: "abcd" sixteen times
abbrev pub Abcd16 : Type 0
Abcd16 =
    sm3 (copies 16 (97 ∷ 98 ∷ 99 ∷ 100 ∷ []))
    ≡ (222 ∷ 190 ∷ 159 ∷ 249 ∷ 34 ∷ 117 ∷ 184 ∷ 161 ∷ 56 ∷ 96 ∷ 72 ∷ 137 ∷ 193 ∷ 142 ∷ 90 ∷ 77 ∷ 111 ∷ 219 ∷ 112 ∷ 229 ∷ 56 ∷ 126 ∷ 87 ∷ 101 ∷ 41 ∷ 61 ∷ 203 ∷ 163 ∷ 156 ∷ 12 ∷ 87 ∷ 50 ∷ [])

-- a longer message: "a" a thousand times
abbrev pub Long : Type 0
Long =
    sm3 (replicate 1000 97)
    ≡ (244 ∷ 190 ∷ 220 ∷ 169 ∷ 115 ∷ 34 ∷ 125 ∷ 69 ∷ 197 ∷ 184 ∷ 34 ∷ 85 ∷ 29 ∷ 46 ∷ 118 ∷ 45 ∷ 76 ∷ 251 ∷ 14 ∷ 154 ∷ 247 ∷ 11 ∷ 36 ∷ 20 ∷ 82 ∷ 84 ∷ 87 ∷ 39 ∷ 181 ∷ 251 ∷ 4 ∷ 111 ∷ [])
