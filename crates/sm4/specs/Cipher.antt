-- SM4 (GB/T 32907-2016): the rounds, the key expansion, and the cipher on blocks of 16 octets.
use Rattle.std.specs.Prelude.{ℕ, zero, suc, ◌+◌, ◌*◌, ◌%◌, List, [], ◌∷◌, reverse, bit_xor}
use Rattle.sm4.specs.Transform.{transform, transform_key}
use Rattle.sm4.specs.Words.{word, word_at, put_word}

-- four words: X_i, X_(i+1), X_(i+2), X_(i+3) after i rounds
pub record Quad : Type 0 where
  pub x0 : ℕ
  pub x1 : ℕ
  pub x2 : ℕ
  pub x3 : ℕ

-- a block of 16 octets as four words
abbrev pub loaded : List ℕ → Quad
loaded l = record { x0 = word_at l 0; x1 = word_at l 4; x2 = word_at l 8; x3 = word_at l 12 }

-- four words as a block of 16 octets
abbrev pub stored : Quad → List ℕ
stored s = put_word s.x0 (put_word s.x1 (put_word s.x2 (put_word s.x3 [])))

-- a round with the round key rk: X_(i+4) is X_i xor T(X_(i+1) xor X_(i+2) xor X_(i+3) xor rk)
abbrev pub round : ℕ → Quad → Quad
round rk s =
    record { x0 = s.x1; x1 = s.x2; x2 = s.x3; x3 = bit_xor s.x0 (transform (bit_xor (bit_xor (bit_xor s.x1 s.x2) s.x3) rk)) }

-- a round with each key of a list, the first key first
abbrev pub rounds : List ℕ → Quad → Quad
rounds [] s = s
rounds (rk ∷ rks) s = rounds rks (round rk s)

-- R, the final reversal: the words in the opposite sequence
abbrev pub reversed : Quad → Quad
reversed s = record { x0 = s.x3; x1 = s.x2; x2 = s.x1; x3 = s.x0 }

-- the cipher on a block, under given round keys
unfoldable pub crypt : List ℕ → List ℕ → List ℕ
crypt rks block = stored (reversed (rounds rks (loaded block)))

-- the key xor the system parameter FK
abbrev pub whitened : Quad → Quad
whitened k =
    record { x0 = bit_xor k.x0 0xa3b1bac6; x1 = bit_xor k.x1 0x56aa3350; x2 = bit_xor k.x2 0x677d9197; x3 = bit_xor k.x3 0xb27022dc }

-- octet j of the fixed parameter CK_i
abbrev pub ck_octet : ℕ → ℕ → ℕ
ck_octet i j = (4 * i + j) * 7 % 256

-- the fixed parameter CK_i
abbrev pub ck : ℕ → ℕ
ck i = word (ck_octet i 0) (ck_octet i 1) (ck_octet i 2) (ck_octet i 3)

-- n fixed parameters from CK_i on
abbrev pub cks_from : ℕ → ℕ → List ℕ
cks_from zero i = []
cks_from (suc n) i = ck i ∷ cks_from n (suc i)

-- the 32 fixed parameters
unfoldable pub cks : List ℕ
cks = cks_from 32 0

-- a step of the key expansion: K_(i+4) is K_i xor T'(K_(i+1) xor K_(i+2) xor K_(i+3) xor CK_i)
abbrev pub key_round : ℕ → Quad → Quad
key_round c s =
    record { x0 = s.x1; x1 = s.x2; x2 = s.x3; x3 = bit_xor s.x0 (transform_key (bit_xor (bit_xor (bit_xor s.x1 s.x2) s.x3) c)) }

-- the round keys rk_i = K_(i+4), one for each fixed parameter of a list
abbrev pub schedule : List ℕ → Quad → List ℕ
schedule [] s = []
schedule (c ∷ cs) s = (key_round c s).x3 ∷ schedule cs (key_round c s)

-- the 32 round keys of a key of 16 octets
unfoldable pub round_keys : List ℕ → List ℕ
round_keys key = schedule cks (whitened (loaded key))

-- a block encrypted under a key
unfoldable pub encrypt : List ℕ → List ℕ → List ℕ
encrypt key block = crypt (round_keys key) block

-- a block decrypted under a key: the same cipher with the round keys in the opposite sequence
unfoldable pub decrypt : List ℕ → List ℕ → List ℕ
decrypt key block = crypt (reverse (round_keys key)) block
