-- Cipher block chaining (NIST SP 800-38A, 6.2) over SM4, on blocks of 16 octets under given round keys.
use Rattle.std.specs.Prelude.{ℕ, zero, suc, ◌/◌, ◌%◌, Bool, List, [], ◌∷◌, ◌++◌, reverse, length, take, drop, ◌==◌, bit_xor}
use Rattle.sm4.specs.Cipher.{crypt}

-- a list xor another, octet by octet; where the other is shorter, the rest stays as it is
abbrev pub xors : List ℕ → List ℕ → List ℕ
xors [] ys = []
xors (x ∷ xs) [] = x ∷ xs
xors (x ∷ xs) (y ∷ ys) = bit_xor x y ∷ xors xs ys

-- a ciphertext block: the plaintext block xor the ciphertext block before it, encrypted
abbrev pub encrypt_block : List ℕ → List ℕ → List ℕ → List ℕ
encrypt_block rks before plain = crypt rks (xors plain before)

-- a plaintext block: the ciphertext block decrypted, xor the ciphertext block before it
abbrev pub decrypt_block : List ℕ → List ℕ → List ℕ → List ℕ
decrypt_block rks before cipher = xors (crypt (reverse rks) cipher) before

-- the first n blocks of a list encrypted, one after the other; what follows them stays as it is
unfoldable pub encrypt_blocks : List ℕ → ℕ → List ℕ → List ℕ → List ℕ
encrypt_blocks rks zero before xs = xs
encrypt_blocks rks (suc n) before xs =
    encrypt_block rks before (take 16 xs) ++ encrypt_blocks rks n (encrypt_block rks before (take 16 xs)) (drop 16 xs)

-- the first n blocks of a list decrypted, one after the other; what follows them stays as it is
unfoldable pub decrypt_blocks : List ℕ → ℕ → List ℕ → List ℕ → List ℕ
decrypt_blocks rks zero before xs = xs
decrypt_blocks rks (suc n) before xs = decrypt_block rks before (take 16 xs) ++ decrypt_blocks rks n (take 16 xs) (drop 16 xs)

-- every block of a list encrypted; the IV stands for the block before the first
unfoldable pub cbc_encrypt : List ℕ → List ℕ → List ℕ → List ℕ
cbc_encrypt rks iv xs = encrypt_blocks rks (length xs / 16) iv xs

-- every block of a list decrypted; the IV stands for the block before the first
unfoldable pub cbc_decrypt : List ℕ → List ℕ → List ℕ → List ℕ
cbc_decrypt rks iv xs = decrypt_blocks rks (length xs / 16) iv xs

-- whether a list is made of whole blocks
abbrev pub whole_blocks : List ℕ → Bool
whole_blocks xs = length xs % 16 == 0
