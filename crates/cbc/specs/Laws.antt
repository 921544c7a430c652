-- What is proved of the mode as a whole, under every round keys and IV, and an example.
use Rattle.std.specs.Prelude.{◌≡◌, ℕ, List, [], ◌∷◌, length}
use Rattle.octets.specs.Octets.{Octets}
use Rattle.sm4.specs.Cipher.{round_keys}
use Rattle.cbc.specs.Cbc.{cbc_encrypt, cbc_decrypt}

-- decryption undoes encryption
abbrev pub DecryptionUndoes : Type 0
DecryptionUndoes = (rks iv xs : List ℕ) → Octets iv → Octets xs → cbc_decrypt rks iv (cbc_encrypt rks iv xs) ≡ xs

-- encryption undoes decryption
abbrev pub EncryptionUndoes : Type 0
EncryptionUndoes = (rks iv xs : List ℕ) → Octets xs → cbc_encrypt rks iv (cbc_decrypt rks iv xs) ≡ xs

-- lengths are kept
abbrev pub KeepsLength : Type 0
KeepsLength = (rks iv xs : List ℕ) → (length (cbc_encrypt rks iv xs) ≡ length xs) × (length (cbc_decrypt rks iv xs) ≡ length xs)

-- octets stay octets
abbrev pub KeepsOctets : Type 0
KeepsOctets = (rks iv xs : List ℕ) → Octets iv → Octets xs → Octets (cbc_encrypt rks iv xs) × Octets (cbc_decrypt rks iv xs)

-- key and IV of an example
abbrev pub example_key : List ℕ
example_key = 0x01 ∷ 0x23 ∷ 0x45 ∷ 0x67 ∷ 0x89 ∷ 0xab ∷ 0xcd ∷ 0xef ∷ 0xfe ∷ 0xdc ∷ 0xba ∷ 0x98 ∷ 0x76 ∷ 0x54 ∷ 0x32 ∷ 0x10 ∷ []

abbrev pub example_iv : List ℕ
example_iv = 0x00 ∷ 0x01 ∷ 0x02 ∷ 0x03 ∷ 0x04 ∷ 0x05 ∷ 0x06 ∷ 0x07 ∷ 0x08 ∷ 0x09 ∷ 0x0a ∷ 0x0b ∷ 0x0c ∷ 0x0d ∷ 0x0e ∷ 0x0f ∷ []

-- its plaintext of two blocks
abbrev pub example_plain : List ℕ
example_plain =
    0xaa ∷ 0xaa ∷ 0xaa ∷ 0xaa ∷ 0xbb ∷ 0xbb ∷ 0xbb ∷ 0xbb ∷ 0xcc ∷ 0xcc ∷ 0xcc ∷ 0xcc ∷ 0xdd ∷ 0xdd ∷ 0xdd ∷ 0xdd ∷
    0xee ∷ 0xee ∷ 0xee ∷ 0xee ∷ 0xff ∷ 0xff ∷ 0xff ∷ 0xff ∷ 0xaa ∷ 0xaa ∷ 0xaa ∷ 0xaa ∷ 0xbb ∷ 0xbb ∷ 0xbb ∷ 0xbb ∷ []

-- its ciphertext
abbrev pub example_out : List ℕ
example_out =
    0x78 ∷ 0xeb ∷ 0xb1 ∷ 0x1c ∷ 0xc4 ∷ 0x0b ∷ 0x0a ∷ 0x48 ∷ 0x31 ∷ 0x2a ∷ 0xae ∷ 0xb2 ∷ 0x04 ∷ 0x02 ∷ 0x44 ∷ 0xcb ∷
    0x4c ∷ 0xb7 ∷ 0x01 ∷ 0x69 ∷ 0x51 ∷ 0x90 ∷ 0x92 ∷ 0x26 ∷ 0x97 ∷ 0x9b ∷ 0x0d ∷ 0x15 ∷ 0xdc ∷ 0x6a ∷ 0x8f ∷ 0x6d ∷ []

-- the example, there and back
abbrev pub Example : Type 0
Example =
    (cbc_encrypt (round_keys example_key) example_iv example_plain ≡ example_out)
    × (cbc_decrypt (round_keys example_key) example_iv example_out ≡ example_plain)
