-- What is proved of the cipher as a whole, and the standard's example.
use Rattle.std.specs.Prelude.{◌≡◌, ℕ, ◌<◌, List, [], ◌∷◌, length}
use Rattle.octets.specs.Octets.{Octets}
use Rattle.sm4.specs.Cipher.{crypt, encrypt, decrypt, round_keys}
use Rattle.sm4.specs.Sbox.{sbox}

-- decryption undoes encryption, under every key and at every block of 16 octets
abbrev pub DecryptionUndoes : Type 0
DecryptionUndoes = (key block : List ℕ) → length block ≡ 16 → Octets block → decrypt key (encrypt key block) ≡ block

-- encryption undoes decryption, under every key and at every block of 16 octets
abbrev pub EncryptionUndoes : Type 0
EncryptionUndoes = (key block : List ℕ) → length block ≡ 16 → Octets block → encrypt key (decrypt key block) ≡ block

-- whatever the round keys and the block, the cipher gives 16 octets
abbrev pub GivesABlock : Type 0
GivesABlock = (rks block : List ℕ) → (length (crypt rks block) ≡ 16) × Octets (crypt rks block)

-- the S-box is a permutation of the octets: each octet is the value at exactly one octet
abbrev pub SboxPermutes : Type 0
SboxPermutes = (y : ℕ) → y < 256 → (x : ℕ) × (x < 256) × (sbox x ≡ y) × ((z : ℕ) → z < 256 → sbox z ≡ y → z ≡ x)

-- key and plaintext of the standard's example
abbrev pub example : List ℕ
example = 0x01 ∷ 0x23 ∷ 0x45 ∷ 0x67 ∷ 0x89 ∷ 0xab ∷ 0xcd ∷ 0xef ∷ 0xfe ∷ 0xdc ∷ 0xba ∷ 0x98 ∷ 0x76 ∷ 0x54 ∷ 0x32 ∷ 0x10 ∷ []

-- its ciphertext
abbrev pub example_out : List ℕ
example_out = 0x68 ∷ 0x1e ∷ 0xdf ∷ 0x34 ∷ 0xd2 ∷ 0x06 ∷ 0x96 ∷ 0x5e ∷ 0x86 ∷ 0xb3 ∷ 0xe9 ∷ 0x4f ∷ 0x53 ∷ 0x6e ∷ 0x42 ∷ 0x46 ∷ []

-- its round keys
abbrev pub example_keys : List ℕ
example_keys =
    0xf12186f9 ∷ 0x41662b61 ∷ 0x5a6ab19a ∷ 0x7ba92077 ∷ 0x367360f4 ∷ 0x776a0c61 ∷ 0xb6bb89b3 ∷ 0x24763151 ∷
    0xa520307c ∷ 0xb7584dbd ∷ 0xc30753ed ∷ 0x7ee55b57 ∷ 0x6988608c ∷ 0x30d895b7 ∷ 0x44ba14af ∷ 0x104495a1 ∷
    0xd120b428 ∷ 0x73b55fa3 ∷ 0xcc874966 ∷ 0x92244439 ∷ 0xe89e641f ∷ 0x98ca015a ∷ 0xc7159060 ∷ 0x99e1fd2e ∷
    0xb79bd80c ∷ 0x1d2115b0 ∷ 0x0e228aeb ∷ 0xf1780c81 ∷ 0x428d3654 ∷ 0x62293496 ∷ 0x01cf72e5 ∷ 0x9124a012 ∷ []

-- the example, from the key to the ciphertext and back
abbrev pub Example : Type 0
Example = (round_keys example ≡ example_keys) × (encrypt example example ≡ example_out) × (decrypt example example_out ≡ example)
