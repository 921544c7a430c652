-- What is proved of GCM protection beyond the laws of the interface.
use Rattle.std.specs.Prelude.{◌≡◌, ℕ, ◌+◌, ◌-◌, List, ◌++◌, length, take, drop, Ok}
use Rattle.octets.specs.Roles.{peer}
use Rattle.protection.specs.Keys.{Keying}
use Rattle.sm4.specs.Cipher.{round_keys}
use Rattle.gcm.specs.Gcm.{tag, seal_gcm}
use Rattle.gcm_protection.specs.Layout.{key_of, nonce_of, additional}
use Rattle.gcm_protection.specs.Records.{overhead, gcm_sealing, gcm_opening}

-- the ciphertext of a record: what stands between the explicit part of the nonce and the tag
abbrev pub ciphertext : List ℕ → List ℕ
ciphertext octets = take (length octets - overhead) (drop 8 octets)

-- what opens ends in the tag computed from the reader's own number and kind
abbrev pub ChecksTag : Type 0
ChecksTag =
    (k : Keying) (number kind : ℕ) (octets content : List ℕ) → gcm_opening k number kind octets ≡ Ok content
    → drop (length octets - 16) octets
    ≡ tag (round_keys (key_of (peer k.role) k.material)) (nonce_of (peer k.role) k.material (take 8 octets)) (additional number kind (length content)) (ciphertext octets)

-- what opens to a content is a sealing of that content at that number and kind, under the peer's key and the nonce that came
abbrev pub OpensSealedAlone : Type 0
OpensSealedAlone =
    (k : Keying) (number kind : ℕ) (octets content : List ℕ) → gcm_opening k number kind octets ≡ Ok content
    → octets
    ≡ take 8 octets ++ seal_gcm (key_of (peer k.role) k.material) (nonce_of (peer k.role) k.material (take 8 octets)) (additional number kind (length content)) content

-- a sealed list is 24 octets longer than its content
abbrev pub SealedLength : Type 0
SealedLength =
    (k : Keying) (number kind : ℕ) (content fresh : List ℕ) → length (gcm_sealing k number kind content fresh) ≡ length content + overhead
