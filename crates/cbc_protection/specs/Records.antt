-- CBC protection: which suites it serves, and what sealing and opening are.
use Rattle.std.specs.Prelude.{ℕ, ◌%◌, Bool, cond, ◌&&◌, ◌||◌, List, ◌++◌, length, take, drop, Some, None, Err, Option, Result, ◌==◌, nat_le}
use Rattle.std.specs.Option.{ok_or}
use Rattle.octets.specs.Octets.{same}
use Rattle.octets.specs.declared.role.Role.{Role}
use Rattle.octets.specs.Roles.{peer}
use Rattle.protection.specs.declared.error.OpenError.{OpenError}
use Rattle.protection.specs.declared.error.OpenError.TheVariants.{Refused}
use Rattle.protection.specs.Keys.{Keying}
use Rattle.sm4.specs.Cipher.{round_keys}
use Rattle.cbc.specs.Cbc.{cbc_encrypt, cbc_decrypt}
use Rattle.cbc_protection.specs.Layout.{key_of, mac}
use Rattle.cbc_protection.specs.Padding.{padded, well_padded, content_of, mac_of}

-- the suites e013 and e019
abbrev pub cbc_serves : ℕ → Bool
cbc_serves s = s == 57363 || s == 57369

-- two MAC keys of 32 octets and two keys of 16
abbrev pub cbc_size : ℕ → ℕ
cbc_size s = 96

-- what is encrypted of a content: itself, its MAC, and padding
abbrev pub text_of : Role → List ℕ → ℕ → ℕ → List ℕ → List ℕ
text_of sender material number kind content = padded (content ++ mac sender material number kind content)

-- sealing: the fresh octets as IV, and the text encrypted with it under the sender's key
abbrev pub cbc_sealing : Keying → ℕ → ℕ → List ℕ → List ℕ → List ℕ
cbc_sealing k number kind content fresh =
    fresh ++ cbc_encrypt (round_keys (key_of k.role k.material)) fresh (text_of k.role k.material number kind content)

-- whether the MAC in a text is that of the content in it
abbrev pub authentic : Role → List ℕ → ℕ → ℕ → List ℕ → Bool
authentic sender material number kind text = same (mac_of text) (mac sender material number kind (content_of text))

-- the content of a decrypted text: right padding, then the right MAC
unfoldable pub checked : Role → List ℕ → ℕ → ℕ → List ℕ → Option (List ℕ)
checked sender material number kind text =
    cond (well_padded text && authentic sender material number kind text) (Some (content_of text)) None

-- the least that can be a record: the IV, and three blocks for a MAC and its padding
abbrev pub least : ℕ
least = 64

abbrev pub whole : List ℕ → Bool
whole octets = nat_le least (length octets) && length octets % 16 == 0

-- what stands behind the IV, decrypted under a sender's key
abbrev pub decrypted : Role → List ℕ → List ℕ → List ℕ
decrypted sender material octets = cbc_decrypt (round_keys (key_of sender material)) (take 16 octets) (drop 16 octets)

-- opening, under the peer's keys
abbrev pub cbc_opening : Keying → ℕ → ℕ → List ℕ → Result (List ℕ) OpenError
cbc_opening k number kind octets =
    cond (whole octets) (ok_or (checked (peer k.role) k.material number kind (decrypted (peer k.role) k.material octets)) Refused) (Err Refused)
