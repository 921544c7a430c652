-- What is proved of CBC protection beyond the laws of the interface.
use Rattle.std.specs.Prelude.{◌≡◌, ℕ, ◌+◌, ◌-◌, ◌*◌, ◌/◌, ◌<◌, List, length, Ok, slice_index}
use Rattle.octets.specs.Roles.{peer}
use Rattle.protection.specs.Keys.{Keying}
use Rattle.cbc_protection.specs.Layout.{mac}
use Rattle.cbc_protection.specs.Padding.{told_pad, mac_of}
use Rattle.cbc_protection.specs.Records.{decrypted, cbc_sealing, cbc_opening}

-- the text of a record, as the reader decrypts it
abbrev pub text : Keying → List ℕ → List ℕ
text k octets = decrypted (peer k.role) k.material octets

-- in what opens, every one of the last p + 1 octets of the text is p, which its last octet tells
abbrev pub ChecksPadding : Type 0
ChecksPadding =
    (k : Keying) (number kind : ℕ) (octets content : List ℕ) → cbc_opening k number kind octets ≡ Ok content
    → (i : ℕ) → i < told_pad (text k octets) + 1
    → slice_index (text k octets) (length (text k octets) - 1 - i) ≡ told_pad (text k octets)

-- in what opens, the MAC is the one computed from the reader's own number and kind and the content
abbrev pub ChecksMac : Type 0
ChecksMac =
    (k : Keying) (number kind : ℕ) (octets content : List ℕ) → cbc_opening k number kind octets ≡ Ok content
    → mac_of (text k octets) ≡ mac (peer k.role) k.material number kind content

-- a sealed list is the IV and as many blocks as content, MAC and one octet more need
abbrev pub SealedLength : Type 0
SealedLength =
    (k : Keying) (number kind : ℕ) (content fresh : List ℕ) → length fresh ≡ 16
    → length (cbc_sealing k number kind content fresh) ≡ 16 + (length content + 32 + 16) / 16 * 16
