-- GCM protection: which suites it serves, and what sealing and opening are.
use Rattle.std.specs.Prelude.{ℕ, ◌-◌, Bool, cond, ◌||◌, List, ◌++◌, length, take, drop, Err, Result, ◌==◌, nat_le}
use Rattle.std.specs.Option.{ok_or}
use Rattle.octets.specs.Numbers.{eight}
use Rattle.octets.specs.Roles.{peer}
use Rattle.protection.specs.declared.error.OpenError.{OpenError}
use Rattle.protection.specs.declared.error.OpenError.TheVariants.{Refused}
use Rattle.protection.specs.Keys.{Keying}
use Rattle.gcm.specs.Gcm.{seal_gcm, open_gcm}
use Rattle.gcm_protection.specs.Layout.{key_of, nonce_of, additional}

-- the suites e053 and e059
abbrev pub gcm_serves : ℕ → Bool
gcm_serves s = s == 57427 || s == 57433

-- two keys of 16 octets and two implicit parts of nonces of 4
abbrev pub gcm_size : ℕ → ℕ
gcm_size s = 40

-- what stands in a record beside the content: 8 octets of the nonce before it, and 16 of the tag behind it
abbrev pub overhead : ℕ
overhead = 24

-- sealing: the number, then ciphertext and tag under the sender's key; the fresh octets are not used
abbrev pub gcm_sealing : Keying → ℕ → ℕ → List ℕ → List ℕ → List ℕ
gcm_sealing k number kind content fresh =
    eight number
    ++ seal_gcm (key_of k.role k.material) (nonce_of k.role k.material (eight number)) (additional number kind (length content)) content

-- opening, under the peer's key: the nonce is taken from the octets as they came, the additional data from the reader's own number
abbrev pub gcm_opening : Keying → ℕ → ℕ → List ℕ → Result (List ℕ) OpenError
gcm_opening k number kind octets =
    cond (nat_le overhead (length octets))
    (ok_or (open_gcm (key_of (peer k.role) k.material) (nonce_of (peer k.role) k.material (take 8 octets)) (additional number kind (length octets - overhead)) (drop 8 octets)) Refused)
    (Err Refused)
