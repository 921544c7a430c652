-- The octets of CBC protection: key material and the MAC.
use Rattle.std.specs.Prelude.{ℕ, List, ◌∷◌, ◌++◌, length, take, drop}
use Rattle.octets.specs.declared.role.Role.{Role}
use Rattle.octets.specs.declared.role.Role.TheVariants.{Client, Server}
use Rattle.octets.specs.Numbers.{two, eight}
use Rattle.hmac_sm3.specs.Hmac.{hmac}

-- the MAC key of an end's records: the client's 32 octets first, then the server's
abbrev pub mac_key_of : Role → List ℕ → List ℕ
mac_key_of Client material = take 32 material
mac_key_of Server material = take 32 (drop 32 material)

-- the key under which an end seals: behind the MAC keys, the client's 16 octets first, then the server's
abbrev pub key_of : Role → List ℕ → List ℕ
key_of Client material = take 16 (drop 64 material)
key_of Server material = take 16 (drop 80 material)

-- what the MAC takes in before the content: the number in 8 octets, the kind, the version 1.1, the content's length in 2
abbrev pub heading : ℕ → ℕ → ℕ → List ℕ
heading number kind size = eight number ++ (kind ∷ 1 ∷ 1 ∷ two size)

-- the MAC of a content that an end sends
abbrev pub mac : Role → List ℕ → ℕ → ℕ → List ℕ → List ℕ
mac sender material number kind content = hmac (mac_key_of sender material) (heading number kind (length content) ++ content)
