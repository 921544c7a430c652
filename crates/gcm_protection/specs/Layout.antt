-- The octets of GCM protection: key material, nonce and additional data.
use Rattle.std.specs.Prelude.{ℕ, List, ◌∷◌, ◌++◌, take, drop}
use Rattle.octets.specs.declared.role.Role.{Role}
use Rattle.octets.specs.declared.role.Role.TheVariants.{Client, Server}
use Rattle.octets.specs.Numbers.{two, eight}

-- the key under which an end seals: the client's 16 octets first, then the server's
abbrev pub key_of : Role → List ℕ → List ℕ
key_of Client material = take 16 material
key_of Server material = take 16 (drop 16 material)

-- the implicit part of the nonces of an end: behind the keys, the client's 4 octets first, then the server's
abbrev pub iv_of : Role → List ℕ → List ℕ
iv_of Client material = take 4 (drop 32 material)
iv_of Server material = take 4 (drop 36 material)

-- the nonce of a record: the sender's implicit part, and the 8 octets that stand first in the record
abbrev pub nonce_of : Role → List ℕ → List ℕ → List ℕ
nonce_of sender material explicit = iv_of sender material ++ explicit

-- the additional data: the number in 8 octets, the kind, the version 1.1, and the length of the content in 2
abbrev pub additional : ℕ → ℕ → ℕ → List ℕ
additional number kind size = eight number ++ (kind ∷ 1 ∷ 1 ∷ two size)
