-- What is always so of the key schedule.
use Rattle.std.specs.Prelude.{◌≡◌, ℕ, ◌≤◌, List, [], ◌∷◌, ◌++◌, length, take, Some, codes}
use Rattle.octets.specs.declared.role.Role.{Role}
use Rattle.octets.specs.declared.role.Role.TheVariants.{Client, Server}
use Rattle.octets.specs.Octets.{Octets}
use Rattle.hmac_sm3.specs.Prf.{prf}
use Rattle.key_schedule.specs.Schedule.{master_secret, key_material, finished_label, verify_data}
use Rattle.key_schedule.specs.Parts.{cbc, gcm}

-- a master secret has 48 octets, key material as many as are asked for, and verify data 12
abbrev pub Lengths : Type 0
Lengths =
    ((premaster client_random server_random : List ℕ) → length (master_secret premaster client_random server_random) ≡ 48)
    × ((master client_random server_random : List ℕ) (n : ℕ) → length (key_material master client_random server_random n) ≡ n)
    × ((master digest : List ℕ) (sender : Role) → length (verify_data master sender digest) ≡ 12)

-- all of them are octets
abbrev pub AllOctets : Type 0
AllOctets =
    ((premaster client_random server_random : List ℕ) → Octets (master_secret premaster client_random server_random))
    × ((master client_random server_random : List ℕ) (n : ℕ) → Octets (key_material master client_random server_random n))
    × ((master digest : List ℕ) (sender : Role) → Octets (verify_data master sender digest))

-- the master secret is made of the client's random and then the server's, the key material of the server's and then the client's
abbrev pub Seeds : Type 0
Seeds =
    (secret client_random server_random : List ℕ)
    → (master_secret secret client_random server_random ≡ prf secret (codes "master secret") (client_random ++ server_random) 48)
    × ((n : ℕ) → key_material secret client_random server_random n ≡ prf secret (codes "key expansion") (server_random ++ client_random) n)

-- less key material is the beginning of more
abbrev pub MaterialBegins : Type 0
MaterialBegins =
    (master client_random server_random : List ℕ) (n m : ℕ) → n ≤ m
    → take n (key_material master client_random server_random m) ≡ key_material master client_random server_random n

-- the octets of the four labels, which have no length and no zero about them
abbrev pub LabelOctets : Type 0
LabelOctets =
    (codes "master secret" ≡ (0x6d ∷ 0x61 ∷ 0x73 ∷ 0x74 ∷ 0x65 ∷ 0x72 ∷ 0x20 ∷ 0x73 ∷ 0x65 ∷ 0x63 ∷ 0x72 ∷ 0x65 ∷ 0x74 ∷ []))
    × (codes "key expansion" ≡ (0x6b ∷ 0x65 ∷ 0x79 ∷ 0x20 ∷ 0x65 ∷ 0x78 ∷ 0x70 ∷ 0x61 ∷ 0x6e ∷ 0x73 ∷ 0x69 ∷ 0x6f ∷ 0x6e ∷ []))
    × (finished_label Client ≡ (0x63 ∷ 0x6c ∷ 0x69 ∷ 0x65 ∷ 0x6e ∷ 0x74 ∷ 0x20 ∷ 0x66 ∷ 0x69 ∷ 0x6e ∷ 0x69 ∷ 0x73 ∷ 0x68 ∷ 0x65 ∷ 0x64 ∷ []))
    × (finished_label Server ≡ (0x73 ∷ 0x65 ∷ 0x72 ∷ 0x76 ∷ 0x65 ∷ 0x72 ∷ 0x20 ∷ 0x66 ∷ 0x69 ∷ 0x6e ∷ 0x69 ∷ 0x73 ∷ 0x68 ∷ 0x65 ∷ 0x64 ∷ []))

-- the two sides never send verify data under one label
abbrev pub LabelsDiffer : Type 0
LabelsDiffer = finished_label Client ≡ finished_label Server → ⊥

-- keys of the lengths of a CBC suite, joined in their order, are cut into the same keys
abbrev pub CbcCut : Type 0
CbcCut =
    (a b k l : List ℕ) → length a ≡ 32 → length b ≡ 32 → length k ≡ 16 → length l ≡ 16
    → cbc (a ++ (b ++ (k ++ l))) ≡ Some (record { client_mac_key = a; server_mac_key = b; client_key = k; server_key = l })

-- and so for a GCM suite
abbrev pub GcmCut : Type 0
GcmCut =
    (k l u v : List ℕ) → length k ≡ 16 → length l ≡ 16 → length u ≡ 4 → length v ≡ 4
    → gcm (k ++ (l ++ (u ++ v))) ≡ Some (record { client_key = k; server_key = l; client_iv = u; server_iv = v })
