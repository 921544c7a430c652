-- The keys of a connection and the check of its handshake: GB/T 38636-2020, 6.5, and 6.4.5.10 (Finished).
-- Randoms, secrets and digests are lists of octets; the labels are the octets of their ASCII texts.
use Rattle.std.specs.Prelude.{ℕ, List, ◌++◌, codes}
use Rattle.octets.specs.declared.role.Role.{Role}
use Rattle.octets.specs.declared.role.Role.TheVariants.{Client, Server}
use Rattle.hmac_sm3.specs.Prf.{prf}

-- master_secret = PRF(pre_master_secret, "master secret", ClientHello.random + ServerHello.random) [0..47]
abbrev pub master_secret : List ℕ → List ℕ → List ℕ → List ℕ
master_secret premaster client_random server_random = prf premaster (codes "master secret") (client_random ++ server_random) 48

-- key_block = PRF(master_secret, "key expansion", server_random + client_random), to n octets: here the server's random comes first
abbrev pub key_material : List ℕ → List ℕ → List ℕ → ℕ → List ℕ
key_material master client_random server_random n = prf master (codes "key expansion") (server_random ++ client_random) n

-- the label of who sends a Finished
abbrev pub finished_label : Role → List ℕ
finished_label Client = codes "client finished"
finished_label Server = codes "server finished"

-- verify_data = PRF(master_secret, finished_label, SM3(handshake_messages)) [0..11], of the digest of the messages
abbrev pub verify_data : List ℕ → Role → List ℕ → List ℕ
verify_data master sender digest = prf master (finished_label sender) digest 12
