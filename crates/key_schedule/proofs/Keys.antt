-- Lengths and octets of what the schedule yields.
use Rattle.std.proofs.Common.{◌≡◌, ℕ, List, ◌++◌, length, codes}
use Rattle.octets.specs.declared.role.Role.{Role}
use Rattle.octets.specs.Octets.{Octets}
use Rattle.hmac_sm3.proofs.Expansions.{length-prf, prf_octets}
use Rattle.key_schedule.specs.Schedule.{master_secret, key_material, finished_label, verify_data}

pub length-master_secret : (premaster client_random server_random : List ℕ) → length (master_secret premaster client_random server_random) ≡ 48
length-master_secret p c s = length-prf p (codes "master secret") (c ++ s) 48

pub master_secret_octets : (premaster client_random server_random : List ℕ) → Octets (master_secret premaster client_random server_random)
master_secret_octets p c s = prf_octets p (codes "master secret") (c ++ s) 48

pub length-key_material : (master client_random server_random : List ℕ) (n : ℕ) → length (key_material master client_random server_random n) ≡ n
length-key_material m c s n = length-prf m (codes "key expansion") (s ++ c) n

pub key_material_octets : (master client_random server_random : List ℕ) (n : ℕ) → Octets (key_material master client_random server_random n)
key_material_octets m c s n = prf_octets m (codes "key expansion") (s ++ c) n

pub length-verify_data : (master digest : List ℕ) (role : Role) → length (verify_data master role digest) ≡ 12
length-verify_data m d role = length-prf m (finished_label role) d 12

pub verify_data_octets : (master digest : List ℕ) (role : Role) → Octets (verify_data master role digest)
verify_data_octets m d role = prf_octets m (finished_label role) d 12
