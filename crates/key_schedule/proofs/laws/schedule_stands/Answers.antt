use Rattle.std.proofs.Common.{◌≡◌, ℕ, ◌++◌, get_or, codes, refl, ap, arith}
use Rattle.hmac_sm3.proofs.Expansions.{take-prf}
use Rattle.key_schedule.proofs.Keys.{length-master_secret, master_secret_octets, length-key_material, key_material_octets, length-verify_data, verify_data_octets}
use Rattle.key_schedule.proofs.laws.schedule_stands.Goals as goal

pub returns : goal.returns
returns c = record {
  lengths = (length-master_secret, length-key_material, length-verify_data);
  octets = (master_secret_octets, key_material_octets, verify_data_octets);
  seeds = λ m c s. (refl, λ n. refl);
  begins = λ m c s. take-prf m (codes "key expansion") (s ++ c);
  labels = (refl, refl, refl, refl);
  differ = λ e. let h : ◌≡◌ {A = ℕ} 99 115 = ap (λ l. get_or l 0 0) e in omega arith;
}
