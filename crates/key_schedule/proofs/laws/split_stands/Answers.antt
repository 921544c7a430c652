use Rattle.key_schedule.proofs.Cuts.{cbc_cut, gcm_cut}
use Rattle.key_schedule.proofs.laws.split_stands.Goals as goal

pub returns : goal.returns
returns c = record { cbc = cbc_cut; gcm = gcm_cut }
