use Rattle.gcm_protection.proofs.Vectors.{seals, opens}
use Rattle.gcm_protection.proofs.laws.vectors_stand.Goals as goal

pub returns : goal.returns
returns c = (seals, opens)
