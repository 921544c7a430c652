use Rattle.gcm.proofs.Vectors.{hashes, seals, opens}
use Rattle.gcm.proofs.laws.vectors_stand.Goals as goal

pub returns : goal.returns
returns c = (hashes, seals, opens)
