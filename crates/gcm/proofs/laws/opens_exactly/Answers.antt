use Rattle.gcm.proofs.Opening.{opens_exactly}
use Rattle.gcm.proofs.laws.opens_exactly.Goals as goal

pub returns : goal.returns
returns c = opens_exactly
