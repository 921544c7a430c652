use Rattle.gcm.proofs.Linear.{adds_up}
use Rattle.gcm.proofs.laws.product_adds_up.Goals as goal

pub returns : goal.returns
returns c = adds_up
