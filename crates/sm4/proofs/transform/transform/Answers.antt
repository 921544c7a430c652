use Rattle.sm4.specs.Transform.{transform}
use Rattle.sm4.proofs.transform.transform.Goals as goal

pub returns : goal.returns
unfolding transform
returns c = cc
