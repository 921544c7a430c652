use Rattle.sm4.specs.Transform.{transform_key}
use Rattle.sm4.proofs.transform.transform_key.Goals as goal

pub returns : goal.returns
unfolding transform_key
returns c = cc
