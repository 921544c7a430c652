use Rattle.sm3.specs.Compress.{compress}
use Rattle.sm3.proofs.chain.Chain.compress.Goals as goal

pub returns : goal.returns
unfolding compress
returns c = cc
