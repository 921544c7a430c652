use Rattle.std.proofs.Common.{◌*◌}
use Rattle.gcm.specs.Gcm.{bits64}
use Rattle.gcm.proofs.Values.{value_pair}
use Rattle.gcm.proofs.ghash.length_block.Goals as goal

pub returns : goal.returns
unfolding bits64
returns c = value_pair (c.args.aad * 8) (c.args.octets * 8)
