use Rattle.gcm.proofs.Values.{last_is}
use Rattle.gcm.proofs.blocks.last_block.Goals as goal

pub returns : goal.returns
returns c = last_is c.args.octets.now _ c.copy_from_slice.ensures.after
