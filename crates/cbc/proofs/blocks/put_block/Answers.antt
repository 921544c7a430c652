use Rattle.cbc.proofs.Loops.{put_is}
use Rattle.cbc.proofs.blocks.put_block.Goals as goal

pub returns : goal.returns
returns c = put_is c.args.at 16 c.args.octets.now c.copy_from_slice.ensures.after
