use Rattle.gcm.proofs.Seals.{first_is}
use Rattle.gcm.proofs.key.seal.first_block.Goals as goal

pub returns : goal.returns
returns c = first_is c.args.nonce.now c.copy_from_slice.ensures.len c.copy_from_slice.ensures.after c.load.ensures
