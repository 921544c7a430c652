use Rattle.hmac_sm3.proofs.Tags.{filled_is}
use Rattle.hmac_sm3.proofs.mac.filled_up.Goals as goal

pub returns : goal.returns
returns c = filled_is c.args.octets.now c.requires c.lay.ensures.after
