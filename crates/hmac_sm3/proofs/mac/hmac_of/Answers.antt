use Rattle.std.proofs.Common.{rules}
use Rattle.hmac_sm3.proofs.Tags.{tag_is}
use Rattle.hmac_sm3.proofs.mac.hmac_of.Goals as goal

pub returns : goal.returns
returns c = search (rules, tag_is)
