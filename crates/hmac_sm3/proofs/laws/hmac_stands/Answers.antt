use Rattle.hmac_sm3.proofs.Tags.{length-hmac, hmac_octets, tag_pieces}
use Rattle.hmac_sm3.proofs.laws.hmac_stands.Goals as goal

pub returns : goal.returns
returns c = record { length = length-hmac; octets = hmac_octets; pieces = tag_pieces }
