use Rattle.hmac_sm3.proofs.Expansions.{length-prf, prf_octets, take-prf, prf_joined}
use Rattle.hmac_sm3.proofs.laws.prf_stands.Goals as goal

pub returns : goal.returns
returns c = record { length = length-prf; octets = prf_octets; begins = take-prf; joined = prf_joined }
