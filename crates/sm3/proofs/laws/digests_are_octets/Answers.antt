use Rattle.sm3.proofs.Running.{length-sm3, sm3_octets}
use Rattle.sm3.proofs.laws.digests_are_octets.Goals as goal

pub returns : goal.returns
returns c = record { many = length-sm3; small = sm3_octets }
