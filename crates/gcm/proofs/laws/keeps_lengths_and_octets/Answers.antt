use Rattle.gcm.proofs.Opening.{lengths, octets_stay}
use Rattle.gcm.proofs.laws.keeps_lengths_and_octets.Goals as goal

pub returns : goal.returns
returns c = (lengths, octets_stay)
