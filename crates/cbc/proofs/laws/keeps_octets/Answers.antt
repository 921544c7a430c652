use Rattle.cbc.proofs.Keeps.{keeps_octets}
use Rattle.cbc.proofs.laws.keeps_octets.Goals as goal

pub returns : goal.returns
returns c = keeps_octets
