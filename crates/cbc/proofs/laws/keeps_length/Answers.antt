use Rattle.cbc.proofs.Keeps.{keeps_length}
use Rattle.cbc.proofs.laws.keeps_length.Goals as goal

pub returns : goal.returns
returns c = keeps_length
