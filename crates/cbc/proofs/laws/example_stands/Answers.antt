use Rattle.cbc.proofs.Example.{example_computes}
use Rattle.cbc.proofs.laws.example_stands.Goals as goal

pub returns : goal.returns
returns c = example_computes
