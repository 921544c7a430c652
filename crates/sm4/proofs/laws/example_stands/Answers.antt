use Rattle.sm4.proofs.Example.{example_computes}
use Rattle.sm4.proofs.laws.example_stands.Goals as goal

pub returns : goal.returns
returns c = example_computes
