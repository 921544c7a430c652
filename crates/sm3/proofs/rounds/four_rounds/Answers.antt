use Rattle.sm3.specs.Steps.{rounds_four}
use Rattle.sm3.proofs.rounds.four_rounds.Goals as goal

pub returns : goal.returns
unfolding rounds_four
returns g c = cc
