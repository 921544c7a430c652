use Rattle.std.proofs.Common.{rules}
use Rattle.sm3.specs.Steps.{round_at}
use Rattle.sm3.proofs.rounds.round_with.Goals as goal

pub returns : goal.returns
unfolding round_at
returns c = search rules
