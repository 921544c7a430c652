use Rattle.std.proofs.Common.{rules}
use Rattle.sm3.specs.Steps.{extended}
use Rattle.sm3.proofs.schedule.extend.Goals as goal

pub returns : goal.returns
unfolding extended
returns c = search rules
