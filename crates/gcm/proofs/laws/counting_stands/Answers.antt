use Rattle.gcm.proofs.Undoing.{counts_on, counters_differ}
use Rattle.gcm.proofs.laws.counting_stands.Goals as goal

pub returns : goal.returns
returns c = (counts_on, counters_differ)
