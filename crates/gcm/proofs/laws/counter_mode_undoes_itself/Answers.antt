use Rattle.gcm.proofs.Undoing.{undoes_itself}
use Rattle.gcm.proofs.laws.counter_mode_undoes_itself.Goals as goal

pub returns : goal.returns
returns c = undoes_itself
