use Rattle.records.proofs.Alerting.{reads_back, writes_again, makes_octets, effect_follows}
use Rattle.records.proofs.laws.alerts_stand.Goals as goal

pub returns : goal.returns
returns c = record { back = reads_back; again = writes_again; makes = makes_octets; effects = effect_follows }
