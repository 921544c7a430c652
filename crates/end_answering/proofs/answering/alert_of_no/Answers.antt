use Rattle.end_answering.proofs.Answered.{no_alert}
use Rattle.end_answering.proofs.answering.alert_of_no.Goals as goal

pub returns-in-ClientRandom : goal.returns-in-ClientRandom
returns-in-ClientRandom c = no_alert c.args.question c.args.number c.in-ClientRandom.is c.requires c.from_number.ensures c.unwrap_or.ensures
