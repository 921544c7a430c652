use Rattle.model.proofs.Tlcp.{end_laws_stand}
use Rattle.model.proofs.laws.end_laws_stand.Goals as goal

pub returns : goal.returns
returns c = end_laws_stand
