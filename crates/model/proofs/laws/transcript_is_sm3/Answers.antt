use Rattle.model.proofs.Tlcp.{transcript_is_sm3}
use Rattle.model.proofs.laws.transcript_is_sm3.Goals as goal

pub returns : goal.returns
returns c = transcript_is_sm3
