use Rattle.handshake.proofs.Whole.{message_back, message_again}
use Rattle.handshake.proofs.laws.messages_stand.Goals as goal

pub returns : goal.returns
returns c = record { written_reads_back = message_back; read_writes_back = message_again }
