use Rattle.handshake.proofs.Whole.{body_back, body_again, parts_fix}
use Rattle.handshake.proofs.laws.layouts_stand.Goals as goal

pub returns : goal.returns
returns c = record { written_reads_back = body_back; read_writes_back = body_again; parts_fix_octets = parts_fix }
