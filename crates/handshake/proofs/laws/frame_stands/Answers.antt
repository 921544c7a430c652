use Rattle.handshake.proofs.ReadBack.{next-message_then, next_longer}
use Rattle.handshake.proofs.Whole.{begun, framed_again}
use Rattle.handshake.proofs.laws.frame_stands.Goals as goal

pub returns : goal.returns
returns c =
    record {
      written_reads_back = next-message_then;
      longer_is_told = next_longer;
      begun_is_not_ready = begun;
      read_writes_back = λ t xs m x rest o e. (let f = framed_again t xs m x rest o e in (f.again, (f.join, f.short)));
    }
