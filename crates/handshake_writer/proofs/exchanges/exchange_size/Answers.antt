use Rattle.std.proofs.Common.{arith}
use Rattle.handshake_writer.proofs.Sizes.{carried_size}
use Rattle.handshake_writer.proofs.exchanges.exchange_size.Goals as goal

pub returns : goal.returns
returns c = carried_size c.args.carried.now (omega arith) (omega arith)
