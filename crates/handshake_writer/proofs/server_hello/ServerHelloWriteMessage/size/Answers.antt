use Rattle.std.proofs.Common.{arith}
use Rattle.handshake_writer.proofs.Sizes.{answer_size}
use Rattle.handshake.specs.Views.{seen_server_hello}
use Rattle.handshake_writer.proofs.server_hello.ServerHelloWriteMessage.size.Goals as goal

pub returns : goal.returns
returns c = answer_size (seen_server_hello c.args.self.now) (omega arith) (omega arith)
