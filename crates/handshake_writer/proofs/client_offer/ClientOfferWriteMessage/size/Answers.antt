use Rattle.std.proofs.Common.{arith}
use Rattle.handshake_writer.proofs.Sizes.{offer_size}
use Rattle.handshake_writer.proofs.client_offer.ClientOfferWriteMessage.size.Goals as goal

pub returns : goal.returns
returns c = offer_size c.args.self.now.random.now c.args.self.now.suites.now (omega arith) (omega arith) (omega arith)
