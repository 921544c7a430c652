use Rattle.std.proofs.Common.{arith}
use Rattle.sm3.proofs.Updating.{complete_is}
use Rattle.sm3.proofs.hash.Sm3.complete.Goals as goal

pub returns : goal.returns
returns c =
    complete_is c.args.self.now.chain.words c.compress.new.self.words c.args.self.now.block c.args.octets.now c.copy_from_slice.new.self
    c.args.self.now.count c.held-at.result (omega arith) (omega arith) c.held-at.ensures c.requires c.copy_from_slice.ensures.after c.compress.ensures
