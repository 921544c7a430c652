use Rattle.std.proofs.Common.{arith}
use Rattle.sm4.specs.View.{quad_of}
use Rattle.sm4.proofs.Loops.{forwards_more, forwards_all}
use Rattle.sm4.proofs.round_keys.RoundKeys.forwards.Goals as goal

pub loop-key-preserved : goal.loop-key-preserved
loop-key-preserved c =
    forwards_more c.args.self.now.words c.loop-key.key-index (quad_of c.loop-key.state) (omega arith) c.round-state.ensures c.loop-key.invariant

pub returns : goal.returns
returns c = forwards_all c.args.self.now.words c.loop-key.key-index (quad_of c.loop-key.state) (omega arith) c.loop-key.invariant
