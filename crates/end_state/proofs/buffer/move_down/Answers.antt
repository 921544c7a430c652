use Rattle.std.proofs.Common.{arith}
use Rattle.end_state.proofs.Buffers.{moved_more}
use Rattle.end_state.proofs.buffer.move_down.Goals as goal

pub loop-i-preserved : goal.loop-i-preserved
loop-i-preserved c =
    moved_more c.loop-i.octets c.args.octets.now c.loop-i.i c.args.n (omega arith) (omega arith) c.loop-i.invariant.0 c.loop-i.invariant.1
