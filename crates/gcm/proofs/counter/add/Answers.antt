use Rattle.std.proofs.Common.{refl, arith}
use Rattle.gcm.proofs.Counts.{xored_more, xored_all}
use Rattle.gcm.proofs.counter.add.Goals as goal

pub loop-i-preserved : goal.loop-i-preserved
loop-i-preserved c = xored_more c.loop-i.part c.args.pad.now c.loop-i.i _ (omega arith) (omega arith) refl c.loop-i.invariant

pub returns : goal.returns
returns c = xored_all c.loop-i.part c.args.pad.now c.loop-i.i (omega arith) c.loop-i.invariant
