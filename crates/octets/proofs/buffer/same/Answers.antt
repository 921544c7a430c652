use Rattle.std.proofs.Common.{sym, arith}
use Rattle.octets.proofs.Alike.{same_lengths, compare_more, compare_all}
use Rattle.octets.proofs.buffer.same.Goals as goal

pub returns-then-a-b : goal.returns-then-a-b
returns-then-a-b c = sym (same_lengths _ _ c.if-a-b.true)

pub loop-i-preserved : goal.loop-i-preserved
loop-i-preserved c = compare_more c.args.a.now c.args.b.now c.loop-i.i c.loop-i.differing (omega arith) (omega arith) c.loop-i.invariant

pub returns : goal.returns
returns c = compare_all c.args.a.now c.args.b.now c.loop-i.i c.loop-i.differing (omega arith) (omega arith) c.loop-i.invariant
