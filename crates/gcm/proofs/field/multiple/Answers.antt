use Rattle.std.proofs.Common.{◌-◌, arith}
use Rattle.gcm.proofs.Turns.{turn_more, turn_all}
use Rattle.gcm.proofs.field.multiple.Goals as goal

pub loop-n-preserved : goal.loop-n-preserved
loop-n-preserved c = (
  omega arith,
  turn_more (c.loop-n.n - 1) c.loop-n.n c.args.octet c.loop-n.z c.loop-n.v (omega arith) c.add_if-z.ensures
      c.shift-v.ensures c.loop-n.invariant.1,
)

pub returns : goal.returns
returns c = turn_all c.loop-n.n c.args.octet c.loop-n.z c.loop-n.v (omega arith) c.loop-n.invariant.1
