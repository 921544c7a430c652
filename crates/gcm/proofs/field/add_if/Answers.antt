use Rattle.std.proofs.Common.{arith}
use Rattle.gcm.proofs.Turns.{add_if_is}
use Rattle.gcm.proofs.field.add_if.Goals as goal

pub returns : goal.returns
returns c = add_if_is c.args.bit c.args.z c.args.v c.requires (omega arith)
