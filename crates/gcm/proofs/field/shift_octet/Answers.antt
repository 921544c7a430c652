use lib.Bits.{and_mask}
use Rattle.gcm.proofs.Turns.{shift_octet_is}
use Rattle.gcm.proofs.field.shift_octet.Goals as goal

pub returns : goal.returns
returns c = shift_octet_is c.args.z (and_mask c.args.z 8)
