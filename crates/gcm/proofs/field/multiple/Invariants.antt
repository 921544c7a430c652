use Rattle.std.proofs.Common.{◌≡◌, ◌≤◌}
use Rattle.gcm.specs.Field.{turns}
use Rattle.gcm.proofs.field.multiple.Given as goal

abbrev pub invariant-loop-n : goal.invariant-loop-n
invariant-loop-n l = (l.n ≤ 8) × (turns l.n l.octet l.z l.v ≡ turns 8 l.octet 0 l.h)

abbrev pub decreases-loop-n : goal.decreases-loop-n
decreases-loop-n l = l.n
