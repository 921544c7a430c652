use Rattle.std.proofs.Common.{◌≡◌, ◌*◌, ◌/◌, ◌^◌}
use Rattle.gcm.specs.Field.{turns}
use Rattle.gcm.proofs.hash_key.HashKey.times.Given as goal

abbrev pub invariant-loop-i : goal.invariant-loop-i
invariant-loop-i l = (l.left ≡ l.x / 2 ^ (8 * l._i)) × (l.z ≡ turns (8 * l._i) l.x 0 l.self.h)
