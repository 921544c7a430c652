use Rattle.std.proofs.Common.{◌≡◌, ◌-◌, ◌*◌, drop}
use Rattle.gcm.specs.Blocks.{blocks, block_count, filled}
use Rattle.gcm.specs.Ghash.{hashed}
use Rattle.gcm.proofs.ghash.absorb.Given as goal

abbrev pub invariant-loop-i : goal.invariant-loop-i
invariant-loop-i l =
    hashed l.key.h l.sum (blocks (block_count l.octets - l.i) (drop (l.i * 16) (filled l.octets)))
    ≡ hashed l.key.h l.y (blocks (block_count l.octets) (filled l.octets))
