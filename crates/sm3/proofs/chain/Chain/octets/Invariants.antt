use Rattle.std.proofs.Common.{◌≡◌, map, length, take}
use Rattle.std.specs.List.{range_with_len}
use Rattle.sm3.specs.Hash.{octet}
use Rattle.sm3.proofs.chain.Chain.octets.Given as goal

abbrev pub invariant-loop-i : goal.invariant-loop-i
invariant-loop-i l = (length l.out ≡ 32) × (take l.i l.out ≡ map (octet l.v) (range_with_len 0 l.i))
