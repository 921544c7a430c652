use Rattle.std.proofs.Common.{◌≡◌, map, length, take}
use lib.Bits.{bit_xor}
use Rattle.hmac_sm3.proofs.mac.padded.Given as goal

abbrev pub invariant-loop-i : goal.invariant-loop-i
invariant-loop-i l = (length l.out ≡ 64) × (take l.i l.out ≡ map (λ x. bit_xor x l.pad) (take l.i l.block))
