use Rattle.std.proofs.Common.{◌≡◌, take, drop}
use Rattle.end_state.proofs.buffer.move_down.Given as goal

abbrev pub invariant-loop-i : goal.invariant-loop-i
invariant-loop-i l = (take l.i l.octets ≡ take l.i (drop l.n l.initial.octets)) × (drop l.i l.octets ≡ drop l.i l.initial.octets)
