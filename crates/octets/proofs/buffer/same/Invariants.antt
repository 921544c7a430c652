use Rattle.std.proofs.Common.{◌≡◌, ◌&&◌, eqb, drop}
use Rattle.octets.specs.Octets.{same}
use Rattle.octets.proofs.buffer.same.Given as goal

abbrev pub invariant-loop-i : goal.invariant-loop-i
invariant-loop-i l = eqb l.differing 0 && same (drop l.i l.a) (drop l.i l.b) ≡ same l.a l.b
