use Rattle.std.proofs.Common.{◌≡◌, length, is_some}
use Rattle.handshake.specs.Certificates.{certificates_in}
use Rattle.handshake_reader.proofs.certificates.is_filled.Given as goal

abbrev pub invariant-loop-left : goal.invariant-loop-left
invariant-loop-left l = is_some (certificates_in l.left l.left) ≡ is_some (certificates_in l.list l.list)

abbrev pub decreases-loop-left : goal.decreases-loop-left
decreases-loop-left l = length l.left
