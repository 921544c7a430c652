use Rattle.std.proofs.Common.{◌≡◌, ◌+◌, length}
use Rattle.handshake.specs.Certificates.{certificates_seen}
use Rattle.handshake_reader.proofs.certificates.Certificate.len.Given as goal

abbrev pub invariant-loop-first : goal.invariant-loop-first
invariant-loop-first l = l.count + length (certificates_seen l.left l.left) ≡ length (certificates_seen l.self.list.now l.self.list.now)

abbrev pub decreases-loop-first : goal.decreases-loop-first
decreases-loop-first l = length l.left
