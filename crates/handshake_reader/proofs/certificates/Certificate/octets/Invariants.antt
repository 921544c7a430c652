use Rattle.std.proofs.Common.{◌≡◌, ◌-◌}
use Rattle.std.specs.List.{slice_get}
use Rattle.handshake.specs.Certificates.{certificates_seen}
use Rattle.handshake_reader.proofs.certificates.Certificate.octets.Given as goal

abbrev pub invariant-loop-i : goal.invariant-loop-i
invariant-loop-i l =
    slice_get (certificates_seen l.left l.left) (l.index - l._i) ≡ slice_get (certificates_seen l.self.list.now l.self.list.now) l.index
