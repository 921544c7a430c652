use Rattle.std.proofs.Common.{◌≡◌, ◌+◌, ◌-◌, length}
use Rattle.std.specs.List.{slice_get}
use Rattle.handshake.specs.Certificates.{certificates_seen}
use Rattle.handshake.specs.Places.{spans}
use Rattle.handshake_reader.proofs.certificates.Certificate.get.Given as goal

abbrev pub invariant-loop-i : goal.invariant-loop-i
invariant-loop-i l =
    (slice_get (spans l.offset (certificates_seen l.left l.left)) (l.index - l._i) ≡ slice_get (spans 7 (certificates_seen l.self.list.now l.self.list.now)) l.index)
    × (l.offset + length l.left ≡ 7 + length l.self.list.now)
