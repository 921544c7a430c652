use Rattle.std.proofs.Common.{map, take}
use Rattle.handshake.specs.Certificates.{from_certificates}
use Rattle.handshake_writer.proofs.Layings.{Reached}
use Rattle.handshake_writer.proofs.chain.lay_certificates.Given as goal

abbrev pub invariant-loop-certificate : goal.invariant-loop-certificate
invariant-loop-certificate l = Reached l.initial.out l.at (from_certificates (map (λ x. x.now) (take l.certificate-index l.certificates))) l.out l.end
