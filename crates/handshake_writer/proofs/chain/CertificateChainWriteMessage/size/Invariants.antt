use Rattle.std.proofs.Common.{◌≡◌, ◌≤◌, map, drop}
use Rattle.handshake_writer.specs.Views.{seen_chain}
use Rattle.handshake_writer.proofs.Written.{sized_from}
use Rattle.handshake_writer.proofs.chain.CertificateChainWriteMessage.size.Given as goal

abbrev pub invariant-loop-certificate : goal.invariant-loop-certificate
invariant-loop-certificate l =
    (sized_from l.size (map (λ x. x.now) (drop l.certificate-index l.self.certificates.now)) ≡ sized_from 3 (seen_chain l.self)) × (l.size ≤ 16777215)
