-- How what the writers take is seen by the definitions.
use Rattle.std.specs.Prelude.{ℕ, List, map}
use Rattle.handshake.specs.Hellos as hellos
use Rattle.handshake_writer.specs.declared.client_offer.ClientOffer.{ClientOffer}
use Rattle.handshake_writer.specs.declared.chain.CertificateChain.{CertificateChain}

abbrev pub seen_offer : ClientOffer → hellos.ClientHello
seen_offer m = hellos.client_offer m.random.now m.suites.now

abbrev pub seen_chain : CertificateChain → List (List ℕ)
seen_chain m = map (λ x. x.now) m.certificates.now
