use Rattle.std.proofs.Common.{◌≡◌, ◌-◌, ◌%◌, length, refl, ap, ◌∙◌, arith}
use Rattle.octets.specs.Numbers.{three}
use Rattle.handshake.specs.Certificates.{certificate_body, from_certificates}
use Rattle.handshake.specs.Kinds.{certificate_parts}
use Rattle.handshake_writer.specs.Views.{seen_chain}
use Rattle.handshake_writer.proofs.Layings.{laying, then, body_laid}
use Rattle.handshake_writer.proofs.Written.{chain_sized}
use Rattle.handshake_writer.proofs.chain.CertificateChainWriteMessage.write_body.Goals as goal

pub overflow_sub-size : goal.overflow_sub-size
overflow_sub-size c = let s = chain_sized (seen_chain c.args.self.now) c.in-Some.size c.in-Some.ensures in omega (arith, s.0)

pub overflow_cast-size : goal.overflow_cast-size
overflow_cast-size c = let s = chain_sized (seen_chain c.args.self.now) c.in-Some.size c.in-Some.ensures in omega (arith, s.0, s.1)

pub lay_certificates-requires : goal.lay_certificates-requires
lay_certificates-requires c = (chain_sized (seen_chain c.args.self.now) c.in-Some.size c.in-Some.ensures).1

pub returns : goal.returns
unfolding certificate_body
returns c =
    let cs = seen_chain c.args.self.now in
    let s = chain_sized cs c.in-Some.size c.in-Some.ensures in
    let m : (c.in-Some.size - 3) % 16777216 ≡ length (from_certificates cs) = omega (arith, s.0, s.1) in
    body_laid (certificate_parts cs) c.in-Some.ensures refl
    (then (laying (c.three_octets.ensures ∙ ap three m) c.lay-at.ensures.end c.lay-at.ensures.after)
    (laying refl c.lay_certificates.ensures.end c.lay_certificates.ensures.after))
