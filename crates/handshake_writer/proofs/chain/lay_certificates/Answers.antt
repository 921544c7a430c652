use Rattle.std.proofs.Common.{◌≡◌, ◌%◌, [], length, get_or, refl, ap, ◌∙◌, arith}
use Rattle.octets.specs.Numbers.{three}
use Rattle.handshake_writer.proofs.Layings.{start, laying, then}
use Rattle.handshake_writer.proofs.Written.{one_short, chain_more, chain_all}
use Rattle.handshake_writer.proofs.chain.lay_certificates.Goals as goal

pub loop-certificate-init : goal.loop-certificate-init
loop-certificate-init c = start c.args.out.now c.args.at

pub overflow_cast-certificate : goal.overflow_cast-certificate
overflow_cast-certificate c =
    let s = one_short (λ x. x.now) c.args.certificates.now c.loop-certificate.certificate-index (record { ref_ptr = (0, 0); now = [] }) c.loop-certificate-test.true in
    omega (arith, c.requires)

pub loop-certificate-preserved : goal.loop-certificate-preserved
loop-certificate-preserved c =
    let xs = c.args.certificates.now in
    let i = c.loop-certificate.certificate-index in
    let s = one_short (λ x. x.now) xs i (record { ref_ptr = (0, 0); now = [] }) c.loop-certificate-test.true in
    let n = length (get_or xs i (record { ref_ptr = (0, 0); now = [] })).now in
    let m : n % 16777216 ≡ n = omega (arith, c.requires) in
    let r = then c.loop-certificate.invariant
    (then (laying (c.three_octets.ensures ∙ ap three m) c.lay-end.ensures.end c.lay-end.ensures.after)
    (laying refl c.lay-end-in-loop-certificate.ensures.end c.lay-end-in-loop-certificate.ensures.after)) in
    laying (chain_more (λ x. x.now) xs i _ c.loop-certificate-test.true) r.end r.after

pub returns : goal.returns
returns c =
    let r = laying (chain_all (λ x. x.now) c.args.certificates.now c.loop-certificate.certificate-index c.loop-certificate-test.false) c.loop-certificate.invariant.end c.loop-certificate.invariant.after in
    record { end = r.end; after = r.after }
