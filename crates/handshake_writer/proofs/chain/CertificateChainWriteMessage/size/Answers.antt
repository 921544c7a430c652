use Rattle.std.proofs.Common.{ℕ, List, [], ◌∙◌, arith, Bor}
use Rattle.handshake_writer.proofs.Written.{sized_more, sized_empty, sized_over, sized_all, chain_size}
use Rattle.handshake_writer.specs.Views.{seen_chain}
use Rattle.handshake_writer.proofs.chain.CertificateChainWriteMessage.size.Goals as goal

pub returns-then-length-lt1 : goal.returns-then-length-lt1
returns-then-length-lt1 c =
    let xs = c.args.self.now.certificates.now in
    let i = c.loop-certificate.certificate-index in
    let n = c.loop-certificate.size in
    let d : Bor (List ℕ) = record { ref_ptr = (0, 0); now = [] } in
    let w = chain_size (seen_chain c.args.self.now) in
    elim c.then-length-lt1.branch [
      | goal.then-length-lt1-via-then-length-lt1 v ↦ sized_empty (λ x. x.now) xs i d n c.loop-certificate.invariant.0 c.loop-certificate-test.true v.if-length-lt1.true ∙ w
      | goal.then-length-lt1-via-else-length-lt1+then-length-gt-BODY_LIMIT v ↦
          (let k = v.if-length-gt-BODY_LIMIT.true in sized_over (λ x. x.now) xs i d n c.loop-certificate.invariant.0 c.loop-certificate-test.true (omega arith) ∙ w)
      | goal.then-length-lt1-via-else-length-lt1+else-length-gt-BODY_LIMIT+then-size-length-gt-BODY_LIMIT v ↦
          sized_over (λ x. x.now) xs i d n c.loop-certificate.invariant.0 c.loop-certificate-test.true v.if-size-length-gt-BODY_LIMIT.true ∙ w
    ]

pub loop-certificate-preserved : goal.loop-certificate-preserved
loop-certificate-preserved c = (
  sized_more (λ x. x.now) c.args.self.now.certificates.now c.loop-certificate.certificate-index (record { ref_ptr = (0, 0); now = [] }) c.loop-certificate.size
      c.loop-certificate.invariant.0 c.loop-certificate-test.true c.if-length-lt1.false c.if-size-length-gt-BODY_LIMIT.false,
  omega arith,
)

pub returns : goal.returns
returns c =
    sized_all (λ x. x.now) c.args.self.now.certificates.now c.loop-certificate.certificate-index c.loop-certificate.size c.loop-certificate.invariant.0 c.loop-certificate-test.false
    ∙ chain_size (seen_chain c.args.self.now)
