use Rattle.std.proofs.Common.{arith}
use Rattle.end_rules.proofs.TwoFit.{first_fits, first_unfit, not_two}
use Rattle.end_rules.proofs.answer.certificates_fit.Goals as goal

pub returns-then-is_within : goal.returns-then-is_within
returns-then-is_within c =
    first_fits c.args.certificates.now _ _ (omega arith) c.is_within.ensures c.if-is_within.true c.is_within-then-is_within.ensures

pub returns-else-is_within : goal.returns-else-is_within
returns-else-is_within c = first_unfit c.args.certificates.now _ (omega arith) c.is_within.ensures c.if-is_within.false

pub returns-then-certificates-ne-CERTIFICATE_COUNT : goal.returns-then-certificates-ne-CERTIFICATE_COUNT
returns-then-certificates-ne-CERTIFICATE_COUNT c = not_two c.args.certificates.now (λ e. omega arith)
