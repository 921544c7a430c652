use Rattle.std.proofs.Common.{sym, ◌∙◌}
use Rattle.handshake_reader.proofs.Chained.{is_none_empty, certificate_stops, certificate_follows, certificate_unfilled, certificate_filled}
use Rattle.handshake_reader.proofs.certificates.read_certificate.Goals as goal

pub returns-in_err-all : goal.returns-in_err-all
returns-in_err-all c = rw c.from_residual.ensures (certificate_stops _ (sym c.in_err-all.ensures))

pub returns-then-not-is_empty : goal.returns-then-not-is_empty
returns-then-not-is_empty c =
    certificate_follows _ (sym c.in_ok-all.ensures) (is_none_empty _ ∙ sym c.if-not-is_empty.ensures)

pub returns-then-not-is_filled : goal.returns-then-not-is_filled
returns-then-not-is_filled c = certificate_unfilled _ (sym c.in_ok-all.ensures) (sym c.if-not-is_filled.ensures)

pub returns : goal.returns
returns c =
    certificate_filled _ (sym c.in_ok-all.ensures) (is_none_empty _ ∙ sym c.if-not-is_empty.ensures) (sym c.if-not-is_filled.ensures)
