use Rattle.std.proofs.Common.{sym, ap, ◌∙◌}
use Rattle.std.specs.Option.{option_map}
use Rattle.handshake_reader.specs.Views.{seen_certificates}
use Rattle.endpoint.specs.Shown.{part_seen}
use Rattle.endpoint.proofs.Looks.{part_at, no_part_at, no_span_at}
use Rattle.endpoint.proofs.shown.certificate_at.Goals as goal

pub returns-in_err-span : goal.returns-in_err-span
returns-in_err-span c =
    let cs = seen_certificates c.args.list.now in
    ap (option_map part_seen) c.from_residual.ensures
    ∙ no_part_at 7 cs c.args.index (no_span_at 7 cs c.args.index (sym c.in_err-span.ensures))

pub returns-in_err-octets : goal.returns-in_err-octets
returns-in_err-octets c =
    ap (option_map part_seen) c.from_residual-in_err-octets.ensures
    ∙ no_part_at 7 (seen_certificates c.args.list.now) c.args.index (sym c.in_err-octets.ensures)

pub returns : goal.returns
returns c =
    part_at 7 (seen_certificates c.args.list.now) c.args.index c.in_ok-span.span c.in_ok-octets.octets.now
    (sym c.in_ok-span.ensures)
    (sym c.in_ok-octets.ensures)
