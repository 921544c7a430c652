use Rattle.std.proofs.Common.{length, sym, ap, ◌∙◌}
use Rattle.handshake_reader.specs.Views.{seen_certificates}
use Rattle.endpoint.specs.Shown.{parts_seen}
use Rattle.endpoint.proofs.Looks.{parts_counted}
use Rattle.endpoint.proofs.shown.ShownParts.len.Goals as goal

pub returns-in-Certificates : goal.returns-in-Certificates
returns-in-Certificates c =
    c.len.ensures
    ∙ sym (parts_counted 7 (seen_certificates c.in-Certificates.list))
    ∙ ap (λ s. length (parts_seen s)) (sym c.in-Certificates.is)
