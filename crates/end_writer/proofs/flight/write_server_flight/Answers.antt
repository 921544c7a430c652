use Rattle.std.proofs.Common.{map, ap, ◌∙◌}
use Rattle.sm3.specs.Hash.{absorb}
use Rattle.model.specs.Messages.{certificate, server_key_exchange, server_hello_done}
use Rattle.end_writer.proofs.Following.{placed, then, last, first_end}
use Rattle.end_writer.proofs.flight.write_server_flight.Goals as goal

pub returns : goal.returns
returns c =
    let p =
    then (placed c.write_server_hello-end.ensures.end c.write_server_hello-end.ensures.after)
    (then (placed c.write_certificate-end.ensures.end c.write_certificate-end.ensures.after)
    (then (placed c.write_server_key_exchange-end.ensures.end c.write_server_key_exchange-end.ensures.after)
    (last (placed c.write_server_hello_done.ensures.end c.write_server_hello_done.ensures.after)))) in
    let j = c.write_server_hello-end.ensures.joined in
    let k = c.write_certificate-end.ensures.joined ∙ ap (λ h. absorb h (certificate (map (λ x. x.now) c.args.certificates.now))) j in
    let l = c.write_server_key_exchange-end.ensures.joined ∙ ap (λ h. absorb h (server_key_exchange c.args.signature.now)) k in
    record { end = first_end p; after = p.after; joined = c.write_server_hello_done.ensures.joined ∙ ap (λ h. absorb h server_hello_done) l }
