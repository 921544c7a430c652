use Rattle.std.proofs.Common.{sym, refl, ap, ◌∙◌}
use Rattle.handshake.specs.Frames.{next}
use Rattle.model.specs.declared.stage.Stage.TheVariants.{AwaitServerKeyExchange, AwaitServerHelloDone}
use Rattle.model.specs.Deeds.{perform, trusts_certificates, trusts_signature}
use Rattle.model.specs.Answers.{said_yes}
use Rattle.model.specs.Tlcp.{tlcp}
use Rattle.end_rules.specs.Views.{seen_parts}
use Rattle.end_writer.specs.Kind.{kind_of}
use Rattle.end_state.specs.View.{view}
use Rattle.end_reports.specs.Reports.{done}
use Rattle.end_answering.proofs.Answered.{passed, flight_fits}
use Rattle.end_answering.proofs.answering.take_yes.Goals as goal

pub offer-requires : goal.offer-requires
offer-requires g c =
    let t = flight_fits (seen_parts c.args.parts) c.in-ServerFlight.is c.requires.lengths in
    record { running = c.requires.running; random = t.random; session = t.session; two = t.two; least = t.least; most = t.most; room = c.requires.room }

pub returns-in-ClientRandom : goal.returns-in-ClientRandom
returns-in-ClientRandom g c =
    let P = kind_of g.P.RecordProtection.serves g.P.RecordProtection.size g.P.RecordProtection.sealing g.P.RecordProtection.opening in
    let f = c.args.fresh.now in
    let e = view g.P.RecordProtection.holds c.args.end.now in
    c.greet.ensures f ∙ sym (ap (λ q. done P (perform tlcp P f e (said_yes e q (seen_parts c.args.parts))) c.args.out.now) c.in-ClientRandom.is)

pub returns-in-ServerFlight : goal.returns-in-ServerFlight
returns-in-ServerFlight g c =
    let P = kind_of g.P.RecordProtection.serves g.P.RecordProtection.size g.P.RecordProtection.sealing g.P.RecordProtection.opening in
    let f = c.args.fresh.now in
    let e = view g.P.RecordProtection.holds c.args.end.now in
    c.offer.ensures f ∙ sym (ap (λ q. done P (perform tlcp P f e (said_yes e q (seen_parts c.args.parts))) c.args.out.now) c.in-ServerFlight.is)

pub returns-in-CheckCertificates : goal.returns-in-CheckCertificates
returns-in-CheckCertificates g c =
    let P = kind_of g.P.RecordProtection.serves g.P.RecordProtection.size g.P.RecordProtection.sealing g.P.RecordProtection.opening in
    let f = c.args.fresh.now in
    let out = c.args.out.now in
    let e = view g.P.RecordProtection.holds c.args.end.now in
    c.trust.ensures out ∙ passed P f e AwaitServerKeyExchange trusts_certificates (next e.buffered) out (λ m rest. refl)
    ∙ sym (ap (λ q. done P (perform tlcp P f e (said_yes e q (seen_parts c.args.parts))) out) c.in-CheckCertificates.is)

pub returns-in-CheckSignature : goal.returns-in-CheckSignature
returns-in-CheckSignature g c =
    let P = kind_of g.P.RecordProtection.serves g.P.RecordProtection.size g.P.RecordProtection.sealing g.P.RecordProtection.opening in
    let f = c.args.fresh.now in
    let out = c.args.out.now in
    let e = view g.P.RecordProtection.holds c.args.end.now in
    c.trust-in-CheckSignature.ensures out ∙ passed P f e AwaitServerHelloDone trusts_signature (next e.buffered) out (λ m rest. refl)
    ∙ sym (ap (λ q. done P (perform tlcp P f e (said_yes e q (seen_parts c.args.parts))) out) c.in-CheckSignature.is)
