use Rattle.std.proofs.Common.{◌≡◌, false, length, sym, refl, ap, ◌∙◌, rules}
use Rattle.end_writer.specs.Kind.{kind_of}
use Rattle.endpoint.specs.View.{view}
use Rattle.model.specs.Refusals.{hand_in_refusal}
use Rattle.end_reports.proofs.Yields.{hand_in_refused, hand_in_accepted}
use Rattle.endpoint.proofs.end.Endpoint.hand_in.Goals as goal

pub take_first-requires : goal.take_first-requires
take_first-requires g c =
    let q : c.is_message_ready-ready.result ≡ false = search rules in
    record { running = search rules; short = c.is_message_ready-ready.ensures.short q; fresh = search rules; room = search rules; space = search rules }

pub returns-in-Some : goal.returns-in-Some
returns-in-Some g c =
    let P = kind_of g.P.RecordProtection.serves g.P.RecordProtection.size g.P.RecordProtection.sealing g.P.RecordProtection.opening in
    let e = view g.P.RecordProtection.holds c.args.self.now in
    record {
      yields = hand_in_refused P e c.args.octets.now c.args.fresh.now c.args.out.now c.args.place.now _
          (ap (λ r. hand_in_refusal e.stage r (length c.args.fresh.now) (length c.args.out.now) (length c.args.place.now)) (sym c.is_message_ready-ready.ensures.ready) ∙ sym c.hand_in_refusal.ensures ∙ c.in-Some.is);
      kept = refl;
    }

pub returns-in-None : goal.returns-in-None
returns-in-None g c =
    let P = kind_of g.P.RecordProtection.serves g.P.RecordProtection.size g.P.RecordProtection.sealing g.P.RecordProtection.opening in
    let e = view g.P.RecordProtection.holds c.args.self.now in
    record {
      yields = hand_in_accepted P e c.args.octets.now c.args.fresh.now c.args.out.now c.args.place.now
          (ap (λ r. hand_in_refusal e.stage r (length c.args.fresh.now) (length c.args.out.now) (length c.args.place.now)) (sym c.is_message_ready-ready.ensures.ready) ∙ sym c.hand_in_refusal.ensures ∙ c.in-None.is) c.take_first.ensures;
      kept = tt;
    }
