use Rattle.std.proofs.Common.{refl}
use Rattle.end_writer.specs.Kind.{kind_of}
use Rattle.endpoint.specs.View.{view}
use Rattle.end_turning.proofs.TurnsDone.{turn_refused, turn_accepted}
use Rattle.endpoint.proofs.end.Endpoint.turn.Goals as goal

pub returns-in-Some : goal.returns-in-Some
returns-in-Some g c =
    let P = kind_of g.P.RecordProtection.serves g.P.RecordProtection.size g.P.RecordProtection.sealing g.P.RecordProtection.opening in
    let e = view g.P.RecordProtection.holds c.args.self.now in
    record { yields = turn_refused P c.args.fresh.now e c.args.out.now c.in-Some.refusal c.is_message_ready-ready.result c.is_message_ready-ready.ensures.ready c.in-Some.ensures; kept = refl }

pub returns-in-None : goal.returns-in-None
returns-in-None g c =
    let P = kind_of g.P.RecordProtection.serves g.P.RecordProtection.size g.P.RecordProtection.sealing g.P.RecordProtection.opening in
    let e = view g.P.RecordProtection.holds c.args.self.now in
    record { yields = turn_accepted P c.args.fresh.now e c.args.out.now c.is_message_ready-ready.result c.is_message_ready-ready.ensures.ready c.in-None.ensures c.turn_first.ensures; kept = tt }
