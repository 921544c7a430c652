use Rattle.std.proofs.Common.{sym, refl, ◌∙◌}
use Rattle.end_writer.specs.Kind.{kind_of}
use Rattle.endpoint.specs.View.{view}
use Rattle.end_reports.proofs.Yields.{close_refused, close_accepted}
use Rattle.endpoint.proofs.end.Endpoint.close.Goals as goal

pub returns-in-Some : goal.returns-in-Some
returns-in-Some g c =
    let P = kind_of g.P.RecordProtection.serves g.P.RecordProtection.size g.P.RecordProtection.sealing g.P.RecordProtection.opening in
    record { yields = close_refused P (view g.P.RecordProtection.holds c.args.self.now) c.args.fresh.now c.args.out.now _ (sym c.close_refusal.ensures ∙ c.in-Some.is); kept = refl }

pub returns-in-None : goal.returns-in-None
returns-in-None g c =
    let P = kind_of g.P.RecordProtection.serves g.P.RecordProtection.size g.P.RecordProtection.sealing g.P.RecordProtection.opening in
    record { yields = close_accepted P (view g.P.RecordProtection.holds c.args.self.now) c.args.fresh.now c.args.out.now (sym c.close_refusal.ensures ∙ c.in-None.is) c.say_goodbye.ensures; kept = tt }
