use Rattle.std.proofs.Common.{sym, refl, ◌∙◌}
use Rattle.model.specs.Protections.{Lawful}
use Rattle.model.proofs.Tlcp.{law_of_lines, end_laws_stand}
use Rattle.end_writer.specs.Kind.{kind_of}
use Rattle.endpoint.proofs.SettingUp.{set_up_refused, set_up_accepted}
use Rattle.endpoint.proofs.end.Endpoint.set_up.Goals as goal

pub returns-in-Some : goal.returns-in-Some
returns-in-Some g c =
    let P = kind_of g.P.RecordProtection.serves g.P.RecordProtection.size g.P.RecordProtection.sealing g.P.RecordProtection.opening in
    let law : Lawful P = record { sizes = g.met.P.RecordProtection.sizes; opens = g.met.P.RecordProtection.opens; grows = g.met.P.RecordProtection.grows } in
    record {
      yields = set_up_refused g.P.RecordProtection.serves c.args.role (g.P.RecordProtection.holds c.args.protection) c.args.suites.now _ (sym c.set_up_refusal.ensures ∙ c.in-Some.is);
      protection = refl;
      line = law_of_lines P law;
      laws = end_laws_stand P law;
    }

pub returns-in-None : goal.returns-in-None
returns-in-None g c =
    let P = kind_of g.P.RecordProtection.serves g.P.RecordProtection.size g.P.RecordProtection.sealing g.P.RecordProtection.opening in
    let law : Lawful P = record { sizes = g.met.P.RecordProtection.sizes; opens = g.met.P.RecordProtection.opens; grows = g.met.P.RecordProtection.grows } in
    record {
      yields = set_up_accepted g.P.RecordProtection.serves c.args.role (g.P.RecordProtection.holds c.args.protection) c.args.suites.now (sym c.set_up_refusal.ensures ∙ c.in-None.is) (c.new-state.ensures _);
      protection = refl;
      line = law_of_lines P law;
      laws = end_laws_stand P law;
    }
