use Rattle.model.specs.Deeds.{flight}
use Rattle.end_rules.specs.Views.{seen_parts}
use Rattle.end_writer.specs.Kind.{kind_of}
use Rattle.end_answering.proofs.Answered.{said}
use Rattle.end_answering.proofs.greeting.offer.Goals as goal

pub returns : goal.returns
returns g c fresh =
    let P = kind_of g.P.RecordProtection.serves g.P.RecordProtection.size g.P.RecordProtection.sealing g.P.RecordProtection.opening in
    let w = c.write_offer-written.ensures in
    said P _ (flight (seen_parts c.args.parts) c.args.end.now.state.suite) c.args.out.now (w.end _) w.written w.after
