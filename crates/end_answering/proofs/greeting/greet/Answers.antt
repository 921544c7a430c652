use Rattle.std.proofs.Common.{[], ◌∷◌}
use Rattle.model.specs.Messages.{client_hello}
use Rattle.end_writer.specs.Kind.{kind_of}
use Rattle.end_state.specs.View.{view}
use Rattle.end_answering.proofs.Answered.{said}
use Rattle.end_answering.proofs.greeting.greet.Goals as goal

pub returns : goal.returns
returns g c fresh =
    let P = kind_of g.P.RecordProtection.serves g.P.RecordProtection.size g.P.RecordProtection.sealing g.P.RecordProtection.opening in
    let m = client_hello c.args.random.now (view g.P.RecordProtection.holds c.args.end.now).suites in
    let w = c.write_greeting-written.ensures in
    said P _ (m ∷ []) c.args.out.now (w.end _) w.written w.after
