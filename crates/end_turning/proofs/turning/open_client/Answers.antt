use Rattle.sm3.specs.View.{view as hash_view}
use Rattle.std.proofs.Common.{take}
use Rattle.end_state.specs.View.{buffer_view}
use Rattle.end_writer.specs.Kind.{kind_of}
use Rattle.end_state.specs.View.{view}
use Rattle.end_turning.proofs.TurnsLast.{client_opened}
use Rattle.end_turning.proofs.turning.open_client.Goals as goal

pub returns : goal.returns
returns g c f out =
    let P = kind_of g.P.RecordProtection.serves g.P.RecordProtection.size g.P.RecordProtection.sealing g.P.RecordProtection.opening in
    let e = view g.P.RecordProtection.holds c.args.end.now in
    client_opened P f out e (take c.args.size (buffer_view c.args.end.now.state.buffer)) (hash_view c.join_front.new.transcript) c.join_front.ensures
    (c.open.ensures (g.P.RecordProtection.holds c.args.end.now.protection)) c.report.ensures
