use Rattle.std.proofs.Common.{true, take, ap, ◌∙◌}
use Rattle.sm3.specs.View.{view as hash_view}
use Rattle.model.specs.Endpoint.{with_out}
use Rattle.end_state.specs.View.{buffer_view}
use Rattle.end_writer.specs.Kind.{kind_of}
use Rattle.end_state.specs.View.{view}
use Rattle.end_turning.proofs.TurnsLast.{server_opened}
use Rattle.end_turning.proofs.turning.open_server.Goals as goal

pub returns : goal.returns
returns g c =
    let P = kind_of g.P.RecordProtection.serves g.P.RecordProtection.size g.P.RecordProtection.sealing g.P.RecordProtection.opening in
    let e = view g.P.RecordProtection.holds c.args.end.now in
    let held = g.P.RecordProtection.holds c.args.end.now.protection in
    server_opened P c.args.fresh.now c.args.out.now e (take c.args.size (buffer_view c.args.end.now.state.buffer)) c.verify_data-verify_data.result
    (hash_view c.join_front.new.transcript) (hash_view c.write_finished-written.new.transcript) c.write_change-at.result c.write_finished-written.result
    c.write_change-at.new.out c.write_finished-written.new.out
    c.join_front.ensures c.verify_data-verify_data.ensures c.write_change-at.ensures.end c.write_change-at.ensures.after
    c.write_finished-written.ensures.end c.write_finished-written.ensures.after c.write_finished-written.ensures.joined
    (c.protect_writes.ensures held ∙ ap (with_out true 1) (c.open.ensures held))
