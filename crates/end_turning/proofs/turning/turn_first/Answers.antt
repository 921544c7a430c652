use Rattle.end_state.specs.View.{buffer_view}
use Rattle.end_writer.specs.Kind.{kind_of}
use Rattle.handshake.specs.Frames.{next}
use Rattle.model.specs.Deeds.{raises}
use Rattle.model.specs.Turns.{turned}
use Rattle.model.specs.Tlcp.{tlcp}
use Rattle.records.specs.Faults.{alert_number}
use Rattle.end_state.specs.View.{view}
use Rattle.end_turning.specs.Turns.{front_deed}
use Rattle.end_turning.proofs.TurnsDone.{judged_done}
use Rattle.end_turning.proofs.turning.turn_first.Goals as goal

pub returns-in-Ok : goal.returns-in-Ok
returns-in-Ok g c =
    let P = kind_of g.P.RecordProtection.serves g.P.RecordProtection.size g.P.RecordProtection.sealing g.P.RecordProtection.opening in
    let e = view g.P.RecordProtection.holds c.args.end.now in
    let held = g.P.RecordProtection.holds c.args.end.now.protection in
    let xs = buffer_view c.args.end.now.state.buffer in
    judged_done P c.args.fresh.now e c.args.out.now (turned tlcp e (next xs)) (front_deed xs c.in-Ok.turn) (c.in-Ok.ensures.deed held) c.do_turn.ensures

pub returns-in-Err : goal.returns-in-Err
returns-in-Err g c =
    let P = kind_of g.P.RecordProtection.serves g.P.RecordProtection.size g.P.RecordProtection.sealing g.P.RecordProtection.opening in
    let e = view g.P.RecordProtection.holds c.args.end.now in
    let held = g.P.RecordProtection.holds c.args.end.now.protection in
    let xs = buffer_view c.args.end.now.state.buffer in
    judged_done P c.args.fresh.now e c.args.out.now (turned tlcp e (next xs)) (raises c.in-Err.fault.layer (alert_number c.in-Err.fault.alert)) (c.in-Err.ensures.deed held) c.raise.ensures
