use Rattle.std.proofs.Common.{◌≡◌, true, false, length, ap, ◌∙◌, rules}
use Rattle.end_writer.specs.Kind.{kind_of}
use Rattle.end_state.specs.View.{view}
use Rattle.records.specs.Kinds.{known_kind}
use Rattle.model.specs.Results.{zeros}
use Rattle.end_receiving.proofs.Receives.{dropped_seen, taken_seen, raised_seen}
use Rattle.end_receiving.proofs.receiving.take_whole.Goals as goal

pub returns-then-not-is_known : goal.returns-then-not-is_known
returns-then-not-is_known g c =
    let P = kind_of g.P.RecordProtection.serves g.P.RecordProtection.size g.P.RecordProtection.sealing g.P.RecordProtection.opening in
    let e = view g.P.RecordProtection.holds c.args.end.now in
    let un : known_kind c.args.kind ≡ false = search rules in
    dropped_seen P c.args.fresh.now e c.args.kind c.args.content.now c.args.out.now c.args.place.now c.handed_in.result c.report.result un c.report.ensures c.handed_in.ensures c.requires.clean

pub returns-in-Ok : goal.returns-in-Ok
returns-in-Ok g c =
    let P = kind_of g.P.RecordProtection.serves g.P.RecordProtection.size g.P.RecordProtection.sealing g.P.RecordProtection.opening in
    let e = view g.P.RecordProtection.holds c.args.end.now in
    let un : known_kind c.args.kind ≡ true = search rules in
    taken_seen P c.args.fresh.now e c.args.kind c.args.content.now c.args.out.now c.args.place.now c.handed_in-in-Ok.result c.in-Ok.receipt
    (view g.P.RecordProtection.holds c.receive.new.end) c.receive.new.out c.receive.new.place un c.in-Ok.ensures c.handed_in-in-Ok.ensures

pub returns-in-Err : goal.returns-in-Err
returns-in-Err g c =
    let P = kind_of g.P.RecordProtection.serves g.P.RecordProtection.size g.P.RecordProtection.sealing g.P.RecordProtection.opening in
    let e = view g.P.RecordProtection.holds c.args.end.now in
    let un : known_kind c.args.kind ≡ true = search rules in
    let lp : length c.receive.new.place ≡ length c.args.place.now = search rules in
    raised_seen P c.args.fresh.now e c.args.kind c.args.content.now c.args.out.now c.args.place.now c.handed_in-in-Err.result c.raise.result c.in-Err.fault
    (view g.P.RecordProtection.holds c.receive.new.end) (view g.P.RecordProtection.holds c.raise.new.end) c.receive.new.out c.raise.new.out c.receive.new.place c.wipe.new.place
    un c.in-Err.ensures c.raise.ensures c.handed_in-in-Err.ensures (c.wipe.ensures ∙ ap zeros lp)
