use Rattle.std.proofs.Common.{refl, ap}
use Rattle.model.specs.Deeds.{perform}
use Rattle.model.specs.Endpoint.{with_buffer}
use Rattle.model.specs.Tlcp.{tlcp}
use Rattle.end_writer.specs.Kind.{kind_of}
use Rattle.end_rules.specs.Effects.{effect_deed}
use Rattle.end_rules.specs.declared.content.ContentEffect.TheVariants.{PassBy, Die, ClientChange, ServerChange, Buffer, Release}
use Rattle.end_state.specs.View.{state_view, buffer_view}
use Rattle.end_state.specs.View.{view}
use Rattle.end_reports.proofs.Yields.{quiet_done}
use Rattle.end_receiving.proofs.Contents.{effect_done}
use Rattle.end_receiving.proofs.receiving.apply.Goals as goal

pub returns-in-PassBy : goal.returns-in-PassBy
returns-in-PassBy g c =
    let P = kind_of g.P.RecordProtection.serves g.P.RecordProtection.size g.P.RecordProtection.sealing g.P.RecordProtection.opening in
    let e = view g.P.RecordProtection.holds c.args.end.now in
    effect_done P c.args.fresh.now e c.args.content.now c.args.out.now c.in-PassBy.is
    (quiet_done P (perform tlcp P c.args.fresh.now e (effect_deed c.args.content.now PassBy)) c.args.out.now c.report.result e c.report.ensures refl refl refl)

pub returns-in-Release : goal.returns-in-Release
returns-in-Release g c =
    let P = kind_of g.P.RecordProtection.serves g.P.RecordProtection.size g.P.RecordProtection.sealing g.P.RecordProtection.opening in
    let e = view g.P.RecordProtection.holds c.args.end.now in
    effect_done P c.args.fresh.now e c.args.content.now c.args.out.now c.in-Release.is
    (quiet_done P (perform tlcp P c.args.fresh.now e (effect_deed c.args.content.now Release)) c.args.out.now c.report-in-Release.result e c.report-in-Release.ensures refl refl refl)

pub returns-in-Die : goal.returns-in-Die
returns-in-Die g c =
    let P = kind_of g.P.RecordProtection.serves g.P.RecordProtection.size g.P.RecordProtection.sealing g.P.RecordProtection.opening in
    let e = view g.P.RecordProtection.holds c.args.end.now in
    effect_done P c.args.fresh.now e c.args.content.now c.args.out.now c.in-Die.is
    (quiet_done P (perform tlcp P c.args.fresh.now e (effect_deed c.args.content.now Die)) c.args.out.now c.report-in-Die.result (state_view (g.P.RecordProtection.holds c.args.end.now.protection) c.leave.new.self) c.report-in-Die.ensures (c.leave.ensures (g.P.RecordProtection.holds c.args.end.now.protection)) refl refl)

pub returns-in-ClientChange : goal.returns-in-ClientChange
returns-in-ClientChange g c =
    let P = kind_of g.P.RecordProtection.serves g.P.RecordProtection.size g.P.RecordProtection.sealing g.P.RecordProtection.opening in
    let e = view g.P.RecordProtection.holds c.args.end.now in
    effect_done P c.args.fresh.now e c.args.content.now c.args.out.now c.in-ClientChange.is
    (quiet_done P (perform tlcp P c.args.fresh.now e (effect_deed c.args.content.now ClientChange)) c.args.out.now c.report-in-ClientChange.result (state_view (g.P.RecordProtection.holds c.args.end.now.protection) c.protect_reads.new.self) c.report-in-ClientChange.ensures (c.protect_reads.ensures (g.P.RecordProtection.holds c.args.end.now.protection)) refl refl)

pub returns-in-ServerChange : goal.returns-in-ServerChange
returns-in-ServerChange g c =
    let P = kind_of g.P.RecordProtection.serves g.P.RecordProtection.size g.P.RecordProtection.sealing g.P.RecordProtection.opening in
    let e = view g.P.RecordProtection.holds c.args.end.now in
    effect_done P c.args.fresh.now e c.args.content.now c.args.out.now c.in-ServerChange.is
    (quiet_done P (perform tlcp P c.args.fresh.now e (effect_deed c.args.content.now ServerChange)) c.args.out.now c.report-in-ServerChange.result (state_view (g.P.RecordProtection.holds c.args.end.now.protection) c.protect_reads-in-ServerChange.new.self) c.report-in-ServerChange.ensures (c.protect_reads-in-ServerChange.ensures (g.P.RecordProtection.holds c.args.end.now.protection)) refl refl)

pub returns-in-Buffer : goal.returns-in-Buffer
returns-in-Buffer g c =
    let P = kind_of g.P.RecordProtection.serves g.P.RecordProtection.size g.P.RecordProtection.sealing g.P.RecordProtection.opening in
    let e = view g.P.RecordProtection.holds c.args.end.now in
    effect_done P c.args.fresh.now e c.args.content.now c.args.out.now c.in-Buffer.is
    (quiet_done P (perform tlcp P c.args.fresh.now e (effect_deed c.args.content.now Buffer)) c.args.out.now c.report-in-Buffer.result (with_buffer (buffer_view c.append.new.self) e) c.report-in-Buffer.ensures (ap (λ b. with_buffer b e) c.append.ensures) refl refl)
