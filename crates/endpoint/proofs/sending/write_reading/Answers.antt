use Rattle.std.proofs.Common.{None, refl, ap, rules}
use Rattle.records.specs.Kinds.{data_kind}
use Rattle.sm3.specs.Hash.{Running}
use Rattle.model.specs.Endpoint.{End}
use Rattle.end_reports.specs.declared.report.Report.{Report}
use Rattle.model.specs.Deeds.{perform, sends}
use Rattle.model.specs.Outcomes.{put}
use Rattle.model.specs.Tlcp.{tlcp}
use Rattle.end_writer.specs.Kind.{kind_of}
use Rattle.end_state.specs.View.{state_view, view}
use Rattle.end_reports.proofs.Yields.{one_written}
use Rattle.endpoint.proofs.sending.write_reading.Goals as goal

pub returns : goal.returns
returns g c =
    let P = kind_of g.P.RecordProtection.serves g.P.RecordProtection.size g.P.RecordProtection.sealing g.P.RecordProtection.opening in
    let h = g.P.RecordProtection.holds c.args.end.now.protection in
    let e = view g.P.RecordProtection.holds c.args.end.now in
    let x = c.args.reading.now in
    let f = c.args.fresh.now in
    let r : Report = record { stage = c.count_record.new.self.stage; written = c.write_one-written.result; fault = None } in
    one_written P (perform tlcp P f e (sends x)) c.args.out.now (put f e data_kind x) r (state_view h c.count_record.new.self) c.write_one-written.new.out
    refl (c.count_record.ensures h) refl (ap (λ (u : End Running). u.stage) (c.count_record.ensures h)) (search rules) (search rules)
