use Rattle.std.proofs.Common.{sym, ap, ◌∙◌}
use Rattle.std.proofs.lemmas.Bool.{cond-true}
use Rattle.model.specs.Deeds.{perform}
use Rattle.model.specs.Tlcp.{tlcp}
use Rattle.end_writer.specs.Kind.{kind_of}
use Rattle.end_state.specs.View.{view}
use Rattle.end_reports.specs.Reports.{done}
use Rattle.end_answering.proofs.keying.unwrap.Goals as goal

pub returns-then-is_versioned : goal.returns-then-is_versioned
returns-then-is_versioned g c =
    let P = kind_of g.P.RecordProtection.serves g.P.RecordProtection.size g.P.RecordProtection.sealing g.P.RecordProtection.opening in
    let f = c.args.fresh.now in
    let out = c.args.out.now in
    let e = view g.P.RecordProtection.holds c.args.end.now in
    c.take_premaster.ensures f out ∙ sym (ap (λ d. done P (perform tlcp P f e d) out) (cond-true _ _ _ (sym c.is_versioned.ensures ∙ c.if-is_versioned.true)))
