use Rattle.std.proofs.Common.{sym, ap, ◌∙◌}
use Rattle.handshake.specs.Frames.{next}
use Rattle.end_writer.specs.Kind.{kind_of}
use Rattle.end_state.specs.View.{view}
use Rattle.end_answering.proofs.Answered.{unwrapped, not_unwrapped}
use Rattle.end_answering.proofs.keying.take_premaster.Goals as goal
use Rattle.end_answering.proofs.keying.take_premaster.Goals.{then-pass_front, else-pass_front}

pub returns : goal.returns
returns g c fresh out =
    let P = kind_of g.P.RecordProtection.serves g.P.RecordProtection.size g.P.RecordProtection.sealing g.P.RecordProtection.opening in
    let holds = g.P.RecordProtection.holds in
    let e = view holds c.args.end.now in
    let p = c.args.premaster.now in
    let f = c.pass_front.ensures in
    elim c.if-pass_front.branch [
      | then-pass_front w ↦ unwrapped P fresh e p (next e.buffered) out (sym w.if-pass_front.true ∙ f.whole) (f.after _) (ap (view holds) w.end-is ∙ w.key.ensures)
      | else-pass_front w ↦ not_unwrapped P fresh e p (next e.buffered) out (sym w.if-pass_front.false ∙ f.whole) (ap (view holds) w.end-is ∙ f.after _)
    ]
