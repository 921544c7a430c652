use Rattle.std.proofs.Common.{[], refl}
use Rattle.handshake.specs.Frames.{next}
use Rattle.model.specs.Outcomes.{writing}
use Rattle.end_state.specs.Fronts.{passed_front}
use Rattle.end_writer.specs.Kind.{kind_of}
use Rattle.end_state.specs.View.{view}
use Rattle.end_answering.proofs.Answered.{still}
use Rattle.end_answering.proofs.greeting.trust.Goals as goal

pub returns : goal.returns
returns g c out =
    let P = kind_of g.P.RecordProtection.serves g.P.RecordProtection.size g.P.RecordProtection.sealing g.P.RecordProtection.opening in
    let e = view g.P.RecordProtection.holds c.args.end.now in
    still P (writing [] (passed_front c.args.stage (next e.buffered) e)) out refl refl (c.pass_front.ensures.after _)
