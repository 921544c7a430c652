use Rattle.hmac_sm3.specs.View.{seen}
use Rattle.hmac_sm3.proofs.Tags.{fed_more, fed_all}
use Rattle.hmac_sm3.proofs.mac.Hmac.update_all.Goals as goal

pub loop-piece-preserved : goal.loop-piece-preserved
loop-piece-preserved c =
    fed_more c.args.pieces.now _ c.loop-piece.piece-index (seen c.update.new.self) (seen c.loop-piece.self) _
    c.loop-piece-test.true c.loop-piece.invariant c.update.ensures

pub returns : goal.returns
returns c = fed_all c.args.pieces.now c.loop-piece.piece-index (seen c.loop-piece.self) _ c.loop-piece-test.false c.loop-piece.invariant
