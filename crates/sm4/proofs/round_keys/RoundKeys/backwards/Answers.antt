use Rattle.std.proofs.Common.{◌-◌, arith}
use Rattle.sm4.specs.View.{quad_of}
use Rattle.sm4.proofs.Loops.{backwards_none, backwards_more, backwards_all}
use Rattle.sm4.proofs.round_keys.RoundKeys.backwards.Goals as goal

pub loop-i-init : goal.loop-i-init
loop-i-init c = backwards_none c.args.self.now.words _ (quad_of c.args.start) (omega arith)

pub loop-i-preserved : goal.loop-i-preserved
loop-i-preserved c =
    backwards_more c.args.self.now.words c.loop-i.i (c.loop-i.i - 1) (quad_of c.loop-i.state) (omega arith) (omega arith) c.round-state.ensures
    c.loop-i.invariant

pub returns : goal.returns
returns c = backwards_all c.args.self.now.words c.loop-i.i (quad_of c.loop-i.state) (omega arith) c.loop-i.invariant
