use Rattle.std.proofs.Common.{sym, arith}
use Rattle.script_text.proofs.Digits.{digits_more, digits_stop, digits_all}
use Rattle.script_text.proofs.number.read_number.Goals as goal

pub returns-in-None : goal.returns-in-None
returns-in-None c =
    digits_stop c.args.text.now c.loop-i.i c.loop-i.number (omega arith) (sym c.in-None.ensures.value) c.loop-i.invariant.1

pub loop-i-preserved : goal.loop-i-preserved
loop-i-preserved c = (
  c.in-Some.ensures.bound,
  digits_more c.args.text.now c.loop-i.i c.loop-i.number c.in-Some.next (omega arith) (sym c.in-Some.ensures.value) c.loop-i.invariant.1,
)

pub returns : goal.returns
returns c = digits_all c.args.text.now c.loop-i.i c.loop-i.number (omega arith) c.loop-i.invariant.1
