use Rattle.std.proofs.Common.{refl}
use Rattle.handshake_reader.proofs.Listed.{among_found, among_more, among_all}
use Rattle.end_rules.proofs.suites.is_among.Goals as goal

pub returns-then-listed-suite : goal.returns-then-listed-suite
returns-then-listed-suite c =
    among_found c.args.suite c.args.list.now c.loop-listed.listed-index _ c.loop-listed.invariant c.loop-listed-test.true refl
    c.if-listed-suite.true

pub loop-listed-preserved : goal.loop-listed-preserved
loop-listed-preserved c =
    among_more c.args.suite c.args.list.now c.loop-listed.listed-index _ c.loop-listed.invariant c.loop-listed-test.true refl
    c.if-listed-suite.false

pub returns : goal.returns
returns c = among_all c.args.suite c.args.list.now c.loop-listed.listed-index c.loop-listed.invariant c.loop-listed-test.false
