use Rattle.std.proofs.Common.{sym, ◌∙◌}
use Rattle.end_rules.proofs.Passed.{unserved, served_more, served_all}
use Rattle.end_rules.proofs.suites.are_served.Goals as goal

pub returns-then-not-serves : goal.returns-then-not-serves
returns-then-not-serves g c =
    unserved g.P.RecordProtection.serves c.args.suites.now c.loop-suite.suite-index c.loop-suite.invariant c.loop-suite-test.true
    (sym c.serves.ensures ∙ c.if-not-serves.true)

pub loop-suite-preserved : goal.loop-suite-preserved
loop-suite-preserved g c =
    served_more g.P.RecordProtection.serves c.args.suites.now c.loop-suite.suite-index c.loop-suite.invariant c.loop-suite-test.true
    (sym c.serves.ensures ∙ c.if-not-serves.false)

pub returns : goal.returns
returns g c = served_all g.P.RecordProtection.serves c.args.suites.now c.loop-suite.suite-index c.loop-suite.invariant c.loop-suite-test.false
