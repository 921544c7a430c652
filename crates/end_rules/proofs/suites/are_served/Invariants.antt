use Rattle.std.proofs.Common.{◌≡◌, drop}
use Rattle.model.specs.Refusals.{all_served}
use Rattle.end_rules.proofs.suites.are_served.Given as goal

abbrev pub invariant-loop-suite : goal.invariant-loop-suite
invariant-loop-suite g l = all_served g.P.RecordProtection.serves (drop l.suite-index l.suites) ≡ all_served g.P.RecordProtection.serves l.suites
