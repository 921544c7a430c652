use Rattle.std.proofs.Common.{◌≡◌, drop}
use Rattle.model.specs.Refusals.{distinct}
use Rattle.end_rules.proofs.suites.are_distinct.Given as goal

abbrev pub invariant-loop-i : goal.invariant-loop-i
invariant-loop-i l = distinct (drop l.i l.suites) ≡ distinct l.suites
