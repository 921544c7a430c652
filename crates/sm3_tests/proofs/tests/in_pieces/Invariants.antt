use Rattle.std.proofs.Common.{◌-◌, ◌<◌, ◌≤◌}
use Rattle.sm3_tests.proofs.tests.in_pieces.Given as goal

abbrev pub invariant-loop-at : goal.invariant-loop-at
invariant-loop-at l = (0 < l.size) × (l.size < 128) × (l.at ≤ l.case.len)

abbrev pub decreases-loop-at : goal.decreases-loop-at
decreases-loop-at l = l.case.len - l.at
