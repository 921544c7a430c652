use Rattle.std.proofs.Common.{◌≤◌, arith}
use Rattle.end_answering.proofs.greeting.write_greeting.Goals as goal

pub invariant_of-state : goal.invariant_of-state
invariant_of-state c =
    let s = c.args.state.now in
    let w : s.writes ≤ 16777215 = rw c.requires.running at s.writing in
    ((s.suites.some, (s.suites.few, tt)), (s.reading, (omega arith, tt)))
