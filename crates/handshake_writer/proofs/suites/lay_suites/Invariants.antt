use Rattle.handshake.specs.Parts.{from_words}
use Rattle.handshake_writer.proofs.Layings.{Reached}
use Rattle.std.proofs.Common.{take}
use Rattle.handshake_writer.proofs.suites.lay_suites.Given as goal

abbrev pub invariant-loop-suite : goal.invariant-loop-suite
invariant-loop-suite l = Reached l.initial.out l.at (from_words (take l.suite-index l.suites)) l.out l.end
