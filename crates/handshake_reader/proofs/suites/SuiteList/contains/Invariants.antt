use Rattle.std.proofs.Common.{◌≡◌, drop}
use Rattle.handshake.specs.Parts.{words, among}
use Rattle.handshake_reader.proofs.suites.SuiteList.contains.Given as goal

abbrev pub invariant-loop-i : goal.invariant-loop-i
invariant-loop-i l = among l.suite (drop l.i (words l.octets)) ≡ among l.suite (words l.octets)
