use Rattle.std.proofs.Common.{◌≡◌, drop}
use Rattle.handshake.specs.Parts.{among}
use Rattle.end_rules.proofs.suites.is_among.Given as goal

abbrev pub invariant-loop-listed : goal.invariant-loop-listed
invariant-loop-listed l = among l.suite (drop l.listed-index l.list) ≡ among l.suite l.list
