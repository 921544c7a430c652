use Rattle.std.proofs.Common.{◌≡◌, drop}
use Rattle.handshake.specs.Parts.{words}
use Rattle.model.specs.Messages.{first_shared}
use Rattle.end_rules.proofs.message.first_shared.Given as goal

abbrev pub invariant-loop-i : goal.invariant-loop-i
invariant-loop-i l = first_shared (drop l.i (words l.suites.octets.now)) l.allowed ≡ first_shared (words l.suites.octets.now) l.allowed
