use Rattle.std.proofs.Common.{◌≡◌, ◌++◌, vec_items}
use Rattle.script_text.specs.Octets.{repeated}
use Rattle.script_text.proofs.octet_text.append_times.Given as goal

abbrev pub invariant-loop-i : goal.invariant-loop-i
invariant-loop-i l = vec_items l.all ≡ vec_items l.initial.all ++ repeated l._i l.octets
