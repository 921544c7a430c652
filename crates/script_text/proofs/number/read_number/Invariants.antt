use Rattle.std.proofs.Common.{◌≡◌, ◌≤◌, drop, Some}
use Rattle.script_text.specs.Numbers.{limit, digits_after, number_of}
use Rattle.script_text.proofs.number.read_number.Given as goal

abbrev pub invariant-loop-i : goal.invariant-loop-i
invariant-loop-i l = (l.number ≤ limit) × (digits_after (Some l.number) (drop l.i l.text) ≡ number_of l.text)
