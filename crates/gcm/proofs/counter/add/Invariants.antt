use Rattle.std.proofs.Common.{◌≡◌, ◌++◌, take, drop}
use Rattle.gcm.specs.Counter.{xored}
use Rattle.gcm.proofs.counter.add.Given as goal

abbrev pub invariant-loop-i : goal.invariant-loop-i
invariant-loop-i l = take l.i l.part ++ xored (drop l.i l.part) (drop l.i l.pad) ≡ xored l.initial.part l.pad
