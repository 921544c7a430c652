use Rattle.std.proofs.Common.{◌≡◌, ◌++◌, length, take, drop}
use Rattle.cbc.specs.Cbc.{xors}
use Rattle.cbc.proofs.blocks.xor.Given as goal

abbrev pub invariant-loop-i : goal.invariant-loop-i
invariant-loop-i l = (length l.out ≡ 16) × (take l.i l.out ++ xors (drop l.i l.out) (drop l.i l.other) ≡ xors l.initial.out l.other)
