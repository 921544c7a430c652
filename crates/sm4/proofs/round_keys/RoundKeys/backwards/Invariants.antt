use Rattle.std.proofs.Common.{◌≡◌, reverse, take}
use Rattle.sm4.specs.Cipher.{rounds}
use Rattle.sm4.specs.View.{quad_of}
use Rattle.sm4.proofs.round_keys.RoundKeys.backwards.Given as goal

abbrev pub invariant-loop-i : goal.invariant-loop-i
invariant-loop-i l = rounds (reverse (take l.i l.self.words)) (quad_of l.state) ≡ rounds (reverse l.self.words) (quad_of l.initial.state)
