use Rattle.std.proofs.Common.{◌≡◌, drop}
use Rattle.sm4.specs.Cipher.{rounds}
use Rattle.sm4.specs.View.{quad_of}
use Rattle.sm4.proofs.round_keys.RoundKeys.forwards.Given as goal

abbrev pub invariant-loop-key : goal.invariant-loop-key
invariant-loop-key l = rounds (drop l.key-index l.self.words) (quad_of l.state) ≡ rounds l.self.words (quad_of l.initial.state)
