use Rattle.std.proofs.Common.{◌≡◌, ◌++◌, length, take, drop}
use Rattle.sm4.specs.Cipher.{schedule, cks}
use Rattle.sm4.specs.View.{quad_of}
use Rattle.sm4.proofs.round_keys.RoundKeys.expand.Given as goal

abbrev pub invariant-loop-i : goal.invariant-loop-i
invariant-loop-i l =
    (length l.words ≡ 32) × (take l.i l.words ++ schedule (drop l.i cks) (quad_of l.state) ≡ schedule cks (quad_of l.initial.state))
