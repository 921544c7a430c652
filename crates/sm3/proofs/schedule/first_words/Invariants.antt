use Rattle.std.proofs.Common.{◌≡◌, ◌-◌, ◌++◌, map, length, replicate}
use Rattle.std.specs.List.{range_with_len}
use Rattle.sm3.specs.Compress.{word}
use Rattle.sm3.proofs.schedule.first_words.Given as goal

abbrev pub invariant-loop-i : goal.invariant-loop-i
invariant-loop-i l = (length l.ws ≡ 68) × (l.ws ≡ map (word l.block) (range_with_len 0 l.i) ++ replicate (68 - l.i) 0)
