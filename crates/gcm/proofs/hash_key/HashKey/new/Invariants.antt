use Rattle.std.proofs.Common.{◌≡◌, ℕ, ◌<◌, length, get_or}
use Rattle.gcm.specs.Field.{turns}
use Rattle.gcm.proofs.hash_key.HashKey.new.Given as goal

abbrev pub invariant-loop-i : goal.invariant-loop-i
invariant-loop-i l = (length l.table ≡ 256) × ((k : ℕ) → k < l.i → get_or l.table k 0 ≡ turns 8 k 0 l.h)
