use Rattle.std.proofs.Common.{◌≡◌, ℕ, ◌+◌, ◌-◌, ◌%◌, ◌^◌, ◌<◌, ◌≤◌, [], length, take}
use Rattle.sm3.specs.Hash.{absorb}
use Rattle.sm3.proofs.Filling.{run}
use Rattle.sm3.proofs.hash.Sm3.take_blocks.Given as goal

-- the blocks so far are taken, whatever the count was; the code brings it up to date at the end
abbrev pub invariant-loop-at : goal.invariant-loop-at
invariant-loop-at l =
    (l.at % 64 ≡ 0) × (l.at ≤ length l.octets) × (l.self.count ≡ l.initial.self.count)
    × ((n : ℕ) → n < 2 ^ 64 → run l.self.chain.words [] ((n + l.at) % 2 ^ 64) ≡ absorb (run l.initial.self.chain.words [] n) (take l.at l.octets))

abbrev pub decreases-loop-at : goal.decreases-loop-at
decreases-loop-at l = length l.octets - l.at
