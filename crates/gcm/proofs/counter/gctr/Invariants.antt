use Rattle.std.proofs.Common.{◌≡◌, ◌-◌, ◌*◌, ◌++◌, take, drop}
use Rattle.sm4.specs.View.{keys_of}
use Rattle.gcm.specs.Blocks.{block_count}
use Rattle.gcm.specs.Counter.{gctr_from}
use Rattle.gcm.proofs.counter.gctr.Given as goal

abbrev pub invariant-loop-i : goal.invariant-loop-i
invariant-loop-i l =
    take (l.i * 16) l.octets ++ gctr_from (keys_of l.cipher) (block_count l.initial.octets - l.i) l.counter (drop (l.i * 16) l.octets)
    ≡ gctr_from (keys_of l.cipher) (block_count l.initial.octets) l.start l.initial.octets
