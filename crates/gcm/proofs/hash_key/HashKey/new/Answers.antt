use Rattle.std.proofs.Common.{arith}
use Rattle.std.proofs.lemmas.List.FromFn.{fill_by_all}
use Rattle.gcm.specs.Field.{turns}
use Rattle.gcm.specs.Tables.{multiples}
use Rattle.gcm.proofs.hash_key.HashKey.new.Goals as goal

pub invariant_of-result : goal.invariant_of-result
unfolding multiples
invariant_of-result c =
    record { filled = fill_by_all (λ octet. turns 8 octet 0 c.args.h) c.loop-i.table 256 0 c.loop-i.invariant.0 (λ k l. c.loop-i.invariant.1 k (omega arith)) }
