use Rattle.std.proofs.Common.{◌≡◌, ◌-◌, ap, arith}
use Rattle.gcm.specs.Blocks.{blocks, block_count, filled}
use Rattle.gcm.specs.Ghash.{hashed}
use Rattle.gcm.proofs.Hashes.{hash_more, hash_whole, hash_last}
use Rattle.gcm.proofs.ghash.absorb.Goals as goal

pub loop-i-init : goal.loop-i-init
loop-i-init c =
    let e : block_count c.args.octets.now - 0 ≡ block_count c.args.octets.now = omega arith in
    ap (λ n. hashed c.args.key.now.h c.args.y (blocks n (filled c.args.octets.now))) e

pub loop-i-preserved : goal.loop-i-preserved
loop-i-preserved c =
    hash_more c.args.key.now.h c.args.octets.now c.loop-i.i c.loop-i.sum (omega arith) c.block_at.ensures c.load.ensures
    c.times-sum.ensures c.loop-i.invariant

pub returns-then-octets-eq0 : goal.returns-then-octets-eq0
returns-then-octets-eq0 c =
    hash_whole c.args.key.now.h c.args.octets.now c.loop-i.i c.loop-i.sum (omega arith) (omega arith) c.loop-i.invariant

pub returns : goal.returns
returns c =
    hash_last c.args.key.now.h c.args.octets.now c.loop-i.i c.loop-i.sum (omega arith) (omega arith) c.last_block.ensures
    c.load-2.ensures c.times.ensures c.loop-i.invariant
