use Rattle.std.proofs.Common.{◌≡◌, ℕ, ◌+◌, ◌*◌, refl, ap, ◌∙◌, arith}
use lib.Bits.{and_mask}
use Rattle.gcm.specs.Field.{product, turns}
use Rattle.gcm.proofs.Turns.{octet_more, left_more}
use Rattle.gcm.proofs.hash_key.HashKey.times.Goals as goal

pub loop-i-init : goal.loop-i-init
unfolding turns
loop-i-init c = (omega arith, refl)

pub loop-i-preserved : goal.loop-i-preserved
loop-i-preserved c =
    let n : ℕ = 8 * c.loop-i._i in
    let m : ℕ = 8 * (c.loop-i._i + 1) in (
      left_more c.args.x n m c.loop-i.left (omega arith) c.loop-i.invariant.0,
      octet_more c.args.self.now.h c.args.x n m c.loop-i.z c.loop-i.left _ c.args.self.now.table (omega arith)
          c.args.self.now.filled c.loop-i.invariant.0 (and_mask c.loop-i.left 8) c.shift_octet.ensures c.loop-i.invariant.1,
    )

pub returns : goal.returns
unfolding product
returns c = let e : 8 * c.loop-i._i ≡ 128 = omega arith in c.loop-i.invariant.1 ∙ ap (λ n. turns n c.args.x 0 c.args.self.now.h) e
