use Rattle.std.proofs.Common.{◌≡◌, ◌-◌, ◌/◌, ◌<◌, length, refl, ap, ◌∙◌, arith}
use Rattle.sm4.specs.Cipher.{crypt}
use Rattle.sm4.specs.View.{keys_of}
use Rattle.gcm.specs.Blocks.{block_count}
use Rattle.gcm.specs.Counter.{gctr_from, gctr}
use Rattle.gcm.proofs.Counts.{gctr_more, gctr_whole, gctr_last}
use Rattle.gcm.proofs.counter.gctr.Goals as goal

pub loop-i-init : goal.loop-i-init
loop-i-init c =
    let e : block_count c.args.octets.now - 0 ≡ block_count c.args.octets.now = omega arith in
    ap (λ n. gctr_from (keys_of c.args.cipher.now) n c.args.start c.args.octets.now) e

pub loop-i-preserved : goal.loop-i-preserved
loop-i-preserved c =
    let h : c.loop-i.i < block_count c.args.octets.now = omega arith in
    gctr_more (keys_of c.args.cipher.now) c.loop-i.octets c.loop-i.i (block_count c.args.octets.now) c.loop-i.counter
    h (omega arith) (c.encrypt-pad.ensures ∙ ap (crypt (keys_of c.args.cipher.now)) c.to_be_bytes.ensures) c.add.ensures refl
    c.inc32-counter.ensures c.loop-i.invariant

pub returns-then-whole-octets : goal.returns-then-whole-octets
unfolding gctr
returns-then-whole-octets c =
    let e : c.loop-i.i ≡ length c.args.octets.now / 16 = omega arith in
    gctr_last (keys_of c.args.cipher.now) c.loop-i.octets (length c.args.octets.now / 16) (block_count c.args.octets.now)
    c.loop-i.counter (omega arith) (omega arith)
    (c.encrypt-pad-then-whole-octets.ensures ∙ ap (crypt (keys_of c.args.cipher.now)) c.to_be_bytes-then-whole-octets.ensures)
    c.add-then-whole-octets.ensures refl (rw (← e) c.loop-i.invariant)

pub returns-else-whole-octets : goal.returns-else-whole-octets
unfolding gctr
returns-else-whole-octets c =
    gctr_whole (keys_of c.args.cipher.now) c.loop-i.octets c.loop-i.i (block_count c.args.octets.now) c.loop-i.counter
    (omega arith) (omega arith) c.loop-i.invariant
