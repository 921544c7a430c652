use Rattle.std.proofs.Common.{◌<◌, length, get_or, arith, rules}
use lib.Bits.{bit_xor}
use Rattle.std.proofs.lemmas.List.{take_more_set, length-set, take_all, map_more}
use Rattle.hmac_sm3.specs.Hmac.{xored}
use Rattle.hmac_sm3.proofs.mac.padded.Goals as goal

pub loop-i-preserved : goal.loop-i-preserved
loop-i-preserved c =
    let lt : c.loop-i.i < length c.loop-i.out = omega arith in
    let lb : c.loop-i.i < length c.args.block.now = omega arith in
    let a = take_more_set c.loop-i.out c.loop-i.i (bit_xor (get_or c.args.block.now c.loop-i.i 0) c.args.pad) lt in
    let b = map_more (λ x. bit_xor x c.args.pad) c.args.block.now c.loop-i.i 0 lb in
    (simp length-set c.loop-i.invariant.0, cc)

pub returns : goal.returns
unfolding xored
returns c = search (rules, take_all)
