use Rattle.std.proofs.Common.{◌+◌, ◌*◌, ◌<◌, length, sym, arith}
use Rattle.hex_text.proofs.Decodes.{decode_more, decode_all}
use Rattle.hex_text.proofs.decode.Goals as goal

pub loop-i-preserved : goal.loop-i-preserved
loop-i-preserved c =
    let h : 2 * c.loop-i.i + 1 < length c.args.text.now = omega arith in
    let e = c.in-Some.ensures in
    decode_more c.args.text.now _ _ c.loop-i.i c.in-Some.x h (sym e) c.in_ok-push-in-Some.ensures.items c.loop-i.invariant

pub returns : goal.returns
returns c = decode_all c.args.text.now _ c.loop-i.i (omega arith) c.loop-i.invariant
