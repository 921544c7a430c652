use Rattle.std.proofs.Common.{◌<◌, arith}
use Rattle.cbc_protection.specs.Padding.{least_pad}
use Rattle.cbc_protection.specs.Pads.{pad_cut, pad_laid}
use Rattle.cbc_protection.proofs.keys.records.lay_padding.Goals as goal

pub returns : goal.returns
returns c =
    let h : least_pad c.args.size < 256 = omega arith in
    let s = pad_cut (least_pad c.args.size) c.repeated-octets.result h c.repeated-octets.ensures in
    let z = pad_laid c.args.out.now c.args.at c.args.size c.requires s c.lay.ensures.after c.lay.ensures.end in
    record { end = z.0; after = z.1 }
