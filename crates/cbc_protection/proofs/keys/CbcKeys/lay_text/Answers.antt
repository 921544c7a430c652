use Rattle.std.proofs.Common.{◌≡◌, ◌+◌, ◌++◌, length, ap, ◌∙◌}
use Rattle.cbc_protection.specs.Layout.{mac}
use Rattle.cbc_protection.specs.Pads.{length_mac}
use Rattle.cbc_protection.specs.Sealed.{text_laid}
use Rattle.cbc_protection.proofs.keys.CbcKeys.lay_text.Goals as goal
use Rattle.octets.specs.Laid.{laid}
use Rattle.cbc_protection.specs.Padding.{padded}

pub returns : goal.returns
returns c =
    let k = c.args.self.now in
    let x = c.args.content.now in
    let g = c.tag_of-mac.result in
    let e : g ≡ mac k.role k.material c.args.number c.args.kind x = c.tag_of-mac.ensures in
    let lg = ap length e ∙ length_mac k.role k.material c.args.number c.args.kind x in
    let z = text_laid c.args.out.now x g c.args.at lg c.requires.1 c.lay-behind.ensures.after c.lay-behind.ensures.end c.lay-end.ensures.after c.lay-end.ensures.end c.lay_padding.ensures.after c.lay_padding.ensures.end in
    record { end = z.0 ∙ ap (λ v. c.args.at + length (padded (x ++ v))) e; after = z.1 ∙ ap (λ v. laid c.args.out.now c.args.at (padded (x ++ v))) e }
