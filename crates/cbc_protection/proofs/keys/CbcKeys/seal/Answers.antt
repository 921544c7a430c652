use Rattle.std.proofs.Common.{◌≡◌, ◌+◌, ◌%◌, ◌≤◌, length, arith}
use Rattle.sm4.specs.Cipher.{round_keys}
use Rattle.cbc_protection.specs.Layout.{key_of}
use Rattle.cbc_protection.specs.Records.{text_of}
use Rattle.cbc_protection.specs.Sealed.{length_text, sealed_laid}
use Rattle.cbc_protection.proofs.keys.CbcKeys.seal.Goals as goal

pub slice_bounds-encrypt-end : goal.slice_bounds-encrypt-end
slice_bounds-encrypt-end c =
    let k = c.args.self.now in
    let l = length_text k.role k.material c.args.number c.args.kind c.args.content.now in
    omega (arith, c.lay_text-end.ensures.end)

pub returns : goal.returns
returns c =
    let k = c.args.self.now in
    let x = c.args.content.now in
    let T = text_of k.role k.material c.args.number c.args.kind x in
    let l = length_text k.role k.material c.args.number c.args.kind x in
    let w : length T % 16 ≡ 0 = omega arith in
    let h : 16 + length T ≤ length c.args.out.now = omega arith in
    let z = sealed_laid (round_keys (key_of k.role k.material)) c.args.fresh.now T c.args.out.now c.requires.fresh w h k.writes c.sixteen-iv.ensures c.lay-at.ensures.after c.lay-at.ensures.end c.lay_text-end.ensures.after c.lay_text-end.ensures.end c.encrypt.ensures.after in
    record { end = z.0; after = z.1 }
