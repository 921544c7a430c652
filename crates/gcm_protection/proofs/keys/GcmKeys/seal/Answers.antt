use Rattle.std.proofs.Common.{length, refl, ap, ◌∙◌, arith}
use Rattle.octets.specs.Numbers.{eight}
use Rattle.gcm_protection.specs.Layout.{key_of, nonce_of, additional}
use Rattle.gcm_protection.specs.Sealed.{seals_after, seals_end}
use Rattle.gcm_protection.proofs.keys.GcmKeys.seal.Goals as goal

pub returns : goal.returns
returns c =
    let x = c.args.content.now in
    let k = c.args.self.now in
    let e = eight c.args.number in
    let iv = nonce_of k.role k.material e in
    let a = additional c.args.number c.args.kind (length x) in
    let key = key_of k.role k.material in
    let ivs = c.nonce-nonce.ensures ∙ ap (nonce_of k.role k.material) c.eight_octets-explicit.ensures in
    record {
      end = seals_end key iv a x c.args.out.now e (omega arith) k.writes c.eight_octets-explicit.ensures ivs c.additional-data.ensures c.lay-at.ensures.after c.lay-at.ensures.end c.lay-end.ensures.after c.lay-end.ensures.end c.encrypt-tag.ensures.ciphertext c.encrypt-tag.ensures.tag refl c.lay.ensures.after c.lay.ensures.end;
      after = seals_after key iv a x c.args.out.now e (omega arith) k.writes c.eight_octets-explicit.ensures ivs c.additional-data.ensures c.lay-at.ensures.after c.lay-at.ensures.end c.lay-end.ensures.after c.lay-end.ensures.end c.encrypt-tag.ensures.ciphertext c.encrypt-tag.ensures.tag refl c.lay.ensures.after;
    }
