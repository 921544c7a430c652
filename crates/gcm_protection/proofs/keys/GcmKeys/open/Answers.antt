use Rattle.std.proofs.Common.{◌≡◌, ◌≤◌, length, take, replicate, ap, ◌∙◌, arith, rules}
use Rattle.octets.specs.Roles.{peer}
use Rattle.gcm_protection.specs.Layout.{nonce_of}
use Rattle.gcm_protection.specs.View.{keying_of}
use Rattle.gcm_protection.specs.Opened.{tag_part, cipher_part, opens_to, opens_not}
use Rattle.gcm_protection.proofs.keys.GcmKeys.open.Goals as goal

pub returns : goal.returns
returns c =
    let k = c.args.self.now in
    let l = c.args.octets.now in
    let h : 24 ≤ length l = omega arith in
    let ivs : c.nonce-nonce.result ≡ nonce_of (peer k.role) k.material (take 8 l) =
    c.nonce-nonce.ensures ∙ ap (λ r. nonce_of r k.material (take 8 l)) c.peer.ensures in
    let first = cipher_part l _ _ c.lay.new.out c.wipe.ensures c.lay.ensures.after in
    let z = opens_to (keying_of k) c.args.number c.args.kind l c.args.place.now h (omega arith) k.reads ivs c.additional-data.ensures (tag_part l _ h c.sixteen-tag.ensures) first c.decrypt-right.ensures.right c.decrypt-right.ensures.plaintext c.if-not-right.false in
    record { answer = z.0; after = z.1 }

pub returns-then-not-right : goal.returns-then-not-right
returns-then-not-right c =
    let k = c.args.self.now in
    let l = c.args.octets.now in
    let place = c.args.place.now in
    let h : 24 ≤ length l = omega arith in
    let ivs : c.nonce-nonce.result ≡ nonce_of (peer k.role) k.material (take 8 l) =
    c.nonce-nonce.ensures ∙ ap (λ r. nonce_of r k.material (take 8 l)) c.peer.ensures in
    let first = cipher_part l _ _ c.lay.new.out c.wipe.ensures c.lay.ensures.after in
    let q = c.wipe-then-not-right.new.place in
    let zeros : q ≡ replicate (length place) 0 = search rules in
    let z = opens_not (keying_of k) c.args.number c.args.kind l place h (omega arith) k.reads ivs c.additional-data.ensures (tag_part l _ h c.sixteen-tag.ensures) first c.decrypt-right.ensures.right c.decrypt-right.ensures.plaintext q c.if-not-right.true zeros in
    record { answer = z.0; after = z.1 }
