use Rattle.sm4.specs.View.{keys_of}
use Rattle.gcm.proofs.Seals.{tag_is}
use Rattle.gcm.proofs.key.Gcm.tag.Goals as goal

pub returns : goal.returns
returns c =
    tag_is (keys_of c.args.self.now.cipher) c.args.nonce.now c.args.aad.now c.args.octets.now c.args.self.now.keyed
    c.digest.ensures c.to_be_bytes-block.ensures c.first_block.ensures c.gctr.ensures
