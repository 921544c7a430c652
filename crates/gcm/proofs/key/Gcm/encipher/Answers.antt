use Rattle.sm4.specs.View.{keys_of}
use Rattle.gcm.proofs.Seals.{enciphered_is}
use Rattle.gcm.proofs.key.Gcm.encipher.Goals as goal

pub returns : goal.returns
returns c =
    enciphered_is (keys_of c.args.self.now.cipher) c.args.nonce.now c.args.octets.now c.text_block.ensures c.gctr.ensures
