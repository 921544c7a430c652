-- The published vectors, computed.
use Rattle.std.proofs.Common.{refl}
use Rattle.sm4.specs.Transform.{transform, transform_key, tau}
use Rattle.sm4.specs.Cipher.{cks, crypt, round_keys}
use Rattle.gcm.specs.Field.{turns, product}
use Rattle.gcm.specs.Blocks.{value, filled}
use Rattle.gcm.specs.Ghash.{ghash}
use Rattle.gcm.specs.Counter.{gctr_from, gctr}
use Rattle.gcm.specs.Gcm.{J0, bits64, enciphered, digest, tag, seal_gcm, open_gcm}
use Rattle.gcm.specs.Vectors.{Hashes, Seals, Opens}

pub hashes : Hashes
unfolding product turns
hashes = refl

pub seals : Seals
unfolding seal_gcm enciphered tag digest J0 bits64 filled value ghash gctr gctr_from product turns round_keys crypt cks transform transform_key tau
seals = refl

pub opens : Opens
unfolding open_gcm enciphered tag digest J0 bits64 filled value ghash gctr gctr_from product turns round_keys crypt cks transform transform_key tau
opens = refl
