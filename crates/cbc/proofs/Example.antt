-- The example, computed.
use Rattle.std.proofs.Common.{refl}
use Rattle.sm4.specs.Cipher.{crypt, round_keys, cks}
use Rattle.sm4.specs.Transform.{transform, transform_key, tau}
use Rattle.cbc.specs.Cbc.{encrypt_blocks, decrypt_blocks, cbc_encrypt, cbc_decrypt}
use Rattle.cbc.specs.Laws.{Example}

pub example_computes : Example
unfolding crypt round_keys cks transform transform_key tau encrypt_blocks decrypt_blocks cbc_encrypt cbc_decrypt
example_computes = (refl, refl)
