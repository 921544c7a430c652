-- The standard's example, computed.
use Rattle.std.proofs.Common.{refl}
use Rattle.sm4.specs.Cipher.{encrypt, decrypt, crypt, round_keys, cks}
use Rattle.sm4.specs.Laws.{Example}
use Rattle.sm4.specs.Transform.{transform, transform_key, tau}

pub example_computes : Example
unfolding encrypt decrypt crypt round_keys cks transform transform_key tau
example_computes = (refl, refl, refl)
