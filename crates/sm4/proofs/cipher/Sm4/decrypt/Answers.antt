use Rattle.std.proofs.Common.{rules}
use Rattle.sm4.specs.Cipher.{crypt}
use Rattle.sm4.proofs.cipher.Sm4.decrypt.Goals as goal

pub returns : goal.returns
unfolding crypt
returns c = search rules
