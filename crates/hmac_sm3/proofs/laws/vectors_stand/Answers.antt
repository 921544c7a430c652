use Rattle.std.proofs.Common.{refl}
use Rattle.sm3.specs.Compress.{rounds, words, expand, compress}
use Rattle.sm3.specs.Hash.{sm3, pad, padding, blocks, output}
use Rattle.hmac_sm3.specs.Hmac.{hmac, filled, xored}
use Rattle.hmac_sm3.specs.Prf.{link, expansion, p_hash, prf}
use Rattle.hmac_sm3.proofs.laws.vectors_stand.Goals as goal

pub returns : goal.returns
unfolding sm3 pad padding blocks output rounds words expand compress hmac filled xored link expansion p_hash prf
returns c = record { standard = refl; none = refl; hashed = refl; twelve = refl; long = refl }
