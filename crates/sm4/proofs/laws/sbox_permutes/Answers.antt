use Rattle.sm4.proofs.Permutes.{permutes}
use Rattle.sm4.proofs.laws.sbox_permutes.Goals as goal

pub returns : goal.returns
returns c = permutes
