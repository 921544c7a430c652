use Rattle.std.proofs.Common.{refl}
use Rattle.sm3.specs.Hash.{start}
use Rattle.sm3.proofs.Filling.{same}
use Rattle.sm3.proofs.hash.Sm3.new.Goals as goal

pub returns : goal.returns
unfolding start
returns c = same c.new.ensures refl refl
