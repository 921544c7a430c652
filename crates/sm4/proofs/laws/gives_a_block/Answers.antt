use Rattle.sm4.proofs.Undo.{gives}
use Rattle.sm4.proofs.laws.gives_a_block.Goals as goal

pub returns : goal.returns
returns c = gives
