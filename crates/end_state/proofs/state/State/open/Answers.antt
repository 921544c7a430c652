use Rattle.std.proofs.Common.{refl}
use Rattle.model.specs.Endpoint.{no_master}
use Rattle.end_state.proofs.state.State.open.Goals as goal

pub returns : goal.returns
unfolding no_master
returns c held = refl
