use Rattle.model.specs.Endpoint.{no_keys}
use Rattle.end_state.proofs.state.State.key.Goals as goal

pub returns : goal.returns
unfolding no_keys
returns g c = simp (c.make_keys.ensures.held, c.make_keys.ensures.master, c.make_keys.ensures.premaster, c.make_keys.ensures.material)
