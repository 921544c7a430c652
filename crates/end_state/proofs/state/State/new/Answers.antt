use Rattle.model.specs.Endpoint.{no_master, no_random, no_keys}
use Rattle.end_state.proofs.state.State.new.Goals as goal

pub returns : goal.returns
unfolding no_master no_random no_keys
returns c held = simp (c.first_stage.ensures, c.new.ensures, c.new-2.ensures)
