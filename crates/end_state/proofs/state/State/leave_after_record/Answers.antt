use Rattle.model.specs.Endpoint.{no_master}
use Rattle.end_state.proofs.state.State.leave_after_record.Goals as goal

pub returns-then-protected : goal.returns-then-protected
unfolding no_master
returns-then-protected c held = simp c.if-protected.true

pub returns-else-protected : goal.returns-else-protected
unfolding no_master
returns-else-protected c held = simp c.if-protected.false
