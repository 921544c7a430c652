use Rattle.end_state.proofs.Buffers.{front_left}
use Rattle.end_state.proofs.state.HandshakeBuffer.remove_front.Goals as goal

pub returns : goal.returns
returns c = front_left _ c.args.self.now.octets c.args.n c.args.self.now.len c.requires c.move_down.ensures
