use Rattle.std.proofs.Common.{rules}
use Rattle.octets.proofs.Lays.{take-laid}
use Rattle.end_state.proofs.state.HandshakeBuffer.append.Goals as goal

pub returns : goal.returns
returns c = search (rules, take-laid)
