use Rattle.std.proofs.Common.{rules}
use Rattle.std.proofs.lemmas.List.{take-take}
use Rattle.end_state.proofs.state.HandshakeBuffer.front.Goals as goal

pub returns : goal.returns
returns c = search (rules, take-take)
