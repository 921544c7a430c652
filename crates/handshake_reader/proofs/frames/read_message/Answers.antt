use Rattle.std.proofs.Common.{◌∙◌}
use Rattle.handshake_reader.proofs.Framing.{read_longer, read_alone}
use Rattle.handshake_reader.proofs.frames.read_message.Goals as goal

pub returns-then-octets-length : goal.returns-then-octets-length
returns-then-octets-length g c =
    read_longer g.M.HandshakeMessage.kind c.args.octets.now c.in-Ready.kind c.in-Ready.length c.in-Ready.ensures
    (c.if-kind.false ∙ c.kind.ensures) c.if-octets-length.true

pub returns-else-octets-length : goal.returns-else-octets-length
returns-else-octets-length g c =
    c.read.ensures
    ∙ read_alone g.M.HandshakeMessage.kind c.args.octets.now c.in-Ready.kind c.in-Ready.length c.in-Ready.ensures
    (c.if-kind.false ∙ c.kind.ensures) c.if-octets-length.false
