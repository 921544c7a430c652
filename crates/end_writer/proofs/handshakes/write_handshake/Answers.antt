use Rattle.sm3.specs.View.{view}
use Rattle.end_writer.proofs.Joined.{joins}
use Rattle.end_writer.proofs.handshakes.write_handshake.Goals as goal

pub returns : goal.returns
returns g c =
    let j = joins g.M.HandshakeMessage.kind (g.M.HandshakeMessage.parts c.args.message.now) c.args.out.now c.args.at (view c.args.transcript.now)
    c.requires.fits c.requires.most c.requires.room
    c.write_message.ensures.end c.write_message.ensures.after c.unwrap_or-end.ensures c.update.ensures
    c.write_header.ensures.end c.write_header.ensures.after c.unwrap_or.ensures in
    record { end = j.end; after = j.after; joined = j.joined }
