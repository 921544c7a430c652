use Rattle.std.proofs.Common.{◌+◌, ◌-◌, ◌≤◌, length, rules}
use Rattle.handshake_writer.proofs.Layings.{end_is, buffer_is}
use Rattle.handshake_writer.proofs.frames.write_message.Goals as goal

pub returns : goal.returns
returns g c =
    let p = g.M.HandshakeMessage.parts c.args.message.now in
    let k = g.M.HandshakeMessage.kind in
    let out = c.args.out.now in
    let at = c.args.at in
    let n = c.in_ok-size.size in
    let e = c.in_ok-size.ensures in
    let room : 4 + n ≤ length out - at = search rules in
    record {
      end = end_is k p out at n e room c.lay-body.result c.lay-body.ensures.end;
      after = buffer_is k p out at n e room c.lay-body.result c.kind.result c.three_octets.result _ _
          c.lay-body.ensures.end c.kind.ensures c.three_octets.ensures c.lay-body.ensures.after c.write_body.ensures;
    }
