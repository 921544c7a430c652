use Rattle.std.proofs.Common.{not, refl, ap, ◌∙◌}
use Rattle.handshake.specs.Kinds.{server_hello_parts}
use Rattle.handshake.specs.Views.{seen_server_hello}
use Rattle.handshake_writer.proofs.Layings.{laying, then, body_laid}
use Rattle.handshake_writer.proofs.server_hello.ServerHelloWriteMessage.write_body.Goals as goal

pub returns : goal.returns
returns c =
    body_laid (server_hello_parts (seen_server_hello c.args.self.now)) c.size.ensures (c.is_none.ensures ∙ ap not c.if-is_none.false)
    (then (laying refl c.lay-at.ensures.end c.lay-at.ensures.after)
    (then (laying refl c.lay-at-2.ensures.end c.lay-at-2.ensures.after)
    (then (laying refl c.lay-at-3.ensures.end c.lay-at-3.ensures.after)
    (then (laying refl c.lay-at-4.ensures.end c.lay-at-4.ensures.after)
    (then (laying c.two_octets.ensures c.lay-at-5.ensures.end c.lay-at-5.ensures.after)
    (laying refl c.lay.ensures.end c.lay.ensures.after))))))
