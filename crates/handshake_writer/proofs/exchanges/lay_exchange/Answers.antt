use Rattle.std.proofs.Common.{not, refl, ap, ◌∙◌}
use Rattle.handshake.specs.Exchanges.{exchange_body}
use Rattle.handshake.specs.Kinds.{server_key_exchange_parts}
use Rattle.handshake_writer.proofs.Layings.{laying, then, body_laid}
use Rattle.handshake_writer.proofs.exchanges.lay_exchange.Goals as goal

pub returns : goal.returns
unfolding exchange_body
returns c =
    body_laid (server_key_exchange_parts c.args.carried.now) c.exchange_size.ensures (c.is_none.ensures ∙ ap not c.if-is_none.false)
    (then (laying c.two_octets.ensures c.lay-at.ensures.end c.lay-at.ensures.after)
    (laying refl c.lay.ensures.end c.lay.ensures.after))
