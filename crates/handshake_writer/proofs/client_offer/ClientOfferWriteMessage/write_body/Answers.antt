use Rattle.std.proofs.Common.{not, sym, refl, ap, ◌∙◌}
use Rattle.octets.specs.Numbers.{two}
use Rattle.handshake.specs.Kinds.{client_hello_parts}
use Rattle.handshake_writer.specs.Views.{seen_offer}
use Rattle.handshake_writer.proofs.Layings.{laying, then, body_laid}
use Rattle.handshake.proofs.Lengths.{from_words-length}
use Rattle.handshake_writer.proofs.client_offer.ClientOfferWriteMessage.write_body.Goals as goal

pub returns : goal.returns
returns c =
    let ss = c.args.self.now.suites.now in
    let n = c.two_octets.ensures in
    let e = n ∙ ap two (sym (from_words-length ss)) in
    body_laid (client_hello_parts (seen_offer c.args.self.now)) c.size.ensures (c.is_none.ensures ∙ ap not c.if-is_none.false)
    (then (laying refl c.lay-at.ensures.end c.lay-at.ensures.after)
    (then (laying refl c.lay-at-2.ensures.end c.lay-at-2.ensures.after)
    (then (laying refl c.lay-at-3.ensures.end c.lay-at-3.ensures.after)
    (then (laying e c.lay-at-4.ensures.end c.lay-at-4.ensures.after)
    (then (laying refl c.lay_suites-at.ensures.end c.lay_suites-at.ensures.after)
    (laying refl c.lay.ensures.end c.lay.ensures.after))))))
