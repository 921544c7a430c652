use Rattle.std.proofs.Common.{arith}
use Rattle.handshake.specs.Hellos.{client_hello_body}
use Rattle.end_writer.proofs.Lengths.{offer_within}
use Rattle.end_writer.proofs.messages.write_client_hello.Goals as goal

pub write_handshake-requires : goal.write_handshake-requires
write_handshake-requires c =
    let w = offer_within c.args.random.now c.args.suites.now (omega arith) c.requires.least c.requires.most in
    let s = w.short in
    record { fits = w.fits; most = w.most; room = omega (arith, c.requires.room) }

pub returns : goal.returns
unfolding client_hello_body
returns c =
    record { end = c.write_handshake.ensures.end; after = c.write_handshake.ensures.after; joined = c.write_handshake.ensures.joined }
