use Rattle.std.proofs.Common.{arith}
use Rattle.end_writer.proofs.Lengths.{wrapped_within}
use Rattle.end_writer.proofs.messages.write_client_key_exchange.Goals as goal

pub write_handshake-requires : goal.write_handshake-requires
write_handshake-requires c =
    let w = wrapped_within c.args.wrapped.now c.requires.least c.requires.most in
    let s = w.short in
    record { fits = w.fits; most = w.most; room = omega (arith, c.requires.room) }

pub returns : goal.returns
returns c =
    record { end = c.write_handshake.ensures.end; after = c.write_handshake.ensures.after; joined = c.write_handshake.ensures.joined }
