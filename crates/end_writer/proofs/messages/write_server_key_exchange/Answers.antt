use Rattle.std.proofs.Common.{arith}
use Rattle.end_writer.proofs.Lengths.{signature_within}
use Rattle.end_writer.proofs.messages.write_server_key_exchange.Goals as goal

pub write_handshake-requires : goal.write_handshake-requires
write_handshake-requires c =
    let w = signature_within c.args.signature.now c.requires.least c.requires.most in
    let s = w.short in
    record { fits = w.fits; most = w.most; room = omega (arith, c.requires.room) }

pub returns : goal.returns
returns c =
    let w = signature_within c.args.signature.now c.requires.least c.requires.most in
    let s = w.short in
    let e = c.write_handshake.ensures.end in
    record { end = e; short = omega arith; after = c.write_handshake.ensures.after; joined = c.write_handshake.ensures.joined }
