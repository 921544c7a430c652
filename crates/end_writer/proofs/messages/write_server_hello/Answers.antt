use Rattle.std.proofs.Common.{arith}
use Rattle.handshake.specs.Hellos.{server_hello_body}
use Rattle.end_writer.proofs.Lengths.{answer_within}
use Rattle.end_writer.proofs.messages.write_server_hello.Goals as goal

pub write_handshake-requires : goal.write_handshake-requires
write_handshake-requires c =
    let w = answer_within c.args.random.now c.args.session.now c.args.suite c.requires.random c.requires.session in
    let s = w.short in
    record { fits = w.fits; most = w.most; room = omega (arith, c.requires.room) }

pub returns : goal.returns
unfolding server_hello_body
returns c =
    let w = answer_within c.args.random.now c.args.session.now c.args.suite c.requires.random c.requires.session in
    let s = w.short in
    let e = c.write_handshake.ensures.end in
    record { end = e; short = omega arith; after = c.write_handshake.ensures.after; joined = c.write_handshake.ensures.joined }
