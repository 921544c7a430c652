use Rattle.std.proofs.Common.{map, arith}
use Rattle.end_writer.proofs.Lengths.{chain_within}
use Rattle.end_writer.proofs.messages.write_certificate.Goals as goal

pub write_handshake-requires : goal.write_handshake-requires
write_handshake-requires c =
    let w = chain_within (map (λ x. x.now) c.args.certificates.now) c.requires.two in
    let s = w.short in
    record { fits = w.fits; most = w.most; room = omega (arith, c.requires.room) }

pub returns : goal.returns
returns c =
    let w = chain_within (map (λ x. x.now) c.args.certificates.now) c.requires.two in
    let s = w.short in
    let e = c.write_handshake.ensures.end in
    record { end = e; short = omega arith; after = c.write_handshake.ensures.after; joined = c.write_handshake.ensures.joined }
