use Rattle.std.proofs.Common.{◌+◌, ◌-◌, length, arith}
use Rattle.end_writer.specs.Kind.{kind_of}
use Rattle.end_writer.proofs.Sealed.{sealed_record}
use Rattle.end_writer.proofs.writing.write_sealed.Goals as goal

pub returns : goal.returns
returns g c =
    let P = kind_of g.P.RecordProtection.serves g.P.RecordProtection.size g.P.RecordProtection.sealing g.P.RecordProtection.opening in
    let held = g.P.RecordProtection.holds c.args.protection.now in
    let x = c.args.content.now in
    let f = c.args.fresh.now in
    let a = c.args.at in
    let o = c.args.out.now in
    let m = a + 5 + length x + 2048 - (a + 5) in
    let both = sealed_record P held c.args.number c.args.kind x f o a m
    c.requires.least c.requires.most c.requires.fresh c.requires.room (omega arith)
    c.seal-sealed.ensures.answer c.seal-sealed.ensures.after (omega arith) c.unwrap_or-n.ensures
    c.write_header.ensures.after c.write_header.ensures.end c.unwrap_or.ensures in
    record { end = both.0; after = both.1 }
