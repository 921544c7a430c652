use Rattle.std.proofs.Common.{arith}
use Rattle.end_writer.specs.Kind.{kind_of}
use Rattle.end_writer.proofs.Following.{placed}
use Rattle.end_state.specs.View.{view}
use Rattle.end_answering.proofs.Exchanged.{exchange_short, exchanged}
use Rattle.end_answering.proofs.keying.exchange.Goals as goal

pub write_change-at-requires : goal.write_change-at-requires
write_change-at-requires g c =
    let s = exchange_short c.args.wrapped.now c.requires.least c.requires.most in
    let e = c.write_client_key_exchange-at.ensures.end in
    omega arith

pub write_finished-written-requires : goal.write_finished-written-requires
write_finished-written-requires g c =
    let s = exchange_short c.args.wrapped.now c.requires.least c.requires.most in
    let e = c.write_client_key_exchange-at.ensures.end in
    let n = c.write_change-at.ensures.end in
    record { fresh = c.requires.fresh; room = omega arith }

pub returns : goal.returns
returns g c =
    let P = kind_of g.P.RecordProtection.serves g.P.RecordProtection.size g.P.RecordProtection.sealing g.P.RecordProtection.opening in
    let e = view g.P.RecordProtection.holds c.args.end.now in
    let a = c.write_client_key_exchange-at.ensures in
    let b = c.write_change-at.ensures in
    let d = c.write_finished-written.ensures in
    exchanged P c.args.fresh.now e c.args.premaster.now c.args.wrapped.now
    c.key.ensures a.joined c.verify_data-verify_data.ensures d.joined c.args.out.now
    (placed a.end a.after) (placed b.end b.after) (placed d.end d.after) (c.begin_sealing.ensures _)
