use Rattle.std.proofs.Common.{take, drop, refl, ap}
use Rattle.end_state.specs.View.{buffer_view}
use Rattle.end_writer.specs.Kind.{kind_of}
use Rattle.end_turning.specs.declared.judging.TurnEffect.TheVariants.{Nothing, TakeClientHello, TakeServerHello, TakeDone, KeepCertificates, KeepSignature, KeepWrapped}
use Rattle.end_state.specs.View.{view}
use Rattle.end_turning.proofs.TurnsDone.{turned_quietly}
use Rattle.end_turning.proofs.turning.do_turn.Goals as goal
use Rattle.end_turning.proofs.turning.do_turn.Goals.{in-Nothing, in-TakeClientHello, in-TakeServerHello, in-TakeDone, in-KeepCertificates, in-KeepSignature, in-KeepWrapped}

pub returns : goal.returns
returns g c =
    let P = kind_of g.P.RecordProtection.serves g.P.RecordProtection.size g.P.RecordProtection.sealing g.P.RecordProtection.opening in
    let e = view g.P.RecordProtection.holds c.args.end.now in
    let held = g.P.RecordProtection.holds c.args.end.now.protection in
    let xs = buffer_view c.args.end.now.state.buffer in
    let m = take c.args.turn.size xs in
    let rest = drop c.args.turn.size xs in
    elim c.match-turn.branch [
      | in-Nothing w ↦
          turned_quietly P c.args.fresh.now e c.args.out.now m rest Nothing c.report.result w.in-Nothing.is c.report.ensures (ap (view g.P.RecordProtection.holds) w.end-is) refl refl refl
      | in-TakeClientHello w ↦
          turned_quietly P c.args.fresh.now e c.args.out.now m rest (TakeClientHello w.in-TakeClientHello.hello) c.report.result w.in-TakeClientHello.is c.report.ensures (ap (view g.P.RecordProtection.holds) w.end-is) (w.take_client_hello.ensures held) refl refl
      | in-TakeServerHello w ↦
          turned_quietly P c.args.fresh.now e c.args.out.now m rest (TakeServerHello w.in-TakeServerHello.hello) c.report.result w.in-TakeServerHello.is c.report.ensures (ap (view g.P.RecordProtection.holds) w.end-is) (w.take_server_hello.ensures held) refl refl
      | in-TakeDone w ↦
          turned_quietly P c.args.fresh.now e c.args.out.now m rest TakeDone c.report.result w.in-TakeDone.is c.report.ensures (ap (view g.P.RecordProtection.holds) w.end-is) (w.take_message_to.ensures held) refl refl
      | in-KeepCertificates w ↦
          turned_quietly P c.args.fresh.now e c.args.out.now m rest KeepCertificates c.report.result w.in-KeepCertificates.is c.report.ensures (ap (view g.P.RecordProtection.holds) w.end-is) (w.go_on.ensures held) refl refl
      | in-KeepSignature w ↦
          turned_quietly P c.args.fresh.now e c.args.out.now m rest KeepSignature c.report.result w.in-KeepSignature.is c.report.ensures (ap (view g.P.RecordProtection.holds) w.end-is) (w.go_on-in-KeepSignature.ensures held) refl refl
      | in-KeepWrapped w ↦
          turned_quietly P c.args.fresh.now e c.args.out.now m rest KeepWrapped c.report.result w.in-KeepWrapped.is c.report.ensures (ap (view g.P.RecordProtection.holds) w.end-is) (w.go_on-in-KeepWrapped.ensures held) refl refl
    ]
