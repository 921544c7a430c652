use Rattle.std.proofs.Common.{refl}
use Rattle.handshake.specs.declared.types.HandshakeType.TheVariants.{ClientHello, ServerHello, Certificate, ServerKeyExchange, ServerHelloDone, ClientKeyExchange, Finished}
use Rattle.model.specs.declared.stage.Stage.TheVariants.{AwaitServerHello, AwaitCertificate, AwaitServerKeyExchange, AwaitServerHelloDone, ClientAwaitFinished, AwaitClientHello, AwaitClientKeyExchange, ServerAwaitFinished}
use Rattle.end_state.specs.View.{state_view}
use Rattle.end_turning.proofs.Turns.{awaited}
use Rattle.end_turning.proofs.judging.judge_message.Goals as goal

pub returns-in-AwaitClientHello-ClientHello : goal.returns-in-AwaitClientHello-ClientHello
returns-in-AwaitClientHello-ClientHello c held m xs l =
    awaited AwaitClientHello ClientHello (state_view held c.args.state.now) c.args.number m c.args.body.now xs refl c.in-Some.ensures
    c.in-AwaitClientHello-ClientHello.is-0 c.in-AwaitClientHello-ClientHello.is-1 (c.turn_client_hello.ensures held m xs)

pub returns-in-AwaitServerHello-ServerHello : goal.returns-in-AwaitServerHello-ServerHello
returns-in-AwaitServerHello-ServerHello c held m xs l =
    awaited AwaitServerHello ServerHello (state_view held c.args.state.now) c.args.number m c.args.body.now xs refl c.in-Some.ensures
    c.in-AwaitServerHello-ServerHello.is-0 c.in-AwaitServerHello-ServerHello.is-1 (c.turn_server_hello.ensures held m xs)

pub returns-in-AwaitCertificate-Certificate : goal.returns-in-AwaitCertificate-Certificate
returns-in-AwaitCertificate-Certificate c held m xs l =
    awaited AwaitCertificate Certificate (state_view held c.args.state.now) c.args.number m c.args.body.now xs refl c.in-Some.ensures
    c.in-AwaitCertificate-Certificate.is-0 c.in-AwaitCertificate-Certificate.is-1 (c.turn_certificate.ensures (state_view held c.args.state.now) m xs)

pub returns-in-AwaitServerKeyExchange-ServerKeyExchange : goal.returns-in-AwaitServerKeyExchange-ServerKeyExchange
returns-in-AwaitServerKeyExchange-ServerKeyExchange c held m xs l =
    awaited AwaitServerKeyExchange ServerKeyExchange (state_view held c.args.state.now) c.args.number m c.args.body.now xs refl c.in-Some.ensures
    c.in-AwaitServerKeyExchange-ServerKeyExchange.is-0 c.in-AwaitServerKeyExchange-ServerKeyExchange.is-1 (c.turn_signature.ensures (state_view held c.args.state.now) m xs)

pub returns-in-AwaitServerHelloDone-ServerHelloDone : goal.returns-in-AwaitServerHelloDone-ServerHelloDone
returns-in-AwaitServerHelloDone-ServerHelloDone c held m xs l =
    awaited AwaitServerHelloDone ServerHelloDone (state_view held c.args.state.now) c.args.number m c.args.body.now xs refl c.in-Some.ensures
    c.in-AwaitServerHelloDone-ServerHelloDone.is-0 c.in-AwaitServerHelloDone-ServerHelloDone.is-1 (c.turn_done.ensures (state_view held c.args.state.now) m xs)

pub returns-in-AwaitClientKeyExchange-ClientKeyExchange : goal.returns-in-AwaitClientKeyExchange-ClientKeyExchange
returns-in-AwaitClientKeyExchange-ClientKeyExchange c held m xs l =
    awaited AwaitClientKeyExchange ClientKeyExchange (state_view held c.args.state.now) c.args.number m c.args.body.now xs refl c.in-Some.ensures
    c.in-AwaitClientKeyExchange-ClientKeyExchange.is-0 c.in-AwaitClientKeyExchange-ClientKeyExchange.is-1 (c.turn_wrapped.ensures (state_view held c.args.state.now) m xs)

pub returns-in-ClientAwaitFinished-Finished : goal.returns-in-ClientAwaitFinished-Finished
returns-in-ClientAwaitFinished-Finished c held m xs l =
    awaited ClientAwaitFinished Finished (state_view held c.args.state.now) c.args.number m c.args.body.now xs refl c.in-Some.ensures
    c.in-ClientAwaitFinished-Finished.is-0 c.in-ClientAwaitFinished-Finished.is-1 (c.finish_client.ensures held m xs l)

pub returns-in-ServerAwaitFinished-Finished : goal.returns-in-ServerAwaitFinished-Finished
returns-in-ServerAwaitFinished-Finished c held m xs l =
    awaited ServerAwaitFinished Finished (state_view held c.args.state.now) c.args.number m c.args.body.now xs refl c.in-Some.ensures
    c.in-ServerAwaitFinished-Finished.is-0 c.in-ServerAwaitFinished-Finished.is-1 (c.finish_server.ensures held m xs l)
