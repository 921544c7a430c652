use Rattle.std.proofs.Common.{◌≡◌, Err, sym, ◌∙◌, rules}
use Rattle.handshake.specs.Views.{seen_server_hello}
use Rattle.end_rules.proofs.Taken.{server_stops, server_taken}
use Rattle.end_rules.proofs.message.judge_server_hello.Goals as goal

pub returns-in_err-hello : goal.returns-in_err-hello
returns-in_err-hello c = λ m rest.
    let e : c.from_residual.result ≡ Err c.in_err-hello.field-0.0 = search rules in
    server_stops c.args.body.now c.args.offered.now m rest _ c.from_residual.result c.in_err-hello.field-0.0 e c.in_err-hello.ensures

pub returns : goal.returns
returns c = λ m rest.
    server_taken c.args.body.now c.args.offered.now m rest (seen_server_hello c.in_ok-hello.hello) c.random_of.result
    c.in_ok-hello.ensures (sym c.is_among.ensures ∙ c.if-not-is_among.false) c.if-hello-ne-NULL_COMPRESSION.false c.random_of.ensures
