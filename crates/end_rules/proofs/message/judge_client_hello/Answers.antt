use Rattle.std.proofs.Common.{◌≡◌, Err, sym, ◌∙◌, rules}
use Rattle.handshake_reader.specs.Views.{seen_client_hello}
use Rattle.end_rules.proofs.Taken.{client_stops, client_taken}
use Rattle.end_rules.proofs.message.judge_client_hello.Goals as goal

pub returns-in_err-hello : goal.returns-in_err-hello
returns-in_err-hello c = λ m rest.
    let e : c.from_residual.result ≡ Err c.in_err-hello.field-0.0 = search rules in
    client_stops c.args.body.now c.args.allowed.now m rest _ c.from_residual.result c.in_err-hello.field-0.0 e c.in_err-hello.ensures

pub returns-in-Some : goal.returns-in-Some
returns-in-Some c = λ m rest.
    client_taken c.args.body.now c.args.allowed.now m rest (seen_client_hello c.in_ok-hello.hello) c.in-Some.suite c.random_of.result
    c.in_ok-hello.ensures (sym c.offers_null_compression.ensures ∙ c.if-not-offers_null_compression.false) c.in-Some.ensures c.random_of.ensures
