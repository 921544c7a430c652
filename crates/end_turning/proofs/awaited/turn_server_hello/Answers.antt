use Rattle.std.proofs.Common.{rules}
use Rattle.model.proofs.Alone.{on_server_hello_alone}
use Rattle.end_turning.proofs.awaited.turn_server_hello.Goals as goal

pub returns-in_err-hello : goal.returns-in_err-hello
returns-in_err-hello c = λ held m xs. rw on_server_hello_alone (search rules)

pub returns : goal.returns
returns c = λ held m xs. rw on_server_hello_alone (search rules)
