use Rattle.std.proofs.Common.{sym, ◌∙◌}
use Rattle.std.proofs.lemmas.Bool.{cond-true, cond-false}
use Rattle.handshake_reader.proofs.Readings.{server_stops_1, server_stops_2, server_stops_3, server_cut}
use Rattle.handshake_reader.proofs.server_hello.read_server_hello.Goals as goal

pub returns-in_err-version : goal.returns-in_err-version
returns-in_err-version c = rw c.from_residual.ensures (server_stops_1 _ (sym c.in_err-version.ensures))

pub returns-in_err-random : goal.returns-in_err-random
returns-in_err-random c =
    rw c.from_residual-in_err-random.ensures
    (server_stops_2 _ (sym c.in_ok-version.ensures) (sym c.in_err-random.ensures))

pub returns-in_err-session : goal.returns-in_err-session
returns-in_err-session c =
    rw c.from_residual-in_err-session.ensures
    (server_stops_3 _ (sym c.in_ok-version.ensures) (sym c.in_ok-random.ensures) (sym c.in_err-session.ensures))

pub returns-then-not-is_version : goal.returns-then-not-is_version
returns-then-not-is_version c =
    sym (server_cut _ (sym c.in_ok-version.ensures) (sym c.in_ok-random.ensures) (sym c.in_ok-session.ensures)
    ∙ cond-false _ _ _ (sym c.is_version.ensures ∙ c.if-not-is_version.true))

pub returns : goal.returns
returns c =
    c.read_choice.ensures
    ∙ sym (server_cut _ (sym c.in_ok-version.ensures) (sym c.in_ok-random.ensures) (sym c.in_ok-session.ensures)
    ∙ cond-true _ _ _ (sym c.is_version.ensures ∙ c.if-not-is_version.false))
