use Rattle.std.proofs.Common.{sym, ◌∙◌}
use Rattle.std.proofs.lemmas.Bool.{cond-true, cond-false}
use Rattle.handshake_reader.proofs.Readings.{client_stops_1, client_stops_2, client_stops_3, client_stops_4, client_stops_5, client_cut}
use Rattle.handshake_reader.proofs.client_hello.read_client_hello.Goals as goal

pub returns-in_err-version : goal.returns-in_err-version
returns-in_err-version c = rw c.from_residual.ensures (client_stops_1 _ (sym c.in_err-version.ensures))

pub returns-in_err-random : goal.returns-in_err-random
returns-in_err-random c =
    rw c.from_residual-in_err-random.ensures
    (client_stops_2 _ (sym c.in_ok-version.ensures) (sym c.in_err-random.ensures))

pub returns-in_err-session : goal.returns-in_err-session
returns-in_err-session c =
    rw c.from_residual-in_err-session.ensures
    (client_stops_3 _ (sym c.in_ok-version.ensures) (sym c.in_ok-random.ensures) (sym c.in_err-session.ensures))

pub returns-in_err-suites : goal.returns-in_err-suites
returns-in_err-suites c =
    rw c.from_residual-in_err-suites.ensures
    (client_stops_4 _ (sym c.in_ok-version.ensures) (sym c.in_ok-random.ensures) (sym c.in_ok-session.ensures)
    (sym c.in_err-suites.ensures))

pub returns-in_err-compressions : goal.returns-in_err-compressions
returns-in_err-compressions c =
    rw c.from_residual-in_err-compressions.ensures
    (client_stops_5 _ (sym c.in_ok-version.ensures) (sym c.in_ok-random.ensures) (sym c.in_ok-session.ensures)
    (sym c.in_ok-suites.ensures) (sym c.in_err-compressions.ensures))

pub returns-then-not-fits_client_hello : goal.returns-then-not-fits_client_hello
returns-then-not-fits_client_hello c =
    sym (client_cut _ (sym c.in_ok-version.ensures) (sym c.in_ok-random.ensures) (sym c.in_ok-session.ensures)
    (sym c.in_ok-suites.ensures) (sym c.in_ok-compressions.ensures)
    ∙ cond-false _ _ _ (sym c.fits_client_hello.ensures ∙ c.if-not-fits_client_hello.true))

pub returns : goal.returns
returns c =
    sym (client_cut _ (sym c.in_ok-version.ensures) (sym c.in_ok-random.ensures) (sym c.in_ok-session.ensures)
    (sym c.in_ok-suites.ensures) (sym c.in_ok-compressions.ensures)
    ∙ cond-true _ _ _ (sym c.fits_client_hello.ensures ∙ c.if-not-fits_client_hello.false))
