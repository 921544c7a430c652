-- How the code's ServerHello is seen by the definitions.
use Rattle.handshake.specs.Hellos as hellos
use Rattle.handshake.specs.declared.server_hello.ServerHello.{ServerHello}

abbrev pub seen_server_hello : ServerHello → hellos.ServerHello
seen_server_hello m = record { random = m.random.now; session = m.session.now; suite = m.suite; compression = m.compression }
