-- How what the readers give is seen by the definitions.
use Rattle.std.specs.Prelude.{ℕ, List, length, Some, None, Option}
use Rattle.handshake.specs.Parts as parts
use Rattle.handshake.specs.Frames as frames
use Rattle.handshake.specs.Hellos as hellos
use Rattle.handshake.specs.Certificates.{certificates_seen}
use Rattle.handshake_reader.specs.declared.frames.FirstMessage.{FirstMessage}
use Rattle.handshake_reader.specs.declared.frames.FirstMessage.TheVariants.{NotReady, TooLong, Ready}
use Rattle.handshake_reader.specs.declared.parts.Cut.{Cut}
use Rattle.handshake_reader.specs.declared.client_hello.ClientHello.{ClientHello}
use Rattle.handshake_reader.specs.declared.certificates.Certificate.{Certificate}

-- a part that was cut off and what follows, or nothing
abbrev pub seen_cut : Option Cut → parts.Cut
seen_cut None = parts.uncut
seen_cut (Some c) = parts.cut c.part.now c.rest.now

-- the first message, told by its type and the length of its body
abbrev pub first_of : frames.Next → FirstMessage
first_of frames.not_ready = NotReady
first_of frames.too_long = TooLong
first_of (frames.ready t m x rest) = Ready t (length x)

abbrev pub seen_client_hello : ClientHello → hellos.ClientHello
seen_client_hello m =
    record {
      random = m.random.now;
      session = m.session.now;
      suites = parts.words m.suites.octets.now;
      compressions = m.compressions.now;
    }

-- the certificates that can be cut off the list's front, one after another
abbrev pub seen_certificates : Certificate → List (List ℕ)
seen_certificates m = certificates_seen m.list.now m.list.now
