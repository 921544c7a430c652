-- Handshake messages one record after another, and the server's first flight from what it carries.
use Rattle.std.specs.Prelude.{ℕ, List, [], ◌∷◌, ◌++◌}
use Rattle.model.specs.Deeds.{flight}
use Rattle.end_writer.specs.Written.{message_record}

-- the messages of the flight: random, session id, suite, certificates, signature
abbrev pub flight_of : List ℕ → List ℕ → ℕ → List (List ℕ) → List ℕ → List (List ℕ)
flight_of random session suite certificates signature =
    flight (record { random = random; session = session; certificates = certificates; signature = signature; premaster = []; wrapped = [] }) suite

-- each message in a record of its own, bare
abbrev pub message_records : List (List ℕ) → List ℕ
message_records [] = []
message_records (m ∷ ms) = message_record m ++ message_records ms
