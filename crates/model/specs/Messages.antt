-- The messages that ends exchange, what a list of messages tells, and the choice of the suite.
use Rattle.std.specs.Prelude.{ℕ, cond, List, [], ◌∷◌, drop, Some, None, Option, slice_index_or}
use Rattle.handshake.specs.Parts.{among}
use Rattle.handshake.specs.Frames.{message}
use Rattle.handshake.specs.Hellos.{ClientHello, ServerHello, client_hello_body, server_hello_body, read_client_hello, read_server_hello}
use Rattle.handshake.specs.Certificates.{certificate_body}
use Rattle.handshake.specs.Exchanges.{exchange_body}

-- ---- each message by what it carries
-- type 1: random, suites
abbrev pub client_hello : List ℕ → List ℕ → List ℕ
client_hello random suites = message 1 (client_hello_body random suites)

-- type 2: random, session id, suite
abbrev pub server_hello : List ℕ → List ℕ → ℕ → List ℕ
server_hello random session suite = message 2 (server_hello_body random session suite)

-- type 11: the certificates, signing before encryption
abbrev pub certificate : List (List ℕ) → List ℕ
certificate cs = message 11 (certificate_body cs)

-- type 12: the signature
abbrev pub server_key_exchange : List ℕ → List ℕ
server_key_exchange signature = message 12 (exchange_body signature)

-- type 14: nothing
abbrev pub server_hello_done : List ℕ
server_hello_done = message 14 []

-- type 16: the wrapped premaster
abbrev pub client_key_exchange : List ℕ → List ℕ
client_key_exchange wrapped = message 16 (exchange_body wrapped)

-- type 20: the check value
abbrev pub finished : List ℕ → List ℕ
finished v = message 20 v

-- ---- the choice: the first suite offered that is allowed
abbrev pub first_shared : List ℕ → List ℕ → Option ℕ
first_shared [] allowed = None
first_shared (s ∷ ss) allowed = cond (among s allowed) (Some s) (first_shared ss allowed)

-- ---- what the hellos tell
abbrev pub offer_in : Option ClientHello → List ℕ
offer_in None = []
offer_in (Some h) = h.suites

-- the client's random
abbrev pub offer_random : Option ClientHello → List ℕ
offer_random None = []
offer_random (Some h) = h.random

-- the suite chosen
abbrev pub choice_in : Option ServerHello → ℕ
choice_in None = 0
choice_in (Some h) = h.suite

-- the server's random
abbrev pub choice_random : Option ServerHello → List ℕ
choice_random None = []
choice_random (Some h) = h.random

-- ---- what a list of messages tells, its first being a ClientHello and its second a ServerHello
abbrev pub client_random_of : List (List ℕ) → List ℕ
client_random_of ms = offer_random (read_client_hello (drop 4 (slice_index_or ms 0 [])))

-- the server's random
abbrev pub server_random_of : List (List ℕ) → List ℕ
server_random_of ms = choice_random (read_server_hello (drop 4 (slice_index_or ms 1 [])))

-- the suite
abbrev pub suite_of : List (List ℕ) → ℕ
suite_of ms = choice_in (read_server_hello (drop 4 (slice_index_or ms 1 [])))
