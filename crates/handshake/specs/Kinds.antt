-- Every kind of message as one value of its parts: its type, its body written from them, and a body read into them.
use Rattle.std.specs.Prelude.{ℕ, ◌+◌, Bool, true, cond, ◌&&◌, List, [], length, Some, None, Option, nat_le}
use Rattle.std.specs.Option.{option_map}
use Rattle.handshake.specs.declared.types.HandshakeType.{HandshakeType}
use Rattle.handshake.specs.declared.types.HandshakeType as types
use Rattle.octets.specs.Laid.{laid}
use Rattle.handshake.specs.Parts.{is_none}
use Rattle.handshake.specs.Frames.{message}
use Rattle.handshake.specs.Types.{type_number}
use Rattle.handshake.specs.Hellos as hellos
use Rattle.handshake.specs.Certificates.{certificate_body, certificate_sound, read_certificate}
use Rattle.handshake.specs.Exchanges.{exchange_body, exchange_sound, read_exchange, finished_sound, read_finished}

pub data Parts : Type 0 where
  client_hello_parts : hellos.ClientHello → Parts
  server_hello_parts : hellos.ServerHello → Parts
  certificate_parts : List (List ℕ) → Parts
  server_key_exchange_parts : List ℕ → Parts
  server_hello_done_parts : Parts
  client_key_exchange_parts : List ℕ → Parts
  finished_parts : List ℕ → Parts

abbrev pub type_of : Parts → HandshakeType
type_of (client_hello_parts h) = types.TheVariants.ClientHello
type_of (server_hello_parts h) = types.TheVariants.ServerHello
type_of (certificate_parts cs) = types.TheVariants.Certificate
type_of (server_key_exchange_parts x) = types.TheVariants.ServerKeyExchange
type_of server_hello_done_parts = types.TheVariants.ServerHelloDone
type_of (client_key_exchange_parts x) = types.TheVariants.ClientKeyExchange
type_of (finished_parts v) = types.TheVariants.Finished

abbrev pub body_of : Parts → List ℕ
body_of (client_hello_parts h) = hellos.from_client_hello h
body_of (server_hello_parts h) = hellos.from_server_hello h
body_of (certificate_parts cs) = certificate_body cs
body_of (server_key_exchange_parts x) = exchange_body x
body_of server_hello_done_parts = []
body_of (client_key_exchange_parts x) = exchange_body x
body_of (finished_parts v) = v

-- the layout's own lengths
abbrev pub is_sound : Parts → Bool
is_sound (client_hello_parts h) = hellos.client_hello_sound h
is_sound (server_hello_parts h) = hellos.server_hello_sound h
is_sound (certificate_parts cs) = certificate_sound cs
is_sound (server_key_exchange_parts x) = exchange_sound x
is_sound server_hello_done_parts = true
is_sound (client_key_exchange_parts x) = exchange_sound x
is_sound (finished_parts v) = finished_sound v

abbrev pub read_body : HandshakeType → List ℕ → Option Parts
read_body types.TheVariants.ClientHello x = option_map client_hello_parts (hellos.read_client_hello x)
read_body types.TheVariants.ServerHello x = option_map server_hello_parts (hellos.read_server_hello x)
read_body types.TheVariants.Certificate x = option_map certificate_parts (read_certificate x)
read_body types.TheVariants.ServerKeyExchange x = option_map server_key_exchange_parts (read_exchange x)
read_body types.TheVariants.ServerHelloDone x = cond (is_none x) (Some server_hello_done_parts) None
read_body types.TheVariants.ClientKeyExchange x = option_map client_key_exchange_parts (read_exchange x)
read_body types.TheVariants.Finished x = option_map finished_parts (read_finished x)

-- the whole message
abbrev pub octets_of : Parts → List ℕ
octets_of p = message (type_number (type_of p)) (body_of p)

-- parts that can be written: sound ones whose body's length three octets can tell
abbrev pub writable : Parts → Bool
writable p = is_sound p && nat_le (length (body_of p)) 16777215

-- the length of the body that is written, if it can be
abbrev pub body_size : Parts → Option ℕ
body_size p = cond (writable p) (Some (length (body_of p))) None

-- a buffer with the body laid over it, as far as there is room, if it can be written
abbrev pub with_body : Parts → List ℕ → ℕ → List ℕ
with_body p out at = cond (writable p) (laid out at (body_of p)) out

-- whether the whole message finds room from a place on
abbrev pub has_room : Parts → List ℕ → ℕ → Bool
has_room p out at = writable p && nat_le (at + (4 + length (body_of p))) (length out)

-- where a message written from a place on ends, if it is written
abbrev pub message_end : Parts → List ℕ → ℕ → Option ℕ
message_end p out at = cond (has_room p out at) (Some (at + (4 + length (body_of p)))) None

-- the buffer then: the message stands there whole, or nothing is touched
abbrev pub with_message : HandshakeType → Parts → List ℕ → ℕ → List ℕ
with_message k p out at = cond (has_room p out at) (laid out at (message (type_number k) (body_of p))) out
