-- One record that an end writes, as it stands on the wire.
use Rattle.std.specs.Prelude.{ℕ, Bool, cond, List, Option}
use Rattle.records.specs.Kinds.{handshake_kind}
use Rattle.records.specs.Records.{framed}
use Rattle.protection.specs.Keys.{Keying}
use Rattle.handshake.specs.declared.types.HandshakeType.{HandshakeType}
use Rattle.handshake.specs.Types.{type_number}
use Rattle.handshake.specs.Frames.{message}
use Rattle.handshake.specs.Kinds.{Parts, body_of}
use Rattle.model.specs.Protections.{Protection}
use Rattle.model.specs.Outcomes.{Write, bare, under, octets}

-- sealed at a number if writing is protected, else bare
abbrev pub record_of : Bool → ℕ → ℕ → List ℕ → List ℕ → Write
record_of protected n k x fresh = cond protected (under (record { number = n; kind = k; content = x }) fresh) (bare k x)

-- the octets of such a record
abbrev pub record_octets : Protection → Option Keying → Bool → ℕ → ℕ → List ℕ → List ℕ → List ℕ
record_octets P held protected n k x fresh = octets P held (record_of protected n k x fresh)

-- a handshake message from its type and its parts
abbrev pub message_of : HandshakeType → Parts → List ℕ
message_of t p = message (type_number t) (body_of p)

-- a handshake message in a record of its own, bare
abbrev pub message_record : List ℕ → List ℕ
message_record m = framed handshake_kind m
