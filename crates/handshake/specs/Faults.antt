-- What reading a message comes to: its parts, or the fault of the first rule that it breaks.
use Rattle.std.specs.Prelude.{ℕ, cond, ◌&&◌, List, Some, None, Ok, Err, Option, Result, ◌==◌}
use Rattle.records.specs.declared.fault.Fault.{Fault}
use Rattle.records.specs.declared.fault.Alert.TheVariants.{UnexpectedMessage, IllegalParameter, DecodeError, ProtocolVersion}
use Rattle.records.specs.declared.fault.Layer as layers
use Rattle.handshake.specs.declared.types.HandshakeType.{HandshakeType}
use Rattle.handshake.specs.Parts.{is_none, other_version}
use Rattle.handshake.specs.Frames.{Next, not_ready, too_long, ready, next}
use Rattle.handshake.specs.Types.{type_number, is_hello}
use Rattle.handshake.specs.Kinds.{Parts, read_body}

-- 47: the length is over the limit
abbrev pub over_long : Fault
over_long = record { alert = IllegalParameter; layer = layers.TheVariants.Message }

-- 10: a message of another type than is awaited
abbrev pub not_awaited : Fault
not_awaited = record { alert = UnexpectedMessage; layer = layers.TheVariants.Stage }

-- 70: a hello of another version
abbrev pub version_fault : Fault
version_fault = record { alert = ProtocolVersion; layer = layers.TheVariants.Message }

-- 50: any other breach of layout
abbrev pub layout_fault : Fault
layout_fault = record { alert = DecodeError; layer = layers.TheVariants.Message }

abbrev pub or_fault : {X : Type 0} → Option X → Fault → Result X Fault
or_fault None f = Err f
or_fault (Some x) f = Ok x

-- the body of a message of a type: a hello of two octets or more has to begin 01 01, and every body to keep its layout
abbrev pub read_parts : HandshakeType → List ℕ → Result Parts Fault
read_parts k x = cond (is_hello k && other_version x) (Err version_fault) (or_fault (read_body k x) layout_fault)

-- the first message, where one of a type is awaited and nothing follows it
abbrev pub read_next : HandshakeType → Next → Result Parts Fault
read_next k not_ready = Err layout_fault
read_next k too_long = Err over_long
read_next k (ready t m x rest) = cond (t == type_number k) (cond (is_none rest) (read_parts k x) (Err layout_fault)) (Err not_awaited)

abbrev pub read_message : HandshakeType → List ℕ → Result Parts Fault
read_message k xs = read_next k (next xs)

-- a result with its value seen as another
abbrev pub viewed : {X Y E : Type 0} → (X → Y) → Result X E → Result Y E
viewed f (Ok x) = Ok (f x)
viewed f (Err e) = Err e
