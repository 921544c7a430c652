-- The numbers of the handshake types.
use Rattle.std.specs.Prelude.{ℕ, Bool, true, false, cond, Some, None, Option, ◌==◌}
use Rattle.handshake.specs.declared.types.HandshakeType.{HandshakeType}
use Rattle.handshake.specs.declared.types.HandshakeType.TheVariants.{ClientHello, ServerHello, Certificate, ServerKeyExchange, ServerHelloDone, ClientKeyExchange, Finished}

abbrev pub type_number : HandshakeType → ℕ
type_number ClientHello = 1
type_number ServerHello = 2
type_number Certificate = 11
type_number ServerKeyExchange = 12
type_number ServerHelloDone = 14
type_number ClientKeyExchange = 16
type_number Finished = 20

-- the type that has a number, if one has
abbrev pub numbered_type : ℕ → Option HandshakeType
numbered_type n =
    cond (n == 1) (Some ClientHello) (cond (n == 2) (Some ServerHello) (cond (n == 11) (Some Certificate)
    (cond (n == 12) (Some ServerKeyExchange) (cond (n == 14) (Some ServerHelloDone)
    (cond (n == 16) (Some ClientKeyExchange) (cond (n == 20) (Some Finished) None))))))

-- the hellos carry the version first
abbrev pub is_hello : HandshakeType → Bool
is_hello ClientHello = true
is_hello ServerHello = true
is_hello Certificate = false
is_hello ServerKeyExchange = false
is_hello ServerHelloDone = false
is_hello ClientKeyExchange = false
is_hello Finished = false
