-- The limits and spaces of an end.
use Rattle.std.specs.Prelude.{ℕ, ◌+◌}
use Rattle.protection.specs.Limits.{growth, sealed_limit}

-- ---- spaces that a caller gives
-- the output of every call that may write but a send
abbrev pub reply_space : ℕ
reply_space = 4096

-- what sealing may need for a content
abbrev pub sealed_space : ℕ → ℕ
sealed_space content = content + growth

-- the output of a send: the five octets of the header more
abbrev pub send_space : ℕ → ℕ
send_space content = content + 2053

-- the opening place of a hand in
abbrev pub place_space : ℕ
place_space = sealed_limit

-- ---- what an end holds
-- handshake octets not yet turned
abbrev pub buffer_size : ℕ
buffer_size = 20480

-- the place for keys: premaster and material
abbrev pub scratch_size : ℕ
scratch_size = 144

-- suites
abbrev pub suite_limit : ℕ
suite_limit = 8

-- ---- numbers of records
-- no reading is sent at this write number, so that an alert or a close_notify can still be sealed at it
abbrev pub send_limit : ℕ
send_limit = 16777215

-- no record is opened at this read number
abbrev pub read_limit : ℕ
read_limit = 16777216

-- ---- lengths of what an answer brings
abbrev pub random_size : ℕ
random_size = 32

-- a session id
abbrev pub session_size : ℕ
session_size = 32

-- a premaster, and a master secret
abbrev pub premaster_size : ℕ
premaster_size = 48

-- a certificate, at most
abbrev pub certificate_limit : ℕ
certificate_limit = 1500

-- a signature, at most
abbrev pub signature_limit : ℕ
signature_limit = 512

-- a wrapped premaster, at most
abbrev pub wrapping_limit : ℕ
wrapping_limit = 512
