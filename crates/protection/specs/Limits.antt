-- The numbers that bound record protection.
use Rattle.std.specs.Prelude.{ℕ}

-- the longest content that is sealed
abbrev pub content_limit : ℕ
content_limit = 16384

-- by how much a sealed list may be longer than its content
abbrev pub growth : ℕ
growth = 2048

-- the most octets that are opened, and the room that opening asks for: a longest content and its growth
abbrev pub sealed_limit : ℕ
sealed_limit = 18432

-- the fresh octets that sealing takes
abbrev pub fresh_size : ℕ
fresh_size = 16

-- the most octets of key material that a suite takes
abbrev pub material_limit : ℕ
material_limit = 96
