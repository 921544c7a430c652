-- Where parts stand in their message, counted from its first octet, the header included.
use Rattle.std.specs.Prelude.{ℕ, ◌+◌, List, [], ◌∷◌, length}
use Rattle.handshake.specs.declared.spans.Span.{Span}

-- certificates that follow each other from an offset on, each behind a length of three octets
abbrev pub spans : ℕ → List (List ℕ) → List Span
spans at [] = []
spans at (c ∷ cs) = record { offset = at + 3; len = length c } ∷ spans (at + (3 + length c)) cs

-- what a key exchange carries: behind the header and a length of two octets
abbrev pub exchange_span : List ℕ → Span
exchange_span x = record { offset = 6; len = length x }
