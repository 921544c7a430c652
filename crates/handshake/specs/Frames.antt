-- The frame of every handshake message: a type, a three-octet length and a body; and the first message of octets that came in.
use Rattle.std.specs.Prelude.{ℕ, ◌+◌, ◌*◌, Bool, true, false, cond, List, [], ◌∷◌, length, take, drop, nat_le}
use Rattle.handshake.specs.Parts.{sized3}

-- the longest body that an end takes
abbrev pub message_limit : ℕ
message_limit = 4092

-- a message of a type with a body
abbrev pub message : ℕ → List ℕ → List ℕ
message t x = t ∷ sized3 x

-- the first message: not yet there, longer than an end takes, or ready: its type, the whole of it, its body, what follows
pub data Next : Type 0 where
  not_ready : Next
  too_long : Next
  ready : ℕ → List ℕ → List ℕ → List ℕ → Next

abbrev pub next_of : ℕ → ℕ → ℕ → ℕ → ℕ → List ℕ → Next
next_of t a b c n xs =
    cond (nat_le n message_limit)
    (cond (nat_le n (length xs)) (ready t (t ∷ a ∷ b ∷ c ∷ take n xs) (take n xs) (drop n xs)) not_ready)
    too_long

abbrev pub next : List ℕ → Next
next [] = not_ready
next (t ∷ []) = not_ready
next (t ∷ a ∷ []) = not_ready
next (t ∷ a ∷ b ∷ []) = not_ready
next (t ∷ a ∷ b ∷ c ∷ xs) = next_of t a b c (a * 65536 + b * 256 + c) xs

-- whether there is something to turn: a whole message, or one that is too long
abbrev pub is_ready : Next → Bool
is_ready not_ready = false
is_ready too_long = true
is_ready (ready t m x rest) = true
