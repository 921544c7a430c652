-- ServerKeyExchange, ServerHelloDone, ClientKeyExchange and Finished.
use Rattle.std.specs.Prelude.{ℕ, ◌+◌, ◌*◌, Bool, cond, ◌&&◌, List, [], ◌∷◌, length, Some, None, Option, ◌==◌, nat_le}
use Rattle.handshake.specs.Parts.{sized2}

-- the two key exchanges: a two-octet length of 1 or more and that many octets, the signature or the wrapped premaster
unfoldable pub exchange_body : List ℕ → List ℕ
exchange_body x = sized2 x

abbrev pub exchange_sound : List ℕ → Bool
exchange_sound x = nat_le 1 (length x) && nat_le (length x) 65535

abbrev pub exchange_sized : ℕ → List ℕ → Option (List ℕ)
exchange_sized n xs = cond (nat_le 1 n && length xs == n) (Some xs) None

abbrev pub read_exchange : List ℕ → Option (List ℕ)
read_exchange [] = None
read_exchange (a ∷ []) = None
read_exchange (a ∷ b ∷ xs) = exchange_sized (a * 256 + b) xs

-- Finished: the verify data, 12 octets
abbrev pub finished_sound : List ℕ → Bool
finished_sound v = length v == 12

abbrev pub read_finished : List ℕ → Option (List ℕ)
read_finished v = cond (finished_sound v) (Some v) None
