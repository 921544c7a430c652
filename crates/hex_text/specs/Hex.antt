-- Octets written in hexadecimal: two digits each, the higher first.
use Rattle.std.specs.Prelude.{ℕ, ◌+◌, ◌-◌, ◌*◌, cond, ◌&&◌, List, [], ◌∷◌, Some, None, Option, nat_le}

-- the value of a digit, by its code: 0 to 9, a to f, A to F
abbrev pub digit : ℕ → Option ℕ
digit c =
    cond (nat_le 48 c && nat_le c 57) (Some (c - 48))
    (cond (nat_le 97 c && nat_le c 102) (Some (c - 87)) (cond (nat_le 65 c && nat_le c 70) (Some (c - 55)) None))

-- an octet by its two digits
abbrev pub pair : Option ℕ → Option ℕ → Option ℕ
pair None l = None
pair (Some h) None = None
pair (Some h) (Some l) = Some (16 * h + l)

abbrev pub before : Option ℕ → Option (List ℕ) → Option (List ℕ)
before None xs = None
before (Some x) None = None
before (Some x) (Some xs) = Some (x ∷ xs)

-- the octets that a text of digits stands for, if it does
abbrev pub decoded : List ℕ → Option (List ℕ)
decoded [] = Some []
decoded (h ∷ []) = None
decoded (h ∷ (l ∷ rest)) = before (pair (digit h) (digit l)) (decoded rest)
