-- Records: a kind, 01 01, a two-octet length, and the content.
use Rattle.std.specs.Prelude.{ℕ, ◌+◌, ◌*◌, ◌/◌, ◌%◌, Bool, true, false, cond, ◌&&◌, List, [], ◌∷◌, length, take, Some, None, Option, ◌==◌, nat_le}
use Rattle.octets.specs.Laid.{laid}

-- the longest content of a record that is not protected
abbrev pub content_limit : ℕ
content_limit = 16384

-- the longest content of a protected record
abbrev pub protected_limit : ℕ
protected_limit = 18432

-- how long a content may be where reading is not protected, and where it is
abbrev pub limit_of : Bool → ℕ
limit_of false = content_limit
limit_of true = protected_limit

-- the five octets before a content of n octets
abbrev pub header : ℕ → ℕ → List ℕ
header k n = k ∷ (1 ∷ (1 ∷ (n / 256 ∷ (n % 256 ∷ []))))

-- a record as it stands on the wire
abbrev pub framed : ℕ → List ℕ → List ℕ
framed k x = k ∷ (1 ∷ (1 ∷ (length x / 256 ∷ (length x % 256 ∷ x))))

-- the first record of what was received: not whole, at fault (with its alert), or whole with kind and content
pub data Received : Type 0 where
  more : Received
  faulty : ℕ → Received
  whole : ℕ → List ℕ → Received

-- a sound header was read: the length against the limit, then against what has come
abbrev pub bounded : ℕ → ℕ → ℕ → List ℕ → Received
bounded limit k n xs = cond (nat_le n limit) (cond (nat_le n (length xs)) (whole k (take n xs)) more) (faulty 22)

-- five octets for the header, then the version, then the length
abbrev pub received : ℕ → List ℕ → Received
received limit [] = more
received limit (k ∷ []) = more
received limit (k ∷ (v ∷ [])) = more
received limit (k ∷ (v ∷ (w ∷ []))) = more
received limit (k ∷ (v ∷ (w ∷ (a ∷ [])))) = more
received limit (k ∷ (v ∷ (w ∷ (a ∷ (b ∷ xs))))) = cond (v == 1 && w == 1) (bounded limit k (a * 256 + b) xs) (faulty 70)

-- a content has a length of two octets, and the record finds room behind a place
abbrev pub fits : List ℕ → ℕ → ℕ → Bool
fits out at n = nat_le n 65535 && nat_le (at + (5 + n)) (length out)

-- where a record ends that is written at a place, if it may be
abbrev pub record_end : List ℕ → ℕ → ℕ → Option ℕ
record_end out at n = cond (fits out at n) (Some (at + (5 + n))) None

-- a buffer after a record was written at a place: as it was, where the record may not be
abbrev pub with_record : List ℕ → ℕ → ℕ → List ℕ → List ℕ
with_record out at k x = cond (fits out at (length x)) (laid out at (framed k x)) out

-- the same for the header alone of a record whose content stands behind it
abbrev pub with_header : List ℕ → ℕ → ℕ → ℕ → List ℕ
with_header out at k n = cond (fits out at n) (laid out at (header k n)) out
