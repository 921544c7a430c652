-- Lists of octets: parts, joins and members of them.
use Rattle.std.proofs.Common.{ℕ, zero, suc, ◌<◌, List, [], ◌∷◌, ◌++◌, length, get_or, take, drop, replicate, arith}
use Rattle.octets.specs.Octets.{Octets}

-- each member, by its place
pub member : (xs : List ℕ) → Octets xs → (k : ℕ) → get_or xs k 0 < 256
member [] o k = omega arith
member (x ∷ xs) o zero = o.0
member (x ∷ xs) o (suc k) = member xs o.1 k

-- octets by their places
pub from_members : (xs : List ℕ) → ((k : ℕ) → k < length xs → get_or xs k 0 < 256) → Octets xs
from_members [] h = tt
from_members (x ∷ xs) h = (h 0 (omega arith), from_members xs (λ k l. h (suc k) (omega arith)))

pub octets-++ : (xs ys : List ℕ) → Octets xs → Octets ys → Octets (xs ++ ys)
octets-++ [] ys a b = b
octets-++ (x ∷ xs) ys a b = (a.0, octets-++ xs ys a.1 b)

pub octets_take : (n : ℕ) (xs : List ℕ) → Octets xs → Octets (take n xs)
octets_take zero xs o = tt
octets_take (suc n) [] o = tt
octets_take (suc n) (x ∷ xs) o = (o.0, octets_take n xs o.1)

pub octets_drop : (n : ℕ) (xs : List ℕ) → Octets xs → Octets (drop n xs)
octets_drop zero xs o = o
octets_drop (suc n) [] o = tt
octets_drop (suc n) (x ∷ xs) o = octets_drop n xs o.1

pub octets_replicate : (n x : ℕ) → x < 256 → Octets (replicate n x)
octets_replicate zero x h = tt
octets_replicate (suc n) x h = (h, octets_replicate n x h)
