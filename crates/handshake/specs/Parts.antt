-- Parts of a list of octets: written behind their lengths, cut off the front again, and read two octets at a time.
use Rattle.std.specs.Prelude.{ℕ, ◌+◌, ◌*◌, Bool, true, false, cond, not, ◌&&◌, List, [], ◌∷◌, ◌++◌, length, take, drop, None, Option, ◌==◌, nat_le}
use Rattle.octets.specs.Numbers.{two, three}

abbrev pub is_none : List ℕ → Bool
is_none [] = true
is_none (x ∷ xs) = false

-- whether a list begins 01 01, the version
abbrev pub versioned : List ℕ → Bool
versioned [] = false
versioned (a ∷ []) = false
versioned (a ∷ b ∷ xs) = a == 1 && b == 1

-- a version is there and is another
abbrev pub other_version : List ℕ → Bool
other_version xs = nat_le 2 (length xs) && not (versioned xs)

-- ---- writing: a list behind its length in one, two or three octets
abbrev pub sized1 : List ℕ → List ℕ
sized1 x = length x ∷ x

abbrev pub sized2 : List ℕ → List ℕ
sized2 x = two (length x) ++ x

abbrev pub sized3 : List ℕ → List ℕ
sized3 x = three (length x) ++ x

-- ---- reading: a part cut off the front and what follows it, where the list is long enough
pub data Cut : Type 0 where
  uncut : Cut
  cut : List ℕ → List ℕ → Cut

abbrev pub part : ℕ → List ℕ → Cut
part n xs = cond (nat_le n (length xs)) (cut (take n xs) (drop n xs)) uncut

-- a part behind its length in one, two or three octets
abbrev pub part1 : List ℕ → Cut
part1 [] = uncut
part1 (n ∷ xs) = part n xs

abbrev pub part2 : List ℕ → Cut
part2 [] = uncut
part2 (a ∷ []) = uncut
part2 (a ∷ b ∷ xs) = part (a * 256 + b) xs

abbrev pub part3 : List ℕ → Cut
part3 [] = uncut
part3 (a ∷ []) = uncut
part3 (a ∷ b ∷ []) = uncut
part3 (a ∷ b ∷ c ∷ xs) = part (a * 65536 + b * 256 + c) xs

-- go on with what was cut, if it was
abbrev pub after_cut : {A : Type 0} → Cut → (List ℕ → List ℕ → Option A) → Option A
after_cut uncut f = None
after_cut (cut x rest) f = f x rest

-- ---- two-octet numbers, from octets and to octets
abbrev pub words : List ℕ → List ℕ
words [] = []
words (a ∷ []) = []
words (a ∷ b ∷ xs) = (a * 256 + b) ∷ words xs

abbrev pub from_words : List ℕ → List ℕ
from_words [] = []
from_words (s ∷ ss) = two s ++ from_words ss

-- whether a number is in a list
abbrev pub among : ℕ → List ℕ → Bool
among s [] = false
among s (x ∷ xs) = cond (s == x) true (among s xs)
