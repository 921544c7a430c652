-- A protection that is none: a sealed list is the content behind a mark, the kind and one octet of the material.
use Rattle.std.specs.Prelude.{ℕ, Bool, cond, ◌&&◌, ◌||◌, List, [], ◌∷◌, ◌++◌, length, take, drop, Ok, Err, Result, ◌==◌, nat_le, slice_index}
use Rattle.octets.specs.Octets.{same}
use Rattle.protection.specs.declared.error.OpenError.{OpenError}
use Rattle.protection.specs.declared.error.OpenError.TheVariants.{Refused}
use Rattle.protection.specs.Keys.{Keying}

-- the suite 7, which all marks have, and one of each mark's own
abbrev pub mark_serves : ℕ → ℕ → Bool
mark_serves mark s = s == 7 || s == mark

-- what stands before a content
abbrev pub front : ℕ → Keying → ℕ → List ℕ
front mark k t = mark ∷ t ∷ slice_index k.material 0 ∷ []

abbrev pub mark_sealing : ℕ → Keying → ℕ → ℕ → List ℕ → List ℕ → List ℕ
mark_sealing mark k n t c f = front mark k t ++ c

abbrev pub mark_opening : ℕ → Keying → ℕ → ℕ → List ℕ → Result (List ℕ) OpenError
mark_opening mark k n t l = cond (nat_le 3 (length l) && same (take 3 l) (front mark k t)) (Ok (drop 3 l)) (Err Refused)
