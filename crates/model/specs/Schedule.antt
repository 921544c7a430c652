-- The transcript hash and the key schedule, as an end uses them. The product has one, of SM3 and HMAC-SM3;
-- the definitions of an end and the law of the line hold for any.
use Rattle.std.specs.Prelude.{◌≡◌, ℕ, List, [], ◌∷◌, ◌++◌, length}
use Rattle.octets.specs.declared.role.Role.{Role}
use Rattle.octets.specs.Octets.{Octets}

-- a transcript hash and a key schedule
pub record Schedule (H : Type 0) : Type 0 where
  -- the running hash of nothing, and of so many octets more
  pub blank : H
  pub absorb : H → List ℕ → H
  -- from premaster, client random, server random
  pub master_secret : List ℕ → List ℕ → List ℕ → List ℕ
  -- from master secret, client random, server random, to so many octets
  pub key_material : List ℕ → List ℕ → List ℕ → ℕ → List ℕ
  -- of a sender, from master secret and running hash
  pub verify_data : Role → List ℕ → H → List ℕ

-- all that is known of it
pub record ScheduleLaws {H : Type 0} (K : Schedule H) : Type 0 where
  -- hashing in pieces is hashing the whole
  pub none_more : (h : H) → K.absorb h [] ≡ h
  pub in_pieces : (h : H) (a b : List ℕ) → K.absorb (K.absorb h a) b ≡ K.absorb h (a ++ b)
  pub material_length : (m c s : List ℕ) (n : ℕ) → length (K.key_material m c s n) ≡ n
  pub material_octets : (m c s : List ℕ) (n : ℕ) → Octets (K.key_material m c s n)
  pub verify_length : (X : Role) (m : List ℕ) (h : H) → length (K.verify_data X m h) ≡ 12
  pub verify_octets : (X : Role) (m : List ℕ) (h : H) → Octets (K.verify_data X m h)

-- octets one list after another
abbrev pub joined_octets : List (List ℕ) → List ℕ
joined_octets [] = []
joined_octets (x ∷ xs) = x ++ joined_octets xs

module _ {H : Type 0} (K : Schedule H) where
  -- messages join the running hash one by one
  abbrev pub absorbed : H → List (List ℕ) → H
  absorbed h [] = h
  absorbed h (m ∷ ms) = absorbed (K.absorb h m) ms
