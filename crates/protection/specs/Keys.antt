-- What a record protection is keyed with.
use Rattle.std.specs.Prelude.{ℕ, Bool, cond, ◌&&◌, List, length, Some, Option, ◌==◌}
use Rattle.octets.specs.declared.role.Role.{Role}
use Rattle.octets.specs.Roles.{peer}

-- a cipher suite, the end that holds it, and the key material of both directions
pub record Keying : Type 0 where
  pub suite : ℕ
  pub role : Role
  pub material : List ℕ

abbrev pub keying : ℕ → Role → List ℕ → Keying
keying s r m = record { suite = s; role = r; material = m }

abbrev pub suite_of : Keying → ℕ
suite_of k = k.suite

-- the keying of the peer: the same suite and material, the other role
abbrev pub across : Keying → Keying
across k = record { suite = k.suite; role = peer k.role; material = k.material }

-- whether a kind of protection takes a keying: the suite is served, and the material has exactly its size
abbrev pub taken : (ℕ → Bool) → (ℕ → ℕ) → Keying → Bool
taken serves size k = serves k.suite && length k.material == size k.suite

-- what is held after a keying: the new one if it is taken, else what was held before
abbrev pub rekeyed : (ℕ → Bool) → (ℕ → ℕ) → Keying → Option Keying → Option Keying
rekeyed serves size k old = cond (taken serves size k) (Some k) old
