-- A kind of record protection, as an end uses it: the ghost members of the interface in one record, what they owe,
-- and sealing, opening and keying with what is held.
use Rattle.std.specs.Prelude.{◌≡◌, ℕ, ◌+◌, ◌≤◌, Bool, true, List, [], length, Some, None, Ok, Err, Option, Result}
use Rattle.protection.specs.declared.error.OpenError.{OpenError}
use Rattle.protection.specs.declared.error.OpenError.TheVariants.{Refused}
use Rattle.protection.specs.Limits.{growth, material_limit}
use Rattle.protection.specs.Keys.{Keying, across, rekeyed}
use Rattle.protection.specs.Owed.{Keyed, Sealable}

-- a kind of record protection
pub record Protection : Type 0 where
  -- the suites, and the octets of material that each takes
  pub serves : ℕ → Bool
  pub size : ℕ → ℕ
  -- number, kind, content, fresh octets
  pub sealing : Keying → ℕ → ℕ → List ℕ → List ℕ → List ℕ
  -- number, kind, octets
  pub opening : Keying → ℕ → ℕ → List ℕ → Result (List ℕ) OpenError

-- what of its showings the line needs: served suites take 1 to 96 octets, the other side opens what was sealed,
-- and a sealed list is little longer than its content
pub record Lawful (P : Protection) : Type 0 where
  pub sizes : (s : ℕ) → P.serves s ≡ true → (1 ≤ P.size s) × (P.size s ≤ material_limit)
  pub opens : (k : Keying) (n t : ℕ) (x fresh : List ℕ) → Keyed P.serves P.size k → Sealable n t x fresh
      → P.opening (across k) n t (P.sealing k n t x fresh) ≡ Ok x
  pub grows : (k : Keying) (n t : ℕ) (x fresh : List ℕ) → Keyed P.serves P.size k → Sealable n t x fresh
      → length (P.sealing k n t x fresh) ≤ length x + growth

-- what a protection may hold: nothing, or a served suite with material of its size
abbrev pub Held : Protection → Option Keying → Type 0
Held P None = Unit {0}
Held P (Some k) = Keyed P.serves P.size k

-- keying with a served suite and material of its size takes; otherwise nothing changes
abbrev pub keyed_with : Protection → Option Keying → Keying → Option Keying
keyed_with P old k = rekeyed P.serves P.size k old

-- sealing and opening with what is held; unkeyed, nothing is sealed and nothing opens
abbrev pub sealed_with : Protection → Option Keying → ℕ → ℕ → List ℕ → List ℕ → List ℕ
sealed_with P None n t x fresh = []
sealed_with P (Some k) n t x fresh = P.sealing k n t x fresh

-- unkeyed, nothing opens
abbrev pub opened_with : Protection → Option Keying → ℕ → ℕ → List ℕ → Result (List ℕ) OpenError
opened_with P None n t x = Err Refused
opened_with P (Some k) n t x = P.opening k n t x
