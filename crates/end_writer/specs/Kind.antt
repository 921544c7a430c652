-- A kind of protection, from the ghost members of the interface.
use Rattle.std.specs.Prelude.{ℕ, Bool, List, Result}
use Rattle.protection.specs.declared.error.OpenError.{OpenError}
use Rattle.protection.specs.Keys.{Keying}
use Rattle.model.specs.Protections.{Protection}

-- the suites served, their sizes of material, sealing and opening
abbrev pub kind_of : (ℕ → Bool) → (ℕ → ℕ) → (Keying → ℕ → ℕ → List ℕ → List ℕ → List ℕ) → (Keying → ℕ → ℕ → List ℕ → Result (List ℕ) OpenError) → Protection
kind_of serves size sealing opening = record { serves = serves; size = size; sealing = sealing; opening = opening }
