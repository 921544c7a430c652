-- The pieces for the bench, all together.
use Rattle.std.specs.Prelude.{◌≡◌, List, ℕ, length}
use Rattle.protection.specs.Keys.{Keying}
use Rattle.cbc_protection.specs.Records.{cbc_sealing}
use Rattle.model.specs.Protections.{Protection}
use Rattle.model.specs.Tlcp.{tlcp}
use Rattle.model.specs.Bench.{Bench}

-- contents of so many octets are sealed to so many, under every keying, at every number, of every kind
abbrev pub SealedTo : ℕ → ℕ → Type 0
SealedTo n m = (k : Keying) (number kind : ℕ) (content fresh : List ℕ) → length fresh ≡ 16 → length content ≡ n → length (cbc_sealing k number kind content fresh) ≡ m

-- the ten records at every end that takes them, over every protection; CBC lengths for 1, 15, 16 and 16,384
abbrev pub Pieces : Type 0
Pieces = ((P : Protection) → Bench tlcp P) × SealedTo 1 64 × SealedTo 15 64 × SealedTo 16 80 × SealedTo 16384 16448
