use mathlib.Core.Path.{ap, ◌∙◌}
use Prim.Native.Nat.{ℕ, ◌+◌, ◌*◌, ◌/◌}
use Rattle.cbc_protection.specs.Sealed.{sealed_length}
use Rattle.model.specs.Tlcp.{tlcp}
use Rattle.model.proofs.Bench.{bench}
use Rattle.bench_pieces.specs.Pieces.{SealedTo}
use Rattle.bench_pieces.proofs.pieces_stand.Goals as goal

-- the IV, and whole blocks for content, MAC and padding
sealed_to : (n : ℕ) → SealedTo n (16 + (n + 32 + 16) / 16 * 16)
sealed_to n k number kind content fresh f q = sealed_length k number kind content fresh f ∙ ap (λ u. 16 + (u + 32 + 16) / 16 * 16) q

pub returns : goal.returns
returns c = (λ P. bench tlcp P, sealed_to 1, sealed_to 15, sealed_to 16, sealed_to 16384)
