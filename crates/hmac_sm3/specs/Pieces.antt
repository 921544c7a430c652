-- Text that comes in pieces.
use Rattle.std.specs.Prelude.{ℕ, List, [], ◌∷◌, ◌++◌}

-- the pieces, one after the other
abbrev pub pieced : {X : Type 0} → (X → List ℕ) → List X → List ℕ
pieced text [] = []
pieced text (x ∷ []) = text x
pieced text (x ∷ y ∷ rest) = text x ++ pieced text (y ∷ rest)
