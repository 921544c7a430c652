-- Octets that a script gives many times over.
use Rattle.std.specs.Prelude.{ℕ, zero, suc, List, [], ◌++◌}

-- a list so many times, one after another
unfoldable pub repeated : ℕ → List ℕ → List ℕ
repeated zero xs = []
repeated (suc n) xs = repeated n xs ++ xs
