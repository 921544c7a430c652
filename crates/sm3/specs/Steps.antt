-- The steps in which the code goes through expansion and rounds: four at a time, on a table of 68 words.
use Rattle.std.specs.Prelude.{ℕ, ◌+◌, List, bit_xor, slice_index, slice_set}
use Rattle.sm3.specs.Compress.{next, round}

-- the table with W_(k+16) written
unfoldable pub extended : ℕ → List ℕ → List ℕ
extended k ws = slice_set ws (k + 16) (next k ws)

-- the table with W_(k+16) to W_(k+19) written
unfoldable pub extended_four : ℕ → List ℕ → List ℕ
extended_four k ws = extended (k + 3) (extended (k + 2) (extended (k + 1) (extended k ws)))

-- round j, with its words from the table
unfoldable pub round_at : ℕ → List ℕ → List ℕ → List ℕ
round_at j ws v = round j (slice_index ws j) (bit_xor (slice_index ws j) (slice_index ws (j + 4))) v

-- rounds j to j + 3
unfoldable pub rounds_four : ℕ → List ℕ → List ℕ → List ℕ
rounds_four j ws v = round_at (j + 3) ws (round_at (j + 2) ws (round_at (j + 1) ws (round_at j ws v)))
