-- The S-box is a permutation: the place of each octet in the table, found and tested by computation.
use Rattle.std.proofs.Common.{◌≡◌, ℕ, suc, ◌<◌, Bool, cond, eqb, ltb, List, [], ◌∷◌, get_or, sym, ap, ◌∙◌, eqb→eq, ltb→lt}
use Rattle.sm4.specs.Laws.{SboxPermutes}
use Rattle.sm4.specs.Sbox.{sbox, sbox_table}
use Rattle.sm4.proofs.Table.{at, both, both_left, both_right}

-- the first place at which a number stands in a list
abbrev place : ℕ → List ℕ → ℕ
place y [] = 0
place y (x ∷ xs) = cond (eqb x y) 0 (suc (place y xs))

-- the place of each value of the table is where it stands
abbrev placed : ℕ → ℕ → Bool
placed k x = eqb (place x sbox_table) k

-- each octet has a place in the table
abbrev reached : ℕ → ℕ → Bool
reached k x = both (ltb (place k sbox_table) 256) (eqb (get_or sbox_table (place k sbox_table) 0) k)

place-sbox : (z : ℕ) → z < 256 → place (sbox z) sbox_table ≡ z
place-sbox z h = eqb→eq _ _ (at placed sbox_table tt z h)

sbox-place : (y : ℕ) → y < 256 → (place y sbox_table < 256) × (sbox (place y sbox_table) ≡ y)
sbox-place y h =
    let t = at reached sbox_table tt y h in
    (ltb→lt _ _ (both_left _ _ t), eqb→eq _ _ (both_right (ltb (place y sbox_table) 256) _ t))

pub permutes : SboxPermutes
permutes y h =
    (place y sbox_table, (sbox-place y h).0, (sbox-place y h).1, λ z hz e. sym (place-sbox z hz) ∙ ap (λ (n : ℕ). place n sbox_table) e)
