-- What the reader of records found, by the places of the octets.
use Rattle.std.proofs.Common.{◌≡◌, ℕ, ◌+◌, ◌-◌, ◌*◌, ◌≤◌, true, ◌&&◌, eqb, List, [], ◌∷◌, length, get_or, take, drop, ap, ◌∙◌, arith}
use Rattle.std.proofs.lemmas.List.{take_all}
use Rattle.records.specs.Records.{Received, bounded, received}

-- a header of the right version leaves the length and what follows it to decide
pub header_read : (limit : ℕ) (xs : List ℕ) {got : Received} → 5 ≤ length xs → eqb (get_or xs 1 0) 1 && eqb (get_or xs 2 0) 1 ≡ true
    → got ≡ bounded limit (get_or xs 0 0) (get_or xs 3 0 * 256 + get_or xs 4 0) (take (length xs - 5) (drop 5 xs)) → got ≡ received limit xs
header_read limit [] h v e = absurd (omega arith)
header_read limit (k ∷ []) h v e = absurd (omega arith)
header_read limit (k ∷ (a ∷ [])) h v e = absurd (omega arith)
header_read limit (k ∷ (a ∷ (b ∷ []))) h v e = absurd (omega arith)
header_read limit (k ∷ (a ∷ (b ∷ (c ∷ [])))) h v e = absurd (omega arith)
header_read limit (k ∷ (a ∷ (b ∷ (c ∷ (d ∷ xs))))) h v e =
    rw v (e ∙ ap (bounded limit k (c * 256 + d)) (take_all (length (k ∷ (a ∷ (b ∷ (c ∷ (d ∷ xs))))) - 5) xs (omega arith)))
