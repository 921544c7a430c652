-- Parts behind lengths, as a slice pattern names them: the octets by their places, and the rest.
use Rattle.std.proofs.Common.{◌≡◌, ℕ, ◌+◌, ◌-◌, ◌*◌, ◌≤◌, List, [], ◌∷◌, length, get_or, take, drop, Some, sym, ap, ◌∙◌, arith}
use Rattle.std.proofs.lemmas.List.{take_rest}
use Rattle.std.proofs.lemmas.Bool.{cond-true, and_from, le-leb, eq-eqb}
use Rattle.handshake.specs.Parts.{part, part1, part2, part3}
use Rattle.handshake.specs.Exchanges.{read_exchange}

pub part1_at : (xs : List ℕ) → 1 ≤ length xs → part1 xs ≡ part (get_or xs 0 0) (take (length xs - 1) (drop 1 xs))
part1_at [] h = absurd (omega arith)
part1_at (a ∷ xs) h = ap (part a) (sym (take_rest (a ∷ xs) 1))

pub part2_at : (xs : List ℕ) → 2 ≤ length xs → part2 xs ≡ part (get_or xs 0 0 * 256 + get_or xs 1 0) (take (length xs - 2) (drop 2 xs))
part2_at [] h = absurd (omega arith)
part2_at (a ∷ []) h = absurd (omega arith)
part2_at (a ∷ b ∷ xs) h = ap (part (a * 256 + b)) (sym (take_rest (a ∷ b ∷ xs) 2))

pub part3_at : (xs : List ℕ) → 3 ≤ length xs
    → part3 xs ≡ part (get_or xs 0 0 * 65536 + get_or xs 1 0 * 256 + get_or xs 2 0) (take (length xs - 3) (drop 3 xs))
part3_at [] h = absurd (omega arith)
part3_at (a ∷ []) h = absurd (omega arith)
part3_at (a ∷ b ∷ []) h = absurd (omega arith)
part3_at (a ∷ b ∷ c ∷ xs) h = ap (part (a * 65536 + b * 256 + c)) (sym (take_rest (a ∷ b ∷ c ∷ xs) 3))

pub exchange_at : (xs : List ℕ) → 2 ≤ length xs → 1 ≤ get_or xs 0 0 * 256 + get_or xs 1 0
    → length (take (length xs - 2) (drop 2 xs)) ≡ get_or xs 0 0 * 256 + get_or xs 1 0 → Some (take (length xs - 2) (drop 2 xs)) ≡ read_exchange xs
exchange_at [] h a b = absurd (omega arith)
exchange_at (x ∷ []) h a b = absurd (omega arith)
exchange_at (x ∷ y ∷ xs) h a b =
    let t : take (length (x ∷ y ∷ xs) - 2) xs ≡ xs = take_rest (x ∷ y ∷ xs) 2 in
    let l : length xs ≡ x * 256 + y = ap length (sym t) ∙ b in
    ap Some t ∙ sym (cond-true _ _ _ (and_from _ _ (le-leb 1 (x * 256 + y) a) (eq-eqb (length xs) (x * 256 + y) l)))
