-- The rounds under the keys in the opposite sequence undo the rounds. Nothing of T is used.
use Rattle.std.proofs.Common.{◌≡◌, ℕ, List, [], ◌∷◌, ◌++◌, reverse, sym, refl, ap, ◌∙◌}
use mathlib.Core.List.{reverse-cons}
use lib.Bits.{bit_xor, xor_assoc, xor_comm, xor_self, xor_zero_r}
use Rattle.sm4.specs.Cipher.{Quad, round, rounds, reversed}
use Rattle.sm4.specs.Transform.{transform}

-- the sum of three words, from either end
three : (b c d k : ℕ) → bit_xor (bit_xor (bit_xor d c) b) k ≡ bit_xor (bit_xor (bit_xor b c) d) k
three b c d k = ap (λ (n : ℕ). bit_xor n k) (xor_comm (bit_xor d c) b ∙ ap (λ (n : ℕ). bit_xor b n) (xor_comm d c) ∙ sym (xor_assoc b c d))

pub xor_back : (a m : ℕ) → bit_xor (bit_xor a m) m ≡ a
xor_back a m = xor_assoc a m m ∙ ap (λ (n : ℕ). bit_xor a n) (xor_self m) ∙ xor_zero_r a

-- one round, and the same round on the words reversed
round_back : (k : ℕ) (s : Quad) → round k (reversed (round k s)) ≡ reversed s
round_back k s =
    ap (λ (n : ℕ). record { x0 = s.x3; x1 = s.x2; x2 = s.x1; x3 = n })
    (ap (λ (n : ℕ). bit_xor (bit_xor s.x0 (transform (bit_xor (bit_xor (bit_xor s.x1 s.x2) s.x3) k))) (transform n)) (three s.x1 s.x2 s.x3 k)
    ∙ xor_back s.x0 (transform (bit_xor (bit_xor (bit_xor s.x1 s.x2) s.x3) k)))

rounds_last : (ks : List ℕ) (k : ℕ) (s : Quad) → rounds (ks ++ k ∷ []) s ≡ round k (rounds ks s)
rounds_last [] k s = refl
rounds_last (j ∷ ks) k s = rounds_last ks k (round j s)

pub rounds_back : (ks : List ℕ) (s : Quad) → rounds (reverse ks) (reversed (rounds ks s)) ≡ reversed s
rounds_back [] s = refl
rounds_back (k ∷ ks) s =
    ap (λ (l : List ℕ). rounds l (reversed (rounds ks (round k s)))) (reverse-cons k ks)
    ∙ rounds_last (reverse ks) k (reversed (rounds ks (round k s))) ∙ ap (λ (q : Quad). round k q) (rounds_back ks (round k s)) ∙ round_back k s
