-- The laws of xor on lists.
use Rattle.std.proofs.Common.{◌≡◌, ℕ, suc, List, [], ◌∷◌, length, refl, ap, ◌∙◌}
use lib.Bits.{bit_xor, xor_assoc, xor_self, xor_zero_r, xor_lt}
use Rattle.octets.specs.Octets.{Octets}
use Rattle.cbc.specs.Cbc.{xors}

pub length-xors : (xs ys : List ℕ) → length (xors xs ys) ≡ length xs
length-xors [] ys = refl
length-xors (x ∷ xs) [] = refl
length-xors (x ∷ xs) (y ∷ ys) = ap suc (length-xors xs ys)

-- twice the same is nothing
pub xors_back : (xs ys : List ℕ) → xors (xors xs ys) ys ≡ xs
xors_back [] ys = refl
xors_back (x ∷ xs) [] = refl
xors_back (x ∷ xs) (y ∷ ys) =
    ap (λ (n : ℕ). n ∷ xors (xors xs ys) ys) (xor_assoc x y y ∙ ap (λ (n : ℕ). bit_xor x n) (xor_self y) ∙ xor_zero_r x)
    ∙ ap (λ (l : List ℕ). x ∷ l) (xors_back xs ys)

pub octets_xors : (xs ys : List ℕ) → Octets xs → Octets ys → Octets (xors xs ys)
octets_xors [] ys a b = tt
octets_xors (x ∷ xs) [] a b = a
octets_xors (x ∷ xs) (y ∷ ys) a b = (xor_lt 8 x y a.0 b.0, octets_xors xs ys a.1 b.1)
