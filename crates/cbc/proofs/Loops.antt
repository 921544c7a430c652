-- The steps of the loops over blocks and over the octets of a block, as equations.
use Rattle.std.proofs.Common.{◌≡◌, ℕ, suc, ◌+◌, ◌-◌, ◌*◌, ◌<◌, ◌≤◌, List, [], ◌∷◌, ◌++◌, length, get_or, take, drop, set, sym, ap, ◌∙◌, append_assoc, arith}
use lib.Bits.{bit_xor}
use borrow.Rule.Slice.PartMut.{put_mid}
use Rattle.std.proofs.lemmas.List.{drop-drop, take_at, drop_at, length-take-le, length-append, take-append-drop, drop_more, take_more_set, drop-set-lt, drop_all, take_all, append-nil}
use Rattle.cbc.specs.Cbc.{xors}

-- a write to `octets[a..a + n]`
pub put_is : (a n : ℕ) (xs : List ℕ) {ys zs : List ℕ} → ys ≡ zs → put_mid a (a + n - a) xs ys ≡ take a xs ++ (zs ++ drop (a + n) xs)
put_is a n xs {ys} {zs} e =
    let k : a + n - a ≡ n = omega arith in
    ap (λ (m : ℕ). put_mid a m xs ys) k ∙ ap (λ (l : List ℕ). put_mid a n xs l) e ∙ ap (λ (l : List ℕ). take a xs ++ (zs ++ l)) (drop-drop n a xs)

-- one octet more of a block xor another
pub xors_more : (out ys : List ℕ) (i : ℕ) {v : ℕ} {t : List ℕ} → i < length out → i < length ys → v ≡ bit_xor (get_or out i 0) (get_or ys i 0)
    → take i out ++ xors (drop i out) (drop i ys) ≡ t → take (i + 1) (set out i v) ++ xors (drop (i + 1) (set out i v)) (drop (i + 1) ys) ≡ t
xors_more out ys i {v} {t} ho hy ev inv =
    let rest = xors (drop (i + 1) out) (drop (i + 1) ys) in
    ap (λ (l : List ℕ). take (i + 1) (set out i v) ++ xors l (drop (i + 1) ys)) (drop-set-lt (i + 1) out i v (omega arith))
    ∙ ap (λ (l : List ℕ). l ++ rest) (take_more_set out i v ho) ∙ append_assoc (take i out) (v ∷ []) rest
    ∙ ap (λ (n : ℕ). take i out ++ (n ∷ rest)) ev
    ∙ sym (ap (λ (l : List ℕ). take i out ++ xors l (drop i ys)) (drop_more out i 0 ho) ∙ ap (λ (l : List ℕ). take i out ++ xors (get_or out i 0 ∷ drop (i + 1) out) l) (drop_more ys i 0 hy))
    ∙ inv

pub xors_all : (out ys : List ℕ) (i : ℕ) {t : List ℕ} → length out ≤ i → take i out ++ xors (drop i out) (drop i ys) ≡ t → out ≡ t
xors_all out ys i h inv =
    sym (take_all i out h) ∙ sym (append-nil (take i out)) ∙ sym (ap (λ (l : List ℕ). take i out ++ xors l (drop i ys)) (drop_all i out h)) ∙ inv

-- one block more: `F m before xs` is what m blocks of xs become, of which the first becomes `out`
pub blocks_more : (F : ℕ → List ℕ → List ℕ → List ℕ) (xs before out next : List ℕ) (i n : ℕ) {xs' t : List ℕ} → i < n → n * 16 ≤ length xs → length out ≡ 16
    → ((m : ℕ) → F (suc m) before (drop (i * 16) xs) ≡ out ++ F m next (drop 16 (drop (i * 16) xs)))
    → xs' ≡ take (i * 16) xs ++ (out ++ drop (i * 16 + 16) xs) → take (i * 16) xs ++ F (n - i) before (drop (i * 16) xs) ≡ t
    → take ((i + 1) * 16) xs' ++ F (n - (i + 1)) next (drop ((i + 1) * 16) xs') ≡ t
blocks_more F xs before out next i n {xs'} {t} h hn lo step ex inv =
    let A : List ℕ = take (i * 16) xs in
    let D : List ℕ = drop (i * 16 + 16) xs in
    let m : ℕ = n - (i + 1) in
    let lA : length (take (i * 16) xs) ≡ i * 16 = length-take-le (i * 16) xs (omega arith) in
    let lAo : length (A ++ out) ≡ (i + 1) * 16 = length-append A out ∙ omega arith in
    let eq : xs' ≡ (A ++ out) ++ D = ex ∙ sym (append_assoc A out D) in
    let k : n - i ≡ suc (n - (i + 1)) = omega arith in
    ap (λ (l : List ℕ). take ((i + 1) * 16) l ++ F m next (drop ((i + 1) * 16) l)) eq
    ∙ ap (λ (l : List ℕ). l ++ F m next (drop ((i + 1) * 16) ((A ++ out) ++ D))) (take_at (A ++ out) D ((i + 1) * 16) lAo)
    ∙ ap (λ (l : List ℕ). (A ++ out) ++ F m next l) (drop_at (A ++ out) D ((i + 1) * 16) lAo) ∙ append_assoc A out (F m next D)
    ∙ ap (λ (l : List ℕ). A ++ (out ++ F m next l)) (sym (drop-drop 16 (i * 16) xs)) ∙ ap (λ (l : List ℕ). A ++ l) (sym (step m))
    ∙ ap (λ (j : ℕ). A ++ F j before (drop (i * 16) xs)) (sym k) ∙ inv

pub blocks_all : (F : ℕ → List ℕ → List ℕ → List ℕ) (xs before : List ℕ) (i n : ℕ) {t : List ℕ} → ((ys : List ℕ) → F 0 before ys ≡ ys) → n ≡ i
    → take (i * 16) xs ++ F (n - i) before (drop (i * 16) xs) ≡ t → xs ≡ t
blocks_all F xs before i n none e inv =
    let k : n - i ≡ 0 = omega arith in
    sym (take-append-drop (i * 16) xs) ∙ ap (λ (l : List ℕ). take (i * 16) xs ++ l) (sym (none (drop (i * 16) xs)))
    ∙ ap (λ (m : ℕ). take (i * 16) xs ++ F m before (drop (i * 16) xs)) (sym k) ∙ inv
