-- How octets fill a block, and blocks the chaining value.
use Rattle.std.proofs.Common.{◌≡◌, ℕ, suc, ◌+◌, ◌%◌, ◌^◌, ◌<◌, List, [], ◌∷◌, ◌++◌, length, sym, refl, ap, ◌∙◌, arith}
use Rattle.std.proofs.lemmas.List.{append-nil, append_assoc, length-append}
use Rattle.std.proofs.lemmas.Bool.{eq-eqb, ne_eqb, cond-true, cond-false}
use Rattle.sm3.specs.Compress.{compress}
use Rattle.sm3.specs.Hash.{Running, absorb}

-- a hash under way, by its parts
abbrev pub run : List ℕ → List ℕ → ℕ → Running
run v p n = record { chain = v; pending = p; count = n }

pub same : {u v p q : List ℕ} {m n : ℕ} → u ≡ v → p ≡ q → m ≡ n → run u p m ≡ run v q n
same a b c = λ i. record { chain = a i; pending = b i; count = c i }

-- octets that do not fill the block
pub absorb_part : (v p xs : List ℕ) (c : ℕ) → c < 2 ^ 64 → length p + length xs < 64
    → absorb (run v p c) xs ≡ run v (p ++ xs) ((c + length xs) % 2 ^ 64)
unfolding absorb
absorb_part v p [] c b h = same refl (sym (append-nil p)) (omega arith)
absorb_part v p (x ∷ xs) c b h =
    let n : length p ≡ 63 → ⊥ = λ e. omega arith in
    let l : length (p ++ x ∷ []) + length xs < 64 = simp length-append (omega arith) in
    let ih = absorb_part v (p ++ x ∷ []) xs ((c + 1) % 2 ^ 64) (omega arith) l in
    ap (λ s. absorb s xs) (cond-false _ _ _ (ne_eqb _ _ n)) ∙ ih ∙ same refl (append_assoc p (x ∷ []) xs) (omega arith)

-- octets that fill it, the first of them apart
pub absorb_rest : (v p xs : List ℕ) (x c : ℕ) → c < 2 ^ 64 → length p + length xs ≡ 63
    → absorb (run v p c) (x ∷ xs) ≡ run (compress v (p ++ x ∷ xs)) [] ((c + suc (length xs)) % 2 ^ 64)
unfolding absorb
absorb_rest v p [] x c b h =
    let l : length p ≡ 63 = omega arith in
    cond-true _ _ _ (eq-eqb _ _ l) ∙ same refl refl (omega arith)
absorb_rest v p (y ∷ ys) x c b h =
    let n : length p ≡ 63 → ⊥ = λ e. omega arith in
    let l : length (p ++ x ∷ []) + length ys ≡ 63 = simp length-append (omega arith) in
    let ih = absorb_rest v (p ++ x ∷ []) ys y ((c + 1) % 2 ^ 64) (omega arith) l in
    ap (λ s. absorb s (y ∷ ys)) (cond-false _ _ _ (ne_eqb _ _ n)) ∙ ih
    ∙ same (ap (compress v) (append_assoc p (x ∷ []) (y ∷ ys))) refl (omega arith)

-- the same, for any list of them
pub absorb_full : (v p xs : List ℕ) (c : ℕ) → c < 2 ^ 64 → length p < 64 → length p + length xs ≡ 64
    → absorb (run v p c) xs ≡ run (compress v (p ++ xs)) [] ((c + length xs) % 2 ^ 64)
absorb_full v p [] c b g h = absurd (omega arith)
absorb_full v p (x ∷ xs) c b g h = absorb_rest v p xs x c b (omega arith)
