-- Texts by blocks, and GHASH over them.
use Rattle.std.proofs.Common.{◌≡◌, ℕ, zero, suc, ◌+◌, ◌-◌, ◌*◌, ◌/◌, ◌%◌, ◌<◌, ◌≤◌, List, [], ◌∷◌, ◌++◌, length, take, drop, replicate, sym, refl, ap, ◌∙◌, ap₂, suc-add, zero-add, arith}
use lib.Bits.{bit_xor}
use Rattle.std.proofs.lemmas.List.{length-append, length-replicate, length-drop, drop-append-le, take-append-le, take_all, drop-drop, nil_from_length}
use Rattle.gcm.specs.Blocks.{value, block_count, filled, blocks}
use Rattle.gcm.specs.Field.{product}
use Rattle.gcm.specs.Ghash.{hashed, absorbed, ghash}
use Rattle.gcm.specs.Gcm.{bits64}

-- ---- texts with zeros up to whole blocks

pub length-filled : (xs : List ℕ) → length (filled xs) ≡ block_count xs * 16
unfolding filled
length-filled xs =
    length-append xs (replicate (block_count xs * 16 - length xs) 0)
    ∙ ap (λ n. length xs + n) (length-replicate (block_count xs * 16 - length xs) 0) ∙ omega arith

-- a whole block stands in the filled text as in the text
filled_whole : (xs : List ℕ) (i : ℕ) → i < length xs / 16 → take 16 (drop (i * 16) (filled xs)) ≡ take 16 (drop (i * 16) xs)
unfolding filled
filled_whole xs i h =
    let z : List ℕ = replicate (block_count xs * 16 - length xs) 0 in
    let l : 16 ≤ length (drop (i * 16) xs) = rw length-drop (omega arith) in
    ap (take 16) (drop-append-le (i * 16) xs z (omega arith)) ∙ take-append-le 16 (drop (i * 16) xs) z l

-- the block that is filled up
filled_last : (xs : List ℕ) → 0 < length xs % 16
    → take 16 (drop (length xs / 16 * 16) (filled xs)) ≡ drop (length xs / 16 * 16) xs ++ replicate (16 - length xs % 16) 0
unfolding filled
filled_last xs h =
    let n : ℕ = length xs / 16 * 16 in
    let k : block_count xs * 16 - length xs ≡ 16 - length xs % 16 = omega arith in
    let l : length (drop n xs ++ replicate (16 - length xs % 16) 0) ≤ 16
    = simp (length-append, length-drop, length-replicate) (omega arith) in
    ap (λ m. take 16 (drop n (xs ++ replicate m 0))) k ∙ ap (take 16) (drop-append-le n xs (replicate (16 - length xs % 16) 0) (omega arith))
    ∙ take_all 16 (drop n xs ++ replicate (16 - length xs % 16) 0) l

-- ---- a text after another

blocks-++ : (m n : ℕ) (xs ys : List ℕ) → length xs ≡ m * 16 → blocks (m + n) (xs ++ ys) ≡ blocks m xs ++ blocks n ys
blocks-++ zero n xs ys e =
    let z : xs ≡ [] = nil_from_length xs e in
    ap₂ (λ k l. blocks k (l ++ ys)) (zero-add n) z
blocks-++ (suc m) n xs ys e =
    let l : 16 ≤ length xs = omega arith in
    let d : length (drop 16 xs) ≡ m * 16 = rw length-drop (omega arith) in
    ap (λ k. blocks k (xs ++ ys)) (suc-add m n)
    ∙ ap₂ (λ b t. value b ∷ blocks (m + n) t) (take-append-le 16 xs ys l) (drop-append-le 16 xs ys l)
    ∙ ap (λ t. value (take 16 xs) ∷ t) (blocks-++ m n (drop 16 xs) ys d)

hashed-++ : (h y : ℕ) (xs ys : List ℕ) → hashed h y (xs ++ ys) ≡ hashed h (hashed h y xs) ys
hashed-++ h y [] ys = refl
hashed-++ h y (x ∷ xs) ys = hashed-++ h (product (bit_xor y x) h) xs ys

-- ---- the loop over a text: what is left gives the same hash

pub hash_more : (h : ℕ) (xs : List ℕ) (i y : ℕ) {b : List ℕ} {v r t : ℕ} → i < length xs / 16 → b ≡ take 16 (drop (i * 16) xs) → v ≡ value b
    → r ≡ product (bit_xor y v) h → hashed h y (blocks (block_count xs - i) (drop (i * 16) (filled xs))) ≡ t
    → hashed h r (blocks (block_count xs - (i + 1)) (drop ((i + 1) * 16) (filled xs))) ≡ t
hash_more h xs i y {b} {v} {r} {t} l eb ev er inv =
    let n : ℕ = block_count xs - (i + 1) in
    let k : block_count xs - i ≡ suc (block_count xs - (i + 1)) = omega arith in
    let d : drop ((i + 1) * 16) (filled xs) ≡ drop 16 (drop (i * 16) (filled xs))
    = let f : (i + 1) * 16 ≡ i * 16 + 16 = omega arith in ap (λ j. drop j (filled xs)) f ∙ sym (drop-drop 16 (i * 16) (filled xs)) in
    let x : v ≡ value (take 16 (drop (i * 16) (filled xs))) = ev ∙ ap value (eb ∙ sym (filled_whole xs i l)) in
    ap₂ (λ s u. hashed h s (blocks n u)) (er ∙ ap (λ s. product (bit_xor y s) h) x) d
    ∙ ap (λ j. hashed h y (blocks j (drop (i * 16) (filled xs)))) (sym k) ∙ inv

pub hash_whole : (h : ℕ) (xs : List ℕ) (i y : ℕ) {t : ℕ} → i ≡ length xs / 16 → length xs % 16 ≡ 0
    → hashed h y (blocks (block_count xs - i) (drop (i * 16) (filled xs))) ≡ t → y ≡ t
hash_whole h xs i y {t} e z inv =
    let k : block_count xs - i ≡ 0 = omega arith in
    ap (λ j. hashed h y (blocks j (drop (i * 16) (filled xs)))) (sym k) ∙ inv

pub hash_last : (h : ℕ) (xs : List ℕ) (i y : ℕ) {b : List ℕ} {v r t : ℕ} → i ≡ length xs / 16 → 0 < length xs % 16
    → b ≡ drop (length xs / 16 * 16) xs ++ replicate (16 - length xs % 16) 0 → v ≡ value b → r ≡ product (bit_xor y v) h
    → hashed h y (blocks (block_count xs - i) (drop (i * 16) (filled xs))) ≡ t → r ≡ t
hash_last h xs i y {b} {v} {r} {t} e l eb ev er inv =
    let k : block_count xs - i ≡ 1 = omega arith in
    let x : v ≡ value (take 16 (drop (i * 16) (filled xs)))
    = ev ∙ ap value (eb ∙ sym (filled_last xs l) ∙ ap (λ j. take 16 (drop (j * 16) (filled xs))) (sym e)) in
    er ∙ ap (λ s. product (bit_xor y s) h) x ∙ ap (λ j. hashed h y (blocks j (drop (i * 16) (filled xs)))) (sym k) ∙ inv

-- ---- two texts and their lengths

pub digest_is : (h : ℕ) (a c : List ℕ)
    → product (bit_xor (absorbed h (absorbed h 0 a) c) (value (bits64 (length a) ++ bits64 (length c)))) h
    ≡ ghash h (filled a ++ (filled c ++ (bits64 (length a) ++ bits64 (length c))))
unfolding ghash bits64
digest_is h a c =
    let n : List ℕ = bits64 (length a) ++ bits64 (length c) in
    let la = length-filled a in
    let lc = length-filled c in
    let count : length (filled a ++ (filled c ++ n)) / 16 ≡ block_count a + (block_count c + 1)
    = simp (length-append, length-filled) (omega arith) in
    let both : blocks (block_count a + (block_count c + 1)) (filled a ++ (filled c ++ n))
    ≡ blocks (block_count a) (filled a) ++ (blocks (block_count c) (filled c) ++ (value n ∷ []))
    = blocks-++ (block_count a) (block_count c + 1) (filled a) (filled c ++ n) la
    ∙ ap (λ q. blocks (block_count a) (filled a) ++ q) (blocks-++ (block_count c) 1 (filled c) n lc) in
    sym (
    ap (λ k. hashed h 0 (blocks k (filled a ++ (filled c ++ n)))) count ∙ ap (hashed h 0) both
    ∙ hashed-++ h 0 (blocks (block_count a) (filled a)) (blocks (block_count c) (filled c) ++ (value n ∷ []))
    ∙ hashed-++ h (absorbed h 0 a) (blocks (block_count c) (filled c)) (value n ∷ []))
