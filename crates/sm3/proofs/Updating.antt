-- The code's ways to take octets, each the same as octet by octet.
use Rattle.std.proofs.Common.{◌≡◌, ℕ, suc, ◌+◌, ◌-◌, ◌*◌, ◌%◌, ◌^◌, ◌<◌, ◌≤◌, List, [], ◌∷◌, ◌++◌, length, take, drop, replicate, sym, refl, ap, ◌∙◌, arith}
use borrow.Rule.Slice.PartMut.{put_mid}
use Rattle.std.proofs.lemmas.List.{append-nil, append_assoc, length-take-le, length-drop, take-append-drop, take-take, take_at, drop-take, take_all, drop_all, take_rest, take-replicate, drop-replicate}
use Rattle.std.proofs.lemmas.Slice.{take-put_mid}
use Rattle.sm3.specs.Compress.{compress}
use Rattle.sm3.specs.Hash.{Running, absorb, padding, octets64, output, finished}
use Rattle.sm3.proofs.Filling.{run, same, absorb_part, absorb_full}
use Rattle.sm3.proofs.Running.{absorb-++, absorb_held, length-padding}

-- octets written behind the pending ones, ys being what the part of the block then holds
pub hold_is : (v b xs ys : List ℕ) (c at : ℕ) → c < 2 ^ 64 → length b ≡ 64 → at ≡ c % 64 → c % 64 + length xs < 64 → ys ≡ xs
    → run v (take ((c + length xs) % 2 ^ 64 % 64) (put_mid at (at + length xs - at) b ys)) ((c + length xs) % 2 ^ 64) ≡ absorb (run v (take (c % 64) b) c) xs
hold_is v b xs ys c at h l p r e =
    let n : (c + length xs) % 2 ^ 64 % 64 ≡ at + length ys = let k = ap length e in omega arith in
    let t = take-put_mid at (at + length xs - at) b ys _ n (omega arith) in
    let d : take at b ++ ys ≡ take (c % 64) b ++ xs = simp (p, e) in
    let w = length-take-le (c % 64) b (omega arith) in
    same refl (t ∙ d) refl ∙ sym (absorb_part v (take (c % 64) b) xs c h (omega arith))

-- octets that fill the block
pub complete_is : (v v' b xs ys : List ℕ) (c at : ℕ) → c < 2 ^ 64 → length b ≡ 64 → at ≡ c % 64 → c % 64 + length xs ≡ 64 → ys ≡ xs
    → v' ≡ compress v (put_mid at (64 - at) b ys)
    → run v' (take ((c + length xs) % 2 ^ 64 % 64) (put_mid at (64 - at) b ys)) ((c + length xs) % 2 ^ 64) ≡ absorb (run v (take (c % 64) b) c) xs
complete_is v v' b xs ys c at h l p r e m =
    let z : (c + length xs) % 2 ^ 64 % 64 ≡ 0 = omega arith in
    let w = length-take-le (c % 64) b (omega arith) in
    let g : drop (64 - at) (drop at b) ≡ [] = drop_all (64 - at) (drop at b) (simp length-drop (omega arith)) in
    let d : put_mid at (64 - at) b ys ≡ take (c % 64) b ++ xs =
    ap (λ zs. take at b ++ (ys ++ zs)) g ∙ ap (λ zs. take at b ++ zs) (append-nil ys) ∙ simp (p, e) in
    same (m ∙ ap (compress v) d) (ap (λ k. take k (put_mid at (64 - at) b ys)) z) refl
    ∙ sym (absorb_full v (take (c % 64) b) xs c h (omega arith) (omega arith))

-- a part and the one behind it
take_parts : (i n : ℕ) (xs : List ℕ) → take i xs ++ take n (drop i xs) ≡ take (i + n) xs
take_parts i n xs =
    let le : i ≤ i + n = omega arith in
    sym (ap (λ ys. ys ++ take n (drop i xs)) (take-take i (i + n) xs le)) ∙ sym (ap (λ ys. take i (take (i + n) xs) ++ ys) (drop-take i n xs))
    ∙ take-append-drop i (take (i + n) xs)

-- one block more, compressed where it stands
pub block_more : (u v v' xs : List ℕ) (c i : ℕ) → c < 2 ^ 64 → i + 64 ≤ length xs → run v [] ((c + i) % 2 ^ 64) ≡ absorb (run u [] c) (take i xs)
    → v' ≡ compress v (take (i + 64 - i) (drop i xs)) → run v' [] ((c + (i + 64)) % 2 ^ 64) ≡ absorb (run u [] c) (take (i + 64) xs)
block_more u v v' xs c i h le e m =
    let k : i + 64 - i ≡ 64 = omega arith in
    let l : length (take 64 (drop i xs)) ≡ 64 = length-take-le 64 (drop i xs) (simp length-drop (omega arith)) in
    let f = absorb_full v [] (take 64 (drop i xs)) ((c + i) % 2 ^ 64) (omega arith) (omega arith) (omega arith) in
    same (m ∙ ap (λ n. compress v (take n (drop i xs))) k) refl (omega arith)
    ∙ sym f ∙ ap (λ s. absorb s (take 64 (drop i xs))) e ∙ sym (absorb-++ (run u [] c) (take i xs) (take 64 (drop i xs)))
    ∙ ap (absorb (run u [] c)) (take_parts i 64 xs)

-- the last of them, n being the count as it still stands
pub blocks_all : (u v b b' xs : List ℕ) (c n i : ℕ) → n ≡ c → c % 64 ≡ 0 → length xs % 64 ≡ 0 → i ≡ length xs
    → run v [] ((c + i) % 2 ^ 64) ≡ absorb (run u [] c) (take i xs)
    → run v (take ((n + length xs) % 2 ^ 64 % 64) b') ((n + length xs) % 2 ^ 64) ≡ absorb (run u (take (c % 64) b) c) xs
blocks_all u v b b' xs c n i m z q p e =
    let k : (n + length xs) % 2 ^ 64 % 64 ≡ 0 = omega arith in
    same refl (ap (λ j. take j b') k) (omega arith) ∙ e
    ∙ ap (absorb (run u [] c)) (take_all i xs (omega arith))
    ∙ ap (λ j. absorb (run u (take j b) c) xs) (sym z)

-- how far into a block a hash under way has come
pub held_after : (s t : Running) (xs : List ℕ) → t ≡ absorb s xs → t.count % 64 ≡ (s.count + length xs) % 64
held_after s t xs e = ap (λ (r : Running). r.count % 64) e ∙ absorb_held s xs

-- a list cut in two
pub cut_is : (w : ℕ) (xs : List ℕ) → take (w - 0) xs ++ take (length xs - w) (drop w xs) ≡ xs
cut_is w xs =
    let z : w - 0 ≡ w = omega arith in
    ap (λ n. take n xs ++ take (length xs - w) (drop w xs)) z ∙ ap (λ ys. take w xs ++ ys) (take_rest xs w) ∙ take-append-drop w xs

-- what follows the whole blocks does not fill another
pub rest_fits : (c d w : ℕ) (xs : List ℕ) → c % 64 ≡ 0 → w ≡ length xs - length xs % 64 → d % 64 ≡ (c + length (take (w - 0) xs)) % 64
    → d % 64 + length (take (length xs - w) (drop w xs)) < 64
rest_fits c d w xs z e q =
    let t = ap length (take_rest xs w) ∙ length-drop w xs in
    let l = length-take-le (w - 0) xs (omega arith) in
    omega arith

-- the octets that a block still takes bring the count to a whole block
pub filled_up : (c d h : ℕ) (xs : List ℕ) → h ≡ c % 64 → 64 - h ≤ length xs → d % 64 ≡ (c + length (take (64 - h - 0) xs)) % 64 → d % 64 ≡ 0
filled_up c d h xs e le q =
    let l = length-take-le (64 - h - 0) xs (omega arith) in
    omega arith

-- two parts, one after the other
pub parts_are : (s t u : Running) (xs ys zs : List ℕ) → t ≡ absorb s xs → u ≡ absorb t ys → xs ++ ys ≡ zs → u ≡ absorb s zs
parts_are s t u xs ys zs e d p = d ∙ ap (λ r. absorb r ys) e ∙ sym (absorb-++ s xs ys) ∙ ap (absorb s) p

-- octets written into a row of m zeros behind 128
tail_is : (m g a k : ℕ) (bits : List ℕ) → m ≡ 71 → g ≤ 63 → a ≡ suc g → k ≡ 8
    → put_mid a k (128 ∷ replicate {A = ℕ} m 0) bits ≡ (128 ∷ (replicate g 0 ++ bits)) ++ replicate (63 - g) 0
tail_is m g a k bits w h p d =
    let le : g ≤ m = omega arith in
    let q : m - g - 8 ≡ 63 - g = omega arith in
    let front = take-replicate {X = ℕ} g m 0 le in
    let back : drop 8 (drop g (replicate {A = ℕ} m 0)) ≡ replicate (63 - g) 0 = simp (drop-replicate, q) in
    rw (p, d) (rw (front, back, append_assoc) refl)

-- with the number of bits, that is the padding
pub padding_is : (m c e : ℕ) (bits : List ℕ) → m ≡ 71 → e ≡ (119 - c % 64) % 64 + 9 → bits ≡ octets64 (c * 8 % 2 ^ 64)
    → put_mid (e - 8) (e - (e - 8)) (128 ∷ replicate {A = ℕ} m 0) bits ≡ padding c ++ replicate (63 - (119 - c % 64) % 64) 0
unfolding padding
padding_is m c e bits w p b =
    tail_is m ((119 - c % 64) % 64) (e - 8) (e - (e - 8)) bits w (omega arith) (omega arith) (omega arith)
    ∙ ap (λ ys. (128 ∷ (replicate ((119 - c % 64) % 64) 0 ++ ys)) ++ replicate (63 - (119 - c % 64) % 64) 0) b

-- the padding taken too, cut from what holds it
pub finished_by : (s t : Running) (zs tail : List ℕ) (e : ℕ) → e ≡ (119 - s.count % 64) % 64 + 9 → tail ≡ padding s.count ++ zs
    → t ≡ absorb s (take (e - 0) tail) → output t.chain ≡ finished s
unfolding finished
finished_by s t zs tail e n p q =
    let l : length (padding s.count) ≡ e - 0 = length-padding s.count ∙ omega arith in
    let f : take (e - 0) tail ≡ padding s.count = ap (take (e - 0)) p ∙ take_at (padding s.count) zs (e - 0) l in
    ap (λ (r : Running). output r.chain) (q ∙ ap (absorb s) f)
