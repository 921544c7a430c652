-- Numbers and their octets.
use Rattle.std.proofs.Common.{◌≡◌, ℕ, zero, suc, ◌+◌, ◌-◌, ◌*◌, ◌/◌, ◌%◌, ◌^◌, ◌<◌, List, [], ◌∷◌, ◌++◌, length, get_or, take, drop, replicate, sym, refl, ap, ◌∙◌, ap₂, add_assoc, mul_assoc, add-mul, pow-suc, arith}
use native.Mathlib.Nat.{pow-succ'}
use lib.Arith.{mod-mul}
use lib.Bits.{bit_or}
use Rattle.std.proofs.lemmas.Nat.{or_shifted}
use Rattle.std.proofs.lemmas.List.{drop_more, drop_all, take_rest, drop-replicate}
use Rattle.gcm.specs.Blocks.{value, value_from, octets_of}

-- ---- the number of 16 octets

abbrev reads : ℕ → ℕ → List ℕ → List ℕ
reads zero i l = []
reads (suc n) i l = get_or l i 0 ∷ reads n (i + 1) l

read_all : (n i : ℕ) (l : List ℕ) → length l ≡ i + n → drop i l ≡ reads n i l
read_all zero i l e = drop_all i l (omega arith)
read_all (suc n) i l e = drop_more l i 0 (omega arith) ∙ ap (λ (t : List ℕ). get_or l i 0 ∷ t) (read_all n (i + 1) l (omega arith))

-- what `u128::from_be_bytes` gives
unfoldable pub sum : List ℕ → ℕ
sum l =
    get_or l 0 0 * 1329227995784915872903807060280344576 + get_or l 1 0 * 5192296858534827628530496329220096 + get_or l 2 0 * 20282409603651670423947251286016
    + get_or l 3 0 * 79228162514264337593543950336 + get_or l 4 0 * 309485009821345068724781056 + get_or l 5 0 * 1208925819614629174706176
    + get_or l 6 0 * 4722366482869645213696 + get_or l 7 0 * 18446744073709551616 + get_or l 8 0 * 72057594037927936 + get_or l 9 0 * 281474976710656
    + get_or l 10 0 * 1099511627776 + get_or l 11 0 * 4294967296 + get_or l 12 0 * 16777216 + get_or l 13 0 * 65536 + get_or l 14 0 * 256 + get_or l 15 0

pub value_sum : (l : List ℕ) {r : ℕ} → length l ≡ 16 → r ≡ sum l → r ≡ value l
unfolding value sum
value_sum l {r} e er =
    let f : value_from 0 (reads 16 0 l) ≡ sum l = omega arith in
    er ∙ sym f ∙ sym (ap (value_from 0) (read_all 16 0 l e))

-- ---- the number of a number's octets

pos_pow : (k : ℕ) → zero < 256 ^ k
pos_pow zero = omega arith
pos_pow (suc k) = let h = pos_pow k in rw (pow-suc 256 k) (omega arith)

value_octets : (k n acc : ℕ) → value_from acc (octets_of k n) ≡ acc * 256 ^ k + n % 256 ^ k
value_octets zero n acc = omega arith
value_octets (suc zero) n acc = refl
value_octets (suc (suc k)) n acc =
    let hP : zero < 256 ^ suc k = pos_pow (suc k) in
    let h6 : zero < 256 = omega arith in
    value_octets (suc k) n (acc * 256 + n / 256 ^ suc k % 256)
    ∙ rw (
      pow-succ' 256 (suc k),
      mod-mul n {m = 256} {c = 256 ^ suc k} h6 hP,
      add-mul (acc * 256) (n / 256 ^ suc k % 256) (256 ^ suc k),
      mul_assoc acc 256 (256 ^ suc k),
    )
    (add_assoc (acc * (256 * 256 ^ suc k)) (n / 256 ^ suc k % 256 * 256 ^ suc k) (n % 256 ^ suc k))

value_from-++ : (n : ℕ) (xs ys : List ℕ) → value_from n (xs ++ ys) ≡ value_from (value_from n xs) ys
value_from-++ n [] ys = refl
value_from-++ n (x ∷ xs) ys = value_from-++ (n * 256 + x) xs ys

-- two numbers of 64 bits as one of 128
pub value_pair : (a b : ℕ) → bit_or (a % 2 ^ 64 * 2 ^ 64 % 2 ^ 128) (b % 2 ^ 64) ≡ value (octets_of 8 a ++ octets_of 8 b)
unfolding value
value_pair a b =
    let l : b % 2 ^ 64 < 2 ^ 64 = omega arith in
    let e : a % 2 ^ 64 * 2 ^ 64 % 2 ^ 128 ≡ a % 2 ^ 64 * 2 ^ 64 = omega arith in
    let f : value_from 0 (octets_of 8 a) ≡ a % 2 ^ 64 = value_octets 8 a 0 ∙ omega arith in
    ap (λ n. bit_or n (b % 2 ^ 64)) e ∙ or_shifted (a % 2 ^ 64) 64 (b % 2 ^ 64) l
    ∙ sym (value_from-++ 0 (octets_of 8 a) (octets_of 8 b) ∙ ap (λ n. value_from n (octets_of 8 b)) f ∙ value_octets 8 b (a % 2 ^ 64))

-- a number with the four octets 0, 0, 0, 1 behind it
pub value_one : (xs : List ℕ) → value (xs ++ (0 ∷ 0 ∷ 0 ∷ 1 ∷ [])) ≡ value xs * 2 ^ 32 + 1
unfolding value
value_one xs = value_from-++ 0 xs (0 ∷ 0 ∷ 0 ∷ 1 ∷ []) ∙ omega arith

-- ---- a block that is filled up

zeros_left : (n k : ℕ) → 16 - n ≡ k → drop n (replicate {A = ℕ} 16 0) ≡ replicate k 0
zeros_left n k e = drop-replicate n 16 0 ∙ ap (λ m. replicate m 0) e

octets_left : (xs : List ℕ) (n k : ℕ) → n ≡ k → take (length xs - n) (drop n xs) ≡ drop k xs
octets_left xs n k e = take_rest xs n ∙ ap (λ m. drop m xs) e

pub last_is : (xs ys : List ℕ) → ys ≡ take (length xs - (length xs - length xs % 16)) (drop (length xs - length xs % 16) xs)
    → ys ++ drop (length xs % 16 - 0) (replicate 16 0) ≡ drop (length xs / 16 * 16) xs ++ replicate (16 - length xs % 16) 0
last_is xs ys e =
    ap₂ (λ l r. l ++ r) (e ∙ octets_left xs (length xs - length xs % 16) (length xs / 16 * 16) (omega arith))
    (zeros_left (length xs % 16 - 0) (16 - length xs % 16) (omega arith))
