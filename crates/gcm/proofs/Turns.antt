-- The loops of src/field.rt and src/hash_key.rt, as equations between numbers.
use Rattle.std.proofs.Common.{◌≡◌, ℕ, zero, suc, ◌+◌, ◌-◌, ◌*◌, ◌/◌, ◌%◌, ◌^◌, ◌<◌, Bool, true, false, cond, T, eqb, List, get_or, sym, ap, ◌∙◌, subst, ap₂, inl, inr, arith, eqb→eq}
use lib.Bits.{bit_and, bit_xor, and_zero_r, and_mask, xor_zero_r}
use Rattle.std.proofs.lemmas.List.FromFn.{get_or-map-range_with_len}
use Rattle.std.proofs.lemmas.Nat.{shr-shr}
use Rattle.std.proofs.lemmas.Bool.{cases_lt}
use Rattle.gcm.specs.Field.{shifted, added, turns}
use Rattle.gcm.specs.Tables.{shifts, multiples}
use Rattle.gcm.proofs.Linear.{shifts_parts, turns_more, turns_octet}

-- ---- one bit

pub add_if_is : (bit z v : ℕ) → bit < 2 → v < 2 ^ 128 → bit_xor z (bit_and v ((0 + (2 ^ 128 - bit)) % 2 ^ 128)) ≡ added bit z v
add_if_is zero z v h hv = ap (bit_xor z) (and_zero_r v) ∙ xor_zero_r z
add_if_is (suc zero) z v h hv = ap (bit_xor z) (and_mask v 128 ∙ omega arith)
add_if_is (suc (suc n)) z v h hv = absurd (omega arith)

pub turn_more : (m n x z v : ℕ) {y w t : ℕ} → n ≡ suc m → y ≡ added (x / 2 ^ m % 2) z v → w ≡ shifted v → turns n x z v ≡ t → turns m x y w ≡ t
unfolding turns
turn_more m n x z v {y} {w} {t} en ey ew inv = ap₂ (turns m x) ey ew ∙ ap (λ q. turns q x z v) (sym en) ∙ inv

pub turn_all : (n x z v : ℕ) {t : ℕ} → n ≡ 0 → turns n x z v ≡ t → z ≡ t
unfolding turns
turn_all n x z v en inv = ap (λ q. turns q x z v) (sym en) ∙ inv

-- ---- one octet

-- what comes in at the front for the octet that falls out
abbrev front : ℕ → ℕ
front k =
    bit_xor (bit_xor (bit_xor (k * 2 ^ 1 % 2 ^ 128) (k * 2 ^ 6 % 2 ^ 128)) (k * 2 ^ 7 % 2 ^ 128)) (k * 2 ^ 8 % 2 ^ 128) * 2 ^ 112 % 2 ^ 128

-- the test passes at each number below n
abbrev below : (ℕ → Bool) → ℕ → Bool
below f zero = true
below f (suc n) = cond (f n) (below f n) false

both : (b c : Bool) → T (cond b c false) → T b × T c
both true c t = (tt, t)
both false c t = absurd t

below_at : (f : ℕ → Bool) (n k : ℕ) → T (below f n) → k < n → T (f k)
below_at f zero k t h = absurd (omega arith)
below_at f (suc n) k t h = elim (cases_lt k n) [
  | inl l ↦ below_at f n k (both (f n) (below f n) t).1 l
  | inr g ↦ (let e : n ≡ k = omega arith in subst (λ (m : ℕ). T (f m)) e (both (f n) (below f n) t).0)
]

-- eight shifts of an octet, by one test over all of them
front_is : (k : ℕ) → k < 256 → front k ≡ shifts 8 k
unfolding shifts
front_is k h = eqb→eq (front k) (shifts 8 k) (below_at (λ k. eqb (front k) (shifts 8 k)) 256 k tt h)

pub shift_octet_is : (z : ℕ) {k : ℕ} → k ≡ z % 256 → bit_xor (z / 256) (front k) ≡ shifts 8 z
shift_octet_is z {k} e =
    let h : z % 256 < 256 = omega arith in
    ap (λ m. bit_xor (z / 256) (front m)) e ∙ ap (bit_xor (z / 256)) (front_is (z % 256) h) ∙ sym (shifts_parts 8 z h)

-- an octet's multiple in the table
multiple_at : (h octet : ℕ) → octet < 256 → get_or (multiples h) octet 0 ≡ turns 8 octet 0 h
unfolding multiples
multiple_at h octet l = get_or-map-range_with_len (λ octet. turns 8 octet 0 h) 0 256 octet octet 0 l (omega arith)

-- one octet more of X, where n bits of it are done and the others are left
pub octet_more : (h x n m z left k : ℕ) (table : List ℕ) {s : ℕ} → m ≡ 8 + n → table ≡ multiples h → left ≡ x / 2 ^ n → k ≡ left % 256
    → s ≡ shifts 8 z → z ≡ turns n x 0 h → bit_xor s (get_or table k 0) ≡ turns m x 0 h
octet_more h x n m z left k table {s} em et el ek es inv =
    let l : left % 256 < 256 = omega arith in
    ap₂ (λ a b. bit_xor a (get_or table b 0)) (es ∙ ap (shifts 8) inv) ek
    ∙ ap (bit_xor (shifts 8 (turns n x 0 h)))
    (ap (λ t. get_or t (left % 256) 0) et ∙ multiple_at h (left % 256) l ∙ sym (turns_octet left h) ∙ ap (λ q. turns 8 q 0 h) el)
    ∙ sym (turns_more 8 n m x h em)

pub left_more : (x n m left : ℕ) → m ≡ n + 8 → left ≡ x / 2 ^ n → left / 256 ≡ x / 2 ^ m
left_more x n m left em el = ap (λ q. q / 256) el ∙ shr-shr x n 8 ∙ ap (λ q. x / 2 ^ q) (sym em)
