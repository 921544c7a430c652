-- Shifts and turns of the product are linear, so that eight turns can be taken at once.
use Rattle.std.proofs.Common.{◌≡◌, ℕ, zero, suc, ◌+◌, ◌*◌, ◌/◌, ◌%◌, ◌^◌, ◌<◌, Bool, true, false, cond, eqb, sym, refl, ap, ◌∙◌, ap₂, mul_assoc, add_comm, suc-add, pow-suc, arith}
use lib.Bits.{bit_xor, xor_assoc, xor_comm, xor_self, xor_zero_r, xor_shr, xor_mod, xor_shifted}
use Rattle.std.proofs.lemmas.Nat.{shr-shr, shr_split}
use Rattle.gcm.specs.Field.{R, shifted, added, turns, product}
use Rattle.gcm.specs.Laws.{AddsUp}
use Rattle.gcm.specs.Tables.{shifts}

-- ---- adding is linear

xor_first : (z w v : ℕ) → bit_xor (bit_xor z w) v ≡ bit_xor (bit_xor z v) w
xor_first z w v = xor_assoc z w v ∙ ap (bit_xor z) (xor_comm w v) ∙ sym (xor_assoc z v w)

xor_both : (z w v : ℕ) → bit_xor z w ≡ bit_xor (bit_xor z v) (bit_xor w v)
xor_both z w v =
    sym (xor_zero_r (bit_xor z w)) ∙ ap (bit_xor (bit_xor z w)) (sym (xor_self v)) ∙ sym (xor_assoc (bit_xor z w) v v)
    ∙ ap (λ n. bit_xor n v) (xor_first z w v) ∙ xor_assoc (bit_xor z v) w v

added_xor : (p q z w v : ℕ) → p < 2 → q < 2 → added (bit_xor p q) (bit_xor z w) v ≡ bit_xor (added p z v) (added q w v)
added_xor zero zero z w v hp hq = refl
added_xor zero (suc zero) z w v hp hq = xor_assoc z w v
added_xor (suc zero) zero z w v hp hq = xor_first z w v
added_xor (suc zero) (suc zero) z w v hp hq = xor_both z w v
added_xor (suc (suc n)) q z w v hp hq = absurd (omega arith)
added_xor zero (suc (suc n)) z w v hp hq = absurd (omega arith)
added_xor (suc zero) (suc (suc n)) z w v hp hq = absurd (omega arith)

-- ---- shifts are linear

pub shifted_xor : (a b : ℕ) → shifted (bit_xor a b) ≡ bit_xor (shifted a) (shifted b)
shifted_xor a b =
    ap₂ (λ p z. added p z R) (xor_mod a b 1) (xor_shr a b 1)
    ∙ added_xor (a % 2) (b % 2) (a / 2) (b / 2) R (omega arith) (omega arith)

pub shifts_xor : (n a b : ℕ) → shifts n (bit_xor a b) ≡ bit_xor (shifts n a) (shifts n b)
unfolding shifts
shifts_xor zero a b = refl
shifts_xor (suc n) a b = ap (shifts n) (shifted_xor a b) ∙ shifts_xor n (shifted a) (shifted b)

-- where only zeros fall out
shifted_even : (a : ℕ) → shifted (a * 2) ≡ a
shifted_even a =
    let e : a * 2 % 2 ≡ 0 = omega arith in
    let f : a * 2 / 2 ≡ a = omega arith in
    ap₂ (λ p z. added p z R) e f

shifts_high : (n a : ℕ) → shifts n (a * 2 ^ n) ≡ a
unfolding shifts
shifts_high zero a = omega arith
shifts_high (suc n) a =
    ap (λ m. shifts n (shifted m)) (ap (λ p. a * p) (pow-suc 2 n) ∙ sym (mul_assoc a (2 ^ n) 2))
    ∙ ap (shifts n) (shifted_even (a * 2 ^ n)) ∙ shifts_high n a

-- n shifts: what stays moves on, and what falls out comes in by its own shifts
pub shifts_parts : (n z : ℕ) → z % 2 ^ n < 2 ^ n → shifts n z ≡ bit_xor (z / 2 ^ n) (shifts n (z % 2 ^ n))
shifts_parts n z h =
    ap (shifts n) (sym (shr_split z n) ∙ sym (xor_shifted (z / 2 ^ n) n (z % 2 ^ n) h))
    ∙ shifts_xor n (z / 2 ^ n * 2 ^ n) (z % 2 ^ n) ∙ ap (λ m. bit_xor m (shifts n (z % 2 ^ n))) (shifts_high n (z / 2 ^ n))

-- ---- turns

-- what stood in Z before comes out
added_out : (p z w v : ℕ) → added p (bit_xor z w) v ≡ bit_xor z (added p w v)
added_out p z w v = cases (eqb p 0)
  where
    cases : (b : Bool) → cond b (bit_xor z w) (bit_xor (bit_xor z w) v) ≡ bit_xor z (cond b w (bit_xor w v))
    cases true = refl
    cases false = xor_assoc z w v

turns_out : (n x z w v : ℕ) → turns n x (bit_xor z w) v ≡ bit_xor z (turns n x w v)
unfolding turns
turns_out zero x z w v = refl
turns_out (suc n) x z w v =
    ap (λ m. turns n x m (shifted v)) (added_out (x / 2 ^ n % 2) z w v) ∙ turns_out n x z (added (x / 2 ^ n % 2) w v) (shifted v)

-- both shifted, the outcome is shifted
added-shifted : (p z v : ℕ) → added p (shifted z) (shifted v) ≡ shifted (added p z v)
added-shifted p z v = cases (eqb p 0)
  where
    cases : (b : Bool) → cond b (shifted z) (bit_xor (shifted z) (shifted v)) ≡ shifted (cond b z (bit_xor z v))
    cases true = refl
    cases false = sym (shifted_xor z v)

turns-shifted : (n x z v : ℕ) → turns n x (shifted z) (shifted v) ≡ shifted (turns n x z v)
unfolding turns
turns-shifted zero x z v = refl
turns-shifted (suc n) x z v =
    ap (λ m. turns n x m (shifted (shifted v))) (added-shifted (x / 2 ^ n % 2) z v)
    ∙ turns-shifted n x (added (x / 2 ^ n % 2) z v) (shifted v)

turns-shifts : (k n x v : ℕ) → turns n x 0 (shifts k v) ≡ shifts k (turns n x 0 v)
unfolding shifts
turns-shifts zero n x v = refl
turns-shifts (suc k) n x v = turns-shifts k n x (shifted v) ∙ ap (shifts k) (turns-shifted n x 0 v)

-- the turns of the bits before the last n, and then those of the last n
turns_split : (k n m x z v : ℕ) → m ≡ k + n → turns m x z v ≡ turns n x (turns k (x / 2 ^ n) z v) (shifts k v)
unfolding turns shifts
turns_split zero n m x z v e = let f : m ≡ n = omega arith in ap (λ q. turns q x z v) f
turns_split (suc k) n m x z v e =
    let bit : x / 2 ^ (k + n) % 2 ≡ x / 2 ^ n / 2 ^ k % 2
    = ap (λ q. q % 2) (ap (λ q. x / 2 ^ q) (add_comm k n) ∙ sym (shr-shr x n k)) in
    ap (λ q. turns q x z v) (e ∙ suc-add k n) ∙ ap (λ b. turns (k + n) x (added b z v) (shifted v)) bit
    ∙ turns_split k n (k + n) x (added (x / 2 ^ n / 2 ^ k % 2) z v) (shifted v) refl

-- k bits more before the last n: the outcome of the last n by k shifts, and the multiple by the k bits
pub turns_more : (k n m x v : ℕ) → m ≡ k + n → turns m x 0 v ≡ bit_xor (shifts k (turns n x 0 v)) (turns k (x / 2 ^ n) 0 v)
turns_more k n m x v e =
    let t = turns k (x / 2 ^ n) 0 v in
    turns_split k n m x 0 v e ∙ ap (λ q. turns n x q (shifts k v)) (sym (xor_zero_r (turns k (x / 2 ^ n) 0 v)))
    ∙ turns_out n x (turns k (x / 2 ^ n) 0 v) 0 (shifts k v)
    ∙ ap (bit_xor (turns k (x / 2 ^ n) 0 v)) (turns-shifts k n x v)
    ∙ xor_comm (turns k (x / 2 ^ n) 0 v) (shifts k (turns n x 0 v))

-- only the last n bits are looked at
turns_same : (n x y z v : ℕ) → ((i : ℕ) → i < n → x / 2 ^ i % 2 ≡ y / 2 ^ i % 2) → turns n x z v ≡ turns n y z v
unfolding turns
turns_same zero x y z v h = refl
turns_same (suc n) x y z v h =
    ap (λ b. turns n x (added b z v) (shifted v)) (h n (omega arith))
    ∙ turns_same n x y (added (y / 2 ^ n % 2) z v) (shifted v) (λ i l. h i (omega arith))

bit_of : (x i : ℕ) → i < 8 → x % 256 / 2 ^ i % 2 ≡ x / 2 ^ i % 2
bit_of x zero h = omega arith
bit_of x (suc zero) h = omega arith
bit_of x (suc (suc zero)) h = omega arith
bit_of x (suc (suc (suc zero))) h = omega arith
bit_of x (suc (suc (suc (suc zero)))) h = omega arith
bit_of x (suc (suc (suc (suc (suc zero))))) h = omega arith
bit_of x (suc (suc (suc (suc (suc (suc zero)))))) h = omega arith
bit_of x (suc (suc (suc (suc (suc (suc (suc zero))))))) h = omega arith
bit_of x (suc (suc (suc (suc (suc (suc (suc (suc n)))))))) h = absurd (omega arith)

pub turns_octet : (x v : ℕ) → turns 8 x 0 v ≡ turns 8 (x % 256) 0 v
turns_octet x v = turns_same 8 x (x % 256) 0 v (λ i h. sym (bit_of x i h))

-- ---- the product

bit_of_xor : (a b n : ℕ) → bit_xor a b / 2 ^ n % 2 ≡ bit_xor (a / 2 ^ n % 2) (b / 2 ^ n % 2)
bit_of_xor a b n = ap (λ m. m % 2) (xor_shr a b n) ∙ xor_mod (a / 2 ^ n) (b / 2 ^ n) 1

turns_xor : (n a b z w v : ℕ) → turns n (bit_xor a b) (bit_xor z w) v ≡ bit_xor (turns n a z v) (turns n b w v)
unfolding turns
turns_xor zero a b z w v = refl
turns_xor (suc n) a b z w v =
    ap (λ p. turns n (bit_xor a b) (added p (bit_xor z w) v) (shifted v)) (bit_of_xor a b n)
    ∙ ap (λ q. turns n (bit_xor a b) q (shifted v)) (added_xor (a / 2 ^ n % 2) (b / 2 ^ n % 2) z w v (omega arith) (omega arith))
    ∙ turns_xor n a b (added (a / 2 ^ n % 2) z v) (added (b / 2 ^ n % 2) w v) (shifted v)

pub adds_up : AddsUp
unfolding product
adds_up a b h = turns_xor 128 a b 0 0 h
