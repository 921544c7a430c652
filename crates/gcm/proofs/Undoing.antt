-- Counter mode keeps lengths and octets, and undoes itself.
use Rattle.std.proofs.Common.{◌≡◌, ℕ, zero, suc, ◌+◌, ◌-◌, ◌*◌, ◌/◌, ◌%◌, ◌^◌, ◌<◌, ◌≤◌, min, List, [], ◌∷◌, ◌++◌, length, take, drop, sym, refl, ap, ◌∙◌, ap₂, inl, inr, arith}
use lib.Bits.{bit_xor, xor_assoc, xor_self, xor_zero_r, xor_lt}
use Rattle.std.proofs.lemmas.List.{length-append, length-drop, length-take, take_at, drop_at, take_all, drop_all, append-nil, take-append-drop, nil_from_length}
use Rattle.std.proofs.lemmas.Bool.{cases_lt}
use Rattle.octets.specs.Octets.{Octets}
use Rattle.octets.proofs.Members.{octets-++, octets_take, octets_drop}
use Rattle.sm4.specs.Cipher.{crypt}
use Rattle.sm4.proofs.Undo.{crypt_octets}
use Rattle.gcm.specs.Blocks.{octets16, block_count}
use Rattle.gcm.specs.Counter.{inc32, inc32s, xored, gctr_from, gctr}
use Rattle.gcm.specs.Laws.{CountsOn, CountersDiffer, UndoesItself}
use Rattle.gcm.proofs.Counts.{length-xored}

pub counts_on : CountsOn
counts_on n = (omega arith, omega arith)

inc32s_is : (k n : ℕ) → inc32s k n ≡ n / 2 ^ 32 * 2 ^ 32 + (n % 2 ^ 32 + k) % 2 ^ 32
unfolding inc32s
inc32s_is zero n = omega arith
inc32s_is (suc k) n = inc32s_is k (inc32 n) ∙ omega arith

pub counters_differ : CountersDiffer
counters_differ n i j hi hj e =
    let a = inc32s_is i n in
    let b = inc32s_is j n in
    omega arith

-- ---- a pad

xored_back : (xs ys : List ℕ) → xored (xored xs ys) ys ≡ xs
xored_back [] ys = refl
xored_back (x ∷ xs) [] = refl
xored_back (x ∷ xs) (y ∷ ys) =
    ap₂ (λ b l. b ∷ l) (xor_assoc x y y ∙ ap (bit_xor x) (xor_self y) ∙ xor_zero_r x) (xored_back xs ys)

xored_octets : (xs ys : List ℕ) → Octets xs → Octets ys → Octets (xored xs ys)
xored_octets [] ys a b = tt
xored_octets (x ∷ xs) [] a b = a
xored_octets (x ∷ xs) (y ∷ ys) a b = (xor_lt 8 x y a.0 b.0, xored_octets xs ys a.1 b.1)

-- ---- a text of at most n blocks

length_from : (ks : List ℕ) (n cb : ℕ) (xs : List ℕ) → length xs ≤ n * 16 → length (gctr_from ks n cb xs) ≡ length xs
unfolding gctr_from
length_from ks zero cb xs h = omega arith
length_from ks (suc n) cb xs h =
    let p : List ℕ = crypt ks (octets16 cb) in
    let d : length (drop 16 xs) ≤ n * 16 = rw length-drop (omega arith) in
    length-append (xored (take 16 xs) p) (gctr_from ks n (inc32 cb) (drop 16 xs))
    ∙ ap₂ (λ a b. a + b) (length-xored (take 16 xs) p) (length_from ks n (inc32 cb) (drop 16 xs) d)
    ∙ sym (length-append (take 16 xs) (drop 16 xs)) ∙ ap length (take-append-drop 16 xs)

pub length-gctr : (ks : List ℕ) (cb : ℕ) (xs : List ℕ) → length (gctr ks cb xs) ≡ length xs
unfolding gctr
length-gctr ks cb xs = length_from ks (block_count xs) cb xs (omega arith)

from_octets : (ks : List ℕ) (n cb : ℕ) (xs : List ℕ) → Octets xs → Octets (gctr_from ks n cb xs)
unfolding gctr_from
from_octets ks zero cb xs o = tt
from_octets ks (suc n) cb xs o =
    octets-++ (xored (take 16 xs) (crypt ks (octets16 cb))) (gctr_from ks n (inc32 cb) (drop 16 xs))
    (xored_octets (take 16 xs) (crypt ks (octets16 cb)) (octets_take 16 xs o) (crypt_octets ks (octets16 cb)))
    (from_octets ks n (inc32 cb) (drop 16 xs) (octets_drop 16 xs o))

pub gctr_octets : (ks : List ℕ) (cb : ℕ) (xs : List ℕ) → Octets xs → Octets (gctr ks cb xs)
unfolding gctr
gctr_octets ks cb xs o = from_octets ks (block_count xs) cb xs o

-- the first block of what comes out, and the rest: a whole block first, or all in one
front : (b r : List ℕ) → length b ≤ 16 → (length b < 16 → r ≡ []) → (take 16 (b ++ r) ≡ b) × (drop 16 (b ++ r) ≡ r)
front b r h z = elim (cases_lt (length b) 16) [
  | inl l ↦ (let e : b ++ r ≡ b = ap (λ q. b ++ q) (z l) ∙ append-nil b in
      (ap (take 16) e ∙ take_all 16 b h, ap (drop 16) e ∙ drop_all 16 b h ∙ sym (z l)))
  | inr g ↦ (let e : length b ≡ 16 = omega arith in (take_at b r 16 e, drop_at b r 16 e))
]

from_back : (ks : List ℕ) (n cb : ℕ) (xs : List ℕ) → length xs ≤ n * 16 → gctr_from ks n cb (gctr_from ks n cb xs) ≡ xs
unfolding gctr_from
from_back ks zero cb xs h = sym (nil_from_length xs (omega arith))
from_back ks (suc n) cb xs h =
    let p : List ℕ = crypt ks (octets16 cb) in
    let b : List ℕ = xored (take 16 xs) p in
    let r : List ℕ = gctr_from ks n (inc32 cb) (drop 16 xs) in
    let lb : length b ≡ min 16 (length xs) = length-xored (take 16 xs) p ∙ length-take 16 xs in
    let d : length (drop 16 xs) ≤ n * 16 = rw length-drop (omega arith) in
    let lr : length r ≡ length xs - 16 = length_from ks n (inc32 cb) (drop 16 xs) d ∙ length-drop 16 xs in
    let f = front b r (omega arith) (λ l. nil_from_length r (omega arith)) in
    ap₂ (λ u w. xored u p ++ gctr_from ks n (inc32 cb) w) f.0 f.1
    ∙ ap₂ (λ u w. u ++ w) (xored_back (take 16 xs) p) (from_back ks n (inc32 cb) (drop 16 xs) d) ∙ take-append-drop 16 xs

pub undoes_itself : UndoesItself
unfolding gctr
undoes_itself ks cb xs =
    ap (λ n. gctr_from ks ((n + 15) / 16) cb (gctr_from ks (block_count xs) cb xs)) (length-gctr ks cb xs)
    ∙ from_back ks (block_count xs) cb xs (omega arith)
