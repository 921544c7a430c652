-- Laws of the hash under way: pieces, padding, and that it is the hash of the message.
use Rattle.std.proofs.Common.{◌≡◌, ℕ, zero, suc, ◌+◌, ◌-◌, ◌*◌, ◌/◌, ◌%◌, ◌^◌, ◌<◌, ◌≤◌, List, [], ◌∷◌, ◌++◌, length, get_or, take, drop, replicate, sym, refl, ap, ◌∙◌, ap₂, inl, inr, suc-mul, zero-add, arith}
use Rattle.std.proofs.lemmas.List.FromFn.{length-map-range_with_len, get_or-map-range_with_len}
use Rattle.std.proofs.lemmas.List.{length-append, length-replicate, length-drop, length-take-le, take-append-drop, get_or_past}
use Rattle.std.proofs.lemmas.Bool.{cases_lt, cond_both}
use Rattle.sm3.specs.Compress.{compress}
use Rattle.sm3.specs.Hash.{Running, taken, absorb, finished, padding, pad, octets64, octet, output, blocks, sm3, start, iv}
use Rattle.sm3.specs.Laws.{absorb_all, joined}
use Rattle.sm3.proofs.Filling.{run, absorb_full}

pub absorb_none : (s : Running) → absorb s [] ≡ s
unfolding absorb
absorb_none s = refl

-- piece after piece is the pieces put together
pub absorb-++ : (s : Running) (xs ys : List ℕ) → absorb s (xs ++ ys) ≡ absorb (absorb s xs) ys
unfolding absorb
absorb-++ s [] ys = refl
absorb-++ s (x ∷ xs) ys = absorb-++ (taken s x) xs ys

pub absorb_all_is : (s : Running) (ps : List (List ℕ)) → absorb_all s ps ≡ absorb s (joined ps)
absorb_all_is s [] = sym (absorb_none s)
absorb_all_is s (p ∷ ps) = absorb_all_is (absorb s p) ps ∙ sym (absorb-++ s p (joined ps))

taken-count : (s : Running) (x : ℕ) → (taken s x).count ≡ (s.count + 1) % 2 ^ 64
taken-count s x = cond_both _ _ _ (λ (r : Running). r.count ≡ (s.count + 1) % 2 ^ 64) (λ _. refl) (λ _. refl)

pub absorb-count : (s : Running) (xs : List ℕ) → s.count < 2 ^ 64 → (absorb s xs).count ≡ (s.count + length xs) % 2 ^ 64
unfolding absorb
absorb-count s [] h = omega arith
absorb-count s (x ∷ xs) h =
    let e = taken-count s x in
    let l : (taken s x).count < 2 ^ 64 = omega arith in
    let ih = absorb-count (taken s x) xs l in
    omega arith

-- the place in a block goes on without wrapping, 2^64 being a multiple of 64
pub absorb_held : (s : Running) (xs : List ℕ) → (absorb s xs).count % 64 ≡ (s.count + length xs) % 64
unfolding absorb
absorb_held s [] = omega arith
absorb_held s (x ∷ xs) =
    let e = taken-count s x in
    let ih = absorb_held (taken s x) xs in
    omega arith

padding_wraps : (n : ℕ) → padding (n % 2 ^ 64) ≡ padding n
unfolding padding
padding_wraps n =
    let a : n % 2 ^ 64 % 64 ≡ n % 64 = omega arith in
    let b : n % 2 ^ 64 * 8 % 2 ^ 64 ≡ n * 8 % 2 ^ 64 = omega arith in
    ap₂ (λ u v. 128 ∷ (replicate ((119 - u) % 64) 0 ++ octets64 v)) a b

pub length-padding : (n : ℕ) → length (padding n) ≡ (119 - n % 64) % 64 + 9
unfolding padding
length-padding n = simp (length-append, length-replicate) (omega arith)

-- whole blocks, one after the other
absorb-blocks : (n : ℕ) (v xs : List ℕ) (c : ℕ) → c < 2 ^ 64 → length xs ≡ n * 64 → (absorb (run v [] c) xs).chain ≡ blocks n v xs
unfolding absorb blocks
absorb-blocks zero v [] c b h = refl
absorb-blocks zero v (x ∷ xs) c b h = absurd (omega arith)
absorb-blocks (suc n) v xs c b h =
    let m : suc n * 64 ≡ n * 64 + 64 = suc-mul n 64 in
    let le : 64 ≤ length xs = omega arith in
    let w = absorb_full v [] (take 64 xs) c b (omega arith) (let t = length-take-le 64 xs le in omega arith) in
    let ih = absorb-blocks n (compress v (take 64 xs)) (drop 64 xs) ((c + length (take 64 xs)) % 2 ^ 64) (omega arith) (simp length-drop (omega arith)) in
    ap (λ ys. (absorb (run v [] c) ys).chain) (sym (take-append-drop 64 xs)) ∙ ap (λ s. s.chain) (absorb-++ (run v [] c) (take 64 xs) (drop 64 xs))
    ∙ ap (λ s. (absorb s (drop 64 xs)).chain) w ∙ ih

-- a hash under way that has taken m, and is finished, is the hash of m
pub finished_is : (m : List ℕ) → finished (absorb start m) ≡ sm3 m
unfolding finished sm3 start pad
finished_is m =
    let n : (absorb start m).count ≡ length m % 2 ^ 64 = absorb-count start m (omega arith) ∙ ap (λ k. k % 2 ^ 64) (zero-add (length m)) in
    let p : padding (absorb start m).count ≡ padding (length m) = ap padding n ∙ padding_wraps (length m) in
    let l : length (m ++ padding (length m)) ≡ length (m ++ padding (length m)) / 64 * 64 =
    let h = length-append m (padding (length m)) in let k = length-padding (length m) in omega arith in
    ap output
    (ap (λ q. (absorb (absorb start m) q).chain) p ∙ ap (λ s. s.chain) (sym (absorb-++ start m (padding (length m))))
    ∙ absorb-blocks (length (m ++ padding (length m)) / 64) iv (m ++ padding (length m)) 0 (omega arith) l)

length-output : (v : List ℕ) → length (output v) ≡ 32
unfolding output
length-output v = length-map-range_with_len (octet v) 0 32

output_octets : (v : List ℕ) (k : ℕ) → get_or (output v) k 0 < 256
unfolding output
output_octets v k =
    elim (cases_lt k 32) [
      | inl h ↦ let e = get_or-map-range_with_len (octet v) 0 32 k k 0 h (omega arith) in omega arith
      | inr h ↦ let e = get_or_past (output v) k 0 (let l = length-output v in omega arith) in omega arith
    ]

-- a hash has 32 octets
pub length-sm3 : (m : List ℕ) → length (sm3 m) ≡ 32
unfolding sm3
length-sm3 m = length-output (blocks (length (pad m) / 64) iv (pad m))

-- each below 256
pub sm3_octets : (m : List ℕ) (k : ℕ) → get_or (sm3 m) k 0 < 256
unfolding sm3
sm3_octets m k = output_octets (blocks (length (pad m) / 64) iv (pad m)) k

-- the same of a hash under way
pub length-finished : (s : Running) → length (finished s) ≡ 32
unfolding finished
length-finished s = length-output (absorb s (padding s.count)).chain

pub finished_octets : (s : Running) (k : ℕ) → get_or (finished s) k 0 < 256
unfolding finished
finished_octets s k = output_octets (absorb s (padding s.count)).chain k
