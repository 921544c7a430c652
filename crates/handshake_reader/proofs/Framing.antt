-- Reading a framed message: what a ready one tells of the octets, and what its reader then comes to.
use Rattle.std.proofs.Common.{◌≡◌, ℕ, ◌+◌, ◌-◌, ◌*◌, ◌≤◌, false, leb, List, [], ◌∷◌, ◌++◌, length, take, drop, Err, refl, ◌∙◌, inl, inr, arith}
use Rattle.std.proofs.lemmas.List.{length-take-le, length-drop, take_rest, take_all, drop_all}
use Rattle.std.proofs.lemmas.Bool.{cases_Bool, leb-true, eq-eqb}
use Rattle.handshake.specs.declared.types.HandshakeType.{HandshakeType}
use Rattle.handshake_reader.specs.declared.frames.FirstMessage.TheVariants.{NotReady, TooLong, Ready}
use Rattle.handshake.specs.Parts.{is_none}
use Rattle.handshake.specs.Types.{type_number}
use Rattle.handshake.specs.Frames.{ready, next, next_of, message_limit}
use Rattle.handshake.specs.Faults.{read_parts, read_message, layout_fault}
use Rattle.handshake_reader.specs.Views.{first_of}

-- a message that is ready stands whole behind its header of four octets
pub record Stands (xs : List ℕ) (t n : ℕ) : Type 0 where
  pub whole : 4 + n ≤ length xs
  pub is : next xs ≡ ready t (take 4 xs ++ take n (drop 4 xs)) (take n (drop 4 xs)) (drop n (drop 4 xs))

ready_of : (t a b c m : ℕ) (ys : List ℕ) (k n : ℕ) → Ready k n ≡ first_of (next_of t a b c m ys)
    → (n ≤ length ys) × (next_of t a b c m ys ≡ ready k (t ∷ a ∷ b ∷ c ∷ take n ys) (take n ys) (drop n ys))
ready_of t a b c m ys k n e = elim (cases_Bool (leb m message_limit)) [
  | inr f ↦ (let q : Ready k n ≡ TooLong = rw f at e in let z : ◌≡◌ {A = ℕ} 0 1 = cc in absurd (omega arith))
  | inl p ↦ elim (cases_Bool (leb m (length ys))) [
    | inr f ↦ (let q : Ready k n ≡ NotReady = rw (p, f) at e in let z : ◌≡◌ {A = ℕ} 0 1 = cc in absurd (omega arith))
    | inl w ↦ (let q : Ready k n ≡ Ready t (length (take m ys)) = rw (p, w) at e in
        let r : k ≡ t = cc in
        let h = leb-true m (length ys) w in
        let s : n ≡ length (take m ys) = cc in
        let u : n ≡ m = s ∙ length-take-le m ys h in
        (omega arith, rw (r, u, p, w)))
  ]
]

pub ready_stands : (xs : List ℕ) (t n : ℕ) → Ready t n ≡ first_of (next xs) → Stands xs t n
ready_stands [] t n e = let z : ◌≡◌ {A = ℕ} 0 1 = cc in absurd (omega arith)
ready_stands (a ∷ []) t n e = let z : ◌≡◌ {A = ℕ} 0 1 = cc in absurd (omega arith)
ready_stands (a ∷ b ∷ []) t n e = let z : ◌≡◌ {A = ℕ} 0 1 = cc in absurd (omega arith)
ready_stands (a ∷ b ∷ c ∷ []) t n e = let z : ◌≡◌ {A = ℕ} 0 1 = cc in absurd (omega arith)
ready_stands (x ∷ a ∷ b ∷ c ∷ ys) t n e =
    let p = ready_of x a b c (a * 65536 + b * 256 + c) ys t n e in
    record { whole = omega arith; is = p.1 }

-- octets behind the message break its layout
pub read_longer : (k : HandshakeType) (xs : List ℕ) (t n : ℕ) → Ready t n ≡ first_of (next xs) → t ≡ type_number k
    → (length xs ≡ 4 + n → ⊥) → Err layout_fault ≡ read_message k xs
read_longer k xs t n e i d =
    let s = ready_stands xs t n e in
    rw (s.is, eq-eqb t (type_number k) i, some_left (drop n (drop 4 xs)) (let h = s.whole in simp length-drop (omega (arith, d))))
  where
    some_left : (ys : List ℕ) → 1 ≤ length ys → is_none ys ≡ false
    some_left [] h = absurd (omega arith)
    some_left (y ∷ ys) h = refl

-- a message alone is read by its body
pub read_alone : (k : HandshakeType) (xs : List ℕ) (t n : ℕ) → Ready t n ≡ first_of (next xs) → t ≡ type_number k
    → length xs ≡ 4 + n → read_parts k (take (length xs - 4) (drop 4 xs)) ≡ read_message k xs
read_alone k xs t n e i l =
    let s = ready_stands xs t n e in
    let d : drop n (drop 4 xs) ≡ [] = drop_all n (drop 4 xs) (simp length-drop (omega arith)) in
    let u : take n (drop 4 xs) ≡ drop 4 xs = take_all n (drop 4 xs) (simp length-drop (omega arith)) in
    rw (s.is, eq-eqb t (type_number k) i, d, u, take_rest xs 4)
