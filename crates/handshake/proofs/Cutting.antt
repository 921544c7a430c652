-- What is cut off a list: how long it is, and what is left.
use Rattle.std.proofs.Common.{◌≡◌, ℕ, ◌+◌, ◌-◌, ◌*◌, ◌≤◌, leb, List, [], ◌∷◌, length, take, drop, sym, ap, ◌∙◌, inl, inr, arith}
use Rattle.std.proofs.lemmas.List.{length-take-le, length-drop}
use Rattle.std.proofs.lemmas.Bool.{cases_Bool, leb-true}
use Rattle.handshake.specs.Parts.{uncut, cut, part, part3}

-- what is cut off is the front, as long as it should be, and what follows is the rest
pub part_cut : (n : ℕ) (xs c rest : List ℕ) → part n xs ≡ cut c rest → (n ≤ length xs) × ((take n xs ≡ c) × (drop n xs ≡ rest))
part_cut n xs c rest e = elim (cases_Bool (leb n (length xs))) [
  | inr f ↦ (let q : uncut ≡ cut c rest = rw f at e in let z : ◌≡◌ {A = ℕ} 0 1 = cc in absurd (omega arith))
  | inl t ↦ (let q : cut (take n xs) (drop n xs) ≡ cut c rest = rw t at e in
      let u : take n xs ≡ c = cc in
      let v : drop n xs ≡ rest = cc in
      (leb-true n (length xs) t, (u, v)))
]

pub part_lengths : (n : ℕ) (xs c rest : List ℕ) → part n xs ≡ cut c rest → (length c ≡ n) × (length c + length rest ≡ length xs)
part_lengths n xs c rest e =
    let p = part_cut n xs c rest e in
    let h = p.0 in
    let a : length c ≡ n = ap length (sym p.1.0) ∙ length-take-le n xs h in
    let b : length rest ≡ length xs - n = ap length (sym p.1.1) ∙ length-drop n xs in
    (a, omega arith)

pub part3_lengths : (xs c rest : List ℕ) → part3 xs ≡ cut c rest → 3 + (length c + length rest) ≡ length xs
part3_lengths [] c rest e = let z : ◌≡◌ {A = ℕ} 0 1 = cc in absurd (omega arith)
part3_lengths (x ∷ []) c rest e = let z : ◌≡◌ {A = ℕ} 0 1 = cc in absurd (omega arith)
part3_lengths (x ∷ y ∷ []) c rest e = let z : ◌≡◌ {A = ℕ} 0 1 = cc in absurd (omega arith)
part3_lengths (x ∷ y ∷ w ∷ xs) c rest e =
    let p = part_lengths (x * 65536 + y * 256 + w) xs c rest e in
    let q = p.1 in
    omega arith
