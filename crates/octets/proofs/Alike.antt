-- The test of equality of lists, and how it is come to without stopping early.
use Rattle.std.proofs.Common.{◌≡◌, ℕ, ◌+◌, ◌<◌, ◌≤◌, Bool, true, false, ◌&&◌, eqb, List, [], ◌∷◌, length, get_or, drop, sym, refl, ap, ◌∙◌, ap₂, inl, inr, arith}
use lib.Bits.{bit_or, bit_xor, and_le_l, and_le_r, or_add_and, xor_assoc, xor_self, xor_zero_l, xor_zero_r, or_zero_r}
use Rattle.std.proofs.lemmas.List.{at_drop_more, at_drop_all}
use Rattle.std.proofs.lemmas.Bool.{eqb-true, eqb-false, eq-eqb, ne_eqb, cases_Bool}
use Rattle.octets.specs.Octets.{same}

pub same_true : (a b : List ℕ) → same a b ≡ true → a ≡ b
same_true [] [] e = refl
same_true [] (y ∷ ys) e = let z : ◌≡◌ {A = ℕ} 0 1 = cc in absurd (omega arith)
same_true (x ∷ xs) [] e = let z : ◌≡◌ {A = ℕ} 0 1 = cc in absurd (omega arith)
same_true (x ∷ xs) (y ∷ ys) e = elim (cases_Bool (eqb x y)) [
  | inl t ↦ ap₂ (λ u v. u ∷ v) (eqb-true x y t) (same_true xs ys (rw t at e))
  | inr f ↦ (let g : false ≡ true = rw f at e in let z : ◌≡◌ {A = ℕ} 0 1 = cc in absurd (omega arith))
]

pub same_self : (a : List ℕ) → same a a ≡ true
same_self [] = refl
same_self (x ∷ xs) = rw (eq-eqb x x refl) (same_self xs)

-- lists of unlike lengths differ
pub same_lengths : (a b : List ℕ) → (length a ≡ length b → ⊥) → same a b ≡ false
same_lengths a b h = elim (cases_Bool (same a b)) [ inl t ↦ absurd (h (ap length (same_true a b t))) | inr f ↦ f ]

xor_none : (x y : ℕ) → bit_xor x y ≡ 0 → x ≡ y
xor_none x y e =
    sym (xor_zero_r x) ∙ ap (bit_xor x) (sym (xor_self y)) ∙ sym (xor_assoc x y y) ∙ ap (λ n. bit_xor n y) e ∙ xor_zero_l y

-- the differences gathered are none exactly when there was none and the two are equal
or_test : (d x y : ℕ) → eqb (bit_or d (bit_xor x y)) 0 ≡ eqb d 0 && eqb x y
or_test d x y = elim (cases_Bool (eqb d 0)) [
  | inl t ↦ elim (cases_Bool (eqb x y)) [
    | inl u ↦ (let p : d ≡ 0 = eqb-true d 0 t in
        let q : bit_xor x y ≡ 0 = ap (bit_xor x) (sym (eqb-true x y u)) ∙ xor_self x in
        let r : bit_or d (bit_xor x y) ≡ 0 = ap (bit_or d) q ∙ or_zero_r d ∙ p in
        rw (t, u) (eq-eqb _ _ r))
    | inr u ↦ rw (t, u) (ne_eqb _ _ (λ r. eqb-false x y u (xor_none x y (
        let s = or_add_and d (bit_xor x y) in let k = and_le_l d (bit_xor x y) in let m = and_le_r d (bit_xor x y) in omega arith))))
  ]
  | inr f ↦ rw f (ne_eqb _ _ (λ r. eqb-false d 0 f (
      let s = or_add_and d (bit_xor x y) in let k = and_le_l d (bit_xor x y) in let m = and_le_r d (bit_xor x y) in omega arith)))
]

-- a turn of the comparison: what is left decides, as long as nothing differed
pub compare_more : (a b : List ℕ) (i d : ℕ) {t : Bool} → length a ≡ length b → i < length a
    → eqb d 0 && same (drop i a) (drop i b) ≡ t
    → eqb (bit_or d (bit_xor (get_or a i 0) (get_or b i 0))) 0 && same (drop (i + 1) a) (drop (i + 1) b) ≡ t
compare_more a b i d {t} l h inv =
    let lb : i < length b = omega arith in
    let p : same (drop i a) (drop i b) ≡ eqb (get_or a i 0) (get_or b i 0) && same (drop (i + 1) a) (drop (i + 1) b) =
    at_drop_more (λ xs. same xs (drop i b)) a i 0 h ∙ at_drop_more (λ ys. same (get_or a i 0 ∷ drop (i + 1) a) ys) b i 0 lb in
    ap (λ v. v && same (drop (i + 1) a) (drop (i + 1) b)) (or_test d (get_or a i 0) (get_or b i 0))
    ∙ and_assoc (eqb d 0) _ _ ∙ ap (λ v. eqb d 0 && v) (sym p) ∙ inv
  where
    and_assoc : (u v w : Bool) → (u && v) && w ≡ u && (v && w)
    and_assoc true v w = refl
    and_assoc false v w = refl

pub compare_all : (a b : List ℕ) (i d : ℕ) {t : Bool} → length a ≡ length b → length a ≤ i
    → eqb d 0 && same (drop i a) (drop i b) ≡ t → eqb d 0 ≡ t
compare_all a b i d {t} l h inv =
    let lb : length b ≤ i = omega arith in
    let p : same (drop i a) (drop i b) ≡ true = at_drop_all (λ xs. same xs (drop i b)) a i h ∙ at_drop_all (λ ys. same [] ys) b i lb in
    sym (and_true (eqb d 0)) ∙ ap (λ v. eqb d 0 && v) (sym p) ∙ inv
  where
    and_true : (u : Bool) → u && true ≡ u
    and_true true = refl
    and_true false = refl
