-- Certificates as they are written, one after another, out of a list of any elements that have octets.
use Rattle.std.proofs.Common.{◌≡◌, ℕ, zero, suc, ◌+◌, ◌<◌, ◌≤◌, Bool, true, false, cond, ◌&&◌, leb, List, [], ◌∷◌, ◌++◌, map, length, get_or, take, drop, Some, None, Option, sym, refl, ap, ◌∙◌, ap₂, inl, inr, append_assoc, append-nil, arith, length-append}
use Rattle.std.proofs.lemmas.List.{map_more, take_all, at_drop_more, at_drop_all}
use Rattle.std.proofs.lemmas.Bool.{cases_Bool, leb-true, leb-false, le-leb, lt-leb, and_parts, and_from, and_right, and_left, cond-true, cond-false}
use Rattle.octets.specs.Numbers.{three}
use Rattle.handshake.specs.Parts.{sized3}
use Rattle.handshake.specs.Certificates.{from_certificates, some_each, certificate_body, certificate_sound}
use Rattle.handshake.specs.Kinds.{certificate_parts, body_size}

pub from_certificates-++ : (cs ds : List (List ℕ)) → from_certificates (cs ++ ds) ≡ from_certificates cs ++ from_certificates ds
from_certificates-++ [] ds = refl
from_certificates-++ (c ∷ cs) ds =
    ap (λ x. sized3 c ++ x) (from_certificates-++ cs ds) ∙ sym (append_assoc (sized3 c) (from_certificates cs) (from_certificates ds))

-- ---- laying them
module _ {X : Type 0} (f : X → List ℕ) where
  -- each is shorter than all
  pub one_short : (xs : List X) (i : ℕ) (d : X) → i < length xs → length (f (get_or xs i d)) ≤ length (from_certificates (map f xs))
  one_short [] i d h = absurd (omega arith)
  one_short (x ∷ xs) zero d h = let e = length-append (f x) (from_certificates (map f xs)) in omega arith
  one_short (x ∷ xs) (suc i) d h =
      let e = length-append (f x) (from_certificates (map f xs)) in
      let p = one_short xs i d (omega arith) in
      omega arith

  pub chain_more : (xs : List X) (i : ℕ) (d : X) → i < length xs
      → from_certificates (map f (take i xs)) ++ (three (length (f (get_or xs i d))) ++ f (get_or xs i d)) ≡ from_certificates (map f (take (i + 1) xs))
  chain_more xs i d h =
      let c = f (get_or xs i d) in
      sym (ap from_certificates (map_more f xs i d h) ∙ from_certificates-++ (map f (take i xs)) (c ∷ [])
      ∙ ap (λ x. from_certificates (map f (take i xs)) ++ (three (length c) ++ x)) (append-nil c))

  pub chain_all : (xs : List X) (i : ℕ) → length xs ≤ i → from_certificates (map f (take i xs)) ≡ from_certificates (map f xs)
  chain_all xs i h = ap (λ ys. from_certificates (map f ys)) (take_all i xs h)

-- ---- their size, found one by one
abbrev pub sized_from : ℕ → List (List ℕ) → Option ℕ
sized_from n [] = Some n
sized_from n (c ∷ cs) = cond (leb 1 (length c) && leb (n + 3 + length c) 16777215) (sized_from (n + (3 + length c)) cs) None

whole_size : ℕ → List (List ℕ) → Option ℕ
whole_size n cs = cond (some_each cs && leb (n + length (from_certificates cs)) 16777215) (Some (n + length (from_certificates cs))) None

sized_is : (n : ℕ) (cs : List (List ℕ)) → n ≤ 16777215 → sized_from n cs ≡ whole_size n cs
unfolding whole_size
sized_is n [] h = let e : n + 0 ≡ n = omega arith in ap Some (sym e) ∙ sym (cond-true _ _ _ (le-leb (n + 0) 16777215 (omega arith)))
sized_is n (c ∷ cs) h =
    let l = length-append c (from_certificates cs) in
    let s = length (from_certificates (c ∷ cs)) in
    elim (cases_Bool (leb 1 (length c))) [
      | inr g ↦ cond-false _ _ _ (and_left _ _ g) ∙ sym (cond-false _ _ _ (and_left _ _ (and_left _ _ g)))
      | inl t ↦ elim (cases_Bool (leb (n + 3 + length c) 16777215)) [
        | inr g ↦ (let k = leb-false (n + 3 + length c) 16777215 g in
            cond-false _ _ _ (and_right (leb 1 (length c)) _ g) ∙ sym (cond-false _ _ _ (and_right (leb 1 (length c) && some_each cs) _ (lt-leb (n + s) 16777215 (omega arith)))))
        | inl u ↦ (let k = leb-true (n + 3 + length c) 16777215 u in
            let m : n + (3 + length c) + length (from_certificates cs) ≡ n + s = omega arith in
            cond-true _ _ _ (and_from _ _ t u) ∙ sized_is (n + (3 + length c)) cs (omega arith)
            ∙ ap₂ (λ b z. cond (b && leb z 16777215) (Some z) None) (sym (ap (λ b. b && some_each cs) t)) m)
      ]
    ]

pub chain_size : (cs : List (List ℕ)) → sized_from 3 cs ≡ body_size (certificate_parts cs)
unfolding whole_size certificate_body
chain_size cs = sized_is 3 cs (omega arith) ∙ go (some_each cs) (length (from_certificates cs))
  where
    go : (b : Bool) (n : ℕ) → cond (b && leb (3 + n) 16777215) (Some (3 + n)) None
        ≡ cond ((b && leb n 16777215) && leb (suc (suc (suc n))) 16777215) (Some (suc (suc (suc n)))) None
    go b n =
        let e : suc (suc (suc n)) ≡ 3 + n = omega arith in
        rw e (elim (cases_Bool (leb (3 + n) 16777215)) [
          | inl t ↦ (let k = leb-true (3 + n) 16777215 t in
              ap (λ v. cond (v && leb (3 + n) 16777215) (Some (3 + n)) None) (sym (keep b (leb n 16777215) (le-leb n 16777215 (omega arith)))))
          | inr g ↦ cond-false _ _ _ (and_right b _ g) ∙ sym (cond-false _ _ _ (and_right (b && leb n 16777215) _ g))
        ])
      where
        keep : (u v : Bool) → v ≡ true → u && v ≡ u
        keep true v h = h
        keep false v h = refl

module _ {X : Type 0} (f : X → List ℕ) (xs : List X) (i : ℕ) (d : X) (n : ℕ) {t : Option ℕ}
    (inv : sized_from n (map f (drop i xs)) ≡ t) (h : i < length xs) where
  here : sized_from n (map f (drop i xs))
      ≡ cond (leb 1 (length (f (get_or xs i d))) && leb (n + 3 + length (f (get_or xs i d))) 16777215) (sized_from (n + (3 + length (f (get_or xs i d)))) (map f (drop (i + 1) xs))) None
  here = at_drop_more (λ ys. sized_from n (map f ys)) xs i d h

  -- one that fits
  pub sized_more : 1 ≤ length (f (get_or xs i d)) → n + 3 + length (f (get_or xs i d)) ≤ 16777215
      → sized_from (n + (3 + length (f (get_or xs i d)))) (map f (drop (i + 1) xs)) ≡ t
  sized_more a b = sym (here ∙ cond-true _ _ _ (and_from _ _ (le-leb 1 _ a) (le-leb _ 16777215 b))) ∙ inv

  -- one that is empty, and one that makes the body too long
  pub sized_empty : length (f (get_or xs i d)) < 1 → None ≡ t
  sized_empty a = sym (here ∙ cond-false _ _ _ (and_left _ _ (lt-leb 1 _ a))) ∙ inv

  pub sized_over : 16777215 < n + 3 + length (f (get_or xs i d)) → None ≡ t
  sized_over a = sym (here ∙ cond-false _ _ _ (and_right (leb 1 (length (f (get_or xs i d)))) _ (lt-leb _ 16777215 a))) ∙ inv

pub sized_all : {X : Type 0} (f : X → List ℕ) (xs : List X) (i n : ℕ) {t : Option ℕ} → sized_from n (map f (drop i xs)) ≡ t → length xs ≤ i → Some n ≡ t
sized_all f xs i n inv h = sym (at_drop_all (λ ys. sized_from n (map f ys)) xs i h) ∙ inv

-- the size of a body is that of its list and three octets more
pub chain_sized : (cs : List (List ℕ)) (n : ℕ) → Some n ≡ body_size (certificate_parts cs)
    → (n ≡ 3 + length (from_certificates cs)) × (length (from_certificates cs) ≤ 16777215)
unfolding certificate_body
chain_sized cs n e = elim (cases_Bool (certificate_sound cs && leb (suc (suc (suc (length (from_certificates cs))))) 16777215)) [
  | inr g ↦ (let q : Some n ≡ None = rw g at e in let z : ◌≡◌ {A = ℕ} 0 1 = cc in absurd (omega arith))
  | inl t ↦ (let q : Some n ≡ Some (suc (suc (suc (length (from_certificates cs))))) = rw t at e in
      let i : n ≡ suc (suc (suc (length (from_certificates cs)))) = cc in
      let k : suc (suc (suc (length (from_certificates cs)))) ≤ 16777215 = leb-true _ 16777215 (and_parts (certificate_sound cs) _ t).1 in
      (omega arith, omega arith))
]
