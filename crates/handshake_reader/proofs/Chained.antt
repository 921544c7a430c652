-- Certificates one after another: what a walk over them meets, whatever number of them is allowed for.
use Rattle.std.proofs.Common.{◌≡◌, ℕ, suc, ◌+◌, ◌≤◌, Bool, true, false, cond, eqb, leb, List, [], ◌∷◌, length, is_some, Some, None, Option, sym, refl, ap, ◌∙◌, inl, inr, arith}
use Rattle.std.proofs.lemmas.Bool.{cases_Bool, le-leb, lt-leb, ne_eqb, cond-true, cond-false}
use Rattle.handshake.specs.Parts.{is_none, Cut, uncut, cut, part3, after_cut}
use Rattle.std.specs.List.{slice_get}
use Rattle.handshake.proofs.Cutting.{part3_lengths}
use Rattle.handshake.specs.Certificates.{put_first, certificates_in, certificates_seen, seen_first, read_certificate}
use Rattle.handshake.specs.Places.{spans}

-- ---- as many as can be cut off
seen_fuel : (os ps xs : List ℕ) → length xs ≤ length os → length xs ≤ length ps → certificates_seen os xs ≡ certificates_seen ps xs
seen_fuel [] [] xs a b = refl
seen_fuel [] (p ∷ ps) [] a b = refl
seen_fuel [] (p ∷ ps) (x ∷ xs) a b = absurd (omega arith)
seen_fuel (o ∷ os) [] [] a b = refl
seen_fuel (o ∷ os) [] (x ∷ xs) a b = absurd (omega arith)
seen_fuel (o ∷ os) (p ∷ ps) xs a b = go (λ ys l m. seen_fuel os ps ys l m) (part3 xs) refl
  where
    go : ((ys : List ℕ) → length ys ≤ length os → length ys ≤ length ps → certificates_seen os ys ≡ certificates_seen ps ys)
        → (k : Cut) → part3 xs ≡ k → seen_first k (certificates_seen os) ≡ seen_first k (certificates_seen ps)
    go f uncut e = refl
    go f (cut c rest) e = let l = part3_lengths xs c rest e in ap (λ cs. c ∷ cs) (f rest (omega arith) (omega arith))

pub seen_more : (xs c rest : List ℕ) → part3 xs ≡ cut c rest → certificates_seen xs xs ≡ c ∷ certificates_seen rest rest
seen_more [] c rest e = let z : ◌≡◌ {A = ℕ} 0 1 = cc in absurd (omega arith)
seen_more (x ∷ xs) c rest e =
    let l = part3_lengths (x ∷ xs) c rest e in
    ap (λ k. seen_first k (certificates_seen xs)) e ∙ ap (λ cs. c ∷ cs) (seen_fuel xs rest rest (omega arith) (omega arith))

pub seen_none : (xs : List ℕ) → part3 xs ≡ uncut → certificates_seen xs xs ≡ []
seen_none [] e = refl
seen_none (x ∷ xs) e = ap (λ k. seen_first k (certificates_seen xs)) e

pub seen_short : (os xs : List ℕ) → length (certificates_seen os xs) ≤ length os
seen_short [] xs = omega arith
seen_short (o ∷ os) xs = go (λ ys. seen_short os ys) (part3 xs)
  where
    go : ((ys : List ℕ) → length (certificates_seen os ys) ≤ length os) → (k : Cut) → length (seen_first k (certificates_seen os)) ≤ length (o ∷ os)
    go f uncut = omega arith
    go f (cut c rest) = let h = f rest in omega arith

-- ---- as many as fill the list
in_fuel : (os ps xs : List ℕ) → length xs ≤ length os → length xs ≤ length ps → certificates_in os xs ≡ certificates_in ps xs
in_fuel [] [] xs a b = refl
in_fuel [] (p ∷ ps) [] a b = refl
in_fuel [] (p ∷ ps) (x ∷ xs) a b = absurd (omega arith)
in_fuel (o ∷ os) [] [] a b = refl
in_fuel (o ∷ os) [] (x ∷ xs) a b = absurd (omega arith)
in_fuel (o ∷ os) (p ∷ ps) [] a b = refl
in_fuel (o ∷ os) (p ∷ ps) (x ∷ xs) a b = go (λ ys l m. in_fuel os ps ys l m) (part3 (x ∷ xs)) refl
  where
    go : ((ys : List ℕ) → length ys ≤ length os → length ys ≤ length ps → certificates_in os ys ≡ certificates_in ps ys)
        → (k : Cut) → part3 (x ∷ xs) ≡ k
        → after_cut k (λ c rest. cond (leb 1 (length c)) (put_first c (certificates_in os rest)) None)
        ≡ after_cut k (λ c rest. cond (leb 1 (length c)) (put_first c (certificates_in ps rest)) None)
    go f uncut e = refl
    go f (cut c rest) e =
        let l = part3_lengths (x ∷ xs) c rest e in
        ap (λ r. cond (leb 1 (length c)) (put_first c r) None) (f rest (omega arith) (omega arith))

pub in_cut : (xs c rest : List ℕ) → part3 xs ≡ cut c rest
    → certificates_in xs xs ≡ cond (leb 1 (length c)) (put_first c (certificates_in rest rest)) None
in_cut [] c rest e = let z : ◌≡◌ {A = ℕ} 0 1 = cc in absurd (omega arith)
in_cut (x ∷ xs) c rest e =
    let l = part3_lengths (x ∷ xs) c rest e in
    ap (λ k. after_cut k (λ d more. cond (leb 1 (length d)) (put_first d (certificates_in xs more)) None)) e
    ∙ ap (λ r. cond (leb 1 (length c)) (put_first c r) None) (in_fuel xs rest rest (omega arith) (omega arith))

put_first_some : (c : List ℕ) (r : Option (List (List ℕ))) → is_some (put_first c r) ≡ is_some r
put_first_some c None = refl
put_first_some c (Some cs) = refl

-- a walk goes on behind a certificate of an octet or more
pub filled_more : (xs c rest : List ℕ) → part3 xs ≡ cut c rest → 1 ≤ length c → is_some (certificates_in rest rest) ≡ is_some (certificates_in xs xs)
filled_more xs c rest e h =
    sym (ap is_some (in_cut xs c rest e ∙ cond-true _ _ _ (le-leb 1 (length c) h)) ∙ put_first_some c (certificates_in rest rest))

-- it stops at an empty one, and where none can be cut off
pub filled_empty : (xs c rest : List ℕ) → part3 xs ≡ cut c rest → length c ≡ 0 → false ≡ is_some (certificates_in xs xs)
filled_empty xs c rest e h = sym (ap is_some (in_cut xs c rest e ∙ cond-false _ _ _ (lt-leb 1 (length c) (omega arith))))

pub filled_none : (xs : List ℕ) → 1 ≤ length xs → part3 xs ≡ uncut → false ≡ is_some (certificates_in xs xs)
filled_none [] h e = absurd (omega arith)
filled_none (x ∷ xs) h e =
    sym (ap (λ k. is_some (after_cut k (λ d more. cond (leb 1 (length d)) (put_first d (certificates_in xs more)) None))) e)

-- where certificates fill a list, they are those that can be cut off
pub in_seen : (os xs : List ℕ) (cs : List (List ℕ)) → certificates_in os xs ≡ Some cs → certificates_seen os xs ≡ cs
in_seen [] [] cs e = cc
in_seen [] (x ∷ xs) cs e = let z : ◌≡◌ {A = ℕ} 0 1 = cc in absurd (omega arith)
in_seen (o ∷ os) [] cs e = cc
in_seen (o ∷ os) (x ∷ xs) cs e = go (λ ys ds d. in_seen os ys ds d) (part3 (x ∷ xs)) e
  where
    on : (c rest : List ℕ) (r : Option (List (List ℕ))) → ((ds : List (List ℕ)) → r ≡ Some ds → certificates_seen os rest ≡ ds)
        → put_first c r ≡ Some cs → c ∷ certificates_seen os rest ≡ cs
    on c rest None f q = let z : ◌≡◌ {A = ℕ} 0 1 = cc in absurd (omega arith)
    on c rest (Some ds) f q = let i : c ∷ ds ≡ cs = cc in ap (λ more. c ∷ more) (f ds refl) ∙ i

    go : ((ys : List ℕ) (ds : List (List ℕ)) → certificates_in os ys ≡ Some ds → certificates_seen os ys ≡ ds)
        → (k : Cut) → after_cut k (λ c rest. cond (leb 1 (length c)) (put_first c (certificates_in os rest)) None) ≡ Some cs
        → seen_first k (certificates_seen os) ≡ cs
    go f uncut q = let z : ◌≡◌ {A = ℕ} 0 1 = cc in absurd (omega arith)
    go g (cut c rest) q = elim (cases_Bool (leb 1 (length c))) [
      | inr f ↦ (let w : None ≡ Some cs = rw f at q in let z : ◌≡◌ {A = ℕ} 0 1 = cc in absurd (omega arith))
      | inl t ↦ (let w : put_first c (certificates_in os rest) ≡ Some cs = rw t at q in
          on c rest (certificates_in os rest) (g rest) w)
    ]

pub is_none_empty : (xs : List ℕ) → is_none xs ≡ eqb (length xs) 0
is_none_empty [] = refl
is_none_empty (x ∷ xs) = sym (ne_eqb (length (x ∷ xs)) 0 (λ e. omega arith))

-- ---- the whole body
module _ (xs : List ℕ) where
  pub certificate_stops : part3 xs ≡ uncut → None ≡ read_certificate xs
  unfolding read_certificate
  certificate_stops p = rw p

  pub certificate_follows : {c rest : List ℕ} → part3 xs ≡ cut c rest → is_none rest ≡ false → None ≡ read_certificate xs
  unfolding read_certificate
  certificate_follows p q = rw (p, q)

  pub certificate_unfilled : {c rest : List ℕ} → part3 xs ≡ cut c rest → is_some (certificates_in c c) ≡ false → None ≡ read_certificate xs
  unfolding read_certificate
  certificate_unfilled {c} {rest} p q = rw p (sym (ap (λ r. cond (is_none rest) r None) (none (certificates_in c c) q) ∙ both (is_none rest)))
    where
      none : (r : Option (List (List ℕ))) → is_some r ≡ false → r ≡ None
      none None h = refl
      none (Some cs) h = let z : ◌≡◌ {A = ℕ} 0 1 = cc in absurd (omega arith)

      both : (b : Bool) → cond {A = Option (List (List ℕ))} b None None ≡ None
      both true = refl
      both false = refl

  pub certificate_filled : {c rest : List ℕ} → part3 xs ≡ cut c rest → is_none rest ≡ true → is_some (certificates_in c c) ≡ true
      → Some (certificates_seen c c) ≡ read_certificate xs
  unfolding read_certificate
  certificate_filled {c} {rest} p q i = rw (p, q) (some (certificates_in c c) i (in_seen c c))
    where
      some : (r : Option (List (List ℕ))) → is_some r ≡ true → ((cs : List (List ℕ)) → r ≡ Some cs → certificates_seen c c ≡ cs)
          → Some (certificates_seen c c) ≡ r
      some None h f = let z : ◌≡◌ {A = ℕ} 0 1 = cc in absurd (omega arith)
      some (Some cs) h f = ap Some (f cs refl)

-- ---- where each stands
pub spans_more : (at : ℕ) (xs c rest : List ℕ) (i : ℕ) → part3 xs ≡ cut c rest
    → slice_get (spans at (certificates_seen xs xs)) (suc i) ≡ slice_get (spans (at + (3 + length c)) (certificates_seen rest rest)) i
spans_more at xs c rest i e = ap (λ cs. slice_get (spans at cs) (suc i)) (seen_more xs c rest e)

pub spans_here : (at : ℕ) (xs c rest : List ℕ) → part3 xs ≡ cut c rest
    → slice_get (spans at (certificates_seen xs xs)) 0 ≡ Some (record { offset = at + 3; len = length c })
spans_here at xs c rest e = ap (λ cs. slice_get (spans at cs) 0) (seen_more xs c rest e)

pub spans_none : (at : ℕ) (xs : List ℕ) (i : ℕ) → part3 xs ≡ uncut → slice_get (spans at (certificates_seen xs xs)) i ≡ None
spans_none at xs i e = ap (λ cs. slice_get (spans at cs) i) (seen_none xs e)

-- ---- each by its place
pub nth_more : (xs c rest : List ℕ) (i : ℕ) → part3 xs ≡ cut c rest → slice_get (certificates_seen xs xs) (suc i) ≡ slice_get (certificates_seen rest rest) i
nth_more xs c rest i e = ap (λ cs. slice_get cs (suc i)) (seen_more xs c rest e)

pub nth_here : (xs c rest : List ℕ) → part3 xs ≡ cut c rest → slice_get (certificates_seen xs xs) 0 ≡ Some c
nth_here xs c rest e = ap (λ cs. slice_get cs 0) (seen_more xs c rest e)

pub nth_none : (xs : List ℕ) (i : ℕ) → part3 xs ≡ uncut → slice_get (certificates_seen xs xs) i ≡ None
nth_none xs i e = ap (λ cs. slice_get cs i) (seen_none xs e)
