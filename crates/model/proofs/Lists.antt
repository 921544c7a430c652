-- Numbered records, readings, beginnings.
use Rattle.std.proofs.Common.{◌≡◌, ℕ, ◌+◌, ◌≤◌, Bool, true, false, cond, eqb, List, [], ◌∷◌, ◌++◌, length, sym, refl, ap, ◌∙◌, ⊎_elim, append_assoc, arith}
use mathlib.Core.List.{Memᴰ}
use Rattle.records.specs.Kinds.{data_kind}
use Rattle.model.specs.Outcomes.{Protected}
use Rattle.model.specs.Runs.{Begins}
use Rattle.model.specs.Law.{of_kind, readings}

abbrev pub Numbered : ℕ → List Protected → Type 0
Numbered n [] = Unit {0}
Numbered n (x ∷ xs) = (x.number ≡ n) × Numbered (n + 1) xs

pub numbered_at : (m n : ℕ) (xs : List Protected) → m ≡ n → Numbered m xs → Numbered n xs
numbered_at m n xs e h = rw (← e) h

pub numbered-++ : (n : ℕ) (xs ys : List Protected) → Numbered n xs → Numbered (n + length xs) ys → Numbered n (xs ++ ys)
numbered-++ n [] ys h k = numbered_at _ n ys (omega arith) k
numbered-++ n (x ∷ xs) ys h k = (h.0, numbered-++ (n + 1) xs ys h.1 (numbered_at _ _ ys (omega arith) k))

pub past_number : (n : ℕ) (xs : List Protected) (x : Protected) → Numbered n xs → Memᴰ x xs → n ≤ x.number
past_number n [] x h m = elim m [ ]
past_number n (y ∷ ys) x h m =
    ⊎_elim (λ (e : x ≡ y). let q : x.number ≡ y.number = ap (λ (z : Protected). z.number) e in let k = h.0 in omega arith)
    (λ (t : Memᴰ x ys). let q = past_number (n + 1) ys x h.1 t in omega arith) (mathlib.Core.List.Memᴰ.cases_cons m)

pub found : (n : ℕ) (xs zs : List Protected) (x : Protected) → Numbered n (xs ++ zs) → Memᴰ x (xs ++ zs) → x.number ≡ n + length xs → Begins (x ∷ []) zs
found n [] [] x h m e = elim m [ ]
found n [] (z ∷ zs) x h m e =
    ⊎_elim (λ (q : x ≡ z). (zs, ap (λ (w : Protected). w ∷ zs) q)) (λ (t : Memᴰ x zs). let q = past_number (n + 1) zs x h.1 t in absurd (omega arith))
    (mathlib.Core.List.Memᴰ.cases_cons m)
found n (y ∷ ys) zs x h m e =
    ⊎_elim
    (λ (q : x ≡ y). let a : x.number ≡ y.number = ap (λ (z : Protected). z.number) q in let k = h.0 in absurd (omega arith))
    (λ (t : Memᴰ x (ys ++ zs)). found (n + 1) ys zs x h.1 t (omega arith)) (mathlib.Core.List.Memᴰ.cases_cons m)

pub begins_more : {A : Type 0} (xs ys zs : List A) → Begins xs ys → Begins xs (ys ++ zs)
begins_more xs ys zs h = (h.0 ++ zs, sym (append_assoc xs h.0 zs) ∙ ap (λ l. l ++ zs) h.1)

pub begins_trans : {A : Type 0} (xs ys zs : List A) → Begins xs ys → Begins ys zs → Begins xs zs
begins_trans xs ys zs h k = (h.0 ++ k.0, sym (append_assoc xs h.0 k.0) ∙ ap (λ l. l ++ k.0) h.1 ∙ k.1)

pub of_kind-++ : (k : ℕ) (xs ys : List Protected) → of_kind k (xs ++ ys) ≡ of_kind k xs ++ of_kind k ys
of_kind-++ k [] ys = refl
of_kind-++ k (x ∷ xs) ys = go (eqb x.kind k) (of_kind-++ k xs ys)
  where
    go : (b : Bool) → of_kind k (xs ++ ys) ≡ of_kind k xs ++ of_kind k ys → cond b (x.content ∷ of_kind k (xs ++ ys)) (of_kind k (xs ++ ys)) ≡ cond b (x.content ∷ of_kind k xs) (of_kind k xs) ++ of_kind k ys
    go true h = ap (λ l. x.content ∷ l) h
    go false h = h

pub readings-++ : (xs ys : List Protected) → readings (xs ++ ys) ≡ readings xs ++ readings ys
readings-++ = of_kind-++ data_kind
