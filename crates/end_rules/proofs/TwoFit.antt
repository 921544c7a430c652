-- Two certificates, by their places.
use Rattle.std.proofs.Common.{◌≡◌, ℕ, Bool, true, false, ◌&&◌, List, [], ◌∷◌, map, length, get_or, sym, refl, ap, ◌∙◌, arith, Bor}
use Rattle.model.specs.Refusals.{within, certificates_fit}

two_fit : (cs : List (Bor (List ℕ))) (d e : Bor (List ℕ)) → length cs ≡ 2
    → (within 1 1500 (length (get_or cs 0 d).now) && within 1 1500 (length (get_or cs 1 e).now)) ≡ certificates_fit (map (λ x. x.now) cs)
two_fit [] d e h = absurd (omega arith)
two_fit (a ∷ []) d e h = absurd (omega arith)
two_fit (a ∷ (b ∷ [])) d e h = refl
two_fit (a ∷ (b ∷ (x ∷ xs))) d e h = absurd (omega arith)

module _ (cs : List (Bor (List ℕ))) {a : Bool} where
  pub first_fits : {b : Bool} (d e : Bor (List ℕ)) → length cs ≡ 2 → a ≡ within 1 1500 (length (get_or cs 0 d).now) → a ≡ true
      → b ≡ within 1 1500 (length (get_or cs 1 e).now) → b ≡ certificates_fit (map (λ x. x.now) cs)
  first_fits d e h p t q = q ∙ sym (ap (λ u. u && within 1 1500 (length (get_or cs 1 e).now)) (sym p ∙ t)) ∙ two_fit cs d e h

  pub first_unfit : (d : Bor (List ℕ)) → length cs ≡ 2 → a ≡ within 1 1500 (length (get_or cs 0 d).now) → a ≡ false → a ≡ certificates_fit (map (λ x. x.now) cs)
  first_unfit d h p t = t ∙ sym (ap (λ u. u && within 1 1500 (length (get_or cs 1 d).now)) (sym p ∙ t)) ∙ two_fit cs d d h

pub not_two : (cs : List (Bor (List ℕ))) → (length cs ≡ 2 → ⊥) → false ≡ certificates_fit (map (λ x. x.now) cs)
not_two [] h = refl
not_two (a ∷ []) h = refl
not_two (a ∷ (b ∷ [])) h = absurd (h refl)
not_two (a ∷ (b ∷ (x ∷ xs))) h = refl
