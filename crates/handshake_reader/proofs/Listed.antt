-- Two-octet numbers in a list: how many there are, and each by its place.
use Rattle.std.proofs.Common.{◌≡◌, ℕ, zero, suc, ◌+◌, ◌*◌, ◌/◌, ◌<◌, ◌≤◌, Bool, true, false, cond, eqb, List, [], ◌∷◌, length, get_or, drop, sym, refl, ap, ◌∙◌, arith}
use Rattle.std.proofs.lemmas.List.{at_drop_more, at_drop_all}
use Rattle.std.proofs.lemmas.Bool.{cond-true, cond-false, eq-eqb, ne_eqb}
use Rattle.handshake.specs.Parts.{words, among}

pub word_at : (xs : List ℕ) (i : ℕ) → i < length xs / 2 → get_or (words xs) i 0 ≡ get_or xs (2 * i) 0 * 256 + get_or xs (2 * i + 1) 0
word_at [] i h = absurd (omega arith)
word_at (a ∷ []) i h = absurd (omega arith)
word_at (a ∷ b ∷ xs) zero h = refl
word_at (a ∷ b ∷ xs) (suc i) h =
    let e : 2 * suc i ≡ suc (suc (2 * i)) = omega arith in
    let f : 2 * suc i + 1 ≡ suc (suc (2 * i + 1)) = omega arith in
    rw (f, e) (word_at xs i (omega arith))

-- ---- a look for one number in a list, place by place
module _ (s : ℕ) (ws : List ℕ) (i w : ℕ) {t : Bool} (inv : among s (drop i ws) ≡ t) (h : i < length ws) (is : get_or ws i 0 ≡ w) where
  here : among s (drop i ws) ≡ cond (eqb s w) true (among s (drop (i + 1) ws))
  here = at_drop_more (among s) ws i 0 h ∙ ap (λ v. cond (eqb s v) true (among s (drop (i + 1) ws))) is

  pub among_found : w ≡ s → true ≡ t
  among_found e = sym (here ∙ cond-true _ _ _ (eq-eqb s w (sym e))) ∙ inv

  pub among_more : (w ≡ s → ⊥) → among s (drop (i + 1) ws) ≡ t
  among_more d = sym (here ∙ cond-false _ _ _ (ne_eqb s w (λ e. d (sym e)))) ∙ inv

pub among_all : (s : ℕ) (ws : List ℕ) (i : ℕ) {t : Bool} → among s (drop i ws) ≡ t → length ws ≤ i → false ≡ t
among_all s ws i inv h = sym (at_drop_all (among s) ws i h) ∙ inv
