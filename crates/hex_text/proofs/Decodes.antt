-- Reading digits two by two.
use Rattle.std.proofs.Common.{◌≡◌, ℕ, ◌+◌, ◌*◌, ◌<◌, ◌≤◌, List, [], ◌∷◌, ◌++◌, length, get_or, drop, Some, None, Option, sym, refl, ap, ◌∙◌, arith}
use Rattle.std.proofs.lemmas.List.{at_drop_more, at_drop_all, append_assoc, append-nil}
use Rattle.hex_text.specs.Hex.{digit, pair, before, decoded}

-- octets that are read, before what is still to be read
abbrev pub joined : List ℕ → Option (List ℕ) → Option (List ℕ)
joined p None = None
joined p (Some q) = Some (p ++ q)

joined-before : (p : List ℕ) (x : ℕ) (o : Option (List ℕ)) → joined (p ++ x ∷ []) o ≡ joined p (before (Some x) o)
joined-before p x None = refl
joined-before p x (Some q) = ap Some (append_assoc p (x ∷ []) q)

pub decode_more : (text p q : List ℕ) (i x : ℕ) {t : Option (List ℕ)} → 2 * i + 1 < length text
    → pair (digit (get_or text (2 * i) 0)) (digit (get_or text (2 * i + 1) 0)) ≡ Some x → q ≡ p ++ x ∷ []
    → joined p (decoded (drop (2 * i) text)) ≡ t → joined q (decoded (drop (2 * (i + 1)) text)) ≡ t
decode_more text p q i x {t} h e f inv =
    let h0 : 2 * i < length text = omega arith in
    let n : 2 * (i + 1) ≡ 2 * i + 1 + 1 = omega arith in
    let d : decoded (drop (2 * i) text) ≡ before (pair (digit (get_or text (2 * i) 0)) (digit (get_or text (2 * i + 1) 0))) (decoded (drop (2 * i + 1 + 1) text)) =
    at_drop_more decoded text (2 * i) 0 h0 ∙ at_drop_more (λ r. decoded (get_or text (2 * i) 0 ∷ r)) text (2 * i + 1) 0 h in
    ap (λ v. joined v (decoded (drop (2 * (i + 1)) text))) f ∙ joined-before p x (decoded (drop (2 * (i + 1)) text))
    ∙ ap (λ m. joined p (before (Some x) (decoded (drop m text)))) n
    ∙ ap (λ o. joined p (before o (decoded (drop (2 * i + 1 + 1) text)))) (sym e) ∙ ap (joined p) (sym d) ∙ inv

pub decode_all : (text p : List ℕ) (i : ℕ) {t : Option (List ℕ)} → length text ≤ 2 * i
    → joined p (decoded (drop (2 * i) text)) ≡ t → t ≡ Some p
decode_all text p i h inv =
    sym inv ∙ ap (joined p) (at_drop_all decoded text (2 * i) h) ∙ ap Some (append-nil p)
