-- Octets that move to the front of a buffer, and that join at its end.
use Rattle.std.proofs.Common.{◌≡◌, ℕ, ◌+◌, ◌-◌, ◌<◌, ◌≤◌, List, [], ◌∷◌, ◌++◌, length, get_or, take, drop, set, sym, ap, ◌∙◌, arith}
use Rattle.std.proofs.lemmas.List.{take_more, take_more_set, get_or-drop, drop-set-lt, drop-drop, length-drop, drop-take}

-- one octet more has moved
pub moved_more : (a b : List ℕ) (i n : ℕ) → n + i < length b → length a ≡ length b → take i a ≡ take i (drop n b) → drop i a ≡ drop i b
    → (take (i + 1) (set a i (get_or a (n + i) 0)) ≡ take (i + 1) (drop n b)) × (drop (i + 1) (set a i (get_or a (n + i) 0)) ≡ drop (i + 1) b)
moved_more a b i n lt le front back =
    let y = get_or a (n + i) 0 in
    let la : i < length a = omega arith in
    let ln : i < length (drop n b) = simp length-drop (omega arith) in
    let e1 : get_or a (i + n) 0 ≡ get_or b (i + n) 0 = sym (get_or-drop i a n 0) ∙ ap (λ z. get_or z n 0) back ∙ get_or-drop i b n 0 in
    let ni : n + i ≡ i + n = omega arith in
    let ey : y ≡ get_or (drop n b) i 0 = ap (λ k. get_or a k 0) ni ∙ e1 ∙ ap (λ k. get_or b k 0) (sym ni) ∙ sym (get_or-drop n b i 0) in
    let d1 : drop (i + 1) a ≡ drop (i + 1) b = sym (drop-drop 1 i a) ∙ ap (drop 1) back ∙ drop-drop 1 i b in
    let lt1 : i < i + 1 = omega arith in (
      take_more_set a i y la ∙ ap (λ z. z ++ (y ∷ [])) front ∙ ap (λ v. take i (drop n b) ++ (v ∷ [])) ey ∙ sym (take_more (drop n b) i 0 ln),
      drop-set-lt (i + 1) a i y lt1 ∙ d1,
    )

-- the front has left
pub front_left : (a b : List ℕ) (n len : ℕ) → n ≤ len → take (len - n) a ≡ take (len - n) (drop n b) → take (len - n) a ≡ drop n (take len b)
front_left a b n len h e =
    let q : len ≡ n + (len - n) = omega arith in
    e ∙ sym (drop-take n (len - n) b) ∙ ap (λ k. drop n (take k b)) (sym q)
