-- The steps of the loops over the round keys, as equations.
use Rattle.std.proofs.Common.{◌≡◌, ℕ, ◌+◌, ◌<◌, ◌≤◌, List, [], ◌∷◌, ◌++◌, reverse, length, get_or, take, drop, set, sym, ap, ◌∙◌, append_assoc, arith}
use Rattle.std.proofs.lemmas.List.{at_drop_more, at_drop_all, take_more, take_more_set, take_all, append-nil, reverse-append}
use Rattle.sm4.specs.Cipher.{Quad, round, rounds, key_round, schedule}

-- forwards: what is left of the keys gives the same answer
pub forwards_more : (ks : List ℕ) (i : ℕ) (s : Quad) {s' t : Quad} → i < length ks → s' ≡ round (get_or ks i 0) s → rounds (drop i ks) s ≡ t
    → rounds (drop (i + 1) ks) s' ≡ t
forwards_more ks i s h e inv =
    ap (λ (q : Quad). rounds (drop (i + 1) ks) q) e ∙ sym (at_drop_more (λ l. rounds l s) ks i 0 h) ∙ inv

pub forwards_all : (ks : List ℕ) (i : ℕ) (s : Quad) {t : Quad} → length ks ≤ i → rounds (drop i ks) s ≡ t → s ≡ t
forwards_all ks i s h inv = sym (at_drop_all (λ l. rounds l s) ks i h) ∙ inv

-- backwards: the keys before place i are left
pub backwards_none : (ks : List ℕ) (i : ℕ) (s : Quad) → length ks ≤ i → rounds (reverse (take i ks)) s ≡ rounds (reverse ks) s
backwards_none ks i s h = ap (λ (l : List ℕ). rounds (reverse l) s) (take_all i ks h)

pub backwards_more : (ks : List ℕ) (j i : ℕ) (s : Quad) {s' t : Quad} → j ≡ i + 1 → i < length ks → s' ≡ round (get_or ks i 0) s
    → rounds (reverse (take j ks)) s ≡ t → rounds (reverse (take i ks)) s' ≡ t
backwards_more ks j i s {s'} {t} ej h e inv =
    ap (λ (q : Quad). rounds (reverse (take i ks)) q) e
    ∙ sym (ap (λ (l : List ℕ). rounds l s) (ap reverse (take_more ks i 0 h) ∙ reverse-append (take i ks) (get_or ks i 0 ∷ [])))
    ∙ sym (ap (λ (n : ℕ). rounds (reverse (take n ks)) s) ej) ∙ inv

pub backwards_all : (ks : List ℕ) (i : ℕ) (s : Quad) {t : Quad} → i ≤ 0 → rounds (reverse (take i ks)) s ≡ t → s ≡ t
backwards_all ks i s h inv = let e : 0 ≡ i = omega arith in ap (λ (n : ℕ). rounds (reverse (take n ks)) s) e ∙ inv

-- the key expansion: the round keys written, then those that the fixed parameters left give
pub schedule_more : (cs out : List ℕ) (i : ℕ) (s : Quad) {s' : Quad} {w : ℕ} {t : List ℕ} → i < length cs → i < length out
    → s' ≡ key_round (get_or cs i 0) s → w ≡ s'.x3 → take i out ++ schedule (drop i cs) s ≡ t
    → take (i + 1) (set out i w) ++ schedule (drop (i + 1) cs) s' ≡ t
schedule_more cs out i s {s'} {w} {t} hc ho e ew inv =
    ap (λ (l : List ℕ). l ++ schedule (drop (i + 1) cs) s') (take_more_set out i w ho)
    ∙ append_assoc (take i out) (w ∷ []) (schedule (drop (i + 1) cs) s')
    ∙ ap (λ (n : ℕ). take i out ++ (n ∷ schedule (drop (i + 1) cs) s')) ew
    ∙ ap (λ (l : List ℕ). take i out ++ l)
    (ap (λ (q : Quad). q.x3 ∷ schedule (drop (i + 1) cs) q) e ∙ sym (at_drop_more (λ l. schedule l s) cs i 0 hc)) ∙ inv

pub schedule_all : (cs out : List ℕ) (i : ℕ) (s : Quad) {t : List ℕ} → length cs ≤ i → length out ≤ i → take i out ++ schedule (drop i cs) s ≡ t
    → out ≡ t
schedule_all cs out i s {t} hc ho inv =
    sym (take_all i out ho) ∙ sym (append-nil (take i out))
    ∙ ap (λ (l : List ℕ). take i out ++ l) (sym (at_drop_all (λ l. schedule l s) cs i hc)) ∙ inv
