-- The table of words as it fills, and the rounds that the filled part allows.
use Rattle.std.proofs.Common.{◌≡◌, ℕ, zero, suc, ◌+◌, ◌-◌, ◌<◌, ◌≤◌, List, [], ◌∷◌, ◌++◌, length, get_or, take, set, replicate, sym, refl, ap, ◌∙◌, subst, add-zero, add-one, arith}
use lib.Bits.{bit_xor}
use Rattle.std.proofs.lemmas.List.{get_or-take, take_more_set, take_all, take_at, take-append-le, set_at, append_assoc, length-set, length_push, length-append, length-replicate}
use Rattle.std.proofs.lemmas.List.FromFn.{length-map-range_with_len}
use Rattle.sm3.specs.Compress.{rounds, round, expand, next, word, words}
use Rattle.sm3.specs.Steps.{extended, extended_four, round_at, rounds_four}

pub rounds_none : (ws v : List ℕ) → rounds 0 ws v ≡ v
unfolding rounds
rounds_none ws v = refl

pub rounds_more : (j : ℕ) (ws v : List ℕ) → rounds (j + 1) ws v ≡ round_at j ws (rounds j ws v)
unfolding rounds round_at
rounds_more j ws v = rw add-one refl

pub expand_none : (ws : List ℕ) → expand 0 ws ≡ ws
unfolding expand
expand_none ws = refl

pub expand_more : (k : ℕ) (ws : List ℕ) → expand (k + 1) ws ≡ expand k ws ++ next k (expand k ws) ∷ []
unfolding expand
expand_more k ws = rw add-one refl

pub length-words : (b : List ℕ) → length (words b) ≡ 16
unfolding words
length-words b = length-map-range_with_len (word b) 0 16

-- a table that begins with a list and has zeros behind it, one word more
pub word_more : (p : List ℕ) (x i : ℕ) → length p ≡ i → i < 68 → set (p ++ replicate (68 - i) 0) i x ≡ (p ++ x ∷ []) ++ replicate (68 - (i + 1)) 0
word_more p x i l h =
    let n : 68 - i ≡ suc (68 - (i + 1)) = omega arith in
    ap (λ k. set (p ++ replicate k 0) i x) n ∙ set_at p 0 (replicate (68 - (i + 1)) 0) x i l ∙ sym (append_assoc p (x ∷ []) (replicate (68 - (i + 1)) 0))

-- a table that holds the first k + 16 words of the expansion of f
abbrev pub Filled : ℕ → List ℕ → List ℕ → Type 0
Filled k f ws = (length ws ≡ 68) × (take (k + 16) ws ≡ expand k f)

-- as it is before the first round
pub filled_first : (f ws : List ℕ) → length f ≡ 16 → ws ≡ f ++ replicate 52 0 → Filled 0 f ws
filled_first f ws l e =
    let n : length ws ≡ 68 = ap length e ∙ simp (length-append, length-replicate) (omega arith) in
    (n, ap (take 16) e ∙ take_at f (replicate 52 0) 16 l ∙ sym (expand_none f))

-- the next word looks at the words before it alone
next_front : (k : ℕ) (ws : List ℕ) → next k (take (k + 16) ws) ≡ next k ws
next_front k ws =
    let h0 : k < k + 16 = omega arith in
    let h3 : k + 3 < k + 16 = omega arith in
    let h7 : k + 7 < k + 16 = omega arith in
    let h10 : k + 10 < k + 16 = omega arith in
    let h13 : k + 13 < k + 16 = omega arith in
    simp get_or-take

-- one word more
extended_filled : (k : ℕ) (f ws : List ℕ) → k < 52 → Filled k f ws → Filled (k + 1) f (extended k ws)
unfolding extended
extended_filled k f ws h s =
    let l : length ws ≡ 68 = s.0 in
    let e : take (k + 16) ws ≡ expand k f = s.1 in
    let lt : k + 16 < length ws = omega arith in
    let p : k + 1 + 16 ≡ k + 16 + 1 = omega arith in
    let a = take_more_set ws (k + 16) (next k ws) lt in
    let b = expand_more k f in
    let d = next_front k ws in
    (simp length-set l, cc)

-- four words more
pub four_filled : (k : ℕ) (f ws : List ℕ) → k ≤ 48 → Filled k f ws → Filled (k + 4) f (extended_four k ws)
unfolding extended_four
four_filled k f ws h s =
    let s1 = extended_filled k f ws (omega arith) s in
    let e1 : k + 1 + 1 ≡ k + 2 = omega arith in
    let s2 = rw e1 at (extended_filled (k + 1) f _ (omega arith) s1) in
    let e2 : k + 2 + 1 ≡ k + 3 = omega arith in
    let s3 = rw e2 at (extended_filled (k + 2) f _ (omega arith) s2) in
    let e3 : k + 3 + 1 ≡ k + 4 = omega arith in
    rw e3 at (extended_filled (k + 3) f _ (omega arith) s3)

length-expand : (k : ℕ) (f : List ℕ) → length f ≡ 16 → length (expand k f) ≡ k + 16
unfolding expand
length-expand zero f l = omega arith
length-expand (suc k) f l =
    let ih = length-expand k f l in
    let p = length_push (expand k f) (next k (expand k f)) in
    omega arith

-- the expansion begins with each shorter one
expand_front : (d k : ℕ) (f : List ℕ) → length f ≡ 16 → take (k + 16) (expand (k + d) f) ≡ expand k f
expand_front zero k f l =
    let n = length-expand k f l in
    rw add-zero (take_all (k + 16) (expand k f) (omega arith))
expand_front (suc d) k f l =
    let n = length-expand (k + d) f l in
    let le : k + 16 ≤ length (expand (k + d) f) = omega arith in
    let e : k + suc d ≡ k + d + 1 = omega arith in
    ap (λ m. take (k + 16) (expand m f)) e ∙ ap (take (k + 16)) (expand_more (k + d) f)
    ∙ take-append-le (k + 16) (expand (k + d) f) _ le ∙ expand_front d k f l

-- what the table holds is what the whole expansion has there
filled_at : (i k : ℕ) (f ws : List ℕ) → length f ≡ 16 → k ≤ 52 → i < k + 16 → Filled k f ws → get_or ws i 0 ≡ get_or (expand 52 f) i 0
filled_at i k f ws l h lt s =
    let e : k + (52 - k) ≡ 52 = omega arith in
    let w : take (k + 16) (expand 52 f) ≡ expand k f = rw e at (expand_front (52 - k) k f l) in
    sym (get_or-take (k + 16) ws i 0 lt) ∙ ap (λ u. get_or u i 0) (s.1 ∙ sym w) ∙ get_or-take (k + 16) (expand 52 f) i 0 lt

round_filled : (j k : ℕ) (f ws v : List ℕ) → length f ≡ 16 → k ≤ 52 → j + 4 < k + 16 → Filled k f ws → round_at j ws v ≡ round_at j (expand 52 f) v
unfolding round_at
round_filled j k f ws v l h lt s =
    let a : get_or ws j 0 ≡ get_or (expand 52 f) j 0 = filled_at j k f ws l h (omega arith) s in
    let b : get_or ws (j + 4) 0 ≡ get_or (expand 52 f) (j + 4) 0 = filled_at (j + 4) k f ws l h lt s in
    ap (λ x. round j x (bit_xor x (get_or ws (j + 4) 0)) v) a ∙ ap (λ y. round j (get_or (expand 52 f) j 0) (bit_xor (get_or (expand 52 f) j 0) y) v) b

-- one round more, on a table filled far enough
round_more : (j k : ℕ) (f ws u v : List ℕ) → length f ≡ 16 → k ≤ 52 → j + 4 < k + 16 → Filled k f ws → v ≡ rounds j (expand 52 f) u
    → round_at j ws v ≡ rounds (j + 1) (expand 52 f) u
round_more j k f ws u v l h lt s e =
    round_filled j k f ws v l h lt s ∙ ap (round_at j (expand 52 f)) e ∙ sym (rounds_more j (expand 52 f) u)

-- four rounds more
pub rounds_filled : (j k : ℕ) (f ws u v : List ℕ) → length f ≡ 16 → k ≤ 52 → j + 7 < k + 16 → Filled k f ws → v ≡ rounds j (expand 52 f) u
    → rounds_four j ws v ≡ rounds (j + 4) (expand 52 f) u
unfolding rounds_four
rounds_filled j k f ws u v l h lt s e =
    let q1 = round_more j k f ws u _ l h (omega arith) s e in
    let e1 : j + 1 + 1 ≡ j + 2 = omega arith in
    let q2 = rw e1 at (round_more (j + 1) k f ws u _ l h (omega arith) s q1) in
    let e2 : j + 2 + 1 ≡ j + 3 = omega arith in
    let q3 = rw e2 at (round_more (j + 2) k f ws u _ l h (omega arith) s q2) in
    let e3 : j + 3 + 1 ≡ j + 4 = omega arith in
    rw e3 at (round_more (j + 3) k f ws u _ l h (omega arith) s q3)

-- where the code stands between two groups: k words written, k + 12 rounds done
abbrev pub Reached : ℕ → List ℕ → List ℕ → List ℕ → List ℕ → Type 0
Reached k f u ws v = Filled k f ws × (v ≡ rounds (k + 12) (expand 52 f) u)

-- one group more
pub reached_more : (k : ℕ) (f u ws v ws' v' : List ℕ) → length f ≡ 16 → k ≤ 48 → Reached k f u ws v
    → ws' ≡ extended_four k ws → v' ≡ rounds_four (k + 12) (extended_four k ws) v → Reached (k + 4) f u ws' v'
reached_more k f u ws v ws' v' l h s e d =
    let t = four_filled k f ws h s.0 in
    let r = rounds_filled (k + 12) (k + 4) f _ u v l (omega arith) (omega arith) t s.1 in
    let n : k + 12 + 4 ≡ k + 4 + 12 = omega arith in
    (subst (λ (x : List ℕ). Filled (k + 4) f x) (sym e) t, d ∙ r ∙ ap (λ m. rounds m (expand 52 f) u) n)

-- the four writes of a group
pub advanced_table : (k : ℕ) (w : List ℕ) {w1 w2 w3 w4 : List ℕ} → w1 ≡ extended k w → w2 ≡ extended (k + 1) w1 → w3 ≡ extended (k + 2) w2 → w4 ≡ extended (k + 3) w3
    → w4 ≡ extended_four k w
unfolding extended_four
advanced_table k w a b c d = simp (d, c, b, a)

-- its four rounds
pub advanced_rounds : (k : ℕ) (v : List ℕ) {w w4 v1 v2 v3 v4 : List ℕ} → w4 ≡ w → v1 ≡ round_at (k + 12) w4 v → v2 ≡ round_at (k + 13) w4 v1 → v3 ≡ round_at (k + 14) w4 v2
    → v4 ≡ round_at (k + 15) w4 v3 → v4 ≡ rounds_four (k + 12) w v
unfolding rounds_four
advanced_rounds k v e a b c d =
    let n1 : k + 12 + 1 ≡ k + 13 = omega arith in
    let n2 : k + 12 + 2 ≡ k + 14 = omega arith in
    let n3 : k + 12 + 3 ≡ k + 15 = omega arith in
    simp (n1, n2, n3, d, c, b, a, e)
