-- A block as four words and back: nothing is lost either way.
use Rattle.std.proofs.Common.{◌≡◌, ℕ, zero, suc, ◌+◌, ◌/◌, ◌%◌, ◌^◌, ◌<◌, List, [], ◌∷◌, length, get_or, drop, sym, refl, ap, ◌∙◌, arith}
use Rattle.std.proofs.lemmas.List.{drop_more, drop_all}
use Rattle.std.proofs.lemmas.Nat.{shr-shr}
use Rattle.octets.specs.Octets.{Octets}
use Rattle.octets.proofs.Members.{member}
use Rattle.sm4.specs.Cipher.{Quad, loaded, stored}
use Rattle.sm4.specs.Words.{word, word_at, put_word}
use Rattle.sm4.proofs.Bounds.{Words, word_lt}

-- a word from its octets
digits : (x y z t : ℕ) → y ≡ x / 256 → z ≡ y / 256 → t ≡ z / 256 → t < 256 → word (t % 256) (z % 256) (y % 256) (x % 256) ≡ x
digits x y z t ey ez et h = omega arith

word_of : (x : ℕ) → x < 2 ^ 32 → word (x / 16777216 % 256) (x / 65536 % 256) (x / 256 % 256) (x % 256) ≡ x
word_of x h = digits x (x / 256) (x / 65536) (x / 16777216) refl (sym (shr-shr x 8 8)) (sym (shr-shr x 16 8)) (omega arith)

quad : ℕ → ℕ → ℕ → ℕ → Quad
quad a b c d = record { x0 = a; x1 = b; x2 = c; x3 = d }

pub load_store : (s : Quad) → Words s → loaded (stored s) ≡ s
unfolding quad
load_store s w =
    ap (λ (n : ℕ). quad n (word_at (stored s) 4) (word_at (stored s) 8) (word_at (stored s) 12)) (word_of s.x0 w.w0)
    ∙ ap (λ (n : ℕ). quad s.x0 n (word_at (stored s) 8) (word_at (stored s) 12)) (word_of s.x1 w.w1)
    ∙ ap (λ (n : ℕ). quad s.x0 s.x1 n (word_at (stored s) 12)) (word_of s.x2 w.w2)
    ∙ ap (λ (n : ℕ). quad s.x0 s.x1 s.x2 n) (word_of s.x3 w.w3)

-- octets from their word
put_octets : (a b c d : ℕ) (l : List ℕ) → a < 256 → b < 256 → c < 256 → d < 256 → put_word (word a b c d) l ≡ a ∷ b ∷ c ∷ d ∷ l
put_octets a b c d l ha hb hc hd =
    let ea : word a b c d / 16777216 % 256 ≡ a = omega arith in
    let eb : word a b c d / 65536 % 256 ≡ b = omega arith in
    let ec : word a b c d / 256 % 256 ≡ c = omega arith in
    let ed : word a b c d % 256 ≡ d = omega arith in
    rw (ea, eb, ec, ed)

-- n elements of a list from the place i
abbrev reads : ℕ → ℕ → List ℕ → List ℕ
reads zero i l = []
reads (suc n) i l = get_or l i 0 ∷ reads n (i + 1) l

read_all : (n i : ℕ) (l : List ℕ) → length l ≡ i + n → drop i l ≡ reads n i l
read_all zero i l e = drop_all i l (omega arith)
read_all (suc n) i l e = drop_more l i 0 (omega arith) ∙ ap (λ (t : List ℕ). get_or l i 0 ∷ t) (read_all n (i + 1) l (omega arith))

-- the word at a place, put before the rest
put_at : (l : List ℕ) → Octets l → (i n : ℕ) → put_word (word_at l i) (reads n (i + 4) l) ≡ get_or l i 0 ∷ get_or l (i + 1) 0 ∷ get_or l (i + 2) 0 ∷ get_or l (i + 3) 0 ∷ reads n (i + 4) l
put_at l o i n = put_octets _ _ _ _ (reads n (i + 4) l) (member l o i) (member l o (i + 1)) (member l o (i + 2)) (member l o (i + 3))

pub store_load : (l : List ℕ) → length l ≡ 16 → Octets l → stored (loaded l) ≡ l
store_load l e o =
    ap (λ (t : List ℕ). put_word (word_at l 0) (put_word (word_at l 4) (put_word (word_at l 8) t))) (put_at l o 12 0)
    ∙ ap (λ (t : List ℕ). put_word (word_at l 0) (put_word (word_at l 4) t)) (put_at l o 8 4) ∙ ap (λ (t : List ℕ). put_word (word_at l 0) t) (put_at l o 4 8)
    ∙ put_at l o 0 12 ∙ sym (read_all 16 0 l e)

pub load_words : (l : List ℕ) → Octets l → Words (loaded l)
load_words l o =
    let w : (i : ℕ) → word_at l i < 2 ^ 32
    = λ i. word_lt _ _ _ _ (member l o i) (member l o (i + 1)) (member l o (i + 2)) (member l o (i + 3)) in
    record { w0 = w 0; w1 = w 4; w2 = w 8; w3 = w 12 }

-- a stored block is octets
word_octets : (x : ℕ) (l : List ℕ) → Octets l → Octets (put_word x l)
word_octets x l o = (omega arith, (omega arith, (omega arith, (omega arith, o))))

pub stored_octets : (s : Quad) → Octets (stored s)
stored_octets s =
    word_octets s.x0 (put_word s.x1 (put_word s.x2 (put_word s.x3 [])))
    (word_octets s.x1 (put_word s.x2 (put_word s.x3 [])) (word_octets s.x2 (put_word s.x3 []) (word_octets s.x3 [] tt)))
