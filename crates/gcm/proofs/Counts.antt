-- Counter mode: the loops of src/counter.rt, as equations between lists.
use Rattle.std.proofs.Common.{◌≡◌, ℕ, suc, ◌+◌, ◌-◌, ◌*◌, ◌<◌, ◌≤◌, List, [], ◌∷◌, ◌++◌, length, get_or, take, drop, set, sym, refl, ap, ◌∙◌, ap₂, append_assoc, arith}
use borrow.Rule.Slice.PartMut.{put_mid}
use lib.Bits.{bit_xor}
use Rattle.std.proofs.lemmas.List.{at_drop_more, at_drop_all, take_more_set, drop-set-lt, length-append, length-drop, length-take-le, take_at, drop_at, drop-drop, take_all, append-nil, drop_all, take_rest}
use Rattle.sm4.specs.Cipher.{crypt}
use Rattle.gcm.specs.Blocks.{octets16}
use Rattle.gcm.specs.Counter.{inc32, xored, gctr_from}

-- ---- a pad added octet by octet

pub length-xored : (xs ys : List ℕ) → length (xored xs ys) ≡ length xs
length-xored [] ys = refl
length-xored (x ∷ xs) [] = refl
length-xored (x ∷ xs) (y ∷ ys) = ap suc (length-xored xs ys)

pub xored_more : (xs ys : List ℕ) (i v : ℕ) {t : List ℕ} → i < length xs → i < length ys → v ≡ bit_xor (get_or xs i 0) (get_or ys i 0)
    → take i xs ++ xored (drop i xs) (drop i ys) ≡ t → take (i + 1) (set xs i v) ++ xored (drop (i + 1) (set xs i v)) (drop (i + 1) ys) ≡ t
xored_more xs ys i v {t} hx hy e inv =
    let one : xored (drop i xs) (drop i ys) ≡ bit_xor (get_or xs i 0) (get_or ys i 0) ∷ xored (drop (i + 1) xs) (drop (i + 1) ys)
    = at_drop_more (λ l. xored l (drop i ys)) xs i 0 hx ∙ at_drop_more (xored (get_or xs i 0 ∷ drop (i + 1) xs)) ys i 0 hy in
    ap₂ (λ l m. l ++ xored m (drop (i + 1) ys)) (take_more_set xs i v hx) (drop-set-lt (i + 1) xs i v (omega arith))
    ∙ append_assoc (take i xs) (v ∷ []) (xored (drop (i + 1) xs) (drop (i + 1) ys))
    ∙ ap (λ l. take i xs ++ l) (ap (λ y. y ∷ xored (drop (i + 1) xs) (drop (i + 1) ys)) e ∙ sym one) ∙ inv

pub xored_all : (xs ys : List ℕ) (i : ℕ) {t : List ℕ} → length xs ≤ i → take i xs ++ xored (drop i xs) (drop i ys) ≡ t → xs ≡ t
xored_all xs ys i {t} h inv =
    sym (take_all i xs h) ∙ sym (append-nil (take i xs))
    ∙ ap (λ l. take i xs ++ l) (sym (at_drop_all (λ l. xored l (drop i ys)) xs i h)) ∙ inv

-- ---- a text block by block

-- what a write to the block at a leaves
pub put_block : (a : ℕ) (xs part : List ℕ) → put_mid a (a + 16 - a) xs part ≡ take a xs ++ (part ++ drop (a + 16) xs)
put_block a xs part =
    let k : a + 16 - a ≡ 16 = omega arith in
    ap (λ m. put_mid a m xs part) k ∙ ap (λ l. take a xs ++ (part ++ l)) (drop-drop 16 a xs)

-- what a write to all from a on leaves
pub put_rest : (a : ℕ) (xs part : List ℕ) → put_mid a (length xs - a) xs part ≡ take a xs ++ part
put_rest a xs part =
    ap (λ l. take a xs ++ (part ++ l)) (drop-drop (length xs - a) a xs ∙ drop_all (a + (length xs - a)) xs (omega arith))
    ∙ ap (λ l. take a xs ++ l) (append-nil part)

-- one whole block more, where i of n are done
pub gctr_more : (ks xs : List ℕ) (i n cb : ℕ) {pad part ys t : List ℕ} {next : ℕ} → i < n → i * 16 + 16 ≤ length xs → pad ≡ crypt ks (octets16 cb)
    → part ≡ xored (take (i * 16 + 16 - i * 16) (drop (i * 16) xs)) pad → ys ≡ put_mid (i * 16) (i * 16 + 16 - i * 16) xs part → next ≡ inc32 cb
    → take (i * 16) xs ++ gctr_from ks (n - i) cb (drop (i * 16) xs) ≡ t
    → take ((i + 1) * 16) ys ++ gctr_from ks (n - (i + 1)) next (drop ((i + 1) * 16) ys) ≡ t
unfolding gctr_from
gctr_more ks xs i n cb {pad} {part} {ys} {t} {next} h l epad epart eys enext inv =
    let a : List ℕ = take (i * 16) xs in
    let d : List ℕ = drop (i * 16 + 16) xs in
    let b : List ℕ = take 16 (drop (i * 16) xs) in
    let m : ℕ = n - (i + 1) in
    let lb : length (take 16 (drop (i * 16) xs)) ≡ 16 = length-take-le 16 (drop (i * 16) xs) (rw length-drop (omega arith)) in
    let width : i * 16 + 16 - i * 16 ≡ 16 = omega arith in
    let eb : part ≡ xored b pad = epart ∙ ap (λ j. xored (take j (drop (i * 16) xs)) pad) width in
    let lp : length part ≡ 16 = ap length eb ∙ length-xored b pad ∙ lb in
    let la : length (take (i * 16) xs) ≡ i * 16 = length-take-le (i * 16) xs (omega arith) in
    let lap : length (a ++ part) ≡ (i + 1) * 16 = length-append a part ∙ omega arith in
    let e : ys ≡ (a ++ part) ++ d = eys ∙ put_block (i * 16) xs part ∙ sym (append_assoc a part d) in
    let k : n - i ≡ suc (n - (i + 1)) = omega arith in
    ap (λ l. take ((i + 1) * 16) l ++ gctr_from ks m next (drop ((i + 1) * 16) l)) e
    ∙ ap₂ (λ l r. l ++ gctr_from ks m next r) (take_at (a ++ part) d ((i + 1) * 16) lap) (drop_at (a ++ part) d ((i + 1) * 16) lap)
    ∙ append_assoc a part (gctr_from ks m next d)
    ∙ ap₂ (λ l c. a ++ (l ++ gctr_from ks m c d)) (eb ∙ ap (xored b) epad) enext
    ∙ ap (λ r. a ++ (xored b (crypt ks (octets16 cb)) ++ gctr_from ks m (inc32 cb) r)) (sym (drop-drop 16 (i * 16) xs))
    ∙ ap (λ j. a ++ gctr_from ks j cb (drop (i * 16) xs)) (sym k) ∙ inv

-- no block is left
pub gctr_whole : (ks xs : List ℕ) (i n cb : ℕ) {t : List ℕ} → n ≡ i → length xs ≤ i * 16
    → take (i * 16) xs ++ gctr_from ks (n - i) cb (drop (i * 16) xs) ≡ t → xs ≡ t
unfolding gctr_from
gctr_whole ks xs i n cb e l inv =
    let k : n - i ≡ 0 = omega arith in
    sym (take_all (i * 16) xs l) ∙ sym (append-nil (take (i * 16) xs))
    ∙ ap (λ j. take (i * 16) xs ++ gctr_from ks j cb (drop (i * 16) xs)) (sym k) ∙ inv

-- a short block is left
pub gctr_last : (ks xs : List ℕ) (i n cb : ℕ) {pad part ys t : List ℕ} → n ≡ i + 1 → length xs ≤ i * 16 + 16 → pad ≡ crypt ks (octets16 cb)
    → part ≡ xored (take (length xs - i * 16) (drop (i * 16) xs)) pad → ys ≡ put_mid (i * 16) (length xs - i * 16) xs part
    → take (i * 16) xs ++ gctr_from ks (n - i) cb (drop (i * 16) xs) ≡ t → ys ≡ t
unfolding gctr_from
gctr_last ks xs i n cb {pad} {part} {ys} {t} e l epad epart eys inv =
    let k : n - i ≡ 1 = omega arith in
    let short : length (drop (i * 16) xs) ≤ 16 = rw length-drop (omega arith) in
    eys ∙ put_rest (i * 16) xs part ∙ ap (λ p. take (i * 16) xs ++ p)
    (epart ∙ ap (λ l. xored l pad) (take_rest xs (i * 16)) ∙ ap₂ xored (sym (take_all 16 (drop (i * 16) xs) short)) epad
    ∙ sym (append-nil (xored (take 16 (drop (i * 16) xs)) (crypt ks (octets16 cb)))))
    ∙ ap (λ j. take (i * 16) xs ++ gctr_from ks j cb (drop (i * 16) xs)) (sym k) ∙ inv
