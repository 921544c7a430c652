-- The blocks that the PRF puts out, and the laws of the PRF.
use Rattle.std.proofs.Common.{◌≡◌, ℕ, zero, suc, ◌+◌, ◌-◌, ◌*◌, ◌/◌, ◌%◌, ◌<◌, ◌≤◌, min, cond, eqb, List, [], ◌++◌, length, take, sym, refl, ap, ◌∙◌, inl, inr, add-one, arith}
use Rattle.std.proofs.lemmas.List.{length-append, length-take-le, take_all, take-take, take-append-le, append_assoc, append-nil, drop_all}
use Rattle.std.proofs.lemmas.Bool.{cases_eq, eq-eqb, ne_eqb, cond-true, cond-false}
use Rattle.octets.specs.Laid.{laid}
use Rattle.octets.specs.Octets.{Octets}
use Rattle.octets.proofs.Lays.{laid-laid, none_laid}
use Rattle.octets.proofs.Members.{octets-++, octets_take}
use Rattle.hmac_sm3.specs.Hmac.{hmac}
use Rattle.hmac_sm3.specs.Keyed.{Keyed, keyed, fed, tag}
use Rattle.hmac_sm3.specs.Prf.{link, expansion, p_hash, prf}
use Rattle.hmac_sm3.proofs.Tags.{fed-++, tag_is, length-hmac, hmac_octets}

pub tag_one : {h : Keyed} (key text : List ℕ) → h ≡ keyed key → tag (fed h text) ≡ hmac key text
tag_one {h} key text e = ap (λ g. tag (fed g text)) e ∙ tag_is key text

pub tag_three : {h : Keyed} (key a b d : List ℕ) → h ≡ keyed key → tag (fed (fed (fed h a) b) d) ≡ hmac key (a ++ (b ++ d))
tag_three {h} key a b d e =
    ap tag (sym (fed-++ (fed h a) b d)) ∙ ap tag (sym (fed-++ h a (b ++ d))) ∙ tag_one key (a ++ (b ++ d)) e

pub link_first : (key s : List ℕ) → hmac key s ≡ link 1 key s
unfolding link
link_first key s = refl

pub link_more : (i : ℕ) (key s : List ℕ) → link (i + 1) key s ≡ hmac key (link i key s)
unfolding link
link_more i key s = rw add-one refl

-- every A(i) past the seed has 32 octets
pub length-link : (i : ℕ) (key s : List ℕ) {a : List ℕ} → a ≡ link (i + 1) key s → length a ≡ 32
length-link i key s {a} e = ap length (e ∙ link_more i key s) ∙ length-hmac key (link i key s)

pub expansion_none : (key s : List ℕ) → expansion 0 key s ≡ []
unfolding expansion
expansion_none key s = refl

pub expansion_more : (i : ℕ) (key s : List ℕ) → expansion (i + 1) key s ≡ expansion i key s ++ hmac key (link (i + 1) key s ++ s)
unfolding expansion
expansion_more i key s = rw add-one refl

pub length-expansion : (i : ℕ) (key s : List ℕ) → length (expansion i key s) ≡ 32 * i
unfolding expansion
length-expansion zero key s = refl
length-expansion (suc i) key s =
    let a = length-append (expansion i key s) (hmac key (link (suc i) key s ++ s)) in
    let b = length-hmac key (link (suc i) key s ++ s) in
    let ih = length-expansion i key s in
    omega arith

expansion_octets : (i : ℕ) (key s : List ℕ) → Octets (expansion i key s)
unfolding expansion
expansion_octets zero key s = tt
expansion_octets (suc i) key s = octets-++ (expansion i key s) _ (expansion_octets i key s) (hmac_octets key _)

-- fewer blocks are the beginning of more
take-expansion : (i d : ℕ) (key s : List ℕ) → take (32 * i) (expansion (i + d) key s) ≡ expansion i key s
take-expansion i zero key s =
    let z : i + 0 ≡ i = omega arith in
    let l : length (expansion i key s) ≤ 32 * i = let n = length-expansion i key s in omega arith in
    ap (λ k. take (32 * i) (expansion k key s)) z ∙ take_all (32 * i) (expansion i key s) l
take-expansion i (suc d) key s =
    let z : i + suc d ≡ (i + d) + 1 = omega arith in
    let l : 32 * i ≤ length (expansion (i + d) key s) = let n = length-expansion (i + d) key s in omega arith in
    ap (λ k. take (32 * i) (expansion k key s)) z ∙ ap (take (32 * i)) (expansion_more (i + d) key s)
    ∙ take-append-le (32 * i) (expansion (i + d) key s) _ l ∙ take-expansion i d key s

pub length-prf : (key label seed : List ℕ) (n : ℕ) → length (prf key label seed n) ≡ n
unfolding prf p_hash
length-prf key label seed n =
    let l : n ≤ length (expansion ((n + 31) / 32) key (label ++ seed)) = let e = length-expansion ((n + 31) / 32) key (label ++ seed) in omega arith in
    length-take-le n (expansion ((n + 31) / 32) key (label ++ seed)) l

pub prf_octets : (key label seed : List ℕ) (n : ℕ) → Octets (prf key label seed n)
unfolding prf p_hash
prf_octets key label seed n = octets_take n _ (expansion_octets ((n + 31) / 32) key (label ++ seed))

-- fewer octets are the beginning of more
pub take-prf : (key label seed : List ℕ) (n m : ℕ) → n ≤ m → take n (prf key label seed m) ≡ prf key label seed n
unfolding prf p_hash
take-prf key label seed n m h =
    let s = label ++ seed in
    let i = (n + 31) / 32 in
    let j = (m + 31) / 32 in
    let z : i + (j - i) ≡ j = omega arith in
    let l : n ≤ 32 * i = omega arith in
    take-take n m (expansion j key s) h ∙ sym (take-take n (32 * i) (expansion j key s) l)
    ∙ ap (take n) (ap (λ k. take (32 * i) (expansion k key s)) (sym z) ∙ take-expansion i (j - i) key s)

pub prf_joined : (key label seed more : List ℕ) (n : ℕ) → prf key (label ++ seed) more n ≡ prf key label (seed ++ more) n
unfolding prf
prf_joined key label seed more n = ap (λ s. p_hash key s n) (append_assoc label seed more)

-- a buffer that is filled whole
laid_whole : (o l : List ℕ) → length o ≤ length l → laid o 0 l ≡ take (length o) l
unfolding laid
laid_whole o l h =
    let z : length o - 0 ≡ length o = omega arith in
    let d : length o ≤ 0 + length l = omega arith in
    ap (λ r. take (length o - 0) l ++ r) (drop_all (0 + length l) o d) ∙ append-nil _ ∙ ap (λ n. take n l) z

-- the buffer is full after as many blocks as it takes
pub filled_prf : (key label seed o : List ℕ) (i : ℕ) {out : List ℕ} → i ≡ length o / 32 + min 1 (length o % 32)
    → out ≡ laid o 0 (expansion i key (label ++ seed)) → out ≡ prf key label seed (length o)
unfolding prf p_hash
filled_prf key label seed o i {out} n e =
    let m : i ≡ (length o + 31) / 32 = omega arith in
    let l : length o ≤ length (expansion i key (label ++ seed)) = let k = length-expansion i key (label ++ seed) in omega arith in
    e ∙ laid_whole o (expansion i key (label ++ seed)) l ∙ ap (λ k. take (length o) (expansion k key (label ++ seed))) m

-- A(i + 1), the first made of the label and the seed, every other of the one before it
pub link_next : (key label seed : List ℕ) (i : ℕ) {h : Keyed} {a before : List ℕ} → h ≡ keyed key → (0 < i → before ≡ link i key (label ++ seed))
    → a ≡ cond (eqb i 0) (tag (fed (fed (fed h []) label) seed)) (tag (fed h before)) → a ≡ link (i + 1) key (label ++ seed)
link_next key label seed i {h} {a} {before} k b e = elim (cases_eq i 0) [
  | inl z ↦ e ∙ cond-true _ _ _ (eq-eqb i 0 z) ∙ tag_three key [] label seed k ∙ link_first key (label ++ seed)
      ∙ ap (λ n. link (n + 1) key (label ++ seed)) (sym z)
  | inr z ↦ (let p : 0 < i = omega (arith, z) in
      e ∙ cond-false _ _ _ (ne_eqb i 0 z) ∙ tag_one key before k ∙ ap (hmac key) (b p) ∙ sym (link_more i key (label ++ seed)))
]

-- one block more behind those before it
pub laid_more : (i : ℕ) (key label seed o : List ℕ) {h : Keyed} {a before out : List ℕ} → h ≡ keyed key → a ≡ link (i + 1) key (label ++ seed)
    → before ≡ laid o 0 (expansion i key (label ++ seed)) → out ≡ laid before (32 * i) (tag (fed (fed (fed h a) label) seed))
    → out ≡ laid o 0 (expansion (i + 1) key (label ++ seed))
laid_more i key label seed o {h} {a} {before} {out} k ea ef eo =
    let s = label ++ seed in
    let n : 32 * i ≡ 0 + length (expansion i key s) = let l = length-expansion i key s in omega arith in
    let b : tag (fed (fed (fed h a) label) seed) ≡ hmac key (link (i + 1) key s ++ s) =
    tag_three key a label seed k ∙ ap (λ t. hmac key (t ++ s)) ea in
    eo ∙ ap (λ t. laid t (32 * i) (tag (fed (fed (fed h a) label) seed))) ef ∙ laid-laid o (expansion i key s) (tag (fed (fed (fed h a) label) seed)) 0 (32 * i) n
    ∙ ap (λ t. laid o 0 (expansion i key s ++ t)) b ∙ ap (laid o 0) (sym (expansion_more i key s))

pub laid_none : (key s o : List ℕ) → o ≡ laid o 0 (expansion 0 key s)
laid_none key s o = none_laid o [] 0 (omega arith) ∙ ap (laid o 0) (sym (expansion_none key s))
