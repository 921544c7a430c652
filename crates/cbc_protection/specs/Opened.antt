-- Opening, in the steps of the code.
use Rattle.std.specs.Prelude.{◌≡◌, ℕ, ◌+◌, ◌-◌, ◌%◌, ◌≤◌, true, cond, List, ◌++◌, length, take, drop, replicate, Some, None, Ok, Err, refl}
use Rattle.std.proofs.Common.{sym, ap₂, ◌∙◌, rules}
use Rattle.std.proofs.Math.Path.{ap}
use native.Mathlib.Omega.{arith}
use borrow.Rule.Slice.PartMut.{put_mid}
use Rattle.std.specs.Option.{option_map, ok_or}
use Rattle.std.proofs.lemmas.List.{length-drop, length-take-le, length-replicate, take_rest, same_lists, places}
use Rattle.std.proofs.lemmas.Bool.{cond-true, eq-eqb, le-leb, and_from}
use Rattle.octets.specs.declared.role.Role.{Role}
use Rattle.octets.specs.Laid.{laid}
use Rattle.octets.specs.Roles.{peer}
use Rattle.octets.proofs.Lays.{length-laid, read_laid, over_laid}
use Rattle.protection.specs.declared.error.OpenError.TheVariants.{Refused}
use Rattle.protection.specs.Keys.{Keying}
use Rattle.protection.specs.Calls.{opened_length, placed}
use Rattle.sm4.specs.Cipher.{round_keys}
use Rattle.cbc.specs.Cbc.{cbc_decrypt, whole_blocks}
use Rattle.cbc.proofs.Keeps.{length-cbc_decrypt}
use Rattle.cbc_protection.specs.Layout.{key_of}
use Rattle.cbc_protection.specs.Padding.{content_size}
use Rattle.cbc_protection.specs.Records.{checked, whole, decrypted, cbc_opening}
use Rattle.cbc_protection.specs.Checked.{checked_says, checked_some, checked_none}

pub is_whole : (l : List ℕ) → 64 ≤ length l → length l % 16 ≡ 0 → whole l ≡ true
is_whole l h e = and_from _ _ (le-leb 64 (length l) h) (eq-eqb (length l % 16) 0 e)

-- what stands behind the IV, laid first in the place and decrypted there
pub text_placed : (K l zs : List ℕ) (n : ℕ) {K' iv s q1 w : List ℕ} → 64 ≤ length l → length l % 16 ≡ 0 → length l ≤ length zs → n ≡ length l - 16
    → K' ≡ K → iv ≡ take 16 l → s ≡ drop 16 l → q1 ≡ laid zs 0 s
    → w ≡ cond (whole_blocks (take (n - 0) q1)) (cbc_decrypt K' iv (take (n - 0) q1)) (take (n - 0) q1)
    → put_mid 0 (n - 0) q1 w ≡ laid zs 0 (cbc_decrypt K (take 16 l) (drop 16 l))
text_placed K l zs n {K'} {iv} {s} {q1} {w} h e hz en ek ei es e1 ew =
    let D = drop 16 l in
    let ld : length (drop 16 l) ≡ length l - 16 = length-drop 16 l in
    let n0 : n ≡ 0 + length (drop 16 l) = omega arith in
    let hn : n ≤ length zs = omega arith in
    let q : q1 ≡ laid zs 0 (drop 16 l) = e1 ∙ ap (laid zs 0) es in
    let part : take (n - 0) q1 ≡ drop 16 l = ap (take (n - 0)) q ∙ read_laid zs (drop 16 l) 0 n n0 hn in
    let wb : length (drop 16 l) % 16 ≡ 0 = omega arith in
    let w1 : w ≡ cbc_decrypt K (take 16 l) (drop 16 l) =
    ew ∙ ap (λ x. cond (whole_blocks x) (cbc_decrypt K' iv x) x) part ∙ cond-true _ _ _ (eq-eqb _ _ wb) ∙ ap₂ (λ x y. cbc_decrypt x y (drop 16 l)) ek ei in
    let lw : length w ≡ length (drop 16 l) = ap length w1 ∙ length-cbc_decrypt K (take 16 l) (drop 16 l) in
    ap (λ x. put_mid 0 (n - 0) x w) q ∙ over_laid zs (drop 16 l) w 0 n n0 hn lw ∙ ap (laid zs 0) w1

-- the text is read again for its check
pub text_read : (zs X : List ℕ) (n : ℕ) {q : List ℕ} → n ≡ length X → n ≤ length zs → q ≡ laid zs 0 X → take (n - 0) q ≡ X
text_read zs X n {q} e h eq =
    let n0 : n ≡ 0 + length X = omega arith in
    ap (take (n - 0)) eq ∙ read_laid zs X 0 n n0 h

-- the content stays first, and the rest becomes zeros
cleared : (X q w : List ℕ) (size N : ℕ) → length X ≤ N → size ≤ length X → q ≡ laid (replicate N 0) 0 X → w ≡ replicate (N - size) 0
    → put_mid size (N - size) q w ≡ take size X ++ replicate (N - size) 0
unfolding laid
cleared X q w size N h hs eq ew = same_lists _ _ (search (rules, places)) (λ k d l. grind (arith, places))

module _ (k : Keying) (n t : ℕ) (l place : List ℕ) (w : whole l ≡ true) where
  opening_is : cbc_opening k n t l ≡ ok_or (checked (peer k.role) k.material n t (decrypted (peer k.role) k.material l)) Refused
  opening_is = cond-true _ _ _ w

  pub opens_right : {q v : List ℕ} {size : ℕ} → length (decrypted (peer k.role) k.material l) ≤ length place
      → q ≡ laid (replicate (length place) 0) 0 (decrypted (peer k.role) k.material l)
      → Some size ≡ option_map length (checked (peer k.role) k.material n t (decrypted (peer k.role) k.material l))
      → v ≡ replicate (length place - size) 0
      → (Ok size ≡ opened_length (cbc_opening k n t l)) × (put_mid size (length place - size) q v ≡ placed (cbc_opening k n t l) place)
  opens_right {q} {v} {size} h eq es ev =
      let Y = decrypted (peer k.role) k.material l in
      let y = checked_some (peer k.role) k.material n t Y _ size refl es in
      let c = y.0 in
      let says = checked_says (peer k.role) k.material n t Y c y.1 in
      let hs : content_size Y ≤ length Y = omega arith in
      let lc : length c ≡ content_size Y = ap length says.2 ∙ length-take-le (content_size Y) Y hs in
      let sz : size ≡ content_size Y = y.2 ∙ lc in
      let hz : size ≤ length Y = omega arith in
      let o : cbc_opening k n t l ≡ Ok c = opening_is ∙ ap (λ v. ok_or v Refused) y.1 in (
        ap Ok y.2 ∙ ap opened_length (sym o),
        cleared Y q v size (length place) h hz eq ev ∙ ap₂ (λ a b. a ++ replicate (length place - b) 0) (ap (λ i. take i Y) sz ∙ sym says.2) y.2 ∙ ap (λ r. placed r place) (sym o),
      )

  pub opens_wrong : {z : List ℕ} → None ≡ option_map length (checked (peer k.role) k.material n t (decrypted (peer k.role) k.material l))
      → z ≡ replicate (length place) 0
      → (Err Refused ≡ opened_length (cbc_opening k n t l)) × (z ≡ placed (cbc_opening k n t l) place)
  opens_wrong {z} e ez =
      let o : cbc_opening k n t l ≡ Err Refused = opening_is ∙ ap (λ v. ok_or v Refused) (checked_none (peer k.role) k.material n t _ _ refl e) in
      (ap opened_length (sym o), ez ∙ ap (λ r. placed r place) (sym o))

-- how far the content can reach
pub size_fits : (s : Role) (m : List ℕ) (n t : ℕ) (x : List ℕ) (size : ℕ) → Some size ≡ option_map length (checked s m n t x) → size ≤ length x
size_fits s m n t x size e =
    let y = checked_some s m n t x _ size refl e in
    let says = checked_says s m n t x y.0 y.1 in
    let hs : content_size x ≤ length x = omega arith in
    let lc : length y.0 ≡ content_size x = ap length says.2 ∙ length-take-le (content_size x) x hs in
    omega (arith, y.2)

-- what the steps of an opening come to, from what each call yields
module _ (k : Keying) (n t : ℕ) (l place : List ℕ) (N : ℕ) (h : 64 ≤ length l) (e : length l % 16 ≡ 0) (fit : length l ≤ length place) (eN : N ≡ length l - 16) where
  Y : List ℕ
  Y = decrypted (peer k.role) k.material l

  length_y : length Y ≡ length l - 16
  unfolding Y
  length_y = length-cbc_decrypt _ (take 16 l) (drop 16 l) ∙ length-drop 16 l

  module _ {K' iv zs q1 w : List ℕ} (ez : zs ≡ replicate (length place) 0) (ek : K' ≡ round_keys (key_of (peer k.role) k.material)) (ei : iv ≡ take 16 l)
      (e1 : q1 ≡ laid zs 0 (take (length l - 16) (drop 16 l)))
      (ew : w ≡ cond (whole_blocks (take (N - 0) q1)) (cbc_decrypt K' iv (take (N - 0) q1)) (take (N - 0) q1)) where
    length_zs : length zs ≡ length place
    length_zs = ap length ez ∙ length-replicate (length place) 0

    text_there : put_mid 0 (N - 0) q1 w ≡ laid zs 0 Y
    unfolding Y
    text_there =
        let z = length_zs in
        text_placed (round_keys (key_of (peer k.role) k.material)) l zs N h e (omega arith) eN ek ei (take_rest l 16) e1 ew

    pub length_there : length (put_mid 0 (N - 0) q1 w) ≡ length place
    length_there = ap length text_there ∙ length-laid zs Y 0 ∙ length_zs

    read_there : take (N - 0) (put_mid 0 (N - 0) q1 w) ≡ Y
    read_there = let a = length_y in let z = length_zs in text_read zs Y N (omega arith) (omega arith) text_there

    pub opened_none : {z : List ℕ} → None ≡ option_map length (checked (peer k.role) k.material n t (take (N - 0) (put_mid 0 (N - 0) q1 w)))
        → z ≡ replicate (length (put_mid 0 (N - 0) q1 w)) 0
        → (Err Refused ≡ opened_length (cbc_opening k n t l)) × (z ≡ placed (cbc_opening k n t l) place)
    unfolding Y
    opened_none {z} c q =
        opens_wrong k n t l place (is_whole l h e) (c ∙ ap (λ y. option_map length (checked (peer k.role) k.material n t y)) read_there) (q ∙ ap (λ i. replicate i 0) length_there)

    pub opened_size : (size : ℕ) → Some size ≡ option_map length (checked (peer k.role) k.material n t (take (N - 0) (put_mid 0 (N - 0) q1 w))) → size ≤ length (put_mid 0 (N - 0) q1 w)
    opened_size size c =
        let f = size_fits (peer k.role) k.material n t Y size (c ∙ ap (λ y. option_map length (checked (peer k.role) k.material n t y)) read_there) in
        let a = length_y in
        let b = length_there in
        omega arith

    pub opened_some : {v : List ℕ} (size : ℕ) → Some size ≡ option_map length (checked (peer k.role) k.material n t (take (N - 0) (put_mid 0 (N - 0) q1 w)))
        → v ≡ replicate (length (take (length (put_mid 0 (N - 0) q1 w) - size) (drop size (put_mid 0 (N - 0) q1 w)))) 0
        → (Ok size ≡ opened_length (cbc_opening k n t l)) × (put_mid size (length (put_mid 0 (N - 0) q1 w) - size) (put_mid 0 (N - 0) q1 w) v ≡ placed (cbc_opening k n t l) place)
    unfolding Y
    opened_some {v} size c q =
        let Q = put_mid 0 (N - 0) q1 w in
        let lq = length_there in
        let ly = length_y in
        let a : length (take (length Q - size) (drop size Q)) ≡ length place - size = ap length (take_rest Q size) ∙ length-drop size Q ∙ ap (λ i. i - size) lq in
        let hy : length (decrypted (peer k.role) k.material l) ≤ length place = omega arith in
        let z = opens_right k n t l place (is_whole l h e) hy (text_there ∙ ap (λ x. laid x 0 Y) ez)
        (c ∙ ap (λ y. option_map length (checked (peer k.role) k.material n t y)) read_there) (q ∙ ap (λ i. replicate i 0) a) in
        (z.0, ap (λ i. put_mid size (i - size) Q v) lq ∙ z.1)
