-- Sealing, in the steps of the code.
use Rattle.std.specs.Prelude.{◌≡◌, ℕ, ◌+◌, ◌-◌, ◌%◌, ◌≤◌, min, cond, List, ◌++◌, length, take, drop}
use Rattle.std.proofs.Common.{sym, ap, ap₂, ◌∙◌, arith}
use borrow.Rule.Slice.PartMut.{put_mid}
use Rattle.std.proofs.lemmas.List.{length-append}
use Rattle.std.proofs.lemmas.Bool.{cond-true, eq-eqb}
use Rattle.octets.specs.declared.role.Role.{Role}
use Rattle.octets.specs.Laid.{laid}
use Rattle.octets.proofs.Lays.{laid-laid, length-laid, read_laid, over_laid}
use Rattle.sm4.specs.Cipher.{round_keys}
use Rattle.cbc.specs.Cbc.{cbc_encrypt, whole_blocks}
use Rattle.cbc.proofs.Keeps.{length-cbc_encrypt}
use Rattle.cbc_protection.specs.Layout.{key_of, mac}
use Rattle.cbc_protection.specs.Padding.{pad, least_pad, padded}
use Rattle.cbc_protection.specs.Records.{text_of, cbc_sealing}
use Rattle.cbc_protection.specs.Laws.{SealedLength}
use Rattle.cbc_protection.specs.Pads.{length_pad, length_mac}

-- a content and a MAC, padded
pub length_padded : (c g : List ℕ) → length g ≡ 32 → length (padded (c ++ g)) ≡ length c + 32 + (least_pad (length c + 32) + 1)
unfolding padded
length_padded c g h =
    let a : length (c ++ g) ≡ length c + 32 = length-append c g ∙ ap (λ n. length c + n) h in
    length-append (c ++ g) (pad (least_pad (length (c ++ g))))
    ∙ ap₂ (λ x y. x + y) a (length_pad (least_pad (length (c ++ g))) ∙ ap (λ n. least_pad n + 1) a)

pub length_text : (s : Role) (m : List ℕ) (n t : ℕ) (c : List ℕ) → length (text_of s m n t c) ≡ length c + 32 + (least_pad (length c + 32) + 1)
length_text s m n t c = length_padded c (mac s m n t c) (length_mac s m n t c)

-- content, MAC and padding laid one behind the other
pub text_laid : (o c g : List ℕ) (at : ℕ) {q1 q2 q3 : List ℕ} {b e r : ℕ} → length g ≡ 32 → at + (length c + 48) ≤ length o
    → q1 ≡ laid o at c → b ≡ at + min (length c) (length o - at) → q2 ≡ laid q1 b g → e ≡ b + min (length g) (length q1 - b)
    → q3 ≡ laid q2 e (pad (least_pad (length c + 32))) → r ≡ e + (least_pad (length c + 32) + 1)
    → (r ≡ at + length (padded (c ++ g))) × (q3 ≡ laid o at (padded (c ++ g)))
unfolding padded
text_laid o c g at {q1} {q2} {q3} {b} {e} {r} lg h p1 pb p2 pe p3 pr =
    let l1 : length q1 ≡ length o = ap length p1 ∙ length-laid o c at in
    let a : length (c ++ g) ≡ length c + 32 = length-append c g ∙ ap (λ n. length c + n) lg in
    let b1 : b ≡ at + length c = omega arith in
    let e1 : e ≡ at + length (c ++ g) = omega arith in
    let n = length_padded c g lg in (
      omega arith,
      p3 ∙ ap₂ (λ x y. laid x e (pad (least_pad y))) (p2 ∙ ap (λ x. laid x b g) p1 ∙ laid-laid o c g at b b1) (sym a)
          ∙ laid-laid o (c ++ g) (pad (least_pad (length (c ++ g)))) at e e1,
    )

-- the text laid behind the IV, encrypted in place
pub sealed_laid : (K fr T o : List ℕ) {K' iv q1 q2 w : List ℕ} {at end : ℕ} → length fr ≡ 16 → length T % 16 ≡ 0 → 16 + length T ≤ length o
    → K' ≡ K → iv ≡ fr → q1 ≡ laid o 0 fr → at ≡ 0 + min (length fr) (length o - 0) → q2 ≡ laid q1 at T → end ≡ at + length T
    → w ≡ cond (whole_blocks (take (end - at) (drop at q2))) (cbc_encrypt K' iv (take (end - at) (drop at q2))) (take (end - at) (drop at q2))
    → (end ≡ length (fr ++ cbc_encrypt K fr T)) × (put_mid at (end - at) q2 w ≡ laid o 0 (fr ++ cbc_encrypt K fr T))
sealed_laid K fr T o {K'} {iv} {q1} {q2} {w} {at} {end} lf lt h ek ei e1 ea e2 ee ew =
    let E = cbc_encrypt K fr T in
    let lE : length E ≡ length T = length-cbc_encrypt K fr T in
    let a : at ≡ 16 = omega arith in
    let a0 : at ≡ 0 + length fr = omega arith in
    let l1 : length q1 ≡ length o = ap length e1 ∙ length-laid o fr 0 in
    let he : end ≤ length q1 = omega arith in
    let part : take (end - at) (drop at q2) ≡ T = ap (λ x. take (end - at) (drop at x)) e2 ∙ read_laid q1 T at end ee he in
    let w1 : w ≡ E =
    ew ∙ ap (λ x. cond (whole_blocks x) (cbc_encrypt K' iv x) x) part ∙ cond-true _ _ _ (eq-eqb _ _ lt) ∙ ap₂ (λ x y. cbc_encrypt x y T) ek ei in
    let lw : length w ≡ length T = ap length w1 ∙ lE in
    let n = length-append fr E in (
      omega arith,
      ap (λ x. put_mid at (end - at) x w) e2 ∙ over_laid q1 T w at end ee he lw ∙ ap₂ (λ x y. laid x at y) e1 w1 ∙ laid-laid o fr E 0 at a0,
    )

pub sealed_length : SealedLength
sealed_length k n t c f h =
    let T = text_of k.role k.material n t c in
    let a : length (cbc_sealing k n t c f) ≡ length f + length T =
    length-append f _ ∙ ap (λ x. length f + x) (length-cbc_encrypt (round_keys (key_of k.role k.material)) f T) in
    let b = length_text k.role k.material n t c in
    omega arith
