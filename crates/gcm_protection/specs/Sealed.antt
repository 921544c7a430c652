-- Sealing, in the steps of the code.
use Rattle.std.specs.Prelude.{◌≡◌, ℕ, ◌+◌, ◌-◌, ◌≤◌, min, List, ◌++◌, length, take, drop}
use Rattle.std.proofs.Common.{sym, ◌∙◌, arith}
use Rattle.std.proofs.Math.Path.{ap, ap₂}
use borrow.Rule.Slice.PartMut.{put_mid}
use Rattle.std.proofs.lemmas.List.{length-append}
use Rattle.octets.specs.Laid.{laid}
use Rattle.octets.specs.Numbers.{eight}
use Rattle.octets.proofs.Lays.{laid-laid, length-laid}
use Rattle.sm4.specs.Cipher.{round_keys}
use Rattle.gcm.specs.Gcm.{enciphered, tag, seal_gcm}
use Rattle.gcm.proofs.Opening.{length-enciphered, length-tag, length_seal}
use Rattle.gcm_protection.specs.Layout.{key_of, nonce_of, additional}
use Rattle.gcm_protection.specs.Laws.{SealedLength}
use Rattle.gcm_protection.specs.Parts.{part_laid, over_laid}

pub sealed_length : SealedLength
sealed_length k n t c f =
    let key = key_of k.role k.material in
    let iv = nonce_of k.role k.material (eight n) in
    let s : List ℕ = seal_gcm key iv (additional n t (length c)) c in
    let l : length s ≡ length c + 16 = length_seal key iv (additional n t (length c)) c in
    length-append (eight n) s ∙ omega arith

-- ciphertext and tag, laid behind the number
module _ (key iv a c out e : List ℕ) {ks i d x p q w r g o : List ℕ} {at end : ℕ}
    (room : length e + (length c + 16) ≤ length out)
    (keys : ks ≡ round_keys key)
    (number : x ≡ e)
    (ivs : i ≡ iv)
    (aad : d ≡ a)
    (first : p ≡ laid out 0 x)
    (start : at ≡ 0 + min (length x) (length out - 0))
    (content : q ≡ laid p at c)
    (stop : end ≡ at + min (length c) (length p - at))
    (cipher : w ≡ enciphered ks i (take (end - at) (drop at q)))
    (tags : g ≡ tag ks i d (enciphered ks i (take (end - at) (drop at q))))
    (over : r ≡ put_mid at (end - at) q w)
    (done : o ≡ laid r end g) where
  long : length p ≡ length out
  long = ap length first ∙ length-laid out x 0

  starts : at ≡ length e
  starts = let n = ap length number in omega arith

  stops : end ≡ at + length c
  stops = let l = long in let s = starts in omega arith

  within : end ≤ length p
  within = let l = long in let s = starts in let z = stops in omega arith

  read : take (end - at) (drop at q) ≡ c
  read = ap (λ y. take (end - at) (drop at y)) content ∙ part_laid p c at end stops within

  ciphertext : w ≡ enciphered (round_keys key) iv c
  ciphertext = cipher ∙ ap₂ (λ y z. enciphered y z (take (end - at) (drop at q))) keys ivs ∙ ap (enciphered (round_keys key) iv) read

  tagged : g ≡ tag (round_keys key) iv a w
  tagged = tags ∙ ap₂ (λ y z. tag y z d (enciphered ks i (take (end - at) (drop at q)))) keys ivs ∙ ap₂ (tag (round_keys key) iv) aad (sym cipher)

  same_length : length w ≡ length c
  same_length = ap length ciphertext ∙ length-enciphered (round_keys key) iv c

  written : r ≡ laid p at w
  written = over ∙ ap (λ y. put_mid at (end - at) y w) content ∙ over_laid p c w at end stops within same_length

  together : w ++ g ≡ seal_gcm key iv a c
  unfolding seal_gcm
  together = ap₂ (λ y z. y ++ z) ciphertext (tagged ∙ ap (tag (round_keys key) iv a) ciphertext)

  pub seals_after : o ≡ laid out 0 (e ++ seal_gcm key iv a c)
  seals_after =
      let s = starts in
      let z : end ≡ at + length w = stops ∙ ap (λ n. at + n) (sym same_length) in
      let u : at ≡ 0 + length x = let n = ap length number in omega arith in
      done ∙ ap (λ y. laid y end g) written ∙ laid-laid p w g at end z ∙ ap (λ y. laid y at (w ++ g)) first
      ∙ laid-laid out x (w ++ g) 0 at u ∙ ap₂ (λ y v. laid out 0 (y ++ v)) number together

  pub seals_end : {last : ℕ} → last ≡ end + min (length g) (length r - end) → last ≡ length (e ++ seal_gcm key iv a c)
  seals_end {last} h =
      let s = starts in
      let z = stops in
      let l = long in
      let n : length g ≡ 16 = ap length tagged ∙ length-tag (round_keys key) iv a w in
      let m : length r ≡ length p = ap length written ∙ length-laid p w at in
      let v : length (e ++ seal_gcm key iv a c) ≡ length e + (length c + 16) = length-append e _ ∙ ap (λ y. length e + y) (length_seal key iv a c) in
      omega arith
