-- What is sealed opens, and nothing else does.
use Rattle.std.proofs.Common.{◌≡◌, ℕ, ◌+◌, ◌-◌, cond, List, ◌++◌, length, take, drop, Some, None, sym, ap, ◌∙◌, subst, ap₂, inl, inr, arith}
use Rattle.std.proofs.lemmas.List.{length-append, take_at, drop_at, take-append-drop}
use Rattle.std.proofs.lemmas.Bool.{cases_Bool}
use Rattle.octets.specs.Octets.{Octets, same}
use Rattle.octets.proofs.Alike.{same_true, same_self}
use Rattle.octets.proofs.Members.{octets-++, octets_take}
use Rattle.sm4.specs.Cipher.{round_keys}
use Rattle.gcm.specs.Blocks.{octets16}
use Rattle.gcm.specs.Counter.{inc32}
use Rattle.gcm.specs.Gcm.{J0, enciphered, digest, tag, opened, seal_gcm, open_gcm}
use Rattle.gcm.specs.Laws.{OpensSealed, DecryptsEncrypted, OnlySealedOpens, OpensExactly, Lengths, OctetsStay}
use Rattle.gcm.proofs.Undoing.{length-gctr, gctr_octets, undoes_itself}

-- ---- lengths and octets

pub length-enciphered : (ks iv xs : List ℕ) → length (enciphered ks iv xs) ≡ length xs
unfolding enciphered
length-enciphered ks iv xs = length-gctr ks (inc32 (J0 iv)) xs

pub length-tag : (ks iv a c : List ℕ) → length (tag ks iv a c) ≡ 16
unfolding tag
length-tag ks iv a c = length-gctr ks (J0 iv) (octets16 (digest ks a c))

pub length_seal : (key iv a p : List ℕ) → length (seal_gcm key iv a p) ≡ length p + 16
unfolding seal_gcm
length_seal key iv a p =
    let ks : List ℕ = round_keys key in
    let c : List ℕ = enciphered ks iv p in
    length-append c (tag ks iv a c) ∙ ap₂ (λ m n. m + n) (length-enciphered ks iv p) (length-tag ks iv a c)

pub lengths : Lengths
lengths = (length-enciphered, length-tag, length_seal)

pub enciphered_octets : (ks iv xs : List ℕ) → Octets xs → Octets (enciphered ks iv xs)
unfolding enciphered
enciphered_octets ks iv xs o = gctr_octets ks (inc32 (J0 iv)) xs o

octets16_octets : (n : ℕ) → Octets (octets16 n)
octets16_octets n = omega arith

pub tag_octets : (ks iv a c : List ℕ) → Octets (tag ks iv a c)
unfolding tag
tag_octets ks iv a c = gctr_octets ks (J0 iv) (octets16 (digest ks a c)) (octets16_octets (digest ks a c))

pub seal_octets : (key iv a p : List ℕ) → Octets p → Octets (seal_gcm key iv a p)
unfolding seal_gcm
seal_octets key iv a p o =
    let ks : List ℕ = round_keys key in
    let c : List ℕ = enciphered ks iv p in
    octets-++ c (tag ks iv a c) (enciphered_octets ks iv p o) (tag_octets ks iv a c)

-- ---- opening

pub enciphered_back : (ks iv xs : List ℕ) → enciphered ks iv (enciphered ks iv xs) ≡ xs
unfolding enciphered
enciphered_back ks iv xs = undoes_itself ks (inc32 (J0 iv)) xs

opened_right : (ks iv a c : List ℕ) → opened ks iv a c (tag ks iv a c) ≡ Some (enciphered ks iv c)
opened_right ks iv a c = ap (λ b. cond b (Some (enciphered ks iv c)) None) (same_self (tag ks iv a c))

opened_from : (ks iv a c t p : List ℕ) → opened ks iv a c t ≡ Some p → (t ≡ tag ks iv a c) × (p ≡ enciphered ks iv c)
opened_from ks iv a c t p e = elim (cases_Bool (same (tag ks iv a c) t)) [
  | inl y ↦ (let f : Some (enciphered ks iv c) ≡ Some p = rw y at e in (sym (same_true (tag ks iv a c) t y), cc))
  | inr n ↦ (let f : None ≡ Some p = rw n at e in let z : ◌≡◌ {A = ℕ} 0 1 = cc in absurd (omega arith))
]

pub opens_exactly : OpensExactly
opens_exactly ks iv a c t p =
    (opened_from ks iv a c t p, λ h. ap (opened ks iv a c) h.0 ∙ opened_right ks iv a c ∙ ap Some (sym h.1))

pub decrypts_encrypted : DecryptsEncrypted
decrypts_encrypted ks iv a p = opened_right ks iv a (enciphered ks iv p) ∙ ap Some (enciphered_back ks iv p)

pub opens_sealed : OpensSealed
unfolding open_gcm seal_gcm
opens_sealed key iv a p =
    let ks : List ℕ = round_keys key in
    let c : List ℕ = enciphered ks iv p in
    let t : List ℕ = tag ks iv a c in
    let lt = length-tag ks iv a c in
    let n : length c ≡ length (c ++ t) - 16 = let l = length-append c t in omega arith in
    ap₂ (opened ks iv a) (take_at c t (length (c ++ t) - 16) n) (drop_at c t (length (c ++ t) - 16) n)
    ∙ decrypts_encrypted ks iv a p

pub only_sealed_opens : OnlySealedOpens
unfolding open_gcm seal_gcm
only_sealed_opens key iv a s p e =
    let ks : List ℕ = round_keys key in
    let c : List ℕ = take (length s - 16) s in
    let f = opened_from ks iv a c (drop (length s - 16) s) p e in
    let b : c ≡ enciphered ks iv p = sym (enciphered_back ks iv c) ∙ ap (enciphered ks iv) (sym f.1) in
    sym (take-append-drop (length s - 16) s) ∙ ap (λ t. c ++ t) f.0 ∙ ap (λ q. q ++ tag ks iv a q) b

pub open_octets : (key iv a s p : List ℕ) → Octets s → open_gcm key iv a s ≡ Some p → Octets p
unfolding open_gcm
open_octets key iv a s p o e =
    let ks : List ℕ = round_keys key in
    let c : List ℕ = take (length s - 16) s in
    let f = opened_from ks iv a c (drop (length s - 16) s) p e in
    subst Octets (sym f.1) (enciphered_octets ks iv c (octets_take (length s - 16) s o))

pub octets_stay : OctetsStay
octets_stay = (enciphered_octets, tag_octets, seal_octets, open_octets)
