-- Opening, in the steps of the code.
use Rattle.std.specs.Prelude.{◌≡◌, ℕ, ◌+◌, ◌-◌, ◌≤◌, Bool, true, false, List, length, take, drop, replicate, is_some, Some, None, Ok, Err, Option, refl}
use Rattle.std.proofs.Common.{sym, ◌∙◌}
use Rattle.std.proofs.Math.Path.{ap, ap₂}
use native.Mathlib.Omega.{arith}
use borrow.Rule.Slice.PartMut.{put_mid}
use Rattle.std.specs.Option.{unwrap_or, ok_or}
use Rattle.std.proofs.lemmas.List.{length-drop, length-take-le, drop-drop, length-replicate, take_rest}
use Rattle.std.proofs.lemmas.Bool.{cond-true, le-leb}
use Rattle.octets.specs.Laid.{laid}
use Rattle.octets.specs.Roles.{peer}
use Rattle.sm4.specs.Cipher.{round_keys}
use Rattle.gcm.specs.Gcm.{opened, open_gcm}
use Rattle.gcm.proofs.Opening.{length-enciphered, opens_exactly}
use Rattle.protection.specs.declared.error.OpenError.TheVariants.{Refused}
use Rattle.protection.specs.Keys.{Keying}
use Rattle.protection.specs.Calls.{opened_length, placed}
use Rattle.protection.proofs.Places.{laid-placed}
use Rattle.gcm_protection.specs.Layout.{key_of, nonce_of, additional}
use Rattle.gcm_protection.specs.Records.{gcm_opening}
use Rattle.gcm_protection.specs.Parts.{part_laid, over_laid}

-- ciphertext and tag of what stands behind the first 8 octets
parts : (l : List ℕ) → 24 ≤ length l → (take (length (drop 8 l) - 16) (drop 8 l) ≡ take (length l - 24) (drop 8 l)) × (drop (length (drop 8 l) - 16) (drop 8 l) ≡ drop (length l - 16) l)
parts l h =
    let d : length (drop 8 l) ≡ length l - 8 = length-drop 8 l in
    let e : length (drop 8 l) - 16 ≡ length l - 24 = omega arith in
    let f : 8 + (length l - 24) ≡ length l - 16 = omega arith in
    (ap (λ n. take n (drop 8 l)) e, ap (λ n. drop n (drop 8 l)) e ∙ drop-drop (length l - 24) 8 l ∙ ap (λ n. drop n l) f)

-- the parts as the code cuts them
pub tag_part : (l g : List ℕ) → 24 ≤ length l → g ≡ take (length l - (8 + (length l - 24))) (drop (8 + (length l - 24)) l) → g ≡ drop (length l - 16) l
tag_part l g h e =
    let f : 8 + (length l - 24) ≡ length l - 16 = omega arith in
    e ∙ take_rest l (8 + (length l - 24)) ∙ ap (λ n. drop n l) f

pub cipher_part : (l z w p : List ℕ) → z ≡ w → p ≡ laid z 0 (take (8 + (length l - 24) - 8) (drop 8 l)) → p ≡ laid w 0 (take (length l - 24) (drop 8 l))
cipher_part l z w p ez ep =
    let f : 8 + (length l - 24) - 8 ≡ length l - 24 = omega arith in
    ep ∙ ap₂ (λ x n. laid x 0 (take n (drop 8 l))) ez f

-- opening by the mode, where there are octets enough
pub opening_by : (key iv a l : List ℕ) → 24 ≤ length l → open_gcm key iv a (drop 8 l) ≡ opened (round_keys key) iv a (take (length l - 24) (drop 8 l)) (drop (length l - 16) l)
unfolding open_gcm
opening_by key iv a l h = let p = parts l h in ap₂ (opened (round_keys key) iv a) p.0 p.1

-- an option that is some
some_of : (o : Option (List ℕ)) → is_some o ≡ true → (x : List ℕ) × (o ≡ Some x)
some_of None e = absurd (let z : ◌≡◌ {A = ℕ} 0 1 = cc in omega arith)
some_of (Some x) e = (x, refl)

none_of : (o : Option (List ℕ)) → is_some o ≡ false → o ≡ None
none_of None e = refl
none_of (Some x) e = absurd (let z : ◌≡◌ {A = ℕ} 0 1 = cc in omega arith)

-- a ciphertext laid first over zeros, and decrypted there
module _ (k : Keying) (n t : ℕ) (l place : List ℕ) {ks iv a g p w : List ℕ} {r : Bool}
    (least : 24 ≤ length l)
    (most : length l ≤ length place)
    (keys : ks ≡ round_keys (key_of (peer k.role) k.material))
    (ivs : iv ≡ nonce_of (peer k.role) k.material (take 8 l))
    (aad : a ≡ additional n t (length l - 24))
    (tags : g ≡ drop (length l - 16) l)
    (first : p ≡ laid (replicate (length place) 0) 0 (take (length l - 24) (drop 8 l)))
    (right : r ≡ is_some (opened ks iv a (take (length l - 24 - 0) p) g))
    (plain : w ≡ unwrap_or (opened ks iv a (take (length l - 24 - 0) p) g) (take (length l - 24 - 0) p)) where
  c : List ℕ
  c = take (length l - 24) (drop 8 l)

  length_c : length c ≡ length l - 24
  unfolding c
  length_c =
      let d : length (drop 8 l) ≡ length l - 8 = length-drop 8 l in
      let h : length l - 24 ≤ length (drop 8 l) = omega arith in
      length-take-le (length l - 24) (drop 8 l) h

  zeros : List ℕ
  zeros = replicate (length place) 0

  length_zeros : length zeros ≡ length place
  unfolding zeros
  length_zeros = length-replicate (length place) 0

  within : length l - 24 ≤ length zeros
  within = let z = length_zeros in omega arith

  laid_c : p ≡ laid zeros 0 c
  unfolding c zeros
  laid_c = first

  read : take (length l - 24 - 0) p ≡ c
  read =
      let e : length l - 24 ≡ 0 + length c = let x = length_c in omega arith in
      ap (take (length l - 24 - 0)) laid_c ∙ part_laid zeros c 0 (length l - 24) e within

  told : gcm_opening k n t l ≡ ok_or (opened ks iv a (take (length l - 24 - 0) p) g) Refused
  unfolding c
  told =
      cond-true _ _ _ (le-leb 24 (length l) least)
      ∙ ap (λ o. ok_or o Refused) (
      opening_by (key_of (peer k.role) k.material) (nonce_of (peer k.role) k.material (take 8 l)) (additional n t (length l - 24)) l least
      ∙ ap₂ (λ x y. opened x y (additional n t (length l - 24)) c (drop (length l - 16) l)) (sym keys) (sym ivs)
      ∙ ap₂ (λ x y. opened ks iv x y (drop (length l - 16) l)) (sym aad) (sym read)
      ∙ ap (opened ks iv a (take (length l - 24 - 0) p)) (sym tags))

  pub opens_not : (q : List ℕ) → r ≡ false → q ≡ replicate (length place) 0 → (Err Refused ≡ opened_length (gcm_opening k n t l)) × (q ≡ placed (gcm_opening k n t l) place)
  opens_not q e z =
      let o : gcm_opening k n t l ≡ Err Refused = told ∙ ap (λ x. ok_or x Refused) (none_of _ (sym right ∙ e)) in
      (ap opened_length (sym o), z ∙ ap (λ x. placed x place) (sym o))

  pub opens_to : r ≡ true → (Ok (length l - 24) ≡ opened_length (gcm_opening k n t l)) × (put_mid 0 (length l - 24 - 0) p w ≡ placed (gcm_opening k n t l) place)
  unfolding zeros
  opens_to e =
      let s = some_of (opened ks iv a (take (length l - 24 - 0) p) g) (sym right ∙ e) in
      let x : w ≡ s.0 = plain ∙ ap (λ o. unwrap_or o (take (length l - 24 - 0) p)) s.1 in
      let o : gcm_opening k n t l ≡ Ok w = told ∙ ap (λ u. ok_or u Refused) s.1 ∙ ap Ok (sym x) in
      let y = (opens_exactly ks iv a (take (length l - 24 - 0) p) g s.0).0 s.1 in
      let d : length w ≡ length c = ap length (x ∙ y.1) ∙ length-enciphered ks iv _ ∙ ap length read in
      let f : length w ≡ length l - 24 = d ∙ length_c in
      let h : length w ≤ length place = omega arith in
      let j : length l - 24 ≡ 0 + length c = let v = length_c in omega arith in (
        ap Ok (sym f) ∙ ap opened_length (sym o),
        ap (λ v. put_mid 0 (length l - 24 - 0) v w) laid_c ∙ over_laid zeros c w 0 (length l - 24) j within d ∙ laid-placed place w h
            ∙ ap (λ v. placed v place) (sym o),
      )
