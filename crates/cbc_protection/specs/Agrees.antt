-- What is sealed opens, and what opens was checked.
use Rattle.std.specs.Prelude.{◌≡◌, ℕ, ◌+◌, ◌-◌, ◌%◌, ◌<◌, ◌≤◌, true, List, ◌++◌, length, take, drop, Some, None, Ok, Err, Option, slice_index, refl}
use Rattle.std.proofs.Common.{sym, ap, ap₂, ◌∙◌, inl, inr, arith}
use Rattle.std.specs.Option.{ok_or}
use Rattle.std.proofs.lemmas.List.{length-append, length-drop, length-take-le, take_at, drop_at, get_or-drop, get_or-replicate}
use Rattle.std.proofs.lemmas.Bool.{cond-true, leb-true, and_parts, cases_Bool}
use Rattle.octets.specs.Octets.{Octets}
use Rattle.octets.specs.declared.role.Role.{Role}
use Rattle.octets.specs.declared.role.Role.TheVariants.{Client, Server}
use Rattle.octets.specs.Roles.{peer}
use Rattle.octets.proofs.Alike.{same_true}
use Rattle.octets.proofs.Members.{octets-++, octets_replicate}
use Rattle.protection.specs.declared.error.OpenError.TheVariants.{Refused}
use Rattle.protection.specs.Keys.{Keying, across}
use Rattle.sm4.specs.Cipher.{round_keys}
use Rattle.hmac_sm3.proofs.Tags.{hmac_octets}
use Rattle.cbc.specs.Cbc.{cbc_encrypt, cbc_decrypt}
use Rattle.cbc.proofs.Keeps.{length-cbc_encrypt, length-cbc_decrypt}
use Rattle.cbc.proofs.Undo.{cbc_decryption_undoes}
use Rattle.cbc_protection.specs.Layout.{key_of, mac}
use Rattle.cbc_protection.specs.Padding.{pad, least_pad, padded, told_pad, well_padded, content_size, content_of}
use Rattle.cbc_protection.specs.Records.{text_of, authentic, checked, whole, decrypted, cbc_sealing, cbc_opening}
use Rattle.cbc_protection.specs.Laws.{text, ChecksPadding, ChecksMac}
use Rattle.cbc_protection.specs.Sealed.{length_text}
use Rattle.cbc_protection.specs.Checked.{checks_out, checked_says}
use Rattle.cbc_protection.specs.Opened.{is_whole}

peer_peer : (r : Role) → peer (peer r) ≡ r
peer_peer Client = refl
peer_peer Server = refl

text_octets : (s : Role) (m : List ℕ) (n t : ℕ) (c : List ℕ) → Octets c → Octets (text_of s m n t c)
unfolding padded
text_octets s m n t c o =
    let x = c ++ mac s m n t c in
    let h : least_pad (length x) < 256 = omega arith in
    octets-++ x (pad (least_pad (length x))) (octets-++ c _ o (hmac_octets _ _)) (octets_replicate (least_pad (length x) + 1) (least_pad (length x)) h)

-- what one side seals, the other opens to the same content
pub opens : (k : Keying) (n t : ℕ) (c f : List ℕ) → 1 ≤ length c → length f ≡ 16 → Octets c → Octets f → cbc_opening (across k) n t (cbc_sealing k n t c f) ≡ Ok c
opens k n t c f lo lf oc of =
    let r = k.role in
    let m = k.material in
    let K = round_keys (key_of r m) in
    let T = text_of r m n t c in
    let E = cbc_encrypt K f T in
    let l = cbc_sealing k n t c f in
    let lT = length_text r m n t c in
    let ll : length (f ++ E) ≡ 16 + length T = length-append f E ∙ ap₂ (λ a b. a + b) lf (length-cbc_encrypt K f T) in
    let h : 64 ≤ length (f ++ E) = omega arith in
    let e : length (f ++ E) % 16 ≡ 0 = omega arith in
    let d : decrypted r m (f ++ E) ≡ T =
    ap₂ (λ a b. cbc_decrypt K a b) (take_at f E 16 lf) (drop_at f E 16 lf) ∙ cbc_decryption_undoes K f T of (text_octets r m n t c oc) in
    cond-true _ _ _ (is_whole (f ++ E) h e)
    ∙ ap (λ s. ok_or (checked s m n t (decrypted s m (f ++ E))) Refused) (peer_peer r)
    ∙ ap (λ x. ok_or (checked r m n t x) Refused) d ∙ ap (λ o. ok_or o Refused) (checks_out r m n t c)

ok_of : (o : Option (List ℕ)) (c : List ℕ) → ok_or o Refused ≡ Ok c → o ≡ Some c
ok_of None c e = absurd (let z : ◌≡◌ {A = ℕ} 0 1 = cc in omega arith)
ok_of (Some x) c e = cc

-- what the check said, where the protection opened
module _ (k : Keying) (n t : ℕ) (l c : List ℕ) (e : cbc_opening k n t l ≡ Ok c) where
  by_check : checked (peer k.role) k.material n t (text k l) ≡ Some c
  by_check = elim (cases_Bool (whole l)) [
    | inl y ↦ ok_of _ c (rw y at e)
    | inr x ↦ absurd (let f : Err Refused ≡ Ok c = rw x at e in let z : ◌≡◌ {A = ℕ} 0 1 = cc in omega arith)
  ]

  says : (well_padded (text k l) ≡ true) × (authentic (peer k.role) k.material n t (text k l) ≡ true) × (c ≡ content_of (text k l))
  says = checked_says (peer k.role) k.material n t (text k l) c by_check

  pub size_of : length c ≤ length l
  size_of =
      let h : content_size (text k l) ≤ length (text k l) = omega arith in
      let a : length c ≡ content_size (text k l) = ap length says.2 ∙ length-take-le (content_size (text k l)) (text k l) h in
      let b : length (text k l) ≡ length (drop 16 l) = length-cbc_decrypt (round_keys (key_of (peer k.role) k.material)) (take 16 l) (drop 16 l) in
      let d = length-drop 16 l in
      omega arith

pub checks_mac : ChecksMac
checks_mac k n t l c e =
    let y = says k n t l c e in
    same_true _ _ y.1 ∙ ap (mac (peer k.role) k.material n t) (sym y.2)

pub checks_padding : ChecksPadding
checks_padding k n t l c e i h =
    let y = says k n t l c e in
    let x = text k l in
    let p = told_pad (text k l) in
    let w = and_parts _ _ y.0 in
    let le : told_pad (text k l) + 33 ≤ length (text k l) = leb-true _ _ w.0 in
    let q : drop (length (text k l) - (told_pad (text k l) + 1)) (text k l) ≡ pad (told_pad (text k l)) = same_true _ _ w.1 in
    let j : ℕ = told_pad (text k l) - i in
    let ij : length (text k l) - (told_pad (text k l) + 1) + (told_pad (text k l) - i) ≡ length (text k l) - 1 - i = omega arith in
    let lt : told_pad (text k l) - i < told_pad (text k l) + 1 = omega arith in
    ap (λ v. slice_index (text k l) v) (sym ij) ∙ sym (get_or-drop (length (text k l) - (told_pad (text k l) + 1)) (text k l) (told_pad (text k l) - i) 0)
    ∙ ap (λ v. slice_index v (told_pad (text k l) - i)) q ∙ get_or-replicate (told_pad (text k l) + 1) (told_pad (text k l) - i) (told_pad (text k l)) 0 lt
