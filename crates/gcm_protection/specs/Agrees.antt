-- What is sealed opens, and what opens was sealed.
use Rattle.std.specs.Prelude.{◌≡◌, ℕ, ◌+◌, ◌-◌, ◌≤◌, List, ◌++◌, length, take, drop, Some, None, Ok, Err, Option, nat_le, refl}
use Rattle.std.proofs.Common.{sym, ap, ap₂, ◌∙◌, arith}
use Rattle.std.proofs.Math.Logic.{inl, inr}
use Rattle.std.specs.Option.{ok_or}
use Rattle.std.proofs.lemmas.List.{length-drop, take-append-drop}
use Rattle.std.proofs.lemmas.Bool.{cond-true, le-leb, leb-true, cases_Bool}
use Rattle.octets.specs.declared.role.Role.{Role}
use Rattle.octets.specs.declared.role.Role.TheVariants.{Client, Server}
use Rattle.octets.specs.Numbers.{eight}
use Rattle.octets.specs.Roles.{peer}
use Rattle.sm4.specs.Cipher.{round_keys}
use Rattle.gcm.specs.Gcm.{tag, seal_gcm, open_gcm}
use Rattle.gcm.proofs.Opening.{length_seal, opens_exactly, opens_sealed, only_sealed_opens}
use Rattle.protection.specs.declared.error.OpenError.TheVariants.{Refused}
use Rattle.protection.specs.Keys.{Keying, across}
use Rattle.gcm_protection.specs.Layout.{key_of, nonce_of, additional}
use Rattle.gcm_protection.specs.Records.{gcm_sealing, gcm_opening}
use Rattle.gcm_protection.specs.Laws.{ChecksTag, OpensSealedAlone}
use Rattle.gcm_protection.specs.Sealed.{sealed_length}
use Rattle.gcm_protection.specs.Opened.{opening_by}

peer_peer : (r : Role) → peer (peer r) ≡ r
peer_peer Client = refl
peer_peer Server = refl

-- what one side seals, the other opens to the same content
pub opens : (k : Keying) (n t : ℕ) (c f : List ℕ) → gcm_opening (across k) n t (gcm_sealing k n t c f) ≡ Ok c
opens k n t c f =
    let m = k.material in
    let l : List ℕ = gcm_sealing k n t c f in
    let s : List ℕ = seal_gcm (key_of k.role m) (nonce_of k.role m (eight n)) (additional n t (length c)) c in
    let d : length l ≡ length c + 24 = sealed_length k n t c f in
    let h : 24 ≤ length l = omega arith in
    let e : length l - 24 ≡ length c = omega arith in
    cond-true _ _ _ (le-leb 24 (length l) h)
    ∙ ap₂ (λ r i. ok_or (open_gcm (key_of r m) (nonce_of r m (eight n)) (additional n t i) s) Refused) (peer_peer k.role) e
    ∙ ap (λ o. ok_or o Refused) (opens_sealed (key_of k.role m) (nonce_of k.role m (eight n)) (additional n t (length c)) c)

ok_of : (o : Option (List ℕ)) (c : List ℕ) → ok_or o Refused ≡ Ok c → o ≡ Some c
ok_of None c e = absurd (let z : ◌≡◌ {A = ℕ} 0 1 = cc in omega arith)
ok_of (Some x) c e = cc

-- what the mode opened, where the protection did
module _ (k : Keying) (n t : ℕ) (l c : List ℕ) (e : gcm_opening k n t l ≡ Ok c) where
  key : List ℕ
  key = key_of (peer k.role) k.material

  iv : List ℕ
  iv = nonce_of (peer k.role) k.material (take 8 l)

  by_mode : (24 ≤ length l) × (open_gcm key iv (additional n t (length l - 24)) (drop 8 l) ≡ Some c)
  unfolding key iv
  by_mode = elim (cases_Bool (nat_le 24 (length l))) [
    | inl y ↦ (leb-true _ _ y, ok_of _ c (rw y at e))
    | inr x ↦ absurd (let f : Err Refused ≡ Ok c = rw x at e in let z : ◌≡◌ {A = ℕ} 0 1 = cc in omega arith)
  ]

  sealed : drop 8 l ≡ seal_gcm key iv (additional n t (length l - 24)) c
  sealed = only_sealed_opens key iv (additional n t (length l - 24)) (drop 8 l) c by_mode.1

  pub size : length l - 24 ≡ length c
  size =
      let b : 24 ≤ length l = by_mode.0 in
      let d : length (drop 8 l) ≡ length l - 8 = length-drop 8 l in
      let s : length (drop 8 l) ≡ length c + 16 = ap length sealed ∙ length_seal key iv (additional n t (length l - 24)) c in
      omega arith

pub opens_sealed_alone : OpensSealedAlone
unfolding key iv
opens_sealed_alone k n t l c e =
    sym (take-append-drop 8 l)
    ∙ ap (λ x. take 8 l ++ x) (sealed k n t l c e ∙ ap (λ i. seal_gcm (key k n t l c e) (iv k n t l c e) (additional n t i) c) (size k n t l c e))

pub checks_tag : ChecksTag
unfolding key iv
checks_tag k n t l c e =
    let b = by_mode k n t l c e in
    let K : List ℕ = round_keys (key k n t l c e) in
    let N : List ℕ = iv k n t l c e in
    let a : List ℕ = additional n t (length l - 24) in
    let o = sym (opening_by (key k n t l c e) N a l b.0) ∙ b.1 in
    ((opens_exactly K N a (take (length l - 24) (drop 8 l)) (drop (length l - 16) l) c).0 o).0
    ∙ ap (λ i. tag K N (additional n t i) (take (length l - 24) (drop 8 l))) (size k n t l c e)
