-- The check of a decrypted text: padding, then MAC.
use Rattle.std.specs.Prelude.{◌≡◌, ℕ, ◌+◌, ◌-◌, ◌<◌, ◌≤◌, Bool, true, false, ◌&&◌, List, ◌++◌, length, take, drop, replicate, Some, None, Option, slice_index}
use Rattle.std.proofs.Math.Path.{refl, sym, ap, ap₂}
use Rattle.std.proofs.Common.{◌∙◌}
use Rattle.std.proofs.Math.Logic.{inl, inr}
use native.Mathlib.Omega.{arith}
use Rattle.std.specs.Option.{option_map}
use Rattle.std.proofs.lemmas.List.{length-append, length-take-le, take_at, drop_at, take_rest, append_assoc, get_or-append-add, get_or-replicate}
use Rattle.std.proofs.lemmas.Bool.{cond-true, cond-false, le-leb, lt-leb, and_from, and_parts, cases_Bool}
use Rattle.octets.specs.Octets.{same}
use Rattle.octets.specs.declared.role.Role.{Role}
use Rattle.octets.proofs.Alike.{same_self}
use Rattle.cbc_protection.specs.Layout.{mac}
use Rattle.cbc_protection.specs.Padding.{pad, least_pad, padded, told_pad, well_padded, content_size, content_of, mac_of}
use Rattle.cbc_protection.specs.Records.{authentic, checked}
use Rattle.cbc_protection.specs.Pads.{length_pad, length_mac, pad_cut}

module _ (s : Role) (m : List ℕ) (n t : ℕ) (x : List ℕ) where
  -- no room for padding and MAC
  pub check_short : length x < told_pad x + 33 → None ≡ option_map length (checked s m n t x)
  unfolding checked
  check_short h =
      sym (ap (option_map length) (cond-false _ _ _ (ap (λ b. (b && same (drop (length x - (told_pad x + 1)) x) (pad (told_pad x))) && authentic s m n t x) (lt-leb (told_pad x + 33) (length x) h))))

  -- an octet of the padding differs
  pub check_padding : told_pad x + 33 ≤ length x → same (drop (length x - (told_pad x + 1)) x) (pad (told_pad x)) ≡ false
      → None ≡ option_map length (checked s m n t x)
  unfolding checked
  check_padding h e =
      sym (ap (option_map length) (cond-false _ _ _ (ap₂ (λ a b. (a && b) && authentic s m n t x) (le-leb (told_pad x + 33) (length x) h) e)))

  -- the MAC differs
  pub check_mac : well_padded x ≡ true → same (mac_of x) (mac s m n t (content_of x)) ≡ false → None ≡ option_map length (checked s m n t x)
  unfolding checked
  check_mac w e = sym (ap (option_map length) (cond-false _ _ _ (ap₂ (λ a b. a && b) w e)))

  -- all is right
  pub check_right : well_padded x ≡ true → same (mac_of x) (mac s m n t (content_of x)) ≡ true → Some (content_size x) ≡ option_map length (checked s m n t x)
  unfolding checked
  check_right w e =
      let h : content_size x ≤ length x = omega arith in
      ap Some (sym (length-take-le (content_size x) x h)) ∙ sym (ap (option_map length) (cond-true _ _ _ (ap₂ (λ a b. a && b) w e)))

  pub well_from : told_pad x + 33 ≤ length x → same (drop (length x - (told_pad x + 1)) x) (pad (told_pad x)) ≡ true → well_padded x ≡ true
  well_from h e = and_from _ _ (le-leb (told_pad x + 33) (length x) h) e

  -- what a check that gave a content saw
  pub checked_says : (c : List ℕ) → checked s m n t x ≡ Some c → (well_padded x ≡ true) × (authentic s m n t x ≡ true) × (c ≡ content_of x)
  unfolding checked
  checked_says c e = elim (cases_Bool (well_padded x && authentic s m n t x)) [
    | inl y ↦ (let p = and_parts _ _ y in let q : Some (content_of x) ≡ Some c = sym (cond-true _ _ _ y) ∙ e in (p.0, p.1, cc))
    | inr f ↦ absurd (let q : None ≡ Some c = sym (cond-false _ _ _ f) ∙ e in let z : ◌≡◌ {A = ℕ} 0 1 = cc in omega arith)
  ]

  -- a size that the check gave is that of a content
  pub checked_some : (o : Option (List ℕ)) (size : ℕ) → o ≡ checked s m n t x → Some size ≡ option_map length o → (c : List ℕ) × (checked s m n t x ≡ Some c) × (size ≡ length c)
  checked_some None size e q = absurd (let z : ◌≡◌ {A = ℕ} 0 1 = cc in omega arith)
  checked_some (Some c) size e q = (c, sym e, cc)

  pub checked_none : (o : Option (List ℕ)) → o ≡ checked s m n t x → None ≡ option_map length o → checked s m n t x ≡ None
  checked_none None e q = sym e
  checked_none (Some c) e q = absurd (let z : ◌≡◌ {A = ℕ} 0 1 = cc in omega arith)

-- a content and its MAC, padded, are read again
module _ (s : Role) (m : List ℕ) (n t : ℕ) (c : List ℕ) where
  g : List ℕ
  g = mac s m n t c

  p : ℕ
  p = least_pad (length (c ++ mac s m n t c))

  T : List ℕ
  T = padded (c ++ mac s m n t c)

  t_is : T ≡ (c ++ g) ++ pad p
  unfolding T g p padded
  t_is = refl

  len_cg : length (c ++ g) ≡ length c + 32
  unfolding g
  len_cg = length-append c _ ∙ ap (λ k. length c + k) (length_mac s m n t c)

  len_t : length T ≡ length c + 32 + (p + 1)
  len_t = ap length t_is ∙ length-append (c ++ g) (pad p) ∙ ap₂ (λ a b. a + b) len_cg (length_pad p)

  told : told_pad T ≡ p
  told =
      let k : length T - 1 ≡ length (c ++ g) + p = let a = len_t in let b = len_cg in omega arith in
      let h : p < p + 1 = omega arith in
      ap₂ (λ l i. slice_index l i) t_is k ∙ get_or-append-add (c ++ g) (pad p) p 0 ∙ get_or-replicate (p + 1) p p 0 h

  behind : drop (length T - (told_pad T + 1)) T ≡ pad (told_pad T)
  behind =
      let k : length T - (told_pad T + 1) ≡ length (c ++ g) = let a = len_t in let b = len_cg in let d = told in omega arith in
      ap₂ (λ i l. drop i l) k t_is ∙ drop_at (c ++ g) (pad p) (length (c ++ g)) refl ∙ ap pad (sym told)

  padding_right : well_padded T ≡ true
  padding_right =
      let h : told_pad T + 33 ≤ length T = let a = len_t in let d = told in omega arith in
      well_from s m n t T h (ap (λ l. same l (pad (told_pad T))) behind ∙ same_self (pad (told_pad T)))

  size : content_size T ≡ length c
  size = let a = len_t in let d = told in omega arith

  t_content : T ≡ c ++ (g ++ pad p)
  t_content = t_is ∙ append_assoc c g (pad p)

  content : content_of T ≡ c
  content = ap₂ (λ i l. take i l) size t_content ∙ take_at c (g ++ pad p) (length c) refl

  mac_right : mac_of T ≡ g
  unfolding g
  mac_right = ap₂ (λ i l. take 32 (drop i l)) size t_content ∙ ap (take 32) (drop_at c _ (length c) refl) ∙ take_at (mac s m n t c) (pad p) 32 (length_mac s m n t c)

  pub checks_out : checked s m n t (padded (c ++ mac s m n t c)) ≡ Some c
  unfolding T checked g
  checks_out =
      let a : authentic s m n t T ≡ true = ap₂ same mac_right (ap (mac s m n t) content) ∙ same_self (mac s m n t c) in
      cond-true _ _ _ (ap₂ (λ u v. u && v) padding_right a) ∙ ap Some content

-- the two comparisons, as the code cuts what it compares
pub same_pad : (x ys : List ℕ) {b : Bool} → told_pad x < 256 → ys ≡ replicate {A = ℕ} 256 (told_pad x)
    → b ≡ same (take (length x - (length x - (told_pad x + 1))) (drop (length x - (told_pad x + 1)) x)) (take (told_pad x + 1 - 0) ys)
    → b ≡ same (drop (length x - (told_pad x + 1)) x) (pad (told_pad x))
same_pad x ys h e eb = eb ∙ ap₂ same (take_rest x (length x - (told_pad x + 1))) (pad_cut (told_pad x) ys h e)

pub same_mac : (s : Role) (m : List ℕ) (n t : ℕ) (x : List ℕ) {r : Role} {g : List ℕ} {b : Bool} → r ≡ s → g ≡ mac r m n t (take (content_size x - 0) x)
    → b ≡ same (take (content_size x + 32 - content_size x) (drop (content_size x) x)) g
    → b ≡ same (mac_of x) (mac s m n t (content_of x))
same_mac s m n t x {r} {g} {b} er eg eb =
    let a : content_size x - 0 ≡ content_size x = omega arith in
    let d : content_size x + 32 - content_size x ≡ 32 = omega arith in
    eb ∙ ap₂ same (ap (λ i. take i (drop (content_size x) x)) d) (eg ∙ ap₂ (λ u v. mac u m n t (take v x)) er a)
