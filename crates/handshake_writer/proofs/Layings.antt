-- Lists laid one after the other as far as there is room, and a message laid as header and body.
use Rattle.std.proofs.Common.{◌≡◌, ℕ, ◌+◌, ◌-◌, ◌%◌, ◌≤◌, min, Bool, true, false, cond, leb, List, [], ◌∷◌, ◌++◌, length, get_or, is_some, Some, None, Option, sym, refl, ap, ◌∙◌, ap₂, inl, inr, arith, rules}
use Rattle.std.proofs.lemmas.List.{same_lists, places, length-append}
use Rattle.std.proofs.lemmas.Bool.{cases_Bool, cases_lt, leb-true, le-leb, and_parts, and_from, cond-true, cond-false}
use Rattle.octets.specs.Numbers.{three}
use Rattle.octets.specs.Laid.{laid}
use Rattle.octets.proofs.Lays.{laid-laid, length-laid, none_laid}
use Rattle.handshake.specs.declared.types.HandshakeType.{HandshakeType}
use Rattle.handshake.specs.Types.{type_number}
use Rattle.handshake.specs.Kinds.{Parts, body_of, is_sound, writable, body_size, with_body, message_end, with_message, has_room}

-- where there is no room, nothing changes
pub laid_past : (o l : List ℕ) (at : ℕ) → length o ≤ at → laid o at l ≡ o
unfolding laid
laid_past o l at h = same_lists _ _ (search (rules, places)) (λ k d l. grind (arith, places))

-- what finds no room makes no difference
laid_cut : (o a b : List ℕ) (at : ℕ) → length o ≤ at + length a → laid o at (a ++ b) ≡ laid o at a
unfolding laid
laid_cut o a b at h = same_lists _ _ (search (rules, places)) (λ k d l. grind (arith, places))

-- one list after the other, the second where the first came to an end, be there room or not
pub laid_next : (o a b : List ℕ) (at to : ℕ) → to ≡ at + min (length a) (length o - at) → laid (laid o at a) to b ≡ laid o at (a ++ b)
laid_next o a b at to e = elim (cases_lt (length o) (at + length a)) [
  | inl s ↦ (let h : length (laid o at a) ≤ to = rw length-laid (omega arith) in
      laid_past (laid o at a) b to h ∙ sym (laid_cut o a b at (omega arith)))
  | inr s ↦ laid-laid o a b at to (omega arith)
]

-- ---- a message: the header of type and length, then the body
sized_is : (p : Parts) (n : ℕ) → Some n ≡ body_size p → (writable p ≡ true) × ((n ≡ length (body_of p)) × (n ≤ 16777215))
sized_is p n e = elim (cases_Bool (writable p)) [
  | inr f ↦ (let q : Some n ≡ None = rw f at e in let z : ◌≡◌ {A = ℕ} 0 1 = cc in absurd (omega arith))
  | inl t ↦ (let q : Some n ≡ Some (length (body_of p)) = rw t at e in
      let i : n ≡ length (body_of p) = cc in
      let h : length (body_of p) ≤ 16777215 = leb-true (length (body_of p)) 16777215 (and_parts (is_sound p) (leb (length (body_of p)) 16777215) t).1 in
      (t, (i, omega arith)))
]

module _ (k : HandshakeType) (p : Parts) (out : List ℕ) (at n : ℕ) (e : Some n ≡ body_size p) (room : 4 + n ≤ length out - at) where
  roomy : has_room p out at ≡ true
  roomy =
      let s = sized_is p n e in
      and_from _ _ s.0 (le-leb _ _ (omega arith))

  pub end_is : (to : ℕ) → to ≡ at + min 4 (length out - at) → Some (to + n) ≡ message_end p out at
  end_is to i =
      let s = sized_is p n e in
      let j : to + n ≡ at + (4 + length (body_of p)) = omega arith in
      ap Some j ∙ sym (cond-true _ _ _ roomy)

  pub buffer_is : (to t : ℕ) (header one two : List ℕ) → to ≡ at + min 4 (length out - at) → t ≡ type_number k → header ≡ three (n % 16777216)
      → one ≡ laid out at (t ∷ get_or header 0 0 ∷ get_or header 1 0 ∷ get_or header 2 0 ∷ []) → two ≡ with_body p one to
      → two ≡ with_message k p out at
  buffer_is to t header one two i ti hi oi bi =
      let s = sized_is p n e in
      let m : n % 16777216 ≡ length (body_of p) = omega arith in
      let h : header ≡ three (length (body_of p)) = hi ∙ ap three m in
      bi ∙ cond-true _ _ _ s.0
      ∙ ap (λ o. laid o to (body_of p)) (oi ∙ ap₂ (λ u v. laid out at (u ∷ get_or v 0 0 ∷ get_or v 1 0 ∷ get_or v 2 0 ∷ [])) ti h)
      ∙ laid_next out (type_number k ∷ three (length (body_of p))) (body_of p) at to i
      ∙ sym (cond-true _ _ _ roomy)

-- ---- lists laid one after the other, from a place to an end
pub record Reached (o : List ℕ) (at : ℕ) (l o' : List ℕ) (to : ℕ) : Type 0 where
  pub end : to ≡ at + min (length l) (length o - at)
  pub after : o' ≡ laid o at l

-- one list, as it was laid
pub laying : {o l l' o' : List ℕ} {at to : ℕ} → l ≡ l' → to ≡ at + min (length l) (length o - at) → o' ≡ laid o at l → Reached o at l' o' to
laying {o} {l} {l'} {o'} {at} {to} e i j =
    record { end = i ∙ ap (λ x. at + min (length x) (length o - at)) e; after = j ∙ ap (laid o at) e }

-- nothing yet
pub start : (o : List ℕ) (at : ℕ) → Reached o at [] o at
start o at = record { end = omega arith; after = none_laid o [] at (omega arith) }

-- one more
pub then : {o a o₁ b o₂ : List ℕ} {at t₁ t₂ : ℕ} → Reached o at a o₁ t₁ → Reached o₁ t₁ b o₂ t₂ → Reached o at (a ++ b) o₂ t₂
then {o} {a} {o₁} {b} {o₂} {at} {t₁} {t₂} p q =
    let l : length o₁ ≡ length o = ap length p.after ∙ length-laid o a at in
    let s = length-append a b in
    let pe = p.end in
    let qe = q.end in
    record {
      end = omega arith;
      after = q.after ∙ ap (λ x. laid x t₁ b) p.after ∙ laid_next o a b at t₁ pe;
    }

-- the body of parts that have a size
pub body_laid : (p : Parts) {r : Option ℕ} {o o' : List ℕ} {at to : ℕ} → r ≡ body_size p → is_some r ≡ true → Reached o at (body_of p) o' to → o' ≡ with_body p o at
body_laid p {r} e i q = q.after ∙ sym (cond-true _ _ _ (go (writable p) (length (body_of p)) (ap is_some (sym e) ∙ i)))
  where
    go : (b : Bool) (n : ℕ) → is_some (cond b (Some n) None) ≡ true → b ≡ true
    go true n h = refl
    go false n h = h

-- of parts that have none
pub body_kept : (p : Parts) {r : Option ℕ} (o : List ℕ) (at : ℕ) → r ≡ body_size p → is_some r ≡ false → o ≡ with_body p o at
body_kept p {r} o at e i = sym (cond-false _ _ _ (go (writable p) (length (body_of p)) (ap is_some (sym e) ∙ i)))
  where
    go : (b : Bool) (n : ℕ) → is_some (cond b (Some n) None) ≡ false → b ≡ false
    go true n h = h
    go false n h = refl
