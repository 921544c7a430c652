-- What the marking protection comes to, over plain values.
use Rattle.std.proofs.Common.{◌≡◌, ℕ, ◌+◌, ◌-◌, ◌≤◌, min, Bool, true, false, List, length, take, drop, Ok, Err, sym, refl, ap, ◌∙◌, arith}
use Rattle.std.proofs.lemmas.Bool.{le-leb}
use Rattle.octets.specs.Octets.{same}
use Rattle.octets.specs.Laid.{laid}
use Rattle.octets.proofs.Lays.{laid-laid}
use Rattle.protection.specs.declared.error.OpenError.TheVariants.{Refused}
use Rattle.protection.specs.Keys.{Keying}
use Rattle.protection_tests.specs.Marks.{front, mark_sealing, mark_opening}

module _ (mark : ℕ) (k : Keying) (n t : ℕ) where
  pub opens : (l : List ℕ) {b : Bool} → 3 ≤ length l → b ≡ same (take 3 l) (front mark k t) → b ≡ true → mark_opening mark k n t l ≡ Ok (drop 3 l)
  opens l {b} h e s = rw (le-leb 3 (length l) h, sym e ∙ s) refl

  pub opens_not : (l : List ℕ) {b : Bool} → 3 ≤ length l → b ≡ same (take 3 l) (front mark k t) → b ≡ false → mark_opening mark k n t l ≡ Err Refused
  opens_not l {b} h e s = rw (le-leb 3 (length l) h, sym e ∙ s) refl

  -- the front laid first, and the content behind it
  pub seals : (c f out p q : List ℕ) (at r : ℕ) → 3 + length c ≤ length out → at ≡ 0 + min 3 (length out - 0) → p ≡ laid out 0 (front mark k t)
      → r ≡ at + min (length c) (length p - at) → q ≡ laid p at c → (q ≡ laid out 0 (mark_sealing mark k n t c f)) × (at ≡ 3)
  seals c f out p q at r h e ep er eq =
      let three : at ≡ 3 = omega arith in
      (eq ∙ ap (λ x. laid x at c) ep ∙ laid-laid out (front mark k t) c 0 at three, three)
