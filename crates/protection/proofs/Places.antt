-- What the calls of a protection yield, in the steps by which code comes to it: `wipe`, `lay`, and the tests of lengths.
use Rattle.std.proofs.Common.{◌≡◌, ℕ, ◌+◌, ◌≤◌, true, List, ◌++◌, length, replicate, Some, Ok, Err, Option, Result, sym, ap, ◌∙◌}
use Rattle.std.specs.Option.{option_map}
use Rattle.std.proofs.lemmas.Bool.{cond-true, and_parts, leb-true, eqb-true}
use Rattle.std.proofs.lemmas.List.{drop-replicate, length-replicate}
use Rattle.octets.specs.Laid.{laid}
use Rattle.octets.proofs.Lays.{laid_first}
use Rattle.protection.specs.declared.error.OpenError.{OpenError}
use Rattle.protection.specs.Limits.{content_limit, growth, sealed_limit, fresh_size}
use Rattle.protection.specs.Keys.{Keying}
use Rattle.protection.specs.Calls.{may_seal, sealed_with, written, may_open, opened_with, opened_length, placed}

-- a list laid first in an output
pub laid-written : (out l : List ℕ) → length l ≤ length out → laid out 0 l ≡ written (Some l) out
laid-written out l h = laid_first out l h

-- a content laid first over zeros
pub laid-placed : (place c : List ℕ) → length c ≤ length place → laid (replicate (length place) 0) 0 c ≡ placed (Ok c) place
laid-placed place c h =
    let z : length c ≤ length (replicate (length place) 0) = rw length-replicate h in
    laid_first _ c z ∙ ap (λ l. c ++ l) (drop-replicate (length c) (length place) 0)

module _ (sealing : Keying → ℕ → ℕ → List ℕ → List ℕ → List ℕ) where
  -- what is sealed when keyed, with lengths that allow it
  pub sealed_is : (h : Option Keying) (k : Keying) (n t : ℕ) (c f : List ℕ) (room : ℕ) → h ≡ Some k → may_seal (length c) (length f) room ≡ true
      → sealed_with sealing h n t c f room ≡ Some (sealing k n t c f)
  sealed_is h k n t c f room e m = ap (λ o. sealed_with sealing o n t c f room) e ∙ cond-true _ _ _ m

  -- the answer and the output of a sealing whose list was laid first
  pub seals : (h : Option Keying) (k : Keying) (n t : ℕ) (c f out after l : List ℕ) (r : ℕ) → h ≡ Some k → may_seal (length c) (length f) (length out) ≡ true
      → sealing k n t c f ≡ l → length l ≤ length out → after ≡ laid out 0 l → r ≡ length l
      → (Some r ≡ option_map length (sealed_with sealing h n t c f (length out))) × (after ≡ written (sealed_with sealing h n t c f (length out)) out)
  seals h k n t c f out after l r e m s fit a q =
      let i : sealed_with sealing h n t c f (length out) ≡ Some l = sealed_is h k n t c f (length out) e m ∙ ap Some s in
      (ap Some q ∙ ap (option_map length) (sym i), a ∙ laid-written out l fit ∙ ap (λ o. written o out) (sym i))

module _ (opening : Keying → ℕ → ℕ → List ℕ → Result (List ℕ) OpenError) where
  -- what is opened when keyed, with lengths that allow it
  pub opened_is : (h : Option Keying) (k : Keying) (n t : ℕ) (l : List ℕ) (room : ℕ) → h ≡ Some k → may_open (length l) room ≡ true
      → opened_with opening h n t l room ≡ opening k n t l
  opened_is h k n t l room e m = ap (λ o. opened_with opening o n t l room) e ∙ cond-true _ _ _ m

  -- the answer and the place of an opening that is left to what is held
  pub opens_by : (h : Option Keying) (k : Keying) (n t : ℕ) (l place after : List ℕ) (r : Result ℕ OpenError) → h ≡ Some k → may_open (length l) (length place) ≡ true
      → r ≡ opened_length (opening k n t l) → after ≡ placed (opening k n t l) place
      → (r ≡ opened_length (opened_with opening h n t l (length place))) × (after ≡ placed (opened_with opening h n t l (length place)) place)
  opens_by h k n t l place after r e m a p =
      let i = opened_is h k n t l (length place) e m in (a ∙ ap opened_length (sym i), p ∙ ap (λ o. placed o place) (sym i))

  -- the answer and the place of an opening whose content was laid first over zeros
  pub opens_to : (h : Option Keying) (k : Keying) (n t : ℕ) (l place after c : List ℕ) (r : ℕ) → h ≡ Some k → may_open (length l) (length place) ≡ true
      → opening k n t l ≡ Ok c → length c ≤ length place → after ≡ laid (replicate (length place) 0) 0 c → r ≡ length c
      → (Ok r ≡ opened_length (opened_with opening h n t l (length place))) × (after ≡ placed (opened_with opening h n t l (length place)) place)
  opens_to h k n t l place after c r e m s fit a q =
      let i : opened_with opening h n t l (length place) ≡ Ok c = opened_is h k n t l (length place) e m ∙ s in
      (ap Ok q ∙ ap opened_length (sym i), a ∙ laid-placed place c fit ∙ ap (λ o. placed o place) (sym i))

  -- the answer and the place of an opening that said no and left zeros
  pub opens_not : (h : Option Keying) (k : Keying) (n t : ℕ) (l place after : List ℕ) (e : OpenError) → h ≡ Some k → may_open (length l) (length place) ≡ true
      → opening k n t l ≡ Err e → after ≡ replicate (length place) 0
      → (Err e ≡ opened_length (opened_with opening h n t l (length place))) × (after ≡ placed (opened_with opening h n t l (length place)) place)
  opens_not h k n t l place after e k-is m s a =
      let i : opened_with opening h n t l (length place) ≡ Err e = opened_is h k n t l (length place) k-is m ∙ s in
      (ap opened_length (sym i), a ∙ ap (λ o. placed o place) (sym i))

-- what the tests of lengths say
pub may_seal_says : (c f room : ℕ) → may_seal c f room ≡ true → (1 ≤ c) × (c ≤ content_limit) × (f ≡ fresh_size) × (c + growth ≤ room)
may_seal_says c f room m =
    let a = and_parts _ _ m in
    let b = and_parts _ _ a.1 in
    let d = and_parts _ _ b.1 in
    (leb-true _ _ a.0, leb-true _ _ b.0, eqb-true _ _ d.0, leb-true _ _ d.1)

pub may_open_says : (l room : ℕ) → may_open l room ≡ true → (l ≤ sealed_limit) × (sealed_limit ≤ room)
may_open_says l room m = let a = and_parts _ _ m in (leb-true _ _ a.0, leb-true _ _ a.1)
