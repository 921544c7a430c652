-- What a set-up yields, and the laws that hold of every end over a lawful protection.
use Rattle.std.proofs.Common.{◌≡◌, ℕ, Bool, List, Some, None, Option, sym, ap, ◌∙◌}
use Rattle.sm3.specs.Hash.{Running}
use Rattle.octets.specs.declared.role.Role.{Role}
use Rattle.protection.specs.Keys.{Keying}
use Rattle.model.specs.declared.refusal.Refusal.{Refusal}
use Rattle.model.specs.Endpoint.{End, new_end}
use Rattle.model.specs.Refusals.{set_up_refusal}
use Rattle.model.specs.Results.{made, given_back, made_as, set_up_yields}
use Rattle.model.specs.Tlcp.{tlcp}

module _ (serves : ℕ → Bool) (X : Role) (held : Option Keying) (ss : List ℕ) where
  pub set_up_refused : (r : Refusal) → set_up_refusal serves ss ≡ Some r → given_back r held ≡ set_up_yields tlcp serves X held ss
  set_up_refused r q = sym (ap (λ o. made_as o (new_end tlcp X held ss)) q)

  pub set_up_accepted : {e : End Running} → set_up_refusal serves ss ≡ None → e ≡ new_end tlcp X held ss → made e ≡ set_up_yields tlcp serves X held ss
  set_up_accepted q h = ap made h ∙ sym (ap (λ o. made_as o (new_end tlcp X held ss)) q)
