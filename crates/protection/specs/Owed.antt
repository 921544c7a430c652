-- When the laws of a kind of protection are owed: what a user has to bring before they say anything.
use Rattle.std.specs.Prelude.{◌≡◌, ℕ, ◌^◌, ◌<◌, ◌≤◌, Bool, true, List, length}
use Rattle.octets.specs.Octets.{Octets}
use Rattle.protection.specs.Limits.{content_limit, sealed_limit, fresh_size}
use Rattle.protection.specs.Keys.{Keying}

-- a keying that is taken: a served suite, and as many octets of material as it has to have
pub record Keyed (serves : ℕ → Bool) (size : ℕ → ℕ) (k : Keying) : Type 0 where
  pub served : serves k.suite ≡ true
  pub whole : length k.material ≡ size k.suite
  pub octets : Octets k.material

-- what is sealed: any number of 64 bits, any octet for the kind, 1 to 16,384 octets of content, 16 fresh octets
pub record Sealable (n t : ℕ) (c f : List ℕ) : Type 0 where
  pub number : n < 2 ^ 64
  pub kind : t < 256
  pub least : 1 ≤ length c
  pub most : length c ≤ content_limit
  pub content : Octets c
  pub sixteen : length f ≡ fresh_size
  pub fresh : Octets f

-- what is opened: any number of 64 bits, any octet for the kind, up to 18,432 octets
pub record Openable (n t : ℕ) (l : List ℕ) : Type 0 where
  pub number : n < 2 ^ 64
  pub kind : t < 256
  pub most : length l ≤ sealed_limit
  pub octets : Octets l
