-- HMAC under way: a key taken in, then the text piece by piece.
use Rattle.std.specs.Prelude.{ℕ, List}
use Rattle.sm3.specs.Hash.{Running, start, absorb, finished}
use Rattle.hmac_sm3.specs.Hmac.{key_block, xored, ipad, opad}

-- the two digests under way
pub record Keyed : Type 0 where
  pub inner : Running
  pub outer : Running

-- a key taken in, and no text yet
abbrev pub keyed : List ℕ → Keyed
keyed key = record { inner = absorb start (xored ipad (key_block key)); outer = absorb start (xored opad (key_block key)) }

-- a piece of text more
abbrev pub fed : Keyed → List ℕ → Keyed
fed h text = record { inner = absorb h.inner text; outer = h.outer }

-- the tag of the text so far
abbrev pub tag : Keyed → List ℕ
tag h = finished (absorb h.outer (finished h.inner))
