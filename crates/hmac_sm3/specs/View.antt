-- What the code's `Hmac` stands for.
use Rattle.sm3.specs.View.{view}
use Rattle.hmac_sm3.specs.Keyed.{Keyed}
use Rattle.hmac_sm3.specs.declared.mac.Hmac.{Hmac}

-- the two digests under way, as they are seen
abbrev pub seen : Hmac → Keyed
seen h = record { inner = view h.inner; outer = view h.outer }
