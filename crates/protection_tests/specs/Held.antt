-- What a marking protection holds.
use Rattle.std.specs.Prelude.{ℕ, cond}
use Rattle.protection.specs.Keys.{Keying, keying}
use Rattle.protection_tests.specs.declared.marked.Keys.{Keys}

abbrev pub keying_of : ℕ → Keys → Keying
keying_of mark k = keying (cond k.shared 7 mark) k.role k.material
