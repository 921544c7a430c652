-- What a CBC protection holds, in the words of the interface.
use Rattle.std.specs.Option.{option_map}
use Rattle.std.specs.Prelude.{Option}
use Rattle.protection.specs.Keys.{Keying, keying}
use Rattle.cbc_protection.specs.declared.keys.CbcKeys.{CbcKeys}
use Rattle.cbc_protection.specs.declared.interface.CbcProtection.{CbcProtection}

abbrev pub keying_of : CbcKeys → Keying
keying_of k = keying k.suite k.role k.material

abbrev pub cbc_holds : CbcProtection → Option Keying
cbc_holds p = option_map keying_of p.keys
