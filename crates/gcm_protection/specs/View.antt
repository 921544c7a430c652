-- What a GCM protection holds, in the words of the interface.
use Rattle.std.specs.Option.{option_map}
use Rattle.std.specs.Prelude.{Option}
use Rattle.protection.specs.Keys.{Keying, keying}
use Rattle.gcm_protection.specs.declared.keys.GcmKeys.{GcmKeys}
use Rattle.gcm_protection.specs.declared.interface.GcmProtection.{GcmProtection}

abbrev pub keying_of : GcmKeys → Keying
keying_of k = keying k.suite k.role k.material

abbrev pub gcm_holds : GcmProtection → Option Keying
gcm_holds p = option_map keying_of p.keys
