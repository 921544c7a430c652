-- Why octets do not open, and the number of each case.
use Rattle.std.specs.Prelude.{ℕ}
use Rattle.protection.specs.declared.error.OpenError.{OpenError}
use Rattle.protection.specs.declared.error.OpenError.TheVariants.{Refused}

-- the alert that tells the peer: 20 is bad_record_mac
abbrev pub alert_of : OpenError → ℕ
alert_of Refused = 20
