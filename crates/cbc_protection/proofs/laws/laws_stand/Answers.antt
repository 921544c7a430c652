use Rattle.cbc_protection.specs.Sealed.{sealed_length}
use Rattle.cbc_protection.specs.Agrees.{checks_padding, checks_mac}
use Rattle.cbc_protection.proofs.laws.laws_stand.Goals as goal

pub returns : goal.returns
returns c = (checks_padding, (checks_mac, sealed_length))
