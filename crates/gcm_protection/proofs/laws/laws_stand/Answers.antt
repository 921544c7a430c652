use Rattle.gcm_protection.specs.Sealed.{sealed_length}
use Rattle.gcm_protection.specs.Agrees.{checks_tag, opens_sealed_alone}
use Rattle.gcm_protection.proofs.laws.laws_stand.Goals as goal

pub returns : goal.returns
returns c = (checks_tag, (opens_sealed_alone, sealed_length))
