use Rattle.gcm.proofs.Opening.{opens_sealed, decrypts_encrypted, only_sealed_opens}
use Rattle.gcm.proofs.laws.opens_what_is_sealed.Goals as goal

pub returns : goal.returns
returns c = (opens_sealed, decrypts_encrypted, only_sealed_opens)
