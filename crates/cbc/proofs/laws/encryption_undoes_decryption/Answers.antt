use Rattle.cbc.proofs.Undo.{cbc_encryption_undoes}
use Rattle.cbc.proofs.laws.encryption_undoes_decryption.Goals as goal

pub returns : goal.returns
returns c = cbc_encryption_undoes
