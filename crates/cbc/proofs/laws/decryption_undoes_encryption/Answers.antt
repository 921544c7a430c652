use Rattle.cbc.proofs.Undo.{cbc_decryption_undoes}
use Rattle.cbc.proofs.laws.decryption_undoes_encryption.Goals as goal

pub returns : goal.returns
returns c = cbc_decryption_undoes
