use Rattle.sm4.proofs.Undo.{encryption_undoes}
use Rattle.sm4.proofs.laws.encryption_undoes_decryption.Goals as goal

pub returns : goal.returns
returns c = encryption_undoes
