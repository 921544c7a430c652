use Rattle.sm4.proofs.Undo.{decryption_undoes}
use Rattle.sm4.proofs.laws.decryption_undoes_encryption.Goals as goal

pub returns : goal.returns
returns c = decryption_undoes
