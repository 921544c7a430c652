-- What a prepared key stands for: its round keys.
use Rattle.std.specs.Prelude.{ℕ, List}
use Rattle.sm4.specs.View.{keys_of as cipherKeys}
use Rattle.gcm.specs.declared.key.Gcm.{Gcm}

abbrev pub keys_of : Gcm → List ℕ
keys_of g = cipherKeys g.cipher
