-- What the code's types hold, in the words of the definitions.
use Rattle.std.specs.Prelude.{ℕ, List}
use Rattle.sm4.specs.Cipher.{Quad}
use Rattle.sm4.specs.declared.cipher.Sm4.{Sm4}
use Rattle.sm4.specs.declared.state.State.{State}

-- the four words of a state
abbrev pub quad_of : State → Quad
quad_of s = record { x0 = s.a; x1 = s.b; x2 = s.c; x3 = s.d }

-- the 32 round keys
abbrev pub keys_of : Sm4 → List ℕ
keys_of s = s.round_keys.words
