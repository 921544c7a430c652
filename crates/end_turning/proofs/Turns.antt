-- A message of the type that the stage awaits, as it is judged and as it is defined.
use Rattle.std.proofs.Common.{◌≡◌, ℕ, true, cond, eqb, List, Some, sym, ap, ◌∙◌, arith}
use Rattle.records.specs.declared.fault.Layer.TheVariants.{Stage as AtStage}
use Rattle.handshake.specs.declared.types.HandshakeType.{HandshakeType}
use Rattle.handshake.specs.declared.types.HandshakeType.TheVariants.{ClientHello, ServerHello, Certificate, ServerKeyExchange, ServerHelloDone, ClientKeyExchange, Finished}
use Rattle.handshake.specs.Types.{type_number, numbered_type}
use Rattle.handshake.specs.Frames.{ready}
use Rattle.sm3.specs.Hash.{Running}
use Rattle.model.specs.declared.stage.Stage.{Stage}
use Rattle.model.specs.Stages.{awaits}
use Rattle.model.specs.Endpoint.{End}
use Rattle.model.specs.Deeds.{Deed, raises}
use Rattle.model.specs.Turns.{turned, on_message}
use Rattle.model.specs.Tlcp.{tlcp}
use Rattle.end_turning.specs.Turns.{plain}

-- a number that has a type is the type's number
numbered : (n : ℕ) (k : HandshakeType) → Some k ≡ numbered_type n → eqb n (type_number k) ≡ true
numbered n ClientHello q = grind arith
numbered n ServerHello q = grind arith
numbered n Certificate q = grind arith
numbered n ServerKeyExchange q = grind arith
numbered n ServerHelloDone q = grind arith
numbered n ClientKeyExchange q = grind arith
numbered n Finished q = grind arith

-- stage and type as they are awaited
pub awaited : (s : Stage) (k : HandshakeType) (e : End Running) (n : ℕ) (m x xs : List ℕ) {l : HandshakeType} {d : Deed} → type_number k ≡ awaits s
    → Some l ≡ numbered_type n → e.stage ≡ s → l ≡ k → d ≡ plain (on_message tlcp s e m x xs) → d ≡ plain (turned tlcp e (ready n m x xs))
awaited s k e n m x xs {l} {d} a i q j p =
    let b : eqb n (awaits s) ≡ true = ap (eqb n) (sym a) ∙ numbered n k (ap Some (sym j) ∙ i) in
    p ∙ sym (ap (λ z. plain (cond (eqb n (awaits z)) (on_message tlcp z e m x xs) (raises AtStage 10))) q ∙ ap (λ z. plain (cond z (on_message tlcp s e m x xs) (raises AtStage 10))) b)
