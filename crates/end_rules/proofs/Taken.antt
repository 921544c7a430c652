-- What a hello leads to that was read, or could not be.
use Rattle.std.proofs.Common.{◌≡◌, ℕ, true, cond, ◌&&◌, List, length, Some, Ok, Err, Result, sym, refl, ap, ◌∙◌, ap₂}
use Rattle.std.proofs.lemmas.Bool.{eq-eqb}
use Rattle.records.specs.declared.fault.Fault.{Fault}
use Rattle.records.specs.declared.fault.Layer.TheVariants.{Message as AtMessage}
use Rattle.handshake.specs.declared.types.HandshakeType.TheVariants.{ClientHello as ClientHelloType, ServerHello as ServerHelloType}
use Rattle.handshake.specs.Parts.{among, other_version}
use Rattle.handshake.specs.Hellos.{ClientHello, ServerHello, read_client_hello, read_server_hello}
use Rattle.handshake.specs.Kinds.{client_hello_parts, server_hello_parts}
use Rattle.handshake.specs.Faults.{read_parts}
use Rattle.model.specs.Messages.{first_shared}
use Rattle.model.specs.Deeds.{Deed, raises, takes_client_hello, takes_server_hello}
use Rattle.model.specs.Turns.{chosen, on_client_hello_at, on_server_hello_at}
use Rattle.end_rules.specs.Effects.{deed_of}
use Rattle.end_rules.proofs.Hellos.{client_random_32, server_random_32, stopped, came}

same_client : (a b : ClientHello) → client_hello_parts a ≡ client_hello_parts b → a ≡ b
same_client a b e = cc

same_server : (a b : ServerHello) → server_hello_parts a ≡ server_hello_parts b → a ≡ b
same_server a b e = cc

module _ (x allowed m rest : List ℕ) where
  abbrev client_deed : Deed
  client_deed = cond (other_version x) (raises AtMessage 70) (on_client_hello_at allowed (read_client_hello x) m rest)

  pub client_stops : {X : Type 0} (d : X → Deed) (r : Result X Fault) (t : Fault) → r ≡ Err t → Err t ≡ read_parts ClientHelloType x → deed_of d r ≡ client_deed
  client_stops d r t p e =
      ap (deed_of d) p ∙ stopped client_hello_parts same_client (λ o. on_client_hello_at allowed o m rest) refl (other_version x) (read_client_hello x) t e

  pub client_taken : (h : ClientHello) (s : ℕ) (r : List ℕ) → Ok (client_hello_parts h) ≡ read_parts ClientHelloType x → among 0 h.compressions ≡ true
      → Some s ≡ first_shared h.suites allowed → (length h.random ≡ 32 → r ≡ h.random) → takes_client_hello r s m rest ≡ client_deed
  client_taken h s r e a f q =
      let p = came client_hello_parts same_client (λ o. on_client_hello_at allowed o m rest) refl (other_version x) (read_client_hello x) h e in
      ap (λ z. takes_client_hello z s m rest) (q (client_random_32 x h p.0))
      ∙ ap (λ o. chosen o h.random m rest) f
      ∙ sym (ap (λ b. cond b (chosen (first_shared h.suites allowed) h.random m rest) (raises AtMessage 47)) a)
      ∙ sym p.1

module _ (x offered m rest : List ℕ) where
  abbrev server_deed : Deed
  server_deed = cond (other_version x) (raises AtMessage 70) (on_server_hello_at offered (read_server_hello x) m rest)

  pub server_stops : {X : Type 0} (d : X → Deed) (r : Result X Fault) (t : Fault) → r ≡ Err t → Err t ≡ read_parts ServerHelloType x → deed_of d r ≡ server_deed
  server_stops d r t p e =
      ap (deed_of d) p ∙ stopped server_hello_parts same_server (λ o. on_server_hello_at offered o m rest) refl (other_version x) (read_server_hello x) t e

  pub server_taken : (h : ServerHello) (r : List ℕ) → Ok (server_hello_parts h) ≡ read_parts ServerHelloType x → among h.suite offered ≡ true
      → h.compression ≡ 0 → (length h.random ≡ 32 → r ≡ h.random) → takes_server_hello r h.suite m rest ≡ server_deed
  server_taken h r e a k q =
      let p = came server_hello_parts same_server (λ o. on_server_hello_at offered o m rest) refl (other_version x) (read_server_hello x) h e in
      ap (λ z. takes_server_hello z h.suite m rest) (q (server_random_32 x h p.0))
      ∙ sym (ap₂ (λ b c. cond (b && c) (takes_server_hello h.random h.suite m rest) (raises AtMessage 47)) a (eq-eqb h.compression 0 k))
      ∙ sym p.1
