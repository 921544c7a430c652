-- What a message leads to when it is turned: stage and message type together decide.
use Rattle.std.specs.Prelude.{ℕ, cond, ◌&&◌, List, length, Some, None, Option, ◌==◌}
use Rattle.octets.specs.declared.role.Role.{Role}
use Rattle.octets.specs.declared.role.Role.TheVariants.{Client, Server}
use Rattle.octets.specs.Octets.{same}
use Rattle.records.specs.declared.fault.Layer.TheVariants.{Message as AtMessage, Stage as AtStage}
use Rattle.model.specs.declared.stage.Stage.{Stage}
use Rattle.model.specs.declared.stage.Stage.TheVariants.{AskClientRandom, AwaitServerHello, AwaitCertificate, AskCertificates, AwaitServerKeyExchange, AskSignature, AwaitServerHelloDone, AskWrapping, ClientAwaitChange, ClientAwaitFinished, AwaitClientHello, AskServerFlight, AwaitClientKeyExchange, AskUnwrapping, ServerAwaitChange, ServerAwaitFinished, Open, Closed, Dead}
use Rattle.handshake.specs.Parts.{is_none, among, other_version}
use Rattle.handshake.specs.Frames.{Next, not_ready, too_long, ready}
use Rattle.handshake.specs.Hellos.{ClientHello, ServerHello, read_client_hello, read_server_hello}
use Rattle.handshake.specs.Certificates.{read_certificate}
use Rattle.handshake.specs.Exchanges.{read_exchange}
use Rattle.model.specs.Stages.{awaits}
use Rattle.model.specs.Messages.{first_shared}
use Rattle.model.specs.Schedule.{Schedule}
use Rattle.model.specs.Endpoint.{End}
use Rattle.model.specs.Deeds.{Deed, waits, raises, takes_client_hello, takes_server_hello, takes_done, keeps_certificates, keeps_signature, keeps_wrapped, fails_check, client_opens, server_opens}

-- ---- hellos: compression 00 offered, then a shared suite; a suite that was offered and compression 00
abbrev pub chosen : Option ℕ → List ℕ → List ℕ → List ℕ → Deed
chosen None r m rest = raises AtStage 40
chosen (Some s) r m rest = takes_client_hello r s m rest

module _ {H : Type 0} where
  -- a ClientHello, if its layout is sound
  abbrev pub on_client_hello : End H → Option ClientHello → List ℕ → List ℕ → Deed
  on_client_hello e None m rest = raises AtMessage 50
  on_client_hello e (Some h) m rest = cond (among 0 h.compressions) (chosen (first_shared h.suites e.suites) h.random m rest) (raises AtMessage 47)

  -- a ServerHello, if its layout is sound
  abbrev pub on_server_hello : End H → Option ServerHello → List ℕ → List ℕ → Deed
  on_server_hello e None m rest = raises AtMessage 50
  on_server_hello e (Some h) m rest = cond (among h.suite e.suites && h.compression == 0) (takes_server_hello h.random h.suite m rest) (raises AtMessage 47)

-- ---- the same against a list alone: a ClientHello and the suites that the server allows
abbrev pub on_client_hello_at : List ℕ → Option ClientHello → List ℕ → List ℕ → Deed
on_client_hello_at allowed None m rest = raises AtMessage 50
on_client_hello_at allowed (Some h) m rest = cond (among 0 h.compressions) (chosen (first_shared h.suites allowed) h.random m rest) (raises AtMessage 47)

-- a ServerHello and the suites that the client offered
abbrev pub on_server_hello_at : List ℕ → Option ServerHello → List ℕ → List ℕ → Deed
on_server_hello_at offered None m rest = raises AtMessage 50
on_server_hello_at offered (Some h) m rest = cond (among h.suite offered && h.compression == 0) (takes_server_hello h.random h.suite m rest) (raises AtMessage 47)

-- a Finished and the value expected; the deed if all is well, the body and what follows the message
abbrev pub on_finished_at : List ℕ → Deed → List ℕ → List ℕ → Deed
on_finished_at expected d x rest =
    cond (length x == 12) (cond (is_none rest) (cond (same x expected) d fails_check) (raises AtStage 10)) (raises AtMessage 50)

-- ---- two certificates; a key exchange of sound layout
abbrev pub on_certificate : Option (List (List ℕ)) → Deed
on_certificate None = raises AtMessage 50
on_certificate (Some cs) = cond (length cs == 2) keeps_certificates (raises AtMessage 42)

-- a key exchange, if its layout is sound
abbrev pub on_exchange : Option (List ℕ) → Deed → Deed
on_exchange None d = raises AtMessage 50
on_exchange (Some x) d = d

module _ {H : Type 0} (K : Schedule H) where
  -- ---- Finished: 12 octets, nothing behind it, the check value that is expected.
  -- The sender, the deed if all is well, the body and what follows the message
  abbrev pub on_finished : Role → End H → Deed → List ℕ → List ℕ → Deed
  on_finished X e d x rest =
      cond (length x == 12) (cond (is_none rest) (cond (same x (K.verify_data X e.master e.transcript)) d fails_check) (raises AtStage 10)) (raises AtMessage 50)

  -- ---- a message of the type that the stage awaits: the whole of it, its body, what follows
  abbrev pub on_message : Stage → End H → List ℕ → List ℕ → List ℕ → Deed
  on_message AskClientRandom e m x rest = raises AtStage 10
  on_message AwaitServerHello e m x rest = cond (other_version x) (raises AtMessage 70) (on_server_hello e (read_server_hello x) m rest)
  on_message AwaitCertificate e m x rest = on_certificate (read_certificate x)
  on_message AskCertificates e m x rest = raises AtStage 10
  on_message AwaitServerKeyExchange e m x rest = on_exchange (read_exchange x) keeps_signature
  on_message AskSignature e m x rest = raises AtStage 10
  on_message AwaitServerHelloDone e m x rest = cond (is_none x) (takes_done m rest) (raises AtMessage 50)
  on_message AskWrapping e m x rest = raises AtStage 10
  on_message ClientAwaitChange e m x rest = raises AtStage 10
  on_message ClientAwaitFinished e m x rest = on_finished Server e (client_opens m) x rest
  on_message AwaitClientHello e m x rest = cond (other_version x) (raises AtMessage 70) (on_client_hello e (read_client_hello x) m rest)
  on_message AskServerFlight e m x rest = raises AtStage 10
  on_message AwaitClientKeyExchange e m x rest = on_exchange (read_exchange x) keeps_wrapped
  on_message AskUnwrapping e m x rest = raises AtStage 10
  on_message ServerAwaitChange e m x rest = raises AtStage 10
  on_message ServerAwaitFinished e m x rest = on_finished Client e (server_opens m) x rest
  on_message Open e m x rest = raises AtStage 10
  on_message Closed e m x rest = raises AtStage 10
  on_message Dead e m x rest = raises AtStage 10

  -- ---- the first message of the buffer: too long, of another type, or as above
  abbrev pub turned : End H → Next → Deed
  turned e not_ready = waits
  turned e too_long = raises AtMessage 47
  turned e (ready t m x rest) = cond (t == awaits e.stage) (on_message e.stage e m x rest) (raises AtStage 10)
