-- What a hello leads to depends on the end by its suites alone.
use Rattle.std.proofs.Common.{◌≡◌, ℕ, List, Some, None, Option, refl}
use Rattle.handshake.specs.Hellos.{ClientHello, ServerHello}
use Rattle.model.specs.Endpoint.{End}
use Rattle.model.specs.Turns.{on_client_hello, on_client_hello_at, on_server_hello, on_server_hello_at}

module _ {H : Type 0} where
  pub on_client_hello_alone : (e : End H) (h : Option ClientHello) (m rest : List ℕ) → on_client_hello e h m rest ≡ on_client_hello_at e.suites h m rest
  on_client_hello_alone e None m rest = refl
  on_client_hello_alone e (Some h) m rest = refl

  pub on_server_hello_alone : (e : End H) (h : Option ServerHello) (m rest : List ℕ) → on_server_hello e h m rest ≡ on_server_hello_at e.suites h m rest
  on_server_hello_alone e None m rest = refl
  on_server_hello_alone e (Some h) m rest = refl
