-- What was sealed opens on the other side, and what was written is turned as it was meant.
use Rattle.std.proofs.Common.{◌≡◌, ℕ, ◌^◌, ◌<◌, ◌≤◌, true, ◌&&◌, eqb, List, [], length, Some, Ok, Option, refl, ap, ◌∙◌, ap₂, arith, lit≤}
use Rattle.octets.specs.declared.role.Role.{Role}
use Rattle.octets.specs.declared.role.Role.TheVariants.{Client, Server}
use Rattle.octets.specs.Octets.{Octets}
use Rattle.octets.proofs.Alike.{same_self}
use Rattle.protection.specs.Limits.{content_limit, sealed_limit}
use Rattle.protection.specs.Keys.{Keying}
use Rattle.protection.specs.Owed.{Keyed}
use Rattle.handshake.specs.Frames.{message_limit, message, ready}
use Rattle.handshake.specs.Hellos.{client_hello_body, server_hello_body}
use Rattle.handshake.specs.Certificates.{certificate_body}
use Rattle.handshake.specs.Exchanges.{exchange_body}
use Rattle.model.specs.Messages.{finished}
use Rattle.model.specs.Schedule.{Schedule, absorbed}
use Rattle.model.specs.Protections.{Protection, sealed_with, opened_with}
use Rattle.model.specs.Endpoint.{Parts}
use Rattle.model.specs.Deeds.{takes_client_hello, takes_server_hello, takes_done, keeps_certificates, keeps_signature, keeps_wrapped, client_opens, server_opens}
use Rattle.model.specs.Turns.{turned}
use Rattle.model.proofs.ReadBack.{client_hello_length, client_versioned, eqb_is, exchange_length, read_back_certificate, read_back_client, read_back_exchange, read_back_server, server_hello_length, server_versioned}
use Rattle.model.proofs.Accepting.{Sendable, sealable}
use Rattle.model.proofs.Stances.{Fresh}
use Rattle.model.proofs.Talks.{Ok2, Talk, TalkOk, no_other_version}
use Rattle.model.proofs.Phases.{C10, C13, C23, C5, C7, CE, CH, CX, Fc, Fs, HD, KC, KE, KS, M6, M7, Mas, Mat, S16, S2, S20, SH, Setting, Vc, Vs}

module _ {H : Type 0} (K : Schedule H) (P : Protection) (L : Setting K P) where
  -- ---- what was sealed opens, and is short enough
  pub material_length : (T : Talk) → length ((Mat K P L) T) ≡ P.size L.s
  material_length T = L.sized.material_length _ _ _ (P.size L.s)

  pub keys_taken : (T : Talk) → (P.serves L.s && eqb (length ((Mat K P L) T)) (P.size L.s)) ≡ true
  keys_taken T = rw (L.served, eqb_is _ _ (material_length T)) refl

  pub kc_is : (T : Talk) → (KC K P L) T ≡ Some (record { suite = L.s; role = Client; material = (Mat K P L) T })
  kc_is T = rw (keys_taken T) refl

  pub ks_is : (T : Talk) → (KS K P L) T ≡ Some (record { suite = L.s; role = Server; material = (Mat K P L) T })
  ks_is T = rw (keys_taken T) refl

  pub keyed_well : (T : Talk) (X : Role) → Keyed P.serves P.size (record { suite = L.s; role = X; material = (Mat K P L) T })
  keyed_well T X = record { served = L.served; whole = material_length T; octets = L.sized.material_octets _ _ _ (P.size L.s) }

  pub server_opens_it : (T : Talk) (n k : ℕ) (x f : List ℕ) → n < 2 ^ 64 → k < 256 → Sendable x f → opened_with P ((KS K P L) T) n k (sealed_with P ((KC K P L) T) n k x f) ≡ Ok x
  server_opens_it T n k x f i j o = ap₂ (λ (a b : Option Keying). opened_with P a n k (sealed_with P b n k x f)) (ks_is T) (kc_is T) ∙ L.law.opens (record { suite = L.s; role = Client; material = (Mat K P L) T }) n k x f (keyed_well T Client) (sealable n k x f i j o)

  pub client_opens_it : (T : Talk) (n k : ℕ) (x f : List ℕ) → n < 2 ^ 64 → k < 256 → Sendable x f → opened_with P ((KC K P L) T) n k (sealed_with P ((KS K P L) T) n k x f) ≡ Ok x
  client_opens_it T n k x f i j o = ap₂ (λ (a b : Option Keying). opened_with P a n k (sealed_with P b n k x f)) (kc_is T) (ks_is T) ∙ L.law.opens (record { suite = L.s; role = Server; material = (Mat K P L) T }) n k x f (keyed_well T Server) (sealable n k x f i j o)

  pub client_short : (T : Talk) (n k : ℕ) (x f : List ℕ) → n < 2 ^ 64 → k < 256 → Sendable x f → length (sealed_with P ((KC K P L) T) n k x f) ≤ sealed_limit
  client_short T n k x f i j o =
      let h = L.law.grows (record { suite = L.s; role = Client; material = (Mat K P L) T }) n k x f (keyed_well T Client) (sealable n k x f i j o) in let l = o.not_long in
      let e : length (sealed_with P ((KC K P L) T) n k x f) ≡ length (P.sealing (record { suite = L.s; role = Client; material = (Mat K P L) T }) n k x f) = ap (λ (a : Option Keying). length (sealed_with P a n k x f)) (kc_is T) in omega arith

  pub server_short : (T : Talk) (n k : ℕ) (x f : List ℕ) → n < 2 ^ 64 → k < 256 → Sendable x f → length (sealed_with P ((KS K P L) T) n k x f) ≤ sealed_limit
  server_short T n k x f i j o =
      let h = L.law.grows (record { suite = L.s; role = Server; material = (Mat K P L) T }) n k x f (keyed_well T Server) (sealable n k x f i j o) in let l = o.not_long in
      let e : length (sealed_with P ((KS K P L) T) n k x f) ≡ length (P.sealing (record { suite = L.s; role = Server; material = (Mat K P L) T }) n k x f) = ap (λ (a : Option Keying). length (sealed_with P a n k x f)) (ks_is T) in omega arith

  pub verify_length : (X : Role) (m : List ℕ) (h : H) → length (K.verify_data X m h) ≡ 12
  verify_length X m h = L.sized.verify_length X m h

  pub verify_octets : (X : Role) (m : List ℕ) (h : H) → Octets (K.verify_data X m h)
  verify_octets X m h = L.sized.verify_octets X m h

  pub finished_sealable : (v f : List ℕ) → length v ≡ 12 → Octets v → Fresh K P f → Sendable (finished v) f
  finished_sealable v f l o h =
      record { some_content = omega arith; not_long = omega arith; fresh_enough = h.sixteen; x_octets = (lit≤ tt, (omega arith, (omega arith, (omega arith, o)))); fresh_octets = h.are_octets }

  pub fc_sealable : (T : Talk) → TalkOk K P T → Sendable ((Fc K P L) T) T.f
  fc_sealable T k = finished_sealable ((Vc K P L) T) T.f (verify_length Client _ _) (verify_octets Client _ _) k.fresh_ok

  pub fs_sealable : (T : Talk) (g : List ℕ) → Fresh K P g → Sendable ((Fs K P L) T) g
  fs_sealable T g h = finished_sealable ((Vs K P L) T) g (verify_length Server _ _) (verify_octets Server _ _) h

  -- ---- what is turned
  pub message_short : (t : ℕ) (x : List ℕ) → length x ≤ message_limit → length (message t x) ≤ content_limit
  message_short t x h = omega arith

  pub ch_body : (rc : List ℕ) → length rc ≡ 32 → length (client_hello_body rc L.cs) ≤ message_limit
  ch_body rc l = client_hello_length rc L.cs l L.few

  pub sh_body : (rc : List ℕ) (q : Parts) → Ok2 rc q → length (server_hello_body q.random q.session L.s) ≤ message_limit
  sh_body rc q k = server_hello_length q.random q.session L.s k.flight_ok.random_32 k.flight_ok.session_32

  pub ke_body : (rc : List ℕ) (q : Parts) → Ok2 rc q → length (exchange_body q.signature) ≤ message_limit
  ke_body rc q k = exchange_length q.signature k.flight_ok.signature_short

  pub cx_body : (T : Talk) → TalkOk K P T → length (exchange_body T.w) ≤ message_limit
  cx_body T k = exchange_length T.w k.wrapped_short

  pub ce_body : (rc : List ℕ) (q : Parts) → Ok2 rc q → length (certificate_body q.certificates) ≤ message_limit
  ce_body rc q k = k.flight_ok.certificates_short

  pub fc_body : (T : Talk) → length ((Vc K P L) T) ≤ message_limit
  fc_body T = let l = verify_length Client ((Mas K P L) T) (absorbed K K.blank ((M6 K P L) T)) in omega arith

  pub fs_body : (T : Talk) → length ((Vs K P L) T) ≤ message_limit
  fs_body T = let l = verify_length Server ((Mas K P L) T) (absorbed K K.blank ((M7 K P L) T)) in omega arith

  pub turn_client_hello : (rc : List ℕ) → length rc ≡ 32 → turned K ((S2 K P L) rc) (ready 1 ((CH K P L) rc) (client_hello_body rc L.cs) []) ≡ takes_client_hello rc L.s ((CH K P L) rc) []
  turn_client_hello rc l = rw (no_other_version (client_hello_body rc L.cs) (client_versioned rc L.cs), read_back_client rc L.cs l L.some_c, L.shared) refl

  pub turn_server_hello : (rc : List ℕ) (q : Parts) → Ok2 rc q → turned K ((C5 K P L) rc q) (ready 2 ((SH K P L) q) (server_hello_body q.random q.session L.s) []) ≡ takes_server_hello q.random L.s ((SH K P L) q) []
  turn_server_hello rc q k = rw (no_other_version (server_hello_body q.random q.session L.s) (server_versioned q.random q.session L.s), read_back_server q.random q.session L.s k.flight_ok.random_32 k.flight_ok.session_32, L.offered) refl

  pub turn_certificate : (rc : List ℕ) (q : Parts) → Ok2 rc q → turned K ((C7 K P L) rc q) (ready 11 ((CE K P L) q) (certificate_body q.certificates) []) ≡ keeps_certificates
  turn_certificate rc q k = rw (read_back_certificate q.certificates k.flight_ok.all_some, k.flight_ok.are_two) refl

  pub turn_signature : (rc : List ℕ) (q : Parts) → Ok2 rc q → turned K ((C10 K P L) rc q) (ready 12 ((KE K P L) q) (exchange_body q.signature) []) ≡ keeps_signature
  turn_signature rc q k = rw (read_back_exchange q.signature k.flight_ok.signature_some) refl

  pub turn_done : (rc : List ℕ) (q : Parts) → turned K ((C13 K P L) rc q) (ready 14 (HD K P L) [] []) ≡ takes_done (HD K P L) []
  turn_done rc q = refl

  pub turn_wrapped : (T : Talk) → TalkOk K P T → turned K ((S16 K P L) T) (ready 16 ((CX K P L) T) (exchange_body T.w) []) ≡ keeps_wrapped
  turn_wrapped T k = rw (read_back_exchange T.w k.wrapped_some) refl

  pub turn_client_finished : (T : Talk) → turned K ((S20 K P L) T) (ready 20 ((Fc K P L) T) ((Vc K P L) T) []) ≡ server_opens ((Fc K P L) T)
  turn_client_finished T = rw (verify_length Client ((Mas K P L) T) (absorbed K K.blank ((M6 K P L) T)), same_self ((Vc K P L) T)) refl

  pub turn_server_finished : (T : Talk) → turned K ((C23 K P L) T) (ready 20 ((Fs K P L) T) ((Vs K P L) T) []) ≡ client_opens ((Fs K P L) T)
  turn_server_finished T = rw (verify_length Server ((Mas K P L) T) (absorbed K K.blank ((M7 K P L) T)), same_self ((Vs K P L) T)) refl
