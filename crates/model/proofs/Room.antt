-- What a protection holds stays in order, and what is written finds room.
use Rattle.std.proofs.Common.{◌≡◌, ℕ, ◌+◌, ◌*◌, ◌/◌, ◌%◌, ◌<◌, ◌≤◌, Bool, true, false, cond, ◌&&◌, eqb, ◌⊎◌, List, [], ◌∷◌, ◌++◌, length, Some, None, Option, sym, refl, inl, inr, arith, lit≤, length-append, eqb-true}
use Rattle.octets.specs.declared.role.Role.TheVariants.{Client, Server}
use Rattle.octets.specs.Octets.{Octets}
use Rattle.records.specs.Kinds.{alert_kind, handshake_kind, data_kind}
use Rattle.records.specs.Records.{framed}
use Rattle.protection.specs.Limits.{growth, fresh_size}
use Rattle.protection.specs.Keys.{Keying}
use Rattle.protection.specs.Owed.{Sealable}
use Rattle.handshake.specs.Parts.{from_words}
use Rattle.handshake.specs.Hellos.{client_hello_body, server_hello_body}
use Rattle.handshake.specs.Certificates.{certificate_body, from_certificates}
use Rattle.handshake.specs.Exchanges.{exchange_body}
use Rattle.model.specs.declared.question.Question.TheVariants.{ServerFlight}
use Rattle.model.specs.Limits.{send_space, suite_limit, send_limit}
use Rattle.model.specs.Messages.{client_hello, server_hello, certificate, server_key_exchange, server_hello_done, client_key_exchange, finished}
use Rattle.model.specs.Schedule.{Schedule, ScheduleLaws, absorbed}
use Rattle.model.specs.Protections.{Protection, Lawful, Held, keyed_with, sealed_with}
use Rattle.model.specs.Endpoint.{End, Parts, Call}
use Rattle.model.specs.Outcomes.{Write, bare, flat, put}
use Rattle.model.specs.Deeds.{Deed, waits, halts, closes, raises, client_changes, server_changes, buffers, releases, takes_client_hello, takes_server_hello, takes_done, keeps_certificates, keeps_signature, keeps_wrapped, fails_check, client_opens, server_opens, greets, offers, trusts_certificates, trusts_signature, exchanges, unwraps, sends, alerting, changing, first_sealed, flight, in_records, keyed, perform}
use Rattle.model.specs.Refusals.{certificates_fit, parts_fit}
use Rattle.model.specs.Contents.{on_content}
use Rattle.model.specs.Steps.{step}
use Rattle.model.specs.EndLaws.{InLimits, BringsOctets, FindsRoom}
use Rattle.model.proofs.ReadBack.{from_words-length}
use Rattle.model.proofs.Fronts.{never}
use Rattle.model.proofs.Fits.{Fits, SendsOctets, content_sends}
use Rattle.model.proofs.Ways.{one_read, step_by}
use Rattle.model.proofs.Accepting.{Sendable, sealable}

-- ---- how long messages are
client_hello_exact : (r ss : List ℕ) → length (client_hello_body r ss) ≡ 7 + length r + 2 * length ss
unfolding client_hello_body
client_hello_exact r ss =
    let lx = from_words-length ss in
    let a = length-append r (0 ∷ (length (from_words ss) / 256 ∷ (length (from_words ss) % 256 ∷ (from_words ss ++ (1 ∷ (0 ∷ [])))))) in
    let b = length-append (from_words ss) (1 ∷ (0 ∷ [])) in omega arith

server_hello_exact : (r id : List ℕ) (u : ℕ) → length (server_hello_body r id u) ≡ 6 + length r + length id
unfolding server_hello_body
server_hello_exact r id u =
    let a = length-append r (length id ∷ (id ++ (u / 256 ∷ (u % 256 ∷ (0 ∷ []))))) in
    let b = length-append id (u / 256 ∷ (u % 256 ∷ (0 ∷ []))) in omega arith

exchange_exact : (x : List ℕ) → length (exchange_body x) ≡ 2 + length x
unfolding exchange_body
exchange_exact x = omega arith

certificate_exact : (cs : List (List ℕ)) → certificates_fit cs ≡ true → length (certificate_body cs) ≤ 3009
unfolding certificate_body
certificate_exact [] h = never (sym h)
certificate_exact (a ∷ []) h = never (sym h)
certificate_exact (a ∷ (b ∷ [])) h =
    let u : length a ≤ 1500 = grind arith in let v : length b ≤ 1500 = grind arith in
    let p = length-append a (from_certificates (b ∷ [])) in let q = length-append b (from_certificates []) in omega arith
certificate_exact (a ∷ (b ∷ (c ∷ cs))) h = never (sym h)

module _ {H : Type 0} (K : Schedule H) (P : Protection) where
  -- ---- what is held stays in order
  held_keyed : (old : Option Keying) (k : Keying) → Held P old → Octets k.material → Held P (keyed_with P old k)
  held_keyed old k h o = go (P.serves k.suite) (eqb (length k.material) (P.size k.suite)) refl refl
    where
      go : (b1 b2 : Bool) → P.serves k.suite ≡ b1 → eqb (length k.material) (P.size k.suite) ≡ b2 → Held P (cond (b1 && b2) (Some k) old)
      go true true p q = record { served = p; whole = eqb-true _ _ q; octets = o }
      go true false p q = h
      go false b2 p q = h

  module _ (kl : ScheduleLaws K) where
    held : (f : List ℕ) (e : End H) (d : Deed) → Held P e.protection → Held P (perform K P f e d).end.protection
    held f e waits h = h
    held f e halts h = h
    held f e closes h = h
    held f e (raises i n) h = h
    held f e client_changes h = h
    held f e server_changes h = h
    held f e (buffers x) h = h
    held f e (releases x) h = h
    held f e (takes_client_hello v u m rest) h = h
    held f e (takes_server_hello v u m rest) h = h
    held f e (takes_done m rest) h = h
    held f e keeps_certificates h = h
    held f e keeps_signature h = h
    held f e keeps_wrapped h = h
    held f e fails_check h = h
    held f e (client_opens m) h = h
    held f e (server_opens m) h = h
    held f e (greets v) h = h
    held f e (offers p) h = h
    held f e (trusts_certificates m rest) h = h
    held f e (trusts_signature m rest) h = h
    held f e (exchanges p w) h = held_keyed e.protection _ h (kl.material_octets _ _ _ _)
    held f e (unwraps p m rest) h = held_keyed e.protection _ h (kl.material_octets _ _ _ _)
    held f e (sends x) h = h

    pub held_step : (e : End H) (c : Call) → Held P e.protection → Held P (step K P e c).end.protection
    held_step e c h =
        step_by K P e (λ o. Held P o.end.protection) c
        (record { refused = λ r. h; wants = λ l. h; done = λ n f d l g t _ _. held f e d h; plain = λ n f k x l b g _ _ _. held f e (on_content e k x) h; under = λ n f k x l b g _ _ _ _. held f (one_read K e) (on_content (one_read K e) k x) h })

    -- ---- the space for what is written
    module _ (law : Lawful P) where
      sealed_room : (q : Option Keying) (n k : ℕ) (x f : List ℕ) → Held P q → Sealable n k x f → length (sealed_with P q n k x f) ≤ length x + growth
      sealed_room None n k x f h o = omega arith
      sealed_room (Some q) n k x f h o = law.grows q n k x f h o

      framed-length : (k : ℕ) (x rest : List ℕ) → length (framed k x ++ rest) ≡ 5 + length x + length rest
      framed-length k x rest = let h = length-append x rest in omega arith

      put_room : (f : List ℕ) (e : End H) (q : Option Keying) (k : ℕ) (x : List ℕ) (b : Bool) → e.writes_protected ≡ b → Held P q → k < 256 → e.writes ≤ send_limit → Sendable x f → length (flat P q (put f e k x ∷ [])) ≤ send_space (length x)
      put_room f e q k x true w h i n o = rw w (let s = sealed_room q e.writes k x f h (sealable e.writes k x f (omega arith) i o) in let l = framed-length k (sealed_with P q e.writes k x f) [] in omega arith)
      put_room f e q k x false w h i n o = rw w (let l = framed-length k x [] in omega arith)

      alert_sendable : (l n : ℕ) (f : List ℕ) → l < 256 → n < 256 → length f ≡ fresh_size → Octets f → Sendable (alerting l n) f
      alert_sendable l n f i j w o = record { some_content = lit≤ tt; not_long = lit≤ tt; fresh_enough = w; x_octets = (i, (j, tt)); fresh_octets = o }

      finished_sendable : (v f : List ℕ) → length v ≡ 12 → Octets v → length f ≡ fresh_size → Octets f → Sendable (finished v) f
      finished_sendable v f l o w p = record { some_content = omega arith; not_long = omega arith; fresh_enough = w; x_octets = (lit≤ tt, (omega arith, (omega arith, (omega arith, o)))); fresh_octets = p }

      finished_room : (q : Option Keying) (v f : List ℕ) → Held P q → length v ≡ 12 → Octets v → length f ≡ fresh_size → Octets f → length (flat P q (first_sealed (finished v) f ∷ [])) ≤ 2069
      finished_room q v f h l o w p =
          let s = sealed_room q 0 handshake_kind (finished v) f h (sealable 0 handshake_kind (finished v) f (lit≤ tt) (lit≤ tt) (finished_sendable v f l o w p)) in
          let r = framed-length handshake_kind (sealed_with P q 0 handshake_kind (finished v) f) [] in omega arith

      bare_room : (q : Option Keying) (m : List ℕ) (ws : List Write) → length (flat P q (bare handshake_kind m ∷ ws)) ≡ 5 + length m + length (flat P q ws)
      bare_room q m ws = framed-length handshake_kind m (flat P q ws)

      flight_room : (q : Option Keying) (p : Parts) (u : ℕ) → length p.random ≡ 32 → length p.session ≡ 32 → parts_fit ServerFlight p ≡ true → length (flat P q (in_records (flight p u))) ≤ 4096
      flight_room q p u r i h =
          let c : certificates_fit p.certificates ≡ true = grind arith in
          let g : length p.signature ≤ 512 = grind arith in
          let a1 = server_hello_exact p.random p.session u in let a2 = certificate_exact p.certificates c in let a3 = exchange_exact p.signature in
          let b1 = bare_room q (server_hello p.random p.session u) (in_records (certificate p.certificates ∷ (server_key_exchange p.signature ∷ (server_hello_done ∷ [])))) in
          let b2 = bare_room q (certificate p.certificates) (in_records (server_key_exchange p.signature ∷ (server_hello_done ∷ []))) in
          let b3 = bare_room q (server_key_exchange p.signature) (in_records (server_hello_done ∷ [])) in
          let b4 = bare_room q server_hello_done [] in
          omega arith

      room : (f : List ℕ) (e : End H) (d : Deed) → length e.suites ≤ suite_limit → Held P e.protection → e.writes ≤ send_limit → Fits K e d → (d ≡ waits) ⊎ (length f ≡ fresh_size) → Octets f → SendsOctets d → FindsRoom P (perform K P f e d)
      room f e d s h n g (inl w) o x = rw w (inl (lit≤ tt))
      room f e waits s h n g (inr w) o x = inl (lit≤ tt)
      room f e halts s h n g (inr w) o x = inl (lit≤ tt)
      room f e closes s h n g (inr w) o x = inl (let k = put_room f e e.protection alert_kind (alerting 1 0) _ refl h (lit≤ tt) n (alert_sendable 1 0 f (lit≤ tt) (lit≤ tt) w o) in omega arith)
      room f e (raises i a) s h n g (inr w) o x = inl (let k = put_room f e e.protection alert_kind (alerting 2 a) _ refl h (lit≤ tt) n (alert_sendable 2 a f (lit≤ tt) g.1 w o) in omega arith)
      room f e client_changes s h n g (inr w) o x = inl (lit≤ tt)
      room f e server_changes s h n g (inr w) o x = inl (lit≤ tt)
      room f e (buffers y) s h n g (inr w) o x = inl (lit≤ tt)
      room f e (releases y) s h n g (inr w) o x = inl (lit≤ tt)
      room f e (takes_client_hello v u m rest) s h n g (inr w) o x = inl (lit≤ tt)
      room f e (takes_server_hello v u m rest) s h n g (inr w) o x = inl (lit≤ tt)
      room f e (takes_done m rest) s h n g (inr w) o x = inl (lit≤ tt)
      room f e keeps_certificates s h n g (inr w) o x = inl (lit≤ tt)
      room f e keeps_signature s h n g (inr w) o x = inl (lit≤ tt)
      room f e keeps_wrapped s h n g (inr w) o x = inl (lit≤ tt)
      room f e fails_check s h n g (inr w) o x = inl (let k = put_room f e e.protection alert_kind (alerting 2 51) _ refl h (lit≤ tt) n (alert_sendable 2 51 f (lit≤ tt) (lit≤ tt) w o) in omega arith)
      room f e (client_opens m) s h n g (inr w) o x = inl (lit≤ tt)
      room f e (server_opens m) s h n g (inr w) o x = inl (let k = finished_room e.protection (K.verify_data Server e.master (absorbed K e.transcript (m ∷ []))) f h (kl.verify_length _ _ _) (kl.verify_octets _ _ _) w o in omega arith)
      room f e (greets v) s h n g (inr w) o x = inl (let k = client_hello_exact v e.suites in let z = bare_room e.protection (client_hello v e.suites) [] in let l = g.1 in omega arith)
      room f e (offers p) s h n g (inr w) o x = inl (flight_room e.protection p e.suite g.1 g.2 g.3)
      room f e (trusts_certificates m rest) s h n g (inr w) o x = inl (lit≤ tt)
      room f e (trusts_signature m rest) s h n g (inr w) o x = inl (lit≤ tt)
      room f e (exchanges p w') s h n g (inr w) o x = inl (let e' = keyed K P p e in let y = client_key_exchange w' in let v = K.verify_data Client e'.master (absorbed K e'.transcript (y ∷ [])) in
          let k = finished_room e'.protection v f (held_keyed e.protection _ h (kl.material_octets _ _ _ _)) (kl.verify_length _ _ _) (kl.verify_octets _ _ _) w o in let z = exchange_exact w' in let b = bare_room e'.protection y (changing ∷ (first_sealed (finished v) f ∷ [])) in let l = g.1 in omega arith)
      room f e (unwraps p m rest) s h n g (inr w) o x = inl (lit≤ tt)
      room f e (sends y) s h n g (inr w) o x = inr (y, refl, put_room f e e.protection data_kind y _ refl h (lit≤ tt) n (record { some_content = g.1; not_long = g.2; fresh_enough = w; x_octets = x; fresh_octets = o }))

      pub room_step : (e : End H) (c : Call) → length e.suites ≤ suite_limit → Held P e.protection → InLimits e → BringsOctets c → FindsRoom P (step K P e c)
      room_step e c s h n o =
          step_by K P e (FindsRoom P) c
          (record {
            refused = λ r. inl (lit≤ tt);
            wants = λ l. inl (lit≤ tt);
            done = λ _ f d l g t w b. room f e d s h (n.writes_fit l) g w (b o).0 (b o).1;
            plain = λ _ f k x l b g r w q. room f e (on_content e k x) s h (n.writes_fit l) g (inr w) (q o) (content_sends e k x);
            under = λ _ f k x l b g r w q _. room f (one_read K e) (on_content (one_read K e) k x) s h (n.writes_fit l) g (inr w) (q o) (content_sends (one_read K e) k x);
          })
