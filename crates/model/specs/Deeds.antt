-- What an accepted call does: one case for each effect, and no tests. Which of them a call does is decided elsewhere.
use Rattle.std.specs.Prelude.{ℕ, ◌-◌, true, List, [], ◌∷◌, ◌++◌, length, replicate}
use Rattle.octets.specs.declared.role.Role.{Role}
use Rattle.octets.specs.declared.role.Role.TheVariants.{Client, Server}
use Rattle.records.specs.declared.fault.Layer.{Layer}
use Rattle.records.specs.declared.fault.Layer.TheVariants.{Stage as AtStage}
use Rattle.records.specs.Kinds.{alert_kind, handshake_kind, change_kind, data_kind}
use Rattle.model.specs.declared.stage.Stage.TheVariants.{AwaitServerHello, AwaitCertificate, AskCertificates, AwaitServerKeyExchange, AskSignature, AwaitServerHelloDone, AskWrapping, ClientAwaitChange, ClientAwaitFinished, AskServerFlight, AwaitClientKeyExchange, AskUnwrapping, ServerAwaitChange, ServerAwaitFinished, Closed, Dead}
use Rattle.protection.specs.Limits.{material_limit}
use Rattle.model.specs.Messages.{client_hello, server_hello, certificate, server_key_exchange, server_hello_done, client_key_exchange, finished}
use Rattle.model.specs.Schedule.{Schedule, absorbed}
use Rattle.model.specs.Protections.{Protection, keyed_with}
use Rattle.model.specs.Endpoint.{End, Parts, no_keys, with_stage, with_buffer, with_transcript, with_hello, with_keys, with_in, with_out, numbered, gone, opened_end}
use Rattle.model.specs.Outcomes.{Write, bare, under, Outcome, put, writing, faulting, joining, releasing, sending, answering, making, comparing}

-- one case for each effect
pub data Deed : Type 0 where
  -- nothing; dead without a word; closed with close_notify; an alert found at a layer
  waits halts closes : Deed
  raises : Layer → ℕ → Deed
  -- from records: a change taken, octets buffered, application data released
  client_changes server_changes : Deed
  buffers : List ℕ → Deed
  releases : List ℕ → Deed
  -- a message turned: what it tells, itself, and what follows it in the buffer
  takes_client_hello : List ℕ → ℕ → List ℕ → List ℕ → Deed
  takes_server_hello : List ℕ → ℕ → List ℕ → List ℕ → Deed
  takes_done : List ℕ → List ℕ → Deed
  -- a message that stays in the buffer while its question is open
  keeps_certificates keeps_signature keeps_wrapped : Deed
  -- the check value differs; the last message turned
  fails_check : Deed
  client_opens : List ℕ → Deed
  server_opens : List ℕ → Deed
  -- a yes to questions 1 to 6: what it brings; at 3, 4 and 6 the message in question and what follows it
  greets : List ℕ → Deed
  offers : Parts → Deed
  trusts_certificates : List ℕ → List ℕ → Deed
  trusts_signature : List ℕ → List ℕ → Deed
  exchanges : List ℕ → List ℕ → Deed
  unwraps : List ℕ → List ℕ → List ℕ → Deed
  -- a reading sent
  sends : List ℕ → Deed

-- an alert's content: its level and its number
abbrev pub alerting : ℕ → ℕ → List ℕ
alerting level n = level ∷ n ∷ []

-- the change record is always bare
abbrev pub changing : Write
changing = bare change_kind (1 ∷ [])

-- the first record under protection
abbrev pub first_sealed : List ℕ → List ℕ → Write
first_sealed m fresh = under (record { number = 0; kind = handshake_kind; content = m }) fresh

-- the messages of the server's first flight
abbrev pub flight : Parts → ℕ → List (List ℕ)
flight p s = server_hello p.random p.session s ∷ (certificate p.certificates ∷ (server_key_exchange p.signature ∷ (server_hello_done ∷ [])))

-- each message in a record of its own, bare
abbrev pub in_records : List (List ℕ) → List Write
in_records [] = []
in_records (m ∷ ms) = bare handshake_kind m ∷ in_records ms

-- the place for keys with a premaster and material in it
abbrev pub key_block : List ℕ → List ℕ → List ℕ
key_block p m = p ++ (m ++ replicate {A = ℕ} (material_limit - length m) 0)

module _ {H : Type 0} where
  -- the place for keys is zeros again
  abbrev pub wiped : End H → End H
  wiped e = with_keys e.protection e.master no_keys e

module _ {H : Type 0} (K : Schedule H) where
  -- messages join the transcript
  abbrev pub hearing : List (List ℕ) → End H → End H
  hearing ms e = with_transcript (absorbed K e.transcript ms) e

  -- the Finished that a sender makes of the master secret and the messages so far
  abbrev pub finished_of : Role → End H → List ℕ
  finished_of X e = finished (K.verify_data X e.master e.transcript)

  module _ (P : Protection) where
    -- keys made from the premaster, in the place for keys
    abbrev pub keyed : List ℕ → End H → End H
    keyed p e =
        let m = K.master_secret p e.client_random e.server_random in
        let x = K.key_material m e.client_random e.server_random (P.size e.suite) in
        with_keys (keyed_with P e.protection (record { suite = e.suite; role = e.role; material = x })) m (key_block p x) e

    -- fresh octets, the end, the deed
    abbrev pub perform : List ℕ → End H → Deed → Outcome H
    perform f e waits = writing [] e
    perform f e halts = writing [] (gone Dead e)
    perform f e closes = writing (put f e alert_kind (alerting 1 0) ∷ []) (gone Closed (numbered e))
    perform f e (raises l n) = faulting (record { alert = n; layer = l }) (put f e alert_kind (alerting 2 n) ∷ []) (gone Dead (numbered e))
    -- records
    perform f e client_changes = writing [] (with_in true 0 (with_stage ClientAwaitFinished e))
    perform f e server_changes = writing [] (with_in true 0 (with_stage ServerAwaitFinished e))
    perform f e (buffers x) = writing [] (with_buffer (e.buffered ++ x) e)
    perform f e (releases x) = releasing x (writing [] e)
    -- messages
    perform f e (takes_client_hello r s m rest) =
        joining (m ∷ []) [] (with_buffer rest (hearing (m ∷ []) (with_stage AskServerFlight (with_hello r e.server_random s e))))
    perform f e (takes_server_hello r s m rest) =
        joining (m ∷ []) [] (with_buffer rest (hearing (m ∷ []) (with_stage AwaitCertificate (with_hello e.client_random r s e))))
    perform f e (takes_done m rest) = joining (m ∷ []) [] (with_buffer rest (hearing (m ∷ []) (with_stage AskWrapping e)))
    perform f e keeps_certificates = writing [] (with_stage AskCertificates e)
    perform f e keeps_signature = writing [] (with_stage AskSignature e)
    perform f e keeps_wrapped = writing [] (with_stage AskUnwrapping e)
    -- the last message: a value that differs was compared too
    perform f e fails_check =
        comparing [] (faulting (record { alert = 51; layer = AtStage }) (put f e alert_kind (alerting 2 51) ∷ []) (gone Dead (numbered e)))
    perform f e (client_opens m) = comparing [] (joining (m ∷ []) [] (opened_end (hearing (m ∷ []) e)))
    perform f e (server_opens m) =
        let v = finished_of Server (hearing (m ∷ []) e) in
        comparing [] (making (m ∷ []) (joining (m ∷ (v ∷ [])) (changing ∷ (first_sealed v f ∷ [])) (with_out true 1 (opened_end (hearing (m ∷ (v ∷ [])) e)))))
    -- answers
    perform f e (greets r) =
        let m = client_hello r e.suites in
        joining (m ∷ []) (in_records (m ∷ [])) (hearing (m ∷ []) (with_stage AwaitServerHello (with_hello r e.server_random e.suite e)))
    perform f e (offers p) =
        let ms = flight p e.suite in
        joining ms (in_records ms) (hearing ms (with_stage AwaitClientKeyExchange (with_hello e.client_random p.random e.suite e)))
    perform f e (trusts_certificates m rest) = joining (m ∷ []) [] (with_buffer rest (hearing (m ∷ []) (with_stage AwaitServerKeyExchange e)))
    perform f e (trusts_signature m rest) = joining (m ∷ []) [] (with_buffer rest (hearing (m ∷ []) (with_stage AwaitServerHelloDone e)))
    perform f e (exchanges p w) =
        let x = client_key_exchange w in
        let k = hearing (x ∷ []) (keyed p e) in
        let v = finished_of Client k in
        answering p (making (x ∷ []) (joining (x ∷ (v ∷ [])) (bare handshake_kind x ∷ (changing ∷ (first_sealed v f ∷ []))) (wiped (with_out true 1 (hearing (v ∷ []) (with_stage ClientAwaitChange k))))))
    perform f e (unwraps p m rest) =
        answering p (joining (m ∷ []) [] (wiped (with_buffer rest (hearing (m ∷ []) (with_stage ServerAwaitChange (keyed p e))))))
    -- a reading
    perform f e (sends x) = sending x (writing (put f e data_kind x ∷ []) (numbered e))
