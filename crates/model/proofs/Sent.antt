-- What a run says was sent are the readings of its accepted sends.
-- the reading that a deed sends
use Rattle.std.proofs.Common.{◌≡◌, ℕ, ◌+◌, Bool, true, false, cond, leb, List, [], ◌∷◌, ◌++◌, Some, None, Ok, Err, Option, Result, sym, refl, ap, ◌∙◌, ap₂}
use Rattle.octets.specs.declared.role.Role.{Role}
use Rattle.octets.specs.declared.role.Role.TheVariants.{Client, Server}
use Rattle.records.specs.declared.fault.Layer.TheVariants.{Record as AtRecord}
use Rattle.records.specs.Kinds.{known_kind}
use Rattle.records.specs.Records.{Received, more, faulty, whole, received, limit_of}
use Rattle.protection.specs.declared.error.OpenError.{OpenError}
use Rattle.handshake.specs.Frames.{next}
use Rattle.model.specs.declared.refusal.Refusal.{Refusal}
use Rattle.model.specs.Limits.{read_limit}
use Rattle.model.specs.Schedule.{Schedule}
use Rattle.model.specs.Protections.{Protection, opened_with}
use Rattle.model.specs.Endpoint.{End, Call, hand_in, turn, answer, look, send, close, with_in}
use Rattle.model.specs.Outcomes.{Outcome}
use Rattle.model.specs.Deeds.{Deed, waits, halts, closes, raises, client_changes, server_changes, buffers, releases, takes_client_hello, takes_server_hello, takes_done, keeps_certificates, keeps_signature, keeps_wrapped, fails_check, client_opens, server_opens, greets, offers, trusts_certificates, trusts_signature, exchanges, unwraps, sends, perform}
use Rattle.model.specs.Refusals.{refusal}
use Rattle.model.specs.Contents.{on_content}
use Rattle.model.specs.Turns.{turned}
use Rattle.model.specs.Answers.{answered}
use Rattle.model.specs.Steps.{on_opening, on_record, taken, act, step}
use Rattle.model.specs.Sends.{brought}
use Rattle.model.specs.Runs.{Run, newly_made, by, sent_by, after, past}
use Rattle.model.proofs.Fronts.{never}
use Rattle.model.proofs.Fits.{content_by, ordinary}
use Rattle.model.proofs.Decisions.{answered_ordinary, turned_ordinary}
use Rattle.model.proofs.Accepting.{accepted, acted_as, refused_as}

abbrev sent_of : Deed → List (List ℕ)
sent_of waits = []
sent_of halts = []
sent_of closes = []
sent_of (raises l n) = []
sent_of client_changes = []
sent_of server_changes = []
sent_of (buffers x) = []
sent_of (releases x) = []
sent_of (takes_client_hello r u m rest) = []
sent_of (takes_server_hello r u m rest) = []
sent_of (takes_done m rest) = []
sent_of keeps_certificates = []
sent_of keeps_signature = []
sent_of keeps_wrapped = []
sent_of fails_check = []
sent_of (client_opens m) = []
sent_of (server_opens m) = []
sent_of (greets r) = []
sent_of (offers p) = []
sent_of (trusts_certificates m rest) = []
sent_of (trusts_signature m rest) = []
sent_of (exchanges p w) = []
sent_of (unwraps p m rest) = []
sent_of (sends x) = x ∷ []

ordinary_sent : (d : Deed) → ordinary d ≡ true → sent_of d ≡ []
ordinary_sent waits q = refl
ordinary_sent halts q = refl
ordinary_sent closes q = refl
ordinary_sent (raises l n) q = refl
ordinary_sent client_changes q = refl
ordinary_sent server_changes q = refl
ordinary_sent (buffers x) q = refl
ordinary_sent (releases x) q = refl
ordinary_sent (takes_client_hello r u m rest) q = refl
ordinary_sent (takes_server_hello r u m rest) q = refl
ordinary_sent (takes_done m rest) q = refl
ordinary_sent keeps_certificates q = refl
ordinary_sent keeps_signature q = refl
ordinary_sent keeps_wrapped q = refl
ordinary_sent fails_check q = refl
ordinary_sent (client_opens m) q = refl
ordinary_sent (server_opens m) q = refl
ordinary_sent (greets r) q = refl
ordinary_sent (offers p) q = refl
ordinary_sent (trusts_certificates m rest) q = refl
ordinary_sent (trusts_signature m rest) q = refl
ordinary_sent (exchanges p w) q = refl
ordinary_sent (unwraps p m rest) q = refl
ordinary_sent (sends x) q = never (sym q)

content_sent : {H : Type 0} (e : End H) (k : ℕ) (x : List ℕ) → sent_of (on_content e k x) ≡ []
content_sent e k x = content_by (λ d. sent_of d ≡ []) x (record { on_waits = refl; on_halts = refl; on_closes = refl; on_raises = λ l n. refl; on_client_changes = refl; on_server_changes = refl; on_buffers = refl; on_releases = refl }) e k

module _ {H : Type 0} (K : Schedule H) (P : Protection) where
  deed_sent : (f : List ℕ) (e : End H) (d : Deed) → (perform K P f e d).sent ≡ sent_of d
  deed_sent f e waits = refl
  deed_sent f e halts = refl
  deed_sent f e closes = refl
  deed_sent f e (raises l n) = refl
  deed_sent f e client_changes = refl
  deed_sent f e server_changes = refl
  deed_sent f e (buffers x) = refl
  deed_sent f e (releases x) = refl
  deed_sent f e (takes_client_hello r u m rest) = refl
  deed_sent f e (takes_server_hello r u m rest) = refl
  deed_sent f e (takes_done m rest) = refl
  deed_sent f e keeps_certificates = refl
  deed_sent f e keeps_signature = refl
  deed_sent f e keeps_wrapped = refl
  deed_sent f e fails_check = refl
  deed_sent f e (client_opens m) = refl
  deed_sent f e (server_opens m) = refl
  deed_sent f e (greets r) = refl
  deed_sent f e (offers p) = refl
  deed_sent f e (trusts_certificates m rest) = refl
  deed_sent f e (trusts_signature m rest) = refl
  deed_sent f e (exchanges p w) = refl
  deed_sent f e (unwraps p m rest) = refl
  deed_sent f e (sends x) = refl

  record_sent : (f : List ℕ) (e : End H) (b : Bool) (k : ℕ) (x : List ℕ) → (on_record K P f e b k x).sent ≡ []
  record_sent f e false k x = deed_sent f e (on_content e k x) ∙ content_sent e k x
  record_sent f e true k x = go (leb read_limit e.reads) (opened_with P e.protection e.reads k x)
    where
      go : (b : Bool) (o : Result (List ℕ) OpenError) → (cond b (perform K P f e (raises AtRecord 10)) (on_opening K P f e k o)).sent ≡ []
      go true o = refl
      go false (Err y) = refl
      go false (Ok y) = deed_sent f (with_in true (e.reads + 1) e) (on_content (with_in true (e.reads + 1) e) k y) ∙ content_sent (with_in true (e.reads + 1) e) k y

  taken-sent : (f : List ℕ) (e : End H) (r : Received) → (taken K P f e r).sent ≡ []
  taken-sent f e more = refl
  taken-sent f e (faulty n) = refl
  taken-sent f e (whole k x) = go (known_kind k)
    where
      go : (b : Bool) → (cond b (on_record K P f e e.reads_protected k x) (perform K P f e waits)).sent ≡ []
      go true = record_sent f e e.reads_protected k x
      go false = refl

  act-sent : (e : End H) (c : Call) → (act K P e c).sent ≡ brought None c
  act-sent e (hand_in xs f out place) = taken-sent f e (received (limit_of e.reads_protected) xs)
  act-sent e (turn f out) = deed_sent f e (turned K e (next e.buffered)) ∙ ordinary_sent _ (turned_ordinary K e (next e.buffered))
  act-sent e (answer q a f out) = deed_sent f e (answered e q a) ∙ ordinary_sent _ (answered_ordinary K e q a)
  act-sent e (look q) = refl
  act-sent e (send x f out) = refl
  act-sent e (close f out) = refl

  -- what a call says it sent is the reading that an accepted send brings
  pub sent-step : (e : End H) (c : Call) → (step K P e c).sent ≡ brought (step K P e c).refused c
  sent-step e c = go (refusal e c) refl
    where
      go : (o : Option Refusal) → refusal e c ≡ o → (step K P e c).sent ≡ brought (step K P e c).refused c
      go (Some r) q = let a = refused_as K P e c r q in ap (λ (o : Outcome H). o.sent) a ∙ ap (λ (o : Outcome H). brought o.refused c) (sym a)
      go None q = ap (λ (o : Outcome H). o.sent) (acted_as K P e c q) ∙ act-sent e c ∙ ap (λ z. brought z c) (sym (accepted K P e c q))

  pub sent_run : (first : Role → End H) (r : Run) (X : Role) → (past K (step K P) first r X).sent ≡ sent_by K (step K P) first r X
  sent_run first newly_made X = refl
  sent_run first (by r Client c) Client = ap₂ (λ (a b : List (List ℕ)). a ++ b) (sent_run first r Client) (sent-step (after K (step K P) first r Client) c)
  sent_run first (by r Server c) Client = sent_run first r Client
  sent_run first (by r Client c) Server = sent_run first r Server
  sent_run first (by r Server c) Server = ap₂ (λ (a b : List (List ℕ)). a ++ b) (sent_run first r Server) (sent-step (after K (step K P) first r Server) c)
