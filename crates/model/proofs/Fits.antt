-- When a deed may be done, and that what a record's content leads to may be.
use Rattle.std.proofs.Common.{◌≡◌, ℕ, ◌<◌, ◌≤◌, Bool, true, false, cond, ◌||◌, eqb, leb, List, [], ◌∷◌, length, drop, Some, Ok, Err, sym, refl, arith, lit≤, leb-true}
use Rattle.octets.specs.declared.role.Role.TheVariants.{Client, Server}
use Rattle.octets.specs.Octets.{Octets}
use Rattle.records.specs.declared.fault.Layer.{Layer}
use Rattle.records.specs.declared.fault.Layer.TheVariants.{Record as AtRecord, Content as AtContent}
use Rattle.records.specs.declared.fault.Alert.TheVariants.{IllegalParameter}
use Rattle.records.specs.declared.alert.AlertEffect.TheVariants.{PassBy, Close, Die}
use Rattle.records.specs.Faults.{listed}
use Rattle.records.specs.Kinds.{change_kind, alert_kind, handshake_kind, data_kind}
use Rattle.records.specs.Alerts.{content_fault, judged}
use Rattle.protection.specs.Limits.{content_limit}
use Rattle.handshake.specs.Parts.{is_none, among}
use Rattle.handshake.specs.Hellos.{read_client_hello, read_server_hello}
use Rattle.model.specs.declared.stage.Stage.{Stage}
use Rattle.model.specs.declared.stage.Stage.TheVariants.{AskClientRandom, AwaitServerHello, AwaitCertificate, AskCertificates, AwaitServerKeyExchange, AskSignature, AwaitServerHelloDone, AskWrapping, ClientAwaitChange, ClientAwaitFinished, AwaitClientHello, AskServerFlight, AwaitClientKeyExchange, AskUnwrapping, ServerAwaitChange, ServerAwaitFinished, Open, Closed, Dead}
use Rattle.model.specs.declared.question.Question.TheVariants.{ServerFlight}
use Rattle.model.specs.Stages.{is_open}
use Rattle.model.specs.Limits.{send_limit, random_size, session_size, wrapping_limit}
use Rattle.model.specs.Messages.{first_shared, offer_in, offer_random, choice_in, choice_random}
use Rattle.model.specs.Schedule.{Schedule}
use Rattle.model.specs.Endpoint.{End}
use Rattle.model.specs.Deeds.{Deed, waits, halts, closes, raises, client_changes, server_changes, buffers, releases, takes_client_hello, takes_server_hello, takes_done, keeps_certificates, keeps_signature, keeps_wrapped, fails_check, client_opens, server_opens, greets, offers, trusts_certificates, trusts_signature, exchanges, unwraps, sends, finished_of}
use Rattle.model.specs.Refusals.{parts_fit}
use Rattle.model.specs.Contents.{on_change, is_one, on_effect, on_alert, on_kind, on_content}
use Rattle.model.proofs.Fronts.{can_die, never, none_is, open_is}

-- ---- when a deed may be done
module _ {H : Type 0} (K : Schedule H) where
  abbrev pub Fits : End H → Deed → Type 0
  Fits e waits = Unit {0}
  Fits e halts = can_die e.stage ≡ true
  Fits e closes = Unit {0}
  Fits e (raises l n) = (can_die e.stage ≡ true) × (n < 256)
  Fits e client_changes = (e.stage ≡ ClientAwaitChange) × (e.buffered ≡ [])
  Fits e server_changes = (e.stage ≡ ServerAwaitChange) × (e.buffered ≡ [])
  Fits e (buffers x) = (is_open e.stage ≡ false) × (length x ≤ content_limit)
  Fits e (releases x) = e.stage ≡ Open
  Fits e (takes_client_hello r u m rest) = (e.stage ≡ AwaitClientHello) × (offer_random (read_client_hello (drop 4 m)) ≡ r) × (first_shared (offer_in (read_client_hello (drop 4 m))) e.suites ≡ Some u) × (length rest ≤ length e.buffered)
  Fits e (takes_server_hello r u m rest) = (e.stage ≡ AwaitServerHello) × (choice_random (read_server_hello (drop 4 m)) ≡ r) × (choice_in (read_server_hello (drop 4 m)) ≡ u) × (among u e.suites ≡ true) × (length rest ≤ length e.buffered)
  Fits e (takes_done m rest) = (e.stage ≡ AwaitServerHelloDone) × (length rest ≤ length e.buffered)
  Fits e keeps_certificates = e.stage ≡ AwaitCertificate
  Fits e keeps_signature = e.stage ≡ AwaitServerKeyExchange
  Fits e keeps_wrapped = e.stage ≡ AwaitClientKeyExchange
  Fits e fails_check = can_die e.stage ≡ true
  Fits e (client_opens m) = (e.stage ≡ ClientAwaitFinished) × (e.buffered ≡ m) × (m ≡ finished_of K Server e)
  Fits e (server_opens m) = (e.stage ≡ ServerAwaitFinished) × (e.buffered ≡ m) × (m ≡ finished_of K Client e)
  Fits e (greets r) = (e.stage ≡ AskClientRandom) × (length r ≡ random_size)
  Fits e (offers p) = (e.stage ≡ AskServerFlight) × (length p.random ≡ random_size) × (length p.session ≡ session_size) × (parts_fit ServerFlight p ≡ true)
  Fits e (trusts_certificates m rest) = (e.stage ≡ AskCertificates) × (length rest ≤ length e.buffered)
  Fits e (trusts_signature m rest) = (e.stage ≡ AskSignature) × (length rest ≤ length e.buffered)
  Fits e (exchanges q w) = (e.stage ≡ AskWrapping) × (length w ≤ wrapping_limit)
  Fits e (unwraps q m rest) = (e.stage ≡ AskUnwrapping) × (length rest ≤ length e.buffered)
  Fits e (sends x) = (e.stage ≡ Open) × (1 ≤ length x) × (length x ≤ content_limit) × (e.writes < send_limit)

-- a deed that only a record handed in can bring about
abbrev pub handed : Deed → Bool
handed waits = false
handed halts = false
handed closes = false
handed (raises l n) = false
handed client_changes = true
handed server_changes = true
handed (buffers x) = true
handed (releases x) = true
handed (takes_client_hello r u m rest) = false
handed (takes_server_hello r u m rest) = false
handed (takes_done m rest) = false
handed keeps_certificates = false
handed keeps_signature = false
handed keeps_wrapped = false
handed fails_check = false
handed (client_opens m) = false
handed (server_opens m) = false
handed (greets r) = false
handed (offers p) = false
handed (trusts_certificates m rest) = false
handed (trusts_signature m rest) = false
handed (exchanges q w) = false
handed (unwraps q m rest) = false
handed (sends x) = false

-- a deed that a turn or an answer can bring about
abbrev pub ordinary : Deed → Bool
ordinary waits = true
ordinary halts = true
ordinary closes = true
ordinary (raises l n) = true
ordinary client_changes = false
ordinary server_changes = false
ordinary (buffers x) = false
ordinary (releases x) = false
ordinary (takes_client_hello r u m rest) = true
ordinary (takes_server_hello r u m rest) = true
ordinary (takes_done m rest) = true
ordinary keeps_certificates = true
ordinary keeps_signature = true
ordinary keeps_wrapped = true
ordinary fails_check = true
ordinary (client_opens m) = true
ordinary (server_opens m) = true
ordinary (greets r) = true
ordinary (offers p) = true
ordinary (trusts_certificates m rest) = true
ordinary (trusts_signature m rest) = true
ordinary (exchanges q w) = true
ordinary (unwraps q m rest) = true
ordinary (sends x) = false

-- a reading that is sent is octets
abbrev pub SendsOctets : Deed → Type 0
SendsOctets waits = Unit {0}
SendsOctets halts = Unit {0}
SendsOctets closes = Unit {0}
SendsOctets (raises l n) = Unit {0}
SendsOctets client_changes = Unit {0}
SendsOctets server_changes = Unit {0}
SendsOctets (buffers x) = Unit {0}
SendsOctets (releases x) = Unit {0}
SendsOctets (takes_client_hello r u m rest) = Unit {0}
SendsOctets (takes_server_hello r u m rest) = Unit {0}
SendsOctets (takes_done m rest) = Unit {0}
SendsOctets keeps_certificates = Unit {0}
SendsOctets keeps_signature = Unit {0}
SendsOctets keeps_wrapped = Unit {0}
SendsOctets fails_check = Unit {0}
SendsOctets (client_opens m) = Unit {0}
SendsOctets (server_opens m) = Unit {0}
SendsOctets (greets r) = Unit {0}
SendsOctets (offers p) = Unit {0}
SendsOctets (trusts_certificates m rest) = Unit {0}
SendsOctets (trusts_signature m rest) = Unit {0}
SendsOctets (exchanges q w) = Unit {0}
SendsOctets (unwraps q m rest) = Unit {0}
SendsOctets (sends x) = Octets x

pub ordinary_handed : (d : Deed) → ordinary d ≡ true → handed d ≡ false
ordinary_handed d q = grind arith

pub ordinary_sends : (d : Deed) → ordinary d ≡ true → SendsOctets d
ordinary_sends waits z = tt
ordinary_sends halts z = tt
ordinary_sends closes z = tt
ordinary_sends (raises l n) z = tt
ordinary_sends client_changes z = tt
ordinary_sends server_changes z = tt
ordinary_sends (buffers x) z = tt
ordinary_sends (releases x) z = tt
ordinary_sends (takes_client_hello r u m rest) z = tt
ordinary_sends (takes_server_hello r u m rest) z = tt
ordinary_sends (takes_done m rest) z = tt
ordinary_sends keeps_certificates z = tt
ordinary_sends keeps_signature z = tt
ordinary_sends keeps_wrapped z = tt
ordinary_sends fails_check z = tt
ordinary_sends (client_opens m) z = tt
ordinary_sends (server_opens m) z = tt
ordinary_sends (greets r) z = tt
ordinary_sends (offers p) z = tt
ordinary_sends (trusts_certificates m rest) z = tt
ordinary_sends (trusts_signature m rest) z = tt
ordinary_sends (exchanges q w) z = tt
ordinary_sends (unwraps q m rest) z = tt
ordinary_sends (sends x) z = never (sym z)

-- the four things that an alert received can lead to
pub pair_by : (Q : Deed → Type 0) → Q halts → Q closes → Q waits → Q (raises AtContent 47) → (l n : ℕ) → Q (on_effect (judged l n))
pair_by Q a b c d l n = go (listed n) (eqb l 2) (eqb l 1) (eqb n 90 || eqb n 100)
  where
    go : (b1 b2 b3 b4 : Bool) → Q (on_effect (cond b1 (cond b2 (Ok Die) (cond b3 (Ok (cond b4 PassBy Close)) (Err (content_fault IllegalParameter)))) (Err (content_fault IllegalParameter))))
    go true true b3 b4 = a
    go true false true true = c
    go true false true false = b
    go true false false b4 = d
    go false b2 b3 b4 = d

module _ {H : Type 0} (K : Schedule H) where
  change_fits : (e : End H) (t : Stage) → can_die e.stage ≡ true → e.stage ≡ t → e.buffered ≡ [] → Fits K e (on_change t)
  change_fits e AskClientRandom v q p = (v, lit≤ tt)
  change_fits e AwaitServerHello v q p = (v, lit≤ tt)
  change_fits e AwaitCertificate v q p = (v, lit≤ tt)
  change_fits e AskCertificates v q p = (v, lit≤ tt)
  change_fits e AwaitServerKeyExchange v q p = (v, lit≤ tt)
  change_fits e AskSignature v q p = (v, lit≤ tt)
  change_fits e AwaitServerHelloDone v q p = (v, lit≤ tt)
  change_fits e AskWrapping v q p = (v, lit≤ tt)
  change_fits e ClientAwaitChange v q p = (q, p)
  change_fits e ClientAwaitFinished v q p = (v, lit≤ tt)
  change_fits e AwaitClientHello v q p = (v, lit≤ tt)
  change_fits e AskServerFlight v q p = (v, lit≤ tt)
  change_fits e AwaitClientKeyExchange v q p = (v, lit≤ tt)
  change_fits e AskUnwrapping v q p = (v, lit≤ tt)
  change_fits e ServerAwaitChange v q p = (q, p)
  change_fits e ServerAwaitFinished v q p = (v, lit≤ tt)
  change_fits e Open v q p = (v, lit≤ tt)
  change_fits e Closed v q p = (v, lit≤ tt)
  change_fits e Dead v q p = (v, lit≤ tt)

  alert_fits : (e : End H) (x : List ℕ) → can_die e.stage ≡ true → Fits K e (on_alert x)
  alert_fits e [] v = (v, lit≤ tt)
  alert_fits e (l ∷ []) v = (v, lit≤ tt)
  alert_fits e (l ∷ (n ∷ [])) v = pair_by (Fits K e) v tt tt (v, lit≤ tt) l n
  alert_fits e (l ∷ (n ∷ (x ∷ xs))) v = (v, lit≤ tt)

  kind_fits : (e : End H) (k : ℕ) (x : List ℕ) → can_die e.stage ≡ true → length x ≤ content_limit → Fits K e (on_kind e k x)
  kind_fits e k x v l = go (eqb k change_kind) (eqb k alert_kind) (eqb k handshake_kind) (eqb k data_kind)
    where
      changes : (b1 b2 : Bool) → is_none e.buffered ≡ b2 → Fits K e (cond b1 (cond b2 (on_change e.stage) (raises AtContent 10)) (raises AtContent 50))
      changes true true q = change_fits e e.stage v refl (none_is _ q)
      changes true false q = (v, lit≤ tt)
      changes false b2 q = (v, lit≤ tt)

      talks : (b : Bool) → is_open e.stage ≡ b → Fits K e (cond b (raises AtContent 10) (buffers x))
      talks true q = (v, lit≤ tt)
      talks false q = (q, l)

      reads_data : (b : Bool) → is_open e.stage ≡ b → Fits K e (cond b (releases x) (raises AtContent 10))
      reads_data true q = open_is _ q
      reads_data false q = (v, lit≤ tt)

      go : (b1 b2 b3 b4 : Bool) → Fits K e (cond b1 (cond (is_one x) (cond (is_none e.buffered) (on_change e.stage) (raises AtContent 10)) (raises AtContent 50)) (cond b2 (on_alert x) (cond b3 (cond (is_open e.stage) (raises AtContent 10) (buffers x)) (cond b4 (cond (is_open e.stage) (releases x) (raises AtContent 10)) waits))))
      go true b2 b3 b4 = changes (is_one x) (is_none e.buffered) refl
      go false true b3 b4 = alert_fits e x v
      go false false true b4 = talks (is_open e.stage) refl
      go false false false true = reads_data (is_open e.stage) refl
      go false false false false = tt

  pub content_fits : (e : End H) (k : ℕ) (x : List ℕ) → can_die e.stage ≡ true → Fits K e (on_content e k x)
  content_fits e k x v = go (is_none x) (leb (length x) content_limit) refl
    where
      go : (b1 b2 : Bool) → leb (length x) content_limit ≡ b2 → Fits K e (cond b1 (raises AtRecord 50) (cond b2 (on_kind e k x) (raises AtRecord 22)))
      go true b2 q = (v, lit≤ tt)
      go false true q = kind_fits e k x v (leb-true _ _ q)
      go false false q = (v, lit≤ tt)

-- ---- the deeds that a record's content can lead to
pub record Contents (Q : Deed → Type 0) (x : List ℕ) : Type 0 where
  pub on_waits : Q waits
  pub on_halts : Q halts
  pub on_closes : Q closes
  pub on_raises : (l : Layer) (n : ℕ) → Q (raises l n)
  pub on_client_changes : Q client_changes
  pub on_server_changes : Q server_changes
  pub on_buffers : Q (buffers x)
  pub on_releases : Q (releases x)

module _ (Q : Deed → Type 0) (x : List ℕ) (c : Contents Q x) where
  change_by : (t : Stage) → Q (on_change t)
  change_by AskClientRandom = c.on_raises AtContent 10
  change_by AwaitServerHello = c.on_raises AtContent 10
  change_by AwaitCertificate = c.on_raises AtContent 10
  change_by AskCertificates = c.on_raises AtContent 10
  change_by AwaitServerKeyExchange = c.on_raises AtContent 10
  change_by AskSignature = c.on_raises AtContent 10
  change_by AwaitServerHelloDone = c.on_raises AtContent 10
  change_by AskWrapping = c.on_raises AtContent 10
  change_by ClientAwaitChange = c.on_client_changes
  change_by ClientAwaitFinished = c.on_raises AtContent 10
  change_by AwaitClientHello = c.on_raises AtContent 10
  change_by AskServerFlight = c.on_raises AtContent 10
  change_by AwaitClientKeyExchange = c.on_raises AtContent 10
  change_by AskUnwrapping = c.on_raises AtContent 10
  change_by ServerAwaitChange = c.on_server_changes
  change_by ServerAwaitFinished = c.on_raises AtContent 10
  change_by Open = c.on_raises AtContent 10
  change_by Closed = c.on_raises AtContent 10
  change_by Dead = c.on_raises AtContent 10

  alert_by : (y : List ℕ) → Q (on_alert y)
  alert_by [] = c.on_raises AtContent 50
  alert_by (l ∷ []) = c.on_raises AtContent 50
  alert_by (l ∷ (n ∷ [])) = pair_by Q c.on_halts c.on_closes c.on_waits (c.on_raises AtContent 47) l n
  alert_by (l ∷ (n ∷ (z ∷ zs))) = c.on_raises AtContent 50

  pub content_by : {H : Type 0} (e : End H) (k : ℕ) → Q (on_content e k x)
  content_by e k = go (is_none x) (leb (length x) content_limit) (eqb k change_kind) (eqb k alert_kind) (eqb k handshake_kind) (eqb k data_kind) (is_one x) (is_none e.buffered) (is_open e.stage)
    where
      go : (c1 c2 b1 b2 b3 b4 d1 d2 d3 : Bool) → Q (cond c1 (raises AtRecord 50) (cond c2 (cond b1 (cond d1 (cond d2 (on_change e.stage) (raises AtContent 10)) (raises AtContent 50)) (cond b2 (on_alert x) (cond b3 (cond d3 (raises AtContent 10) (buffers x)) (cond b4 (cond d3 (releases x) (raises AtContent 10)) waits)))) (raises AtRecord 22)))
      go true c2 b1 b2 b3 b4 d1 d2 d3 = c.on_raises AtRecord 50
      go false false b1 b2 b3 b4 d1 d2 d3 = c.on_raises AtRecord 22
      go false true true b2 b3 b4 true true d3 = change_by e.stage
      go false true true b2 b3 b4 true false d3 = c.on_raises AtContent 10
      go false true true b2 b3 b4 false d2 d3 = c.on_raises AtContent 50
      go false true false true b3 b4 d1 d2 d3 = alert_by x
      go false true false false true b4 d1 d2 true = c.on_raises AtContent 10
      go false true false false true b4 d1 d2 false = c.on_buffers
      go false true false false false true d1 d2 true = c.on_releases
      go false true false false false true d1 d2 false = c.on_raises AtContent 10
      go false true false false false false d1 d2 d3 = c.on_waits

-- it sends no reading
pub content_sends : {H : Type 0} (e : End H) (k : ℕ) (x : List ℕ) → SendsOctets (on_content e k x)
content_sends e k x = content_by SendsOctets x (record { on_waits = tt; on_halts = tt; on_closes = tt; on_raises = λ l n. tt; on_client_changes = tt; on_server_changes = tt; on_buffers = tt; on_releases = tt }) e k
