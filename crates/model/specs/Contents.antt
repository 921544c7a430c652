-- What the content of a record leads to, by its kind, at a stage.
use Rattle.std.specs.Prelude.{ℕ, Bool, false, cond, ◌&&◌, List, [], ◌∷◌, length, Ok, Err, Result, ◌==◌, nat_le}
use Rattle.records.specs.declared.fault.Fault.{Fault}
use Rattle.records.specs.declared.fault.Layer.TheVariants.{Record as AtRecord, Content as AtContent}
use Rattle.records.specs.declared.alert.AlertEffect.{AlertEffect}
use Rattle.records.specs.declared.alert.AlertEffect.TheVariants.{PassBy, Close, Die}
use Rattle.records.specs.Faults.{alert_number}
use Rattle.records.specs.Alerts.{received_alert}
use Rattle.records.specs.Kinds.{alert_kind, handshake_kind, change_kind, data_kind}
use Rattle.model.specs.declared.stage.Stage.{Stage}
use Rattle.model.specs.declared.stage.Stage.TheVariants.{AskClientRandom, AwaitServerHello, AwaitCertificate, AskCertificates, AwaitServerKeyExchange, AskSignature, AwaitServerHelloDone, AskWrapping, ClientAwaitChange, ClientAwaitFinished, AwaitClientHello, AskServerFlight, AwaitClientKeyExchange, AskUnwrapping, ServerAwaitChange, ServerAwaitFinished, Open, Closed, Dead}
use Rattle.protection.specs.Limits.{content_limit}
use Rattle.handshake.specs.Parts.{is_none}
use Rattle.model.specs.Stages.{is_open}
use Rattle.model.specs.Endpoint.{End}
use Rattle.model.specs.Deeds.{Deed, waits, halts, closes, raises, client_changes, server_changes, buffers, releases}

-- ---- a change, with nothing buffered
abbrev pub on_change : Stage → Deed
on_change AskClientRandom = raises AtContent 10
on_change AwaitServerHello = raises AtContent 10
on_change AwaitCertificate = raises AtContent 10
on_change AskCertificates = raises AtContent 10
on_change AwaitServerKeyExchange = raises AtContent 10
on_change AskSignature = raises AtContent 10
on_change AwaitServerHelloDone = raises AtContent 10
on_change AskWrapping = raises AtContent 10
on_change ClientAwaitChange = client_changes
on_change ClientAwaitFinished = raises AtContent 10
on_change AwaitClientHello = raises AtContent 10
on_change AskServerFlight = raises AtContent 10
on_change AwaitClientKeyExchange = raises AtContent 10
on_change AskUnwrapping = raises AtContent 10
on_change ServerAwaitChange = server_changes
on_change ServerAwaitFinished = raises AtContent 10
on_change Open = raises AtContent 10
on_change Closed = raises AtContent 10
on_change Dead = raises AtContent 10

-- a change's content is the single octet 01
abbrev pub is_one : List ℕ → Bool
is_one [] = false
is_one (x ∷ xs) = x == 1 && is_none xs

-- ---- an alert received: a fatal one kills silently; a warning closes, but 90 and 100 are passed by
abbrev pub on_effect : Result AlertEffect Fault → Deed
on_effect (Ok PassBy) = waits
on_effect (Ok Close) = closes
on_effect (Ok Die) = halts
on_effect (Err t) = raises t.layer (alert_number t.alert)

-- the content of an alert record
abbrev pub on_alert : List ℕ → Deed
on_alert x = on_effect (received_alert x)

-- ---- by kind, at a stage, with nothing buffered or something
abbrev pub on_kind_at : Stage → Bool → ℕ → List ℕ → Deed
on_kind_at s nothing_buffered k x =
    cond (k == change_kind) (cond (is_one x) (cond nothing_buffered (on_change s) (raises AtContent 10)) (raises AtContent 50))
    (cond (k == alert_kind) (on_alert x)
    (cond (k == handshake_kind) (cond (is_open s) (raises AtContent 10) (buffers x))
    (cond (k == data_kind) (cond (is_open s) (releases x) (raises AtContent 10))
    waits)))

-- empty, too long, or by its kind
abbrev pub on_content_at : Stage → Bool → ℕ → List ℕ → Deed
on_content_at s nothing_buffered k x = cond (is_none x) (raises AtRecord 50) (cond (nat_le (length x) content_limit) (on_kind_at s nothing_buffered k x) (raises AtRecord 22))

module _ {H : Type 0} where
  -- the same of an end
  abbrev pub on_kind : End H → ℕ → List ℕ → Deed
  on_kind e k x = on_kind_at e.stage (is_none e.buffered) k x

  -- the same of an end
  abbrev pub on_content : End H → ℕ → List ℕ → Deed
  on_content e k x = on_content_at e.stage (is_none e.buffered) k x
