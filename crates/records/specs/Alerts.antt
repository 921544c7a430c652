-- Alerts: two octets, a level and a number; and what an alert does to the end that receives it.
use Rattle.std.specs.Prelude.{ℕ, cond, ◌||◌, List, [], ◌∷◌, Some, None, Ok, Err, Option, Result, ◌==◌}
use Rattle.records.specs.Faults.{alert_number, alert_of, level_number, level_of, listed}
use Rattle.records.specs.declared.alert.AlertEffect.{AlertEffect}
use Rattle.records.specs.declared.alert.AlertEffect.TheVariants.{PassBy, Close, Die}
use Rattle.records.specs.declared.alert.AlertMessage.{AlertMessage}
use Rattle.records.specs.declared.fault.Alert.{Alert}
use Rattle.records.specs.declared.fault.Alert.TheVariants.{IllegalParameter, DecodeError}
use Rattle.records.specs.declared.fault.AlertLevel.{AlertLevel}
use Rattle.records.specs.declared.fault.Fault.{Fault}
use Rattle.records.specs.declared.fault.Layer.TheVariants.{Content}

-- a fault that the content of a record shows
abbrev pub content_fault : Alert → Fault
content_fault a = record { alert = a; layer = Content }

-- an alert as it stands on the wire
abbrev pub alert_octets : AlertMessage → List ℕ
alert_octets m = level_number m.level ∷ (alert_number m.alert ∷ [])

-- a level and an alert, each if there is one
abbrev pub both : Option AlertLevel → Option Alert → Result AlertMessage Fault
both (Some l) (Some a) = Ok (record { level = l; alert = a })
both (Some l) None = Err (content_fault IllegalParameter)
both None (Some a) = Err (content_fault IllegalParameter)
both None None = Err (content_fault IllegalParameter)

-- the content of an alert record, read into its parts: 50 for another length than two, 47 for an unknown level or number
abbrev pub read_alert : List ℕ → Result AlertMessage Fault
read_alert [] = Err (content_fault DecodeError)
read_alert (l ∷ []) = Err (content_fault DecodeError)
read_alert (l ∷ (n ∷ [])) = both (level_of l) (alert_of n)
read_alert (l ∷ (n ∷ (x ∷ xs))) = Err (content_fault DecodeError)

-- the number of an effect: the stage that the end goes to, 12 closed and 13 dead, and 0 where it stays as it is
abbrev pub effect_number : AlertEffect → ℕ
effect_number PassBy = 0
effect_number Close = 12
effect_number Die = 13

-- a warning: 90 (user_canceled) and 100 (no_renegotiation) are passed by, any other closes
abbrev pub warning_effect : ℕ → AlertEffect
warning_effect n = cond (n == 90 || n == 100) PassBy Close

-- a level and a number received: a listed number at level 2 kills, at level 1 it warns; all else is 47
abbrev pub judged : ℕ → ℕ → Result AlertEffect Fault
judged l n =
    cond (listed n)
    (cond (l == 2) (Ok Die) (cond (l == 1) (Ok (warning_effect n)) (Err (content_fault IllegalParameter))))
    (Err (content_fault IllegalParameter))

-- what the content of an alert record does
abbrev pub received_alert : List ℕ → Result AlertEffect Fault
received_alert [] = Err (content_fault DecodeError)
received_alert (l ∷ []) = Err (content_fault DecodeError)
received_alert (l ∷ (n ∷ [])) = judged l n
received_alert (l ∷ (n ∷ (x ∷ xs))) = Err (content_fault DecodeError)
