-- Small records and what is said of each, by computation.
use Rattle.std.specs.Prelude.{◌≡◌, true, false, [], ◌∷◌, length, Ok, Err}
use Rattle.records.specs.Kinds.{known_kind}
use Rattle.records.specs.Records.{framed, more, faulty, whole, received, limit_of}
use Rattle.records.specs.Alerts.{content_fault, received_alert}
use Rattle.records.specs.declared.alert.AlertEffect.TheVariants.{PassBy, Close, Die}
use Rattle.records.specs.declared.fault.Alert.TheVariants.{IllegalParameter, DecodeError}

-- 16 01 01 00: more
-- 16 03 01 00 01 00: 70
-- 16 01 01 40 01, not protected: 22
-- 17 01 01 48 01, protected: 22
-- 17 01 01 48 00, protected: more
abbrev pub Headers : Type 0
Headers =
    (received (limit_of false) (22 ∷ 1 ∷ 1 ∷ 0 ∷ []) ≡ more)
    × (received (limit_of false) (22 ∷ 3 ∷ 1 ∷ 0 ∷ 1 ∷ 0 ∷ []) ≡ faulty 70)
    × (received (limit_of false) (22 ∷ 1 ∷ 1 ∷ 64 ∷ 1 ∷ []) ≡ faulty 22)
    × (received (limit_of true) (23 ∷ 1 ∷ 1 ∷ 72 ∷ 1 ∷ []) ≡ faulty 22)
    × (received (limit_of true) (23 ∷ 1 ∷ 1 ∷ 72 ∷ 0 ∷ []) ≡ more)

-- 18 01 01 00 01 ff: a whole record of 6 octets, of an unknown kind
abbrev pub UnknownKind : Type 0
UnknownKind =
    (received (limit_of false) (24 ∷ 1 ∷ 1 ∷ 0 ∷ 1 ∷ 255 ∷ []) ≡ whole 24 (255 ∷ []))
    × (length (framed 24 (255 ∷ [])) ≡ 6)
    × (known_kind 24 ≡ false)

-- 15 01 01 00 02 01 5a: passed by; content 01 34: 47; 01 00: closes; 02 5a: dies; 01: 50
abbrev pub AlertsReceived : Type 0
AlertsReceived =
    (received (limit_of false) (21 ∷ 1 ∷ 1 ∷ 0 ∷ 2 ∷ 1 ∷ 90 ∷ []) ≡ whole 21 (1 ∷ 90 ∷ []))
    × (received_alert (1 ∷ 90 ∷ []) ≡ Ok PassBy)
    × (received_alert (1 ∷ 52 ∷ []) ≡ Err (content_fault IllegalParameter))
    × (received_alert (1 ∷ 0 ∷ []) ≡ Ok Close)
    × (received_alert (2 ∷ 90 ∷ []) ≡ Ok Die)
    × (received_alert (1 ∷ []) ≡ Err (content_fault DecodeError))
