-- Kinds of records. A kind is an octet: others than these four may come, and are legal input.
use Rattle.std.specs.Prelude.{ℕ, Bool, ◌&&◌, List, [], ◌∷◌, Option, nat_le}
use Rattle.records.specs.Faults.{numbered}
use Rattle.records.specs.declared.kind.ContentKind.{ContentKind}
use Rattle.records.specs.declared.kind.ContentKind.TheVariants.{ChangeCipherSpec, Alert, Handshake, ApplicationData}

-- change cipher spec
abbrev pub change_kind : ℕ
change_kind = 20

-- alert
abbrev pub alert_kind : ℕ
alert_kind = 21

-- handshake
abbrev pub handshake_kind : ℕ
handshake_kind = 22

-- application data
abbrev pub data_kind : ℕ
data_kind = 23

-- the octet of a kind
abbrev pub kind_number : ContentKind → ℕ
kind_number ChangeCipherSpec = change_kind
kind_number Alert = alert_kind
kind_number Handshake = handshake_kind
kind_number ApplicationData = data_kind

-- all of them
abbrev pub kinds : List ContentKind
kinds = ChangeCipherSpec ∷ Alert ∷ Handshake ∷ ApplicationData ∷ []

-- the kind of an octet, if it is one of the four
abbrev pub kind_of : ℕ → Option ContentKind
kind_of k = numbered kind_number kinds k

-- whether an octet is one of the four
abbrev pub known_kind : ℕ → Bool
known_kind k = nat_le 20 k && nat_le k 23
