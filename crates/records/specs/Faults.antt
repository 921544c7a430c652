-- The numbers of alerts (GB/T 38636-2020, alert protocol), of their levels and of the layers that find a fault.
use Rattle.std.specs.Prelude.{ℕ, Bool, cond, ◌&&◌, ◌||◌, List, [], ◌∷◌, Some, None, Option, ◌==◌, nat_le}
use Rattle.records.specs.declared.fault.Alert.{Alert}
use Rattle.records.specs.declared.fault.Alert.TheVariants.{CloseNotify, UnexpectedMessage, BadRecordMac, DecryptionFailed, RecordOverflow, DecompressionFailure, HandshakeFailure, BadCertificate, UnsupportedCertificate, CertificateRevoked, CertificateExpired, CertificateUnknown, IllegalParameter, UnknownCa, AccessDenied, DecodeError, DecryptError, ProtocolVersion, InsufficientSecurity, InternalError, UserCanceled, NoRenegotiation, UnsupportedSite2site, NoArea, UnsupportedAreatype, BadIbcparam, UnsupportedIbcparam, IdentityNeed}
use Rattle.records.specs.declared.fault.AlertLevel.{AlertLevel}
use Rattle.records.specs.declared.fault.AlertLevel.TheVariants.{Warning, Fatal}
use Rattle.records.specs.declared.fault.Layer.{Layer}
use Rattle.records.specs.declared.fault.Layer.TheVariants.{Record, Content, Message, Stage, Card}

-- the number of an alert on the wire
abbrev pub alert_number : Alert → ℕ
alert_number CloseNotify = 0
alert_number UnexpectedMessage = 10
alert_number BadRecordMac = 20
alert_number DecryptionFailed = 21
alert_number RecordOverflow = 22
alert_number DecompressionFailure = 30
alert_number HandshakeFailure = 40
alert_number BadCertificate = 42
alert_number UnsupportedCertificate = 43
alert_number CertificateRevoked = 44
alert_number CertificateExpired = 45
alert_number CertificateUnknown = 46
alert_number IllegalParameter = 47
alert_number UnknownCa = 48
alert_number AccessDenied = 49
alert_number DecodeError = 50
alert_number DecryptError = 51
alert_number ProtocolVersion = 70
alert_number InsufficientSecurity = 71
alert_number InternalError = 80
alert_number UserCanceled = 90
alert_number NoRenegotiation = 100
alert_number UnsupportedSite2site = 200
alert_number NoArea = 201
alert_number UnsupportedAreatype = 202
alert_number BadIbcparam = 203
alert_number UnsupportedIbcparam = 204
alert_number IdentityNeed = 205

-- all of them, in the order of their numbers
abbrev pub alerts : List Alert
alerts =
    CloseNotify ∷ UnexpectedMessage ∷ BadRecordMac ∷ DecryptionFailed ∷ RecordOverflow ∷ DecompressionFailure
    ∷ HandshakeFailure ∷ BadCertificate ∷ UnsupportedCertificate ∷ CertificateRevoked ∷ CertificateExpired
    ∷ CertificateUnknown ∷ IllegalParameter ∷ UnknownCa ∷ AccessDenied ∷ DecodeError ∷ DecryptError
    ∷ ProtocolVersion ∷ InsufficientSecurity ∷ InternalError ∷ UserCanceled ∷ NoRenegotiation
    ∷ UnsupportedSite2site ∷ NoArea ∷ UnsupportedAreatype ∷ BadIbcparam ∷ UnsupportedIbcparam ∷ IdentityNeed ∷ []

-- the first member that has a number
abbrev pub numbered : {A : Type 0} → (A → ℕ) → List A → ℕ → Option A
numbered f [] n = None
numbered f (x ∷ xs) n = cond (n == f x) (Some x) (numbered f xs n)

-- the alert of a number, if there is one
abbrev pub alert_of : ℕ → Option Alert
alert_of n = numbered alert_number alerts n

-- a number from a to b
abbrev pub within : ℕ → ℕ → ℕ → Bool
within a b n = nat_le a n && nat_le n b

-- whether a number is an alert's, by ranges
abbrev pub listed : ℕ → Bool
listed n =
    (n == 0) || (n == 10 || (within 20 22 n || (n == 30 || (n == 40 || (within 42 51 n || (within 70 71 n
    || (n == 80 || (n == 90 || (n == 100 || within 200 205 n)))))))))

-- the number of a level
abbrev pub level_number : AlertLevel → ℕ
level_number Warning = 1
level_number Fatal = 2

-- both of them
abbrev pub levels : List AlertLevel
levels = Warning ∷ Fatal ∷ []

-- the level of a number, if there is one
abbrev pub level_of : ℕ → Option AlertLevel
level_of n = numbered level_number levels n

-- the number of a layer
abbrev pub layer_number : Layer → ℕ
layer_number Record = 1
layer_number Content = 2
layer_number Message = 3
layer_number Stage = 4
layer_number Card = 5
