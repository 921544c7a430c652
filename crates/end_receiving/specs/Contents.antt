-- A record's content: as it came where reading is bare, opened and counted where it is protected.
use Rattle.std.specs.Prelude.{◌≡◌, ℕ, ◌+◌, ◌-◌, Bool, true, false, cond, List, [], ◌++◌, length, Ok, Err, Result, nat_le}
use Rattle.records.specs.declared.fault.Fault.{Fault}
use Rattle.records.specs.declared.fault.Alert.{Alert}
use Rattle.records.specs.declared.fault.Alert.TheVariants.{UnexpectedMessage, BadRecordMac}
use Rattle.records.specs.declared.fault.Layer.TheVariants.{Record as AtRecord}
use Rattle.protection.specs.declared.error.OpenError.{OpenError}
use Rattle.sm3.specs.Hash.{Running}
use Rattle.model.specs.Limits.{read_limit}
use Rattle.model.specs.Protections.{Protection, opened_with}
use Rattle.model.specs.Endpoint.{End, with_in}
use Rattle.model.specs.Results.{zeros, released_octets}
use Rattle.model.specs.Stages.{over}
use Rattle.model.specs.Outcomes.{Outcome}
use Rattle.model.specs.Deeds.{perform, raises}
use Rattle.model.specs.Tlcp.{tlcp}
use Rattle.records.specs.Faults.{alert_number}
use Rattle.end_rules.specs.declared.content.ContentEffect.{ContentEffect}
use Rattle.end_rules.specs.declared.content.ContentEffect.TheVariants.{PassBy, Close, Die, ClientChange, ServerChange, Buffer, Release}
use Rattle.end_receiving.specs.declared.receipt.Receipt.{Receipt}
use Rattle.end_reports.specs.Reports.{done, done_by}

-- a fault that a record shows
abbrev pub record_fault : Alert → Fault
record_fault a = record { alert = a; layer = AtRecord }

-- opened, or alert 20
abbrev pub opened_or_fault : Result (List ℕ) OpenError → Result (List ℕ) Fault
opened_or_fault (Ok y) = Ok y
opened_or_fault (Err x) = Err (record_fault BadRecordMac)

-- the content of a record of a kind; at the last read number nothing is opened any more
abbrev pub content_at : Bool → Protection → End Running → ℕ → List ℕ → Result (List ℕ) Fault
content_at false P e k x = Ok x
content_at true P e k x = cond (nat_le read_limit e.reads) (Err (record_fault UnexpectedMessage)) (opened_or_fault (opened_with P e.protection e.reads k x))

-- the read number rises where reading is protected
abbrev pub counted_at : Bool → End Running → End Running
counted_at false e = e
counted_at true e = with_in true (e.reads + 1) e

-- the end once a content was asked for: counted if there is one
abbrev pub after_content : Bool → Result (List ℕ) Fault → End Running → End Running
after_content b (Ok y) e = counted_at b e
after_content b (Err t) e = e

-- the length of a content
abbrev pub content_length : Result (List ℕ) Fault → Result ℕ Fault
content_length (Ok y) = Ok (length y)
content_length (Err t) = Err t

-- the opening place, so long, with a content first in it and zeros behind
abbrev pub content_placed : Result (List ℕ) Fault → ℕ → List ℕ
content_placed (Ok y) n = y ++ zeros (n - length y)
content_placed (Err t) n = zeros n

-- what an effect leaves in the opening place: a release its content, all others nothing
abbrev pub kept_by : ContentEffect → List ℕ → List ℕ
kept_by PassBy x = []
kept_by Close x = []
kept_by Die x = []
kept_by ClientChange x = []
kept_by ServerChange x = []
kept_by Buffer x = []
kept_by Release x = x

-- a record taken, whose outcome is known: done as the outcome says, with what is released in the opening place; or a
-- fault that is still to be raised, by which the outcome comes about
abbrev pub Takes : Protection → List ℕ → Outcome Running → List ℕ → ℕ → Result Receipt Fault → End Running → List ℕ → List ℕ → Type 0
Takes P f o out n (Ok r) e after place =
    (done_by r.report e after ≡ done P o out) × (r.released ≡ length (released_octets o.released))
    × (place ≡ released_octets o.released ++ zeros (n - length (released_octets o.released)))
Takes P f o out n (Err t) e after place =
    (done P (perform tlcp P f e (raises t.layer (alert_number t.alert))) out ≡ done P o out) × (o.released ≡ [])
    × (after ≡ out) × (over e.stage ≡ false)
