-- Laws of numbers, records and alerts: what is written reads back, and what is read fixes the octets.
use Rattle.std.specs.Prelude.{◌≡◌, ℕ, ◌+◌, ◌<◌, ◌≤◌, ◌⊎◌, List, ◌++◌, length, take, is_some, Some, Ok, Err, Option, Result}
use Rattle.octets.specs.Octets.{Octets}
use Rattle.octets.specs.Laid.{laid}
use Rattle.records.specs.Faults.{alerts, alert_number, alert_of, level_number, level_of, listed}
use Rattle.records.specs.Kinds.{kind_number, kind_of, known_kind}
use Rattle.records.specs.Records.{header, framed, more, whole, received}
use Rattle.records.specs.Alerts.{alert_octets, read_alert, received_alert, warning_effect}
use Rattle.records.specs.declared.alert.AlertEffect.{AlertEffect}
use Rattle.records.specs.declared.alert.AlertEffect.TheVariants.{Die}
use Rattle.records.specs.declared.alert.AlertMessage.{AlertMessage}
use Rattle.records.specs.declared.fault.Alert.{Alert}
use Rattle.records.specs.declared.fault.AlertLevel.{AlertLevel}
use Rattle.records.specs.declared.fault.AlertLevel.TheVariants.{Warning, Fatal}
use Rattle.records.specs.declared.fault.Fault.{Fault}
use Rattle.records.specs.declared.kind.ContentKind.{ContentKind}

-- ---- numbers

-- a name is found by its number, and a number that finds a name is that name's
abbrev pub Undo : (A : Type 0) → (A → ℕ) → (ℕ → Option A) → Type 0
Undo A number named = ((a : A) → named (number a) ≡ Some a) × ((n : ℕ) (a : A) → named n ≡ Some a → number a ≡ n)

abbrev pub AlertsUndo : Type 0
AlertsUndo = Undo Alert alert_number alert_of

abbrev pub LevelsUndo : Type 0
LevelsUndo = Undo AlertLevel level_number level_of

abbrev pub KindsUndo : Type 0
KindsUndo = Undo ContentKind kind_number kind_of

-- the ranges of the listed numbers are the numbers of the 28 alerts
abbrev pub Listed : Type 0
Listed = (length alerts ≡ 28) × ((n : ℕ) → listed n ≡ is_some (alert_of n))

-- the range of the known kinds is the numbers of the four
abbrev pub Known : Type 0
Known = (k : ℕ) → known_kind k ≡ is_some (kind_of k)

-- ---- records

-- what is written reads back to its parts, whatever follows it
abbrev pub ReadsBack : Type 0
ReadsBack = (limit k : ℕ) (x rest : List ℕ) → length x ≤ limit → received limit (framed k x ++ rest) ≡ whole k x

-- what is read, written again from its parts, is the octets that it was read from
abbrev pub WritesAgain : Type 0
WritesAgain =
    (limit k : ℕ) (xs x : List ℕ) → Octets xs → received limit xs ≡ whole k x → framed k x ≡ take (5 + length x) xs

-- so parts fix octets: two receptions with the same parts begin with the same octets
abbrev pub PartsFix : Type 0
PartsFix =
    (limit other k : ℕ) (xs ys x : List ℕ) → Octets xs → Octets ys → received limit xs ≡ whole k x → received other ys ≡ whole k x
    → take (5 + length x) xs ≡ take (5 + length x) ys

-- a content whose length two octets tell makes a record of octets
abbrev pub MakesOctets : Type 0
MakesOctets = (k : ℕ) (x : List ℕ) → k < 256 → Octets x → length x ≤ 65535 → Octets (framed k x)

-- a proper beginning of a record whose content is within the limit
pub record Begins (limit : ℕ) (xs : List ℕ) : Type 0 where
  pub kind : ℕ
  pub content : List ℕ
  pub lacking : List ℕ
  pub bound : length content ≤ limit
  pub some : 0 < length lacking
  pub joins : xs ++ lacking ≡ framed kind content

-- "more" is said of under five octets and of a proper beginning of a record, and of nothing else
abbrev pub MoreOnly : Type 0
MoreOnly = (limit : ℕ) (xs : List ℕ) → Octets xs → received limit xs ≡ more → (length xs < 5) ⊎ Begins limit xs

abbrev pub MoreAlways : Type 0
MoreAlways = (limit : ℕ) (xs : List ℕ) → (length xs < 5) ⊎ Begins limit xs → received limit xs ≡ more

-- a header written before a content that stands in place completes the record
abbrev pub Completes : Type 0
Completes =
    (out x : List ℕ) (at k : ℕ) → laid (laid out (at + 5) x) at (header k (length x)) ≡ laid out at (framed k x)

-- ---- alerts

-- what is written reads back to its parts
abbrev pub AlertReadsBack : Type 0
AlertReadsBack = (m : AlertMessage) → read_alert (alert_octets m) ≡ Ok m

-- what is read, written again from its parts, is the octets that it was read from; so parts fix octets
abbrev pub AlertWritesAgain : Type 0
AlertWritesAgain = (xs : List ℕ) (m : AlertMessage) → read_alert xs ≡ Ok m → alert_octets m ≡ xs

-- an alert is two octets
abbrev pub AlertMakesOctets : Type 0
AlertMakesOctets = (m : AlertMessage) → Octets (alert_octets m)

-- what an alert does follows from its parts alone: a fatal one kills, whatever it says
abbrev pub effect_of : AlertLevel → Alert → AlertEffect
effect_of Warning a = warning_effect (alert_number a)
effect_of Fatal a = Die

abbrev pub effect_read : Result AlertMessage Fault → Result AlertEffect Fault
effect_read (Ok m) = Ok (effect_of m.level m.alert)
effect_read (Err f) = Err f

-- and what cannot be read is the same fault
abbrev pub EffectFollows : Type 0
EffectFollows = (xs : List ℕ) → received_alert xs ≡ effect_read (read_alert xs)
