-- How the code's answers are read as the values of the definitions.
use Rattle.std.specs.Prelude.{◌≡◌, Ok, Err, Result}
use Rattle.records.specs.Faults.{alert_number}
use Rattle.records.specs.Records.{Received, more, faulty, whole}
use Rattle.records.specs.declared.fault.Fault.{Fault}
use Rattle.records.specs.declared.fault.Layer.{Layer}
use Rattle.records.specs.declared.record.Incoming.{Incoming}
use Rattle.records.specs.declared.record.Incoming.TheVariants.{More, Whole}

-- what the reader of records said
abbrev pub seen : Result Incoming Fault → Received
seen (Ok More) = more
seen (Ok (Whole r)) = whole r.kind r.content.now
seen (Err f) = faulty (alert_number f.alert)

-- a fault, if there is one, was found by this layer
abbrev pub FoundBy : {A : Type 0} → Layer → Result A Fault → Type 0
FoundBy l (Ok a) = Unit {0}
FoundBy l (Err f) = f.layer ≡ l
