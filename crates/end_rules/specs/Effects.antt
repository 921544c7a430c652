-- How what the rules answer is seen by the definitions: each answer as a deed.
use Rattle.std.specs.Prelude.{ℕ, List, Ok, Err, Result}
use Rattle.records.specs.declared.fault.Fault.{Fault}
use Rattle.records.specs.Faults.{alert_number}
use Rattle.model.specs.Deeds.{Deed, waits, halts, closes, raises, client_changes, server_changes, buffers, releases}
use Rattle.end_rules.specs.declared.content.ContentEffect.{ContentEffect}
use Rattle.end_rules.specs.declared.content.ContentEffect.TheVariants.{PassBy, Close, Die, ClientChange, ServerChange, Buffer, Release}

-- an answer's deed, or the alert that its fault raises
abbrev pub deed_of : {X : Type 0} → (X → Deed) → Result X Fault → Deed
deed_of d (Ok x) = d x
deed_of d (Err t) = raises t.layer (alert_number t.alert)

-- what an effect does with a content
abbrev pub effect_deed : List ℕ → ContentEffect → Deed
effect_deed x PassBy = waits
effect_deed x Close = closes
effect_deed x Die = halts
effect_deed x ClientChange = client_changes
effect_deed x ServerChange = server_changes
effect_deed x Buffer = buffers x
effect_deed x Release = releases x

-- what is judged of a content, as a deed
abbrev pub content_deed : Result ContentEffect Fault → List ℕ → Deed
content_deed r x = deed_of (effect_deed x) r
