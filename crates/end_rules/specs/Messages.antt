-- How what is judged of a message is seen by the definitions: each answer as a deed.
use Rattle.std.specs.Prelude.{ℕ, cond, List, Ok, Err, Result, ◌==◌}
use Rattle.records.specs.declared.fault.Fault.{Fault}
use Rattle.records.specs.declared.fault.Layer.{Layer}
use Rattle.records.specs.declared.fault.Layer.TheVariants.{Record, Content, Message, Stage, Card}
use Rattle.records.specs.Faults.{alert_number}
use Rattle.model.specs.Deeds.{Deed, raises, takes_client_hello, takes_server_hello, fails_check}
use Rattle.end_rules.specs.Effects.{deed_of}
use Rattle.end_rules.specs.declared.message.Hello.{Hello}

-- a ClientHello is taken with its random and the suite chosen
abbrev pub client_hello_deed : Result Hello Fault → List ℕ → List ℕ → Deed
client_hello_deed r m rest = deed_of (λ h. takes_client_hello h.random h.suite m rest) r

-- a ServerHello is taken with its random and its suite
abbrev pub server_hello_deed : Result Hello Fault → List ℕ → List ℕ → Deed
server_hello_deed r m rest = deed_of (λ h. takes_server_hello h.random h.suite m rest) r

-- an alert that a Finished raises: 51 of the stage is that the value differs
abbrev pub finished_fault : Layer → ℕ → Deed
finished_fault Record n = raises Record n
finished_fault Content n = raises Content n
finished_fault Message n = raises Message n
finished_fault Stage n = cond (n == 51) fails_check (raises Stage n)
finished_fault Card n = raises Card n

-- a Finished does a deed if all is well
abbrev pub finished_deed : {X : Type 0} → Result X Fault → Deed → Deed
finished_deed (Ok x) d = d
finished_deed (Err t) d = finished_fault t.layer (alert_number t.alert)
