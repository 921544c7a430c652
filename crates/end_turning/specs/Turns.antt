-- What a message turned is judged to do, as a deed.
use Rattle.std.specs.Prelude.{ℕ, ◌≤◌, List, take, drop, Ok, Err, Result}
use Rattle.records.specs.declared.fault.Fault.{Fault}
use Rattle.records.specs.declared.fault.Layer.TheVariants.{Stage as AtStage}
use Rattle.model.specs.Deeds.{Deed, waits, halts, closes, raises, client_changes, server_changes, buffers, releases, takes_client_hello, takes_server_hello, takes_done, keeps_certificates, keeps_signature, keeps_wrapped, fails_check, client_opens, server_opens, greets, offers, trusts_certificates, trusts_signature, exchanges, unwraps, sends}
use Rattle.end_rules.specs.Effects.{deed_of}
use Rattle.end_turning.specs.declared.judging.Turn.{Turn}
use Rattle.end_turning.specs.declared.judging.TurnEffect.{TurnEffect}
use Rattle.end_turning.specs.declared.judging.TurnEffect.TheVariants.{Nothing, TakeClientHello, TakeServerHello, TakeDone, KeepCertificates, KeepSignature, KeepWrapped, ClientOpens, ServerOpens}

-- what an effect does with a message and what follows it
abbrev pub turn_deed : List ℕ → List ℕ → TurnEffect → Deed
turn_deed m rest Nothing = waits
turn_deed m rest (TakeClientHello h) = takes_client_hello h.random h.suite m rest
turn_deed m rest (TakeServerHello h) = takes_server_hello h.random h.suite m rest
turn_deed m rest TakeDone = takes_done m rest
turn_deed m rest KeepCertificates = keeps_certificates
turn_deed m rest KeepSignature = keeps_signature
turn_deed m rest KeepWrapped = keeps_wrapped
turn_deed m rest ClientOpens = client_opens m
turn_deed m rest ServerOpens = server_opens m

-- what is judged of a message, as a deed
abbrev pub judged_deed : List ℕ → List ℕ → Result TurnEffect Fault → Deed
judged_deed m rest r = deed_of (turn_deed m rest) r

-- what the first message of a buffer does
abbrev pub front_deed : List ℕ → Turn → Deed
front_deed buffered t = turn_deed (take t.size buffered) (drop t.size buffered) t.effect

-- what is judged of it
abbrev pub first_deed : List ℕ → Result Turn Fault → Deed
first_deed buffered r = deed_of (front_deed buffered) r

-- a message judged is no longer than the buffer
abbrev pub Within : ℕ → Result Turn Fault → Type 0
Within n (Ok t) = t.size ≤ n
Within n (Err f) = Unit {0}

-- a deed as it is seen: a check value that differs is seen as its alert, 51 of the stage
abbrev pub plain : Deed → Deed
plain waits = waits
plain halts = halts
plain closes = closes
plain (raises l n) = raises l n
plain client_changes = client_changes
plain server_changes = server_changes
plain (buffers x) = buffers x
plain (releases x) = releases x
plain (takes_client_hello r s m rest) = takes_client_hello r s m rest
plain (takes_server_hello r s m rest) = takes_server_hello r s m rest
plain (takes_done m rest) = takes_done m rest
plain keeps_certificates = keeps_certificates
plain keeps_signature = keeps_signature
plain keeps_wrapped = keeps_wrapped
plain fails_check = raises AtStage 51
plain (client_opens m) = client_opens m
plain (server_opens m) = server_opens m
plain (greets r) = greets r
plain (offers p) = offers p
plain (trusts_certificates m rest) = trusts_certificates m rest
plain (trusts_signature m rest) = trusts_signature m rest
plain (exchanges p w) = exchanges p w
plain (unwraps p m rest) = unwraps p m rest
plain (sends x) = sends x
