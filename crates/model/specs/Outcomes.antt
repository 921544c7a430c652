-- What comes of a call on an abstract end: above all the list of records written, from which the octets follow.
-- Where an end opens, joins, makes or compares something, its histories grow by it.
use Rattle.std.specs.Prelude.{ℕ, Bool, true, false, cond, List, [], ◌∷◌, ◌++◌, Some, None, Option}
use Rattle.records.specs.declared.fault.Layer.{Layer}
use Rattle.records.specs.Records.{framed}
use Rattle.protection.specs.Keys.{Keying}
use Rattle.model.specs.declared.refusal.Refusal.{Refusal}
use Rattle.model.specs.Protections.{Protection, sealed_with}
use Rattle.model.specs.Endpoint.{End}

-- a record under protection, as it was sealed or opened
pub record Protected : Type 0 where
  pub number : ℕ
  pub kind : ℕ
  pub content : List ℕ

-- a record that an end writes: bare with kind and content, or under protection with fresh octets
pub data Write : Type 0 where
  bare : ℕ → List ℕ → Write
  under : Protected → List ℕ → Write

-- an alert by its number, and the layer that found it
pub record Fault : Type 0 where
  pub alert : ℕ
  pub layer : Layer

-- what comes of a call
pub record Outcome (H : Type 0) : Type 0 where
  -- why it was refused, if it was
  pub refused : Option Refusal
  pub end : End H
  pub writes : List Write
  -- octets consumed, and whether more are needed
  pub consumed : ℕ
  pub more : Bool
  -- the alert raised, if one was
  pub fault : Option Fault
  -- records opened, readings released, readings sent
  pub opened : List Protected
  pub released : List (List ℕ)
  pub sent : List (List ℕ)
  -- messages that joined the transcript, premasters answered
  pub joined : List (List ℕ)
  pub premasters : List (List ℕ)
  -- check values made and compared, each by the messages that joined in this call before it
  pub finished : List (List (List ℕ))
  pub compared : List (List (List ℕ))

-- ---- the octets of what an end writes: they stand first in its output
abbrev pub octets : Protection → Option Keying → Write → List ℕ
octets P q (bare k x) = framed k x
octets P q (under r fresh) = framed r.kind (sealed_with P q r.number r.kind r.content fresh)

-- one record after another
abbrev pub flat : Protection → Option Keying → List Write → List ℕ
flat P q [] = []
flat P q (w ∷ ws) = octets P q w ++ flat P q ws

-- all that a call wrote, sealed with what the protection then holds
abbrev pub output : {H : Type 0} → Protection → Outcome H → List ℕ
output P o = flat P o.end.protection o.writes

module _ {H : Type 0} where
  -- a record of a kind with a content, sealed if writing is protected
  abbrev pub put : List ℕ → End H → ℕ → List ℕ → Write
  put fresh e k x = cond e.writes_protected (under (record { number = e.writes; kind = k; content = x }) fresh) (bare k x)

  -- ---- outcomes that only write, that also raise a fault, that also join messages, that are refused
  abbrev pub writing : List Write → End H → Outcome H
  writing ws e = record { refused = None; end = e; writes = ws; consumed = 0; more = false; fault = None; opened = []; released = []; sent = []; joined = []; premasters = []; finished = []; compared = [] }

  -- a fault raised
  abbrev pub faulting : Fault → List Write → End H → Outcome H
  faulting t ws e = record { refused = None; end = e; writes = ws; consumed = 0; more = false; fault = Some t; opened = []; released = []; sent = []; joined = []; premasters = []; finished = []; compared = [] }

  -- messages joined
  abbrev pub joining : List (List ℕ) → List Write → End H → Outcome H
  joining ms ws e = record { refused = None; end = e; writes = ws; consumed = 0; more = false; fault = None; opened = []; released = []; sent = []; joined = ms; premasters = []; finished = []; compared = [] }

  -- refused: nothing is touched
  abbrev pub refusing : Refusal → End H → Outcome H
  refusing r e = record { refused = Some r; end = e; writes = []; consumed = 0; more = false; fault = None; opened = []; released = []; sent = []; joined = []; premasters = []; finished = []; compared = [] }

  -- ---- with octets consumed, with more needed, with a record opened
  abbrev pub consuming : ℕ → Outcome H → Outcome H
  consuming n o = record { refused = o.refused; end = o.end; writes = o.writes; consumed = n; more = o.more; fault = o.fault; opened = o.opened; released = o.released; sent = o.sent; joined = o.joined; premasters = o.premasters; finished = o.finished; compared = o.compared }

  -- more octets needed, none consumed
  abbrev pub wanting : Outcome H → Outcome H
  wanting o = record { refused = o.refused; end = o.end; writes = o.writes; consumed = 0; more = true; fault = o.fault; opened = o.opened; released = o.released; sent = o.sent; joined = o.joined; premasters = o.premasters; finished = o.finished; compared = o.compared }

  -- a record opened
  abbrev pub noting : Protected → Outcome H → Outcome H
  noting x o = record { refused = o.refused; end = o.end; writes = o.writes; consumed = o.consumed; more = o.more; fault = o.fault; opened = x ∷ []; released = o.released; sent = o.sent; joined = o.joined; premasters = o.premasters; finished = o.finished; compared = o.compared }

  -- ---- with a reading released, a reading sent, a premaster answered
  abbrev pub releasing : List ℕ → Outcome H → Outcome H
  releasing x o = record { refused = o.refused; end = o.end; writes = o.writes; consumed = o.consumed; more = o.more; fault = o.fault; opened = o.opened; released = x ∷ []; sent = o.sent; joined = o.joined; premasters = o.premasters; finished = o.finished; compared = o.compared }

  -- a reading sent
  abbrev pub sending : List ℕ → Outcome H → Outcome H
  sending x o = record { refused = o.refused; end = o.end; writes = o.writes; consumed = o.consumed; more = o.more; fault = o.fault; opened = o.opened; released = o.released; sent = x ∷ []; joined = o.joined; premasters = o.premasters; finished = o.finished; compared = o.compared }

  -- a premaster answered
  abbrev pub answering : List ℕ → Outcome H → Outcome H
  answering p o = record { refused = o.refused; end = o.end; writes = o.writes; consumed = o.consumed; more = o.more; fault = o.fault; opened = o.opened; released = o.released; sent = o.sent; joined = o.joined; premasters = p ∷ []; finished = o.finished; compared = o.compared }

  -- ---- with a check value made, or compared, after messages that joined in the same call
  abbrev pub making : List (List ℕ) → Outcome H → Outcome H
  making ms o = record { refused = o.refused; end = o.end; writes = o.writes; consumed = o.consumed; more = o.more; fault = o.fault; opened = o.opened; released = o.released; sent = o.sent; joined = o.joined; premasters = o.premasters; finished = ms ∷ []; compared = o.compared }

  -- a check value compared, equal or not
  abbrev pub comparing : List (List ℕ) → Outcome H → Outcome H
  comparing ms o = record { refused = o.refused; end = o.end; writes = o.writes; consumed = o.consumed; more = o.more; fault = o.fault; opened = o.opened; released = o.released; sent = o.sent; joined = o.joined; premasters = o.premasters; finished = o.finished; compared = ms ∷ [] }
