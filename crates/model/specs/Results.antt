-- What the caller sees of every call: result, end, output and opening place afterwards; what a look shows;
-- what a set-up makes.
use Rattle.std.specs.Prelude.{ℕ, ◌+◌, ◌-◌, Bool, List, [], ◌∷◌, ◌++◌, length, replicate, Some, None, Ok, Err, Option, Result}
use Rattle.octets.specs.declared.role.Role.{Role}
use Rattle.octets.specs.Laid.{laid}
use Rattle.protection.specs.Keys.{Keying}
use Rattle.handshake.specs.Frames.{Next, not_ready, too_long, ready, next}
use Rattle.handshake.specs.Certificates.{read_certificate}
use Rattle.handshake.specs.Exchanges.{read_exchange}
use Rattle.model.specs.declared.stage.Stage.{Stage}
use Rattle.model.specs.declared.question.Question.{Question}
use Rattle.model.specs.declared.question.Question.TheVariants.{ClientRandom, ServerFlight, CheckCertificates, CheckSignature, WrapPremaster, UnwrapPremaster}
use Rattle.model.specs.declared.refusal.Refusal.{Refusal}
use Rattle.model.specs.Schedule.{Schedule}
use Rattle.model.specs.Protections.{Protection}
use Rattle.model.specs.Endpoint.{End, new_end, Answer, hand_in, turn, answer, send, close}
use Rattle.model.specs.Outcomes.{Fault, Outcome, output}
use Rattle.model.specs.Refusals.{look_refusal, set_up_refusal}
use Rattle.model.specs.Steps.{step}

-- stage, octets written, any fault; of a hand in also octets consumed and released, and whether more are needed
pub record Told : Type 0 where
  pub stage : Stage
  pub written : ℕ
  pub fault : Option Fault
  pub consumed : ℕ
  pub released : ℕ
  pub more : Bool

-- all that is seen of a call
pub record Seen (H : Type 0) : Type 0 where
  pub result : Result Told Refusal
  pub end : End H
  pub output : List ℕ
  pub place : List ℕ

-- so many zeros
abbrev pub zeros : ℕ → List ℕ
zeros n = replicate {A = ℕ} n 0

-- at most one reading is released by a call
abbrev pub released_octets : List (List ℕ) → List ℕ
released_octets [] = []
released_octets (x ∷ xs) = x ++ released_octets xs

module _ {H : Type 0} where
  -- what an accepted call tells
  abbrev pub told : Protection → Outcome H → Told
  told P o = record { stage = o.end.stage; written = length (output P o); fault = o.fault; consumed = o.consumed; released = length (released_octets o.released); more = o.more }

  -- a refused call touches no buffer; an accepted one leaves its octets first in the output, and in the opening place
  -- what it released and zeros behind it
  abbrev pub seen_as : Option Refusal → Protection → Outcome H → List ℕ → List ℕ → Seen H
  seen_as (Some r) P o out place = record { result = Err r; end = o.end; output = out; place = place }
  seen_as None P o out place =
      let x = released_octets o.released in
      record { result = Ok (told P o); end = o.end; output = laid out 0 (output P o); place = x ++ zeros (length place - length x) }

  -- all that is seen of an outcome, with the two buffers as they were
  abbrev pub seen : Protection → Outcome H → List ℕ → List ℕ → Seen H
  seen P o out place = seen_as o.refused P o out place

-- ---- each call: the end, what it brings, and its buffers
module _ {H : Type 0} (K : Schedule H) (P : Protection) where
  -- hand in: received octets, fresh octets, output, opening place
  unfoldable pub hand_in_yields : End H → List ℕ → List ℕ → List ℕ → List ℕ → Seen H
  hand_in_yields e xs fresh out place = seen P (step K P e (hand_in xs fresh (length out) (length place))) out place

  -- turn: fresh octets, output
  unfoldable pub turn_yields : End H → List ℕ → List ℕ → Seen H
  turn_yields e fresh out = seen P (step K P e (turn fresh (length out))) out []

  -- answer: its question, the answer, fresh octets, output
  unfoldable pub answer_yields : End H → Question → Answer → List ℕ → List ℕ → Seen H
  answer_yields e q a fresh out = seen P (step K P e (answer q a fresh (length out))) out []

  -- send: the reading, fresh octets, output
  unfoldable pub send_yields : End H → List ℕ → List ℕ → List ℕ → Seen H
  send_yields e x fresh out = seen P (step K P e (send x fresh (length out))) out []

  -- close: fresh octets, output
  unfoldable pub close_yields : End H → List ℕ → List ℕ → Seen H
  close_yields e fresh out = seen P (step K P e (close fresh (length out))) out []

-- ---- a look: the randoms and the suite so far, and the parts of the message in question with their offsets,
-- counted from the message's first octet, header included
pub record Part : Type 0 where
  pub offset : ℕ
  pub octets : List ℕ

-- what a look shows
pub record Shown : Type 0 where
  pub client_random : List ℕ
  pub server_random : List ℕ
  pub suite : ℕ
  pub parts : List Part

-- certificates stand each behind a length of three octets
abbrev pub parts_from : ℕ → List (List ℕ) → List Part
parts_from at [] = []
parts_from at (c ∷ cs) = record { offset = at + 3; octets = c } ∷ parts_from (at + 3 + length c) cs

-- the header has four octets, the length of all certificates three
abbrev pub certificate_parts : Option (List (List ℕ)) → List Part
certificate_parts None = []
certificate_parts (Some cs) = parts_from 7 cs

-- the header, and a length of two octets
abbrev pub exchange_parts : Option (List ℕ) → List Part
exchange_parts None = []
exchange_parts (Some x) = record { offset = 6; octets = x } ∷ []

-- questions 3, 4 and 6 have a message with parts
abbrev pub parts_shown : Question → Next → List Part
parts_shown q not_ready = []
parts_shown q too_long = []
parts_shown ClientRandom (ready t m x rest) = []
parts_shown ServerFlight (ready t m x rest) = []
parts_shown CheckCertificates (ready t m x rest) = certificate_parts (read_certificate x)
parts_shown CheckSignature (ready t m x rest) = exchange_parts (read_exchange x)
parts_shown WrapPremaster (ready t m x rest) = []
parts_shown UnwrapPremaster (ready t m x rest) = exchange_parts (read_exchange x)

-- a refusal, or what is shown
abbrev pub refused_or : {A : Type 0} → Option Refusal → A → Result A Refusal
refused_or (Some r) x = Err r
refused_or None x = Ok x

module _ {H : Type 0} where
  -- a look alters nothing
  abbrev pub look_yields : End H → Question → Result Shown Refusal
  look_yields e q = refused_or (look_refusal e.stage q) (record { client_random = e.client_random; server_random = e.server_random; suite = e.suite; parts = parts_shown q (next e.buffered) })

-- ---- a set-up: a new end, or a refusal with the protection given back as it was
pub data Made (H : Type 0) : Type 0 where
  made : End H → Made H
  given_back : Refusal → Option Keying → Made H

-- by the refusal, if there is one
abbrev pub made_as : {H : Type 0} → Option Refusal → End H → Made H
made_as None e = made e
made_as (Some r) e = given_back r e.protection

-- set-up: what is served, the role, what the protection holds, the suites
abbrev pub set_up_yields : {H : Type 0} → Schedule H → (ℕ → Bool) → Role → Option Keying → List ℕ → Made H
set_up_yields K serves X held suites = made_as (set_up_refusal serves suites) (new_end K X held suites)
