-- What an answer to an open question leads to.
use Rattle.std.specs.Prelude.{ℕ, cond, List}
use Rattle.records.specs.declared.fault.Layer.TheVariants.{Card as AtCard}
use Rattle.model.specs.declared.question.Question.{Question}
use Rattle.model.specs.declared.question.Question.TheVariants.{ClientRandom, ServerFlight, CheckCertificates, CheckSignature, WrapPremaster, UnwrapPremaster}
use Rattle.handshake.specs.Parts.{versioned}
use Rattle.handshake.specs.Frames.{Next, not_ready, too_long, ready, next}
use Rattle.model.specs.Endpoint.{End, Parts, Answer, yes, no}
use Rattle.model.specs.Deeds.{Deed, waits, raises, greets, offers, trusts_certificates, trusts_signature, exchanges, unwraps}

-- a yes about the message at the front of the buffer
abbrev pub about : (List ℕ → List ℕ → Deed) → Next → Deed
about d not_ready = waits
about d too_long = waits
about d (ready t m x rest) = d m rest

module _ {H : Type 0} where
  -- a yes; the premaster of question 6 must begin 01 01
  abbrev pub said_yes : End H → Question → Parts → Deed
  said_yes e ClientRandom p = greets p.random
  said_yes e ServerFlight p = offers p
  said_yes e CheckCertificates p = about trusts_certificates (next e.buffered)
  said_yes e CheckSignature p = about trusts_signature (next e.buffered)
  said_yes e WrapPremaster p = exchanges p.premaster p.wrapped
  said_yes e UnwrapPremaster p = cond (versioned p.premaster) (about (unwraps p.premaster) (next e.buffered)) (raises AtCard 40)

-- a no: 3 and 4 raise the number brought, 2 and 5 raise 80, 6 raises 40; question 1 takes none
abbrev pub said_no : Question → ℕ → Deed
said_no ClientRandom n = waits
said_no ServerFlight n = raises AtCard 80
said_no CheckCertificates n = raises AtCard n
said_no CheckSignature n = raises AtCard n
said_no WrapPremaster n = raises AtCard 80
said_no UnwrapPremaster n = raises AtCard 40

module _ {H : Type 0} where
  -- an answer to its question
  abbrev pub answered : End H → Question → Answer → Deed
  answered e q (yes p) = said_yes e q p
  answered e q (no n) = said_no q n
