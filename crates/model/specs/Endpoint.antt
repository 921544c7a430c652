-- An end as the definitions see it, and the calls with all that they bring.
use Rattle.std.specs.Prelude.{ℕ, ◌+◌, Bool, false, cond, List, [], replicate, Option}
use Rattle.octets.specs.declared.role.Role.{Role}
use Rattle.model.specs.declared.stage.Stage.{Stage}
use Rattle.model.specs.declared.stage.Stage.TheVariants.{Open}
use Rattle.model.specs.declared.question.Question.{Question}
use Rattle.protection.specs.Keys.{Keying}
use Rattle.model.specs.Stages.{first_stage}
use Rattle.model.specs.Limits.{random_size, premaster_size, scratch_size}
use Rattle.model.specs.Schedule.{Schedule}

-- the master secret, a random and the place for keys when nothing is in them
unfoldable pub no_master : List ℕ
no_master = replicate {A = ℕ} premaster_size 0

-- no random yet
unfoldable pub no_random : List ℕ
no_random = replicate {A = ℕ} random_size 0

-- no keys
unfoldable pub no_keys : List ℕ
no_keys = replicate {A = ℕ} scratch_size 0

-- an end: all that it holds
pub record End (H : Type 0) : Type 0 where
  pub role : Role
  pub stage : Stage
  -- the suites that it offers or allows
  pub suites : List ℕ
  -- what its record protection holds
  pub protection : Option Keying
  pub client_random : List ℕ
  pub server_random : List ℕ
  -- the suite chosen
  pub suite : ℕ
  pub master : List ℕ
  -- the running hash of the messages
  pub transcript : H
  -- the place for keys, zeros after every call
  pub scratch : List ℕ
  -- the numbers of the next record read and written under protection
  pub reads : ℕ
  pub writes : ℕ
  -- whether each way is protected
  pub reads_protected : Bool
  pub writes_protected : Bool
  -- handshake octets not yet turned
  pub buffered : List ℕ

-- a new end: all else zero or empty
abbrev pub new_end : {H : Type 0} → Schedule H → Role → Option Keying → List ℕ → End H
new_end K X held suites = record { role = X; stage = first_stage X; suites = suites; protection = held; client_random = no_random; server_random = no_random; suite = 0; master = no_master; transcript = K.blank; scratch = no_keys; reads = 0; writes = 0; reads_protected = false; writes_protected = false; buffered = [] }

-- ---- calls; each that may seal brings fresh octets and the size of its output
-- what a yes may bring; a question takes some of it
pub record Parts : Type 0 where
  pub random : List ℕ
  pub session : List ℕ
  pub certificates : List (List ℕ)
  pub signature : List ℕ
  pub premaster : List ℕ
  pub wrapped : List ℕ

-- a yes with its parts, or a no with a number
pub data Answer : Type 0 where
  yes : Parts → Answer
  no : ℕ → Answer

-- the calls on an end
pub data Call : Type 0 where
  -- received octets, fresh octets, sizes of the output and of the opening place
  hand_in : List ℕ → List ℕ → ℕ → ℕ → Call
  turn : List ℕ → ℕ → Call
  answer : Question → Answer → List ℕ → ℕ → Call
  look : Question → Call
  -- a reading first
  send : List ℕ → List ℕ → ℕ → Call
  close : List ℕ → ℕ → Call

-- ---- changed ends
module _ {H : Type 0} where
  -- at another stage
  abbrev pub with_stage : Stage → End H → End H
  with_stage s e = record { role = e.role; stage = s; suites = e.suites; protection = e.protection; client_random = e.client_random; server_random = e.server_random; suite = e.suite; master = e.master; transcript = e.transcript; scratch = e.scratch; reads = e.reads; writes = e.writes; reads_protected = e.reads_protected; writes_protected = e.writes_protected; buffered = e.buffered }

  -- with another buffer
  abbrev pub with_buffer : List ℕ → End H → End H
  with_buffer x e = record { role = e.role; stage = e.stage; suites = e.suites; protection = e.protection; client_random = e.client_random; server_random = e.server_random; suite = e.suite; master = e.master; transcript = e.transcript; scratch = e.scratch; reads = e.reads; writes = e.writes; reads_protected = e.reads_protected; writes_protected = e.writes_protected; buffered = x }

  -- with another running hash
  abbrev pub with_transcript : H → End H → End H
  with_transcript t e = record { role = e.role; stage = e.stage; suites = e.suites; protection = e.protection; client_random = e.client_random; server_random = e.server_random; suite = e.suite; master = e.master; transcript = t; scratch = e.scratch; reads = e.reads; writes = e.writes; reads_protected = e.reads_protected; writes_protected = e.writes_protected; buffered = e.buffered }

  -- both randoms and the suite
  abbrev pub with_hello : List ℕ → List ℕ → ℕ → End H → End H
  with_hello c s u e = record { role = e.role; stage = e.stage; suites = e.suites; protection = e.protection; client_random = c; server_random = s; suite = u; master = e.master; transcript = e.transcript; scratch = e.scratch; reads = e.reads; writes = e.writes; reads_protected = e.reads_protected; writes_protected = e.writes_protected; buffered = e.buffered }

  -- what the protection holds, the master secret, and the place for keys
  abbrev pub with_keys : Option Keying → List ℕ → List ℕ → End H → End H
  with_keys k m p e = record { role = e.role; stage = e.stage; suites = e.suites; protection = k; client_random = e.client_random; server_random = e.server_random; suite = e.suite; master = m; transcript = e.transcript; scratch = p; reads = e.reads; writes = e.writes; reads_protected = e.reads_protected; writes_protected = e.writes_protected; buffered = e.buffered }

  -- whether reading is protected, and its number
  abbrev pub with_in : Bool → ℕ → End H → End H
  with_in b n e = record { role = e.role; stage = e.stage; suites = e.suites; protection = e.protection; client_random = e.client_random; server_random = e.server_random; suite = e.suite; master = e.master; transcript = e.transcript; scratch = e.scratch; reads = n; writes = e.writes; reads_protected = b; writes_protected = e.writes_protected; buffered = e.buffered }

  -- whether writing is protected, and its number
  abbrev pub with_out : Bool → ℕ → End H → End H
  with_out b n e = record { role = e.role; stage = e.stage; suites = e.suites; protection = e.protection; client_random = e.client_random; server_random = e.server_random; suite = e.suite; master = e.master; transcript = e.transcript; scratch = e.scratch; reads = e.reads; writes = n; reads_protected = e.reads_protected; writes_protected = b; buffered = e.buffered }

  -- one record more is written, which has a number if writing is protected
  abbrev pub numbered : End H → End H
  numbered e = with_out e.writes_protected (cond e.writes_protected (e.writes + 1) e.writes) e

  -- closed or dead: nothing buffered, no master secret; all else stays
  abbrev pub gone : Stage → End H → End H
  gone s e = record { role = e.role; stage = s; suites = e.suites; protection = e.protection; client_random = e.client_random; server_random = e.server_random; suite = e.suite; master = no_master; transcript = e.transcript; scratch = e.scratch; reads = e.reads; writes = e.writes; reads_protected = e.reads_protected; writes_protected = e.writes_protected; buffered = [] }

  -- open: no master secret, and the last message has left the buffer
  abbrev pub opened_end : End H → End H
  opened_end e = record { role = e.role; stage = Open; suites = e.suites; protection = e.protection; client_random = e.client_random; server_random = e.server_random; suite = e.suite; master = no_master; transcript = e.transcript; scratch = e.scratch; reads = e.reads; writes = e.writes; reads_protected = e.reads_protected; writes_protected = e.writes_protected; buffered = [] }
