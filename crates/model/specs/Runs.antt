-- Runs of a line, what each end leaves behind, and the laws of readings and of opening.
use Rattle.std.specs.Prelude.{◌≡◌, ℕ, true, false, List, [], ◌∷◌, ◌++◌, Some, Option}
use mathlib.Core.List.{Memᴰ}
use Rattle.octets.specs.declared.role.Role.{Role}
use Rattle.octets.specs.declared.role.Role.TheVariants.{Client, Server}
use Rattle.octets.specs.Roles.{peer}
use Rattle.records.specs.Kinds.{handshake_kind}
use Rattle.protection.specs.Keys.{Keying}
use Rattle.model.specs.Stages.{is_open}
use Rattle.model.specs.Messages.{finished, client_random_of, server_random_of, suite_of, first_shared}
use Rattle.model.specs.Schedule.{Schedule, joined_octets}
use Rattle.model.specs.Endpoint.{End, new_end, Call}
use Rattle.model.specs.Outcomes.{Protected, Write, bare, under, Outcome}
use Rattle.model.specs.Steps.{Steps}
use Rattle.model.specs.Sends.{brought}

-- calls that reach a line, each naming its end, each after those before it; refused ones too
pub data Run : Type 0 where
  newly_made : Run
  by : Run → Role → Call → Run

-- a line, newly made: what the two protections hold, and the two suite lists
abbrev pub line : {H : Type 0} → Schedule H → Option Keying → Option Keying → List ℕ → List ℕ → Role → End H
line K c d cs ss Client = new_end K Client c cs
line K c d cs ss Server = new_end K Server d ss

-- ---- what is behind a check value, and the value
pub record Check : Type 0 where
  pub label : Role
  pub master : List ℕ
  pub messages : List (List ℕ)

-- from the sender's label, the master secret, and the hash of all messages, one after another
unfoldable pub value : {H : Type 0} → Schedule H → Check → List ℕ
value K c = K.verify_data c.label c.master (K.absorb K.blank (joined_octets c.messages))

-- the master secret from the randoms of the two hellos and the premaster answered
abbrev pub secret : {H : Type 0} → Schedule H → List (List ℕ) → List (List ℕ) → List ℕ
secret K [] ms = []
secret K (p ∷ ps) ms = K.master_secret p (client_random_of ms) (server_random_of ms)

-- ---- what an end has behind it
pub record Past : Type 0 where
  -- records under protection
  pub sealed : List Protected
  pub opened : List Protected
  -- readings
  pub released : List (List ℕ)
  pub sent : List (List ℕ)
  -- messages written or turned without fault, premasters answered
  pub messages : List (List ℕ)
  pub premasters : List (List ℕ)
  -- check values made and compared
  pub finished : List Check
  pub compared : List Check

-- nothing yet
abbrev pub no_past : Past
no_past = record { sealed = []; opened = []; released = []; sent = []; messages = []; premasters = []; finished = []; compared = [] }

-- the records under protection among those written
abbrev pub sealed_in : List Write → List Protected
sealed_in [] = []
sealed_in (bare k x ∷ ws) = sealed_in ws
sealed_in (under r f ∷ ws) = r ∷ sealed_in ws

-- checks of one label and master secret, each by the messages before the call and those that joined in it before the check
abbrev pub checks_of : Role → List ℕ → List (List ℕ) → List (List (List ℕ)) → List Check
checks_of X m ms [] = []
checks_of X m ms (js ∷ jss) = record { label = X; master = m; messages = ms ++ js } ∷ checks_of X m ms jss

-- the past after one more call of an end
abbrev pub later : {H : Type 0} → Schedule H → Role → Past → Outcome H → Past
later K X p o =
    let m = secret K (p.premasters ++ o.premasters) (p.messages ++ o.joined) in
    record { sealed = p.sealed ++ sealed_in o.writes; opened = p.opened ++ o.opened; released = p.released ++ o.released; sent = p.sent ++ o.sent; messages = p.messages ++ o.joined; premasters = p.premasters ++ o.premasters; finished = p.finished ++ checks_of X m p.messages o.finished; compared = p.compared ++ checks_of (peer X) m p.messages o.compared }

-- the first if the two ends are the same, otherwise the second
abbrev pub pick : {A : Type 0} → Role → Role → A → A → A
pick Client Client x y = x
pick Client Server x y = y
pick Server Client x y = y
pick Server Server x y = x

-- a beginning, whole and in order
abbrev pub Begins : {A : Type 0} → List A → List A → Type 0
Begins {A} xs ys = (zs : List A) × (xs ++ zs ≡ ys)

module _ {H : Type 0} (K : Schedule H) (step : Steps H) (first : Role → End H) where
  -- an end after a run
  abbrev pub after : Run → Role → End H
  after newly_made X = first X
  after (by r Y c) X = pick X Y (step (after r Y) c).end (after r X)

  -- what one more call would come to
  abbrev pub outcome : Run → Role → Call → Outcome H
  outcome r X c = step (after r X) c

  -- what an end has behind it after a run
  abbrev pub past : Run → Role → Past
  past newly_made X = no_past
  past (by r Y c) X = pick X Y (later K Y (past r Y) (outcome r Y c)) (past r X)

  -- the readings of an end's accepted sends, in their order
  abbrev pub sent_by : Run → Role → List (List ℕ)
  sent_by newly_made X = []
  sent_by (by r Y c) X = pick X Y (sent_by r X ++ brought (outcome r Y c).refused c) (sent_by r X)

  -- premise one: what was opened, the other end had sealed so before
  abbrev pub Genuine : Run → Type 0
  Genuine newly_made = Unit {0}
  Genuine (by r X c) = Genuine r × ((x : Protected) → Memᴰ x (outcome r X c).opened → Memᴰ x (past r (peer X)).sealed)

  -- the check values of a run, written or compared, by what is behind them
  abbrev pub checks : Run → List Check
  checks r = ((past r Client).finished ++ (past r Client).compared) ++ ((past r Server).finished ++ (past r Server).compared)

  -- what is behind a check value made is what the Finished was made of: the first record that the end sealed
  abbrev pub FinishedSo : Type 0
  FinishedSo = (r : Run) (X : Role) (k : Check) → Memᴰ k (past r X).finished
      → (rest : List Protected) × ((past r X).sealed ≡ record { number = 0; kind = handshake_kind; content = finished (value K k) } ∷ rest) × (k.label ≡ X)

  -- premise two: equal check values under one label have the same behind them
  abbrev pub Apart : Run → Type 0
  Apart r = (x y : Check) → Memᴰ x (checks r) → Memᴰ y (checks r) → x.label ≡ y.label → value K x ≡ value K y → (x.master ≡ y.master) × (x.messages ≡ y.messages)

  -- readings: what was released at an end is a beginning of what the other's accepted sends brought
  abbrev pub InOrder : Type 0
  InOrder = (r : Run) → Genuine r → (X : Role) → Begins (past r X).released (sent_by r (peer X))

  -- opening: the other end made its Finished from the master secret and the messages by which it is checked,
  -- and both have one suite, the first of the client's list that is in the server's
  abbrev pub checked_by : Run → Role → Check
  checked_by r X = let p = past r X in record { label = peer X; master = secret K p.premasters p.messages; messages = p.messages }

  -- so it is whenever an end opens
  abbrev pub Agreed : Type 0
  Agreed = (r : Run) (X : Role) (c : Call) → Genuine (by r X c) → Apart (by r X c) → is_open (after r X).stage ≡ false → is_open (outcome r X c).end.stage ≡ true
      → Memᴰ (checked_by r X) (past r (peer X)).finished
      × (suite_of (past r X).messages ≡ suite_of (past r (peer X)).messages)
      × (first_shared (first Client).suites (first Server).suites ≡ Some (suite_of (past r X).messages))
