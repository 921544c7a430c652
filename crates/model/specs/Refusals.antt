-- Why a call is refused: for each call its own list of grounds in their order, of which the first that fits is told.
-- A refused call touches nothing.
use Rattle.std.specs.Prelude.{ℕ, Bool, true, false, cond, not, ◌&&◌, ◌||◌, List, [], ◌∷◌, length, Some, None, Option, ◌==◌, nat_le}
use Rattle.model.specs.declared.stage.Stage.{Stage}
use Rattle.model.specs.declared.question.Question.{Question}
use Rattle.model.specs.declared.question.Question.TheVariants.{ClientRandom, ServerFlight, CheckCertificates, CheckSignature, WrapPremaster, UnwrapPremaster}
use Rattle.model.specs.declared.refusal.Refusal.{Refusal}
use Rattle.model.specs.declared.refusal.Refusal.TheVariants.{Over, QuestionOpen, NotAsked, MessageReady, NothingReady, NotOpen, WrongLength, NoSpace, NumbersSpent, NoNotTaken, BadSuites}
use Rattle.protection.specs.Limits.{content_limit, fresh_size}
use Rattle.handshake.specs.Parts.{versioned, among}
use Rattle.handshake.specs.Frames.{next, is_ready}
use Rattle.model.specs.Stages.{asks, asking, is_open, over, question_number}
use Rattle.model.specs.Limits.{reply_space, send_space, place_space, suite_limit, send_limit, random_size, session_size, premaster_size, certificate_limit, signature_limit, wrapping_limit}
use Rattle.model.specs.Endpoint.{End, Parts, Answer, yes, no, Call, hand_in, turn, answer, look, send, close}

-- a ground: whether it fits, and the refusal that it gives
pub record Ground : Type 0 where
  pub fits : Bool
  pub gives : Refusal

-- a refusal, and whether it fits
abbrev pub ground : Refusal → Bool → Ground
ground r b = record { fits = b; gives = r }

-- the first that fits
abbrev pub first_fitting : List Ground → Option Refusal
first_fitting [] = None
first_fitting (g ∷ gs) = cond g.fits (Some g.gives) (first_fitting gs)

-- n is from a to b
abbrev pub within : ℕ → ℕ → ℕ → Bool
within a b n = nat_le a n && nat_le n b

-- ---- set-up: 1 to 8 suites, each once, each served
abbrev pub distinct : List ℕ → Bool
distinct [] = true
distinct (s ∷ ss) = not (among s ss) && distinct ss

-- each is served
abbrev pub all_served : (ℕ → Bool) → List ℕ → Bool
all_served serves [] = true
all_served serves (s ∷ ss) = serves s && all_served serves ss

-- the suites that a set-up takes
abbrev pub suites_fit : (ℕ → Bool) → List ℕ → Bool
suites_fit serves ss = within 1 suite_limit (length ss) && (distinct ss && all_served serves ss)

-- set-up: 11
abbrev pub set_up_refusal : (ℕ → Bool) → List ℕ → Option Refusal
set_up_refusal serves ss = first_fitting (ground BadSuites (not (suites_fit serves ss)) ∷ [])

-- ---- the parts that a yes must have
-- two certificates of 1 to 1,500 octets
abbrev pub certificates_fit : List (List ℕ) → Bool
certificates_fit [] = false
certificates_fit (a ∷ []) = false
certificates_fit (a ∷ (b ∷ [])) =
    within 1 certificate_limit (length a) && within 1 certificate_limit (length b)
certificates_fit (a ∷ (b ∷ (c ∷ cs))) = false

-- 1: a random. 2: random, session id, certificates, signature. 3, 4: nothing. 5: a premaster that begins 01 01 and
-- its wrapping. 6: a premaster
abbrev pub parts_fit : Question → Parts → Bool
parts_fit ClientRandom p = length p.random == random_size
parts_fit ServerFlight p =
    (length p.random == random_size) && (length p.session == session_size
    && (certificates_fit p.certificates && within 1 signature_limit (length p.signature)))
parts_fit CheckCertificates p = true
parts_fit CheckSignature p = true
parts_fit WrapPremaster p =
    (length p.premaster == premaster_size) && (versioned p.premaster && within 1 wrapping_limit (length p.wrapped))
parts_fit UnwrapPremaster p = length p.premaster == premaster_size

-- a no brings no parts
abbrev pub lengths_fit : Question → Answer → Bool
lengths_fit q (yes p) = parts_fit q p
lengths_fit q (no n) = true

-- the no that a question takes: 1 none, 3 one of 42 to 46 and 48, 4 one of 51, the others any
abbrev pub takes_no : Question → ℕ → Bool
takes_no ClientRandom n = false
takes_no ServerFlight n = true
takes_no CheckCertificates n = within 42 46 n || n == 48
takes_no CheckSignature n = n == 51
takes_no WrapPremaster n = true
takes_no UnwrapPremaster n = true

-- a yes is always taken
abbrev pub takes_answer : Question → Answer → Bool
takes_answer q (yes p) = true
takes_answer q (no n) = takes_no q n

-- the question named is the open one
abbrev pub asked_as : Option Question → Question → Bool
asked_as None q = false
asked_as (Some p) q = question_number p == question_number q

-- ---- each call's grounds, of plain values: the stage, tests, lengths and sizes
abbrev pub not_fresh : ℕ → Bool
not_fresh fresh = not (fresh == fresh_size)

-- hand in: 1, 2, 4, 7, 8
abbrev pub hand_in_refusal : Stage → Bool → ℕ → ℕ → ℕ → Option Refusal
hand_in_refusal s is_there fresh out place =
    first_fitting
    (ground Over (over s)
    ∷ ground QuestionOpen (asking s)
    ∷ ground MessageReady is_there
    ∷ ground WrongLength (not_fresh fresh)
    ∷ ground NoSpace (not (nat_le reply_space out && nat_le place_space place))
    ∷ [])

-- turn: 1, 2, 5, 7, 8
abbrev pub turn_refusal : Stage → Bool → ℕ → ℕ → Option Refusal
turn_refusal s is_there fresh out =
    first_fitting
    (ground Over (over s)
    ∷ ground QuestionOpen (asking s)
    ∷ ground NothingReady (not is_there)
    ∷ ground WrongLength (not_fresh fresh)
    ∷ ground NoSpace (not (nat_le reply_space out))
    ∷ [])

-- look: 1, 3
abbrev pub look_refusal : Stage → Question → Option Refusal
look_refusal s q =
    first_fitting
    (ground Over (over s)
    ∷ ground NotAsked (not (asked_as (asks s) q))
    ∷ [])

-- answer: 1, 3, 7, 8, 10
abbrev pub answer_refusal : Stage → Question → Bool → Bool → ℕ → ℕ → Option Refusal
answer_refusal s q lengths-right answer-taken fresh out =
    first_fitting
    (ground Over (over s)
    ∷ ground NotAsked (not (asked_as (asks s) q))
    ∷ ground WrongLength (not (fresh == fresh_size && lengths-right))
    ∷ ground NoSpace (not (nat_le reply_space out))
    ∷ ground NoNotTaken (not answer-taken)
    ∷ [])

-- send: 1, 6, 7, 8, 9
abbrev pub send_refusal : Stage → ℕ → ℕ → ℕ → ℕ → Option Refusal
send_refusal s writes content fresh out =
    first_fitting
    (ground Over (over s)
    ∷ ground NotOpen (not (is_open s))
    ∷ ground WrongLength (not (fresh == fresh_size && within 1 content_limit content))
    ∷ ground NoSpace (not (nat_le (send_space content) out))
    ∷ ground NumbersSpent (nat_le send_limit writes)
    ∷ [])

-- close: 1, 7, 8
abbrev pub close_refusal : Stage → ℕ → ℕ → Option Refusal
close_refusal s fresh out =
    first_fitting
    (ground Over (over s)
    ∷ ground WrongLength (not_fresh fresh)
    ∷ ground NoSpace (not (nat_le reply_space out))
    ∷ [])

module _ {H : Type 0} where
  -- a message is ready in the buffer
  abbrev pub message_ready : End H → Bool
  message_ready e = is_ready (next e.buffered)

  -- the refusal of any call
  abbrev pub refusal : End H → Call → Option Refusal
  refusal e (hand_in xs f out place) = hand_in_refusal e.stage (message_ready e) (length f) out place
  refusal e (turn f out) = turn_refusal e.stage (message_ready e) (length f) out
  refusal e (answer q a f out) = answer_refusal e.stage q (lengths_fit q a) (takes_answer q a) (length f) out
  refusal e (look q) = look_refusal e.stage q
  refusal e (send x f out) = send_refusal e.stage e.writes (length x) (length f) out
  refusal e (close f out) = close_refusal e.stage (length f) out
