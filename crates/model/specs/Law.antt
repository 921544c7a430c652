-- Undisturbed runs with willing cards, and the whole law of the line.
use Rattle.std.specs.Prelude.{◌≡◌, ℕ, ◌+◌, Bool, false, cond, ◌&&◌, ◌⊎◌, List, [], ◌∷◌, ◌++◌, length, drop, Some, None, Option, ◌==◌, ◌≢◌, nat_le}
use Rattle.octets.specs.declared.role.Role.{Role}
use Rattle.octets.specs.declared.role.Role.TheVariants.{Client, Server}
use Rattle.octets.specs.Roles.{peer}
use Rattle.records.specs.Kinds.{data_kind}
use Rattle.protection.specs.Keys.{Keying}
use Rattle.model.specs.declared.refusal.Refusal.{Refusal}
use Rattle.model.specs.declared.question.Question.{Question}
use Rattle.model.specs.declared.question.Question.TheVariants.{ClientRandom, ServerFlight, CheckCertificates, CheckSignature, WrapPremaster, UnwrapPremaster}
use Rattle.model.specs.Stages.{is_open}
use Rattle.model.specs.Messages.{first_shared}
use Rattle.model.specs.Schedule.{Schedule}
use Rattle.model.specs.Protections.{Protection}
use Rattle.model.specs.Endpoint.{End, Call, hand_in, turn, answer, look, send, close, Answer, yes, no}
use Rattle.model.specs.Outcomes.{Protected, Write, under, Outcome, octets, flat, output}
use Rattle.model.specs.Refusals.{set_up_refusal}
use Rattle.model.specs.Steps.{Steps}
use Rattle.model.specs.EndLaws.{BringsOctets}
use Rattle.model.specs.Runs.{Run, newly_made, by, Begins, pick, after, past, outcome, sent_by, line, sealed_in, Genuine, Apart, InOrder, Agreed, FinishedSo}

-- ---- counted calls: not the refused, not looks, not sends, not "more"
abbrev pub counts_as : Option Refusal → Call → Bool → ℕ
counts_as (Some r) c wants_more = 0
counts_as None (hand_in xs f out place) wants_more = cond wants_more 0 1
counts_as None (turn f out) wants_more = 1
counts_as None (answer q a f out) wants_more = 1
counts_as None (look q) wants_more = 0
counts_as None (send x f out) wants_more = 0
counts_as None (close f out) wants_more = 1

-- one if the call counts, else none
abbrev pub counts : {H : Type 0} → Call → Outcome H → ℕ
counts c o = counts_as o.refused c o.more

-- ---- an accepted call that leaves the wire undisturbed, with w waiting at its end: no close, and a hand in brings a beginning
abbrev pub CalmAs : Option Refusal → Call → List ℕ → Type 0
CalmAs (Some r) c w = Unit {0}
CalmAs None (hand_in xs f out place) w = Begins xs w
CalmAs None (turn f out) w = Unit {0}
CalmAs None (answer q a f out) w = Unit {0}
CalmAs None (look q) w = Unit {0}
CalmAs None (send x f out) w = Unit {0}
CalmAs None (close f out) w = ⊥

-- ---- an answer that is a yes, to question 6 with the premaster of question 5
abbrev pub SaysYes : Question → Answer → List (List ℕ) → Type 0
SaysYes q (no n) ps = ⊥
SaysYes ClientRandom (yes p) ps = Unit {0}
SaysYes ServerFlight (yes p) ps = Unit {0}
SaysYes CheckCertificates (yes p) ps = Unit {0}
SaysYes CheckSignature (yes p) ps = Unit {0}
SaysYes WrapPremaster (yes p) ps = Unit {0}
SaysYes UnwrapPremaster (yes p) ps = ps ≡ p.premaster ∷ []

-- an accepted answer is such a yes; other calls are free
abbrev pub YesAs : Option Refusal → Call → List (List ℕ) → Type 0
YesAs (Some r) c ps = Unit {0}
YesAs None (hand_in xs f out place) ps = Unit {0}
YesAs None (turn f out) ps = Unit {0}
YesAs None (answer q a f out) ps = SaysYes q a ps
YesAs None (look q) ps = Unit {0}
YesAs None (send x f out) ps = Unit {0}
YesAs None (close f out) ps = Unit {0}

-- ---- records that wait: all but the first, once something is consumed
abbrev pub rest_of : List Write → List Write
rest_of [] = []
rest_of (w ∷ ws) = ws

-- the records that wait after so many octets were consumed
abbrev pub left : ℕ → List Write → List Write
left n ws = cond (nat_le 1 n) (rest_of ws) ws

-- the contents of the records of one kind, and the readings among records
abbrev pub of_kind : ℕ → List Protected → List (List ℕ)
of_kind k [] = []
of_kind k (x ∷ xs) = cond (x.kind == k) (x.content ∷ of_kind k xs) (of_kind k xs)

-- the readings: the contents of kind 23
abbrev pub readings : List Protected → List (List ℕ)
readings = of_kind data_kind

module _ {H : Type 0} (K : Schedule H) (P : Protection) (step : Steps H) (first : Role → End H) where
  -- what the other wrote and its end has not consumed, as octets
  abbrev pub waiting : Run → Role → List ℕ
  waiting newly_made X = []
  waiting (by r Y c) X =
      let o = outcome K step first r Y c in
      pick X Y (drop o.consumed (waiting r X)) (waiting r X ++ output P o)

  -- the same as records
  abbrev pub unread : Run → Role → List Write
  unread newly_made X = []
  unread (by r Y c) X =
      let o = outcome K step first r Y c in
      pick X Y (left o.consumed (unread r X)) (unread r X ++ o.writes)

  -- how many calls were counted
  abbrev pub count : Run → ℕ
  count newly_made = 0
  count (by r X c) = count r + counts c (outcome K step first r X c)

  -- nothing disturbs the wire
  abbrev pub Undisturbed : Run → Type 0
  Undisturbed newly_made = Unit {0}
  Undisturbed (by r X c) = Undisturbed r × CalmAs (outcome K step first r X c).refused c (waiting r X)

  -- the cards are willing
  abbrev pub Willing : Run → Type 0
  Willing newly_made = Unit {0}
  Willing (by r X c) = Willing r × YesAs (outcome K step first r X c).refused c (past K step first r Client).premasters

  -- every call brings octets
  abbrev pub InOctets : Run → Type 0
  InOctets newly_made = Unit {0}
  InOctets (by r X c) = InOctets r × BringsOctets c

  -- both ends are open
  abbrev pub both_open : Run → Bool
  both_open r = is_open (after K step first r Client).stage && is_open (after K step first r Server).stage

  -- both ends are open from the 24th counted call on, and not before
  abbrev pub OnTime : Type 0
  OnTime = (r : Run) → Undisturbed r → Willing r → InOctets r → both_open r ≡ nat_le 24 (count r)

  -- while an end is not open or octets wait, a further counted call can be made, which is accepted and keeps the run so
  abbrev pub GoesOn : Type 0
  GoesOn = (r : Run) → Undisturbed r → Willing r → InOctets r → (both_open r ≡ false) ⊎ ((X : Role) × (waiting r X ≢ []))
      → (X : Role) × (k : Call) × Undisturbed (by r X k) × Willing (by r X k) × InOctets (by r X k) × ((outcome K step first r X k).refused ≡ None) × (count (by r X k) ≡ count r + 1)

  -- an accepted send, in any run, writes exactly one record: sealed, of kind 23, with its reading as content
  abbrev pub SendsOne : Type 0
  SendsOne = (r : Run) (X : Role) (x f : List ℕ) (out : ℕ) → (outcome K step first r X (send x f out)).refused ≡ None
      → ((outcome K step first r X (send x f out)).writes ≡ under (record { number = (after K step first r X).writes; kind = data_kind; content = x }) f ∷ []) × ((outcome K step first r X (send x f out)).sent ≡ x ∷ [])

  -- the octets that wait are those of the records that wait
  abbrev pub Tied : Type 0
  Tied = (r : Run) → Undisturbed r → Willing r → InOctets r → (X : Role) → waiting r X ≡ flat P (after K step first r (peer X)).protection (unread r X)

  -- the accepted hand_in that consumes a reading's record consumes all of it, and releases the reading
  abbrev pub Delivers : Type 0
  Delivers = (r : Run) (X : Role) (xs f : List ℕ) (out place n : ℕ) (x g : List ℕ) (ws : List Write)
      → Undisturbed (by r X (hand_in xs f out place)) → Willing (by r X (hand_in xs f out place)) → InOctets (by r X (hand_in xs f out place))
      → ((outcome K step first r X (hand_in xs f out place)).consumed ≢ 0)
      → unread r X ≡ under (record { number = n; kind = data_kind; content = x }) g ∷ ws
      → ((outcome K step first r X (hand_in xs f out place)).released ≡ x ∷ [])
      × ((outcome K step first r X (hand_in xs f out place)).consumed ≡ length (octets P (after K step first r (peer X)).protection (under (record { number = n; kind = data_kind; content = x }) g)))

  -- nothing is lost: what the one's accepted sends brought is what the other released, and then what waits
  abbrev pub LosesNone : Type 0
  LosesNone = (r : Run) → Undisturbed r → Willing r → InOctets r → (X : Role) → sent_by K step first r (peer X) ≡ (past K step first r X).released ++ readings (sealed_in (unread r X))

  -- such runs meet both premises, so that they can be met
  abbrev pub MeetsBoth : Type 0
  MeetsBoth = (r : Run) → Undisturbed r → Willing r → InOctets r → Genuine K step first r × Apart K step first r

-- a law of the lines of any two accepted set-ups, with any two suite lists, whatever the protections hold
abbrev pub OfLines : {H : Type 0} → Schedule H → Protection → ((Role → End H) → Type 0) → Type 0
OfLines K P L = (c d : Option Keying) (cs ss : List ℕ) → set_up_refusal P.serves cs ≡ None → set_up_refusal P.serves ss ≡ None → L (line K c d cs ss)

-- the same with a shared suite
abbrev pub OfSharedLines : {H : Type 0} → Schedule H → Protection → ((Role → End H) → Type 0) → Type 0
OfSharedLines K P L = (c d : Option Keying) (cs ss : List ℕ) (s : ℕ) → set_up_refusal P.serves cs ≡ None → set_up_refusal P.serves ss ≡ None → first_shared cs ss ≡ Some s → L (line K c d cs ss)

-- ---- the whole law
pub record LineLaw {H : Type 0} (K : Schedule H) (P : Protection) (step : Steps H) : Type 0 where
  -- readings
  pub in_order : OfLines K P (InOrder K step)
  -- opening
  pub agreed : OfLines K P (Agreed K step)
  pub finished_so : OfLines K P (FinishedSo K step)
  -- liveness
  pub on_time : OfSharedLines K P (OnTime K P step)
  pub goes_on : OfSharedLines K P (GoesOn K P step)
  pub sends_one : OfLines K P (SendsOne K P step)
  pub tied : OfSharedLines K P (Tied K P step)
  pub delivers : OfSharedLines K P (Delivers K P step)
  pub loses_none : OfSharedLines K P (LosesNone K P step)
  -- the premises can be met
  pub meets_both : OfSharedLines K P (MeetsBoth K P step)
