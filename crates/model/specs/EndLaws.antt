-- What an end keeps whatever is called: laws of one end, of any end that a call finds.
use Rattle.std.specs.Prelude.{◌≡◌, ℕ, ◌+◌, ◌≤◌, Bool, true, false, ◌⊎◌, List, [], ◌∷◌, length, Some, None, Ok, Option}
use Rattle.octets.specs.Octets.{Octets}
use Rattle.records.specs.declared.fault.Layer.TheVariants.{Content as AtContent}
use Rattle.records.specs.Records.{whole, received, limit_of}
use Rattle.records.specs.Kinds.{alert_kind, change_kind}
use Rattle.handshake.specs.Parts.{is_none, among}
use Rattle.model.specs.declared.stage.Stage.{Stage}
use Rattle.model.specs.declared.stage.Stage.TheVariants.{AskClientRandom, AwaitServerHello, AwaitCertificate, AskCertificates, AwaitServerKeyExchange, AskSignature, AwaitServerHelloDone, AskWrapping, ClientAwaitChange, ClientAwaitFinished, AwaitClientHello, AskServerFlight, AwaitClientKeyExchange, AskUnwrapping, ServerAwaitChange, ServerAwaitFinished, Open, Closed, Dead}
use Rattle.model.specs.declared.refusal.Refusal.{Refusal}
use Rattle.model.specs.declared.refusal.Refusal.TheVariants.{Over}
use Rattle.model.specs.Stages.{stage_number, is_open, over}
use Rattle.model.specs.Limits.{buffer_size, suite_limit, reply_space, send_space, send_limit, read_limit}
use Rattle.model.specs.Schedule.{Schedule, joined_octets}
use Rattle.model.specs.Protections.{Protection, Held, opened_with}
use Rattle.model.specs.Endpoint.{End, Call, hand_in, turn, answer, look, send, close, no_master, no_keys}
use Rattle.model.specs.Outcomes.{Protected, Write, Fault, Outcome, put, output, refusing}
use Rattle.model.specs.Deeds.{alerting}
use Rattle.model.specs.Steps.{Steps}
use Rattle.model.specs.Sends.{brought}

-- ---- the stages that a call can lead to: staying, the next stage, closed, dead. Question 1 takes no no, and no record
-- is handed in while it is open: from stage 1 no end dies
abbrev pub leads_to : Stage → List ℕ
leads_to AskClientRandom = 1 ∷ 2 ∷ 12 ∷ []
leads_to AwaitServerHello = 2 ∷ 3 ∷ 12 ∷ 13 ∷ []
leads_to AwaitCertificate = 3 ∷ 4 ∷ 12 ∷ 13 ∷ []
leads_to AskCertificates = 4 ∷ 5 ∷ 12 ∷ 13 ∷ []
leads_to AwaitServerKeyExchange = 5 ∷ 6 ∷ 12 ∷ 13 ∷ []
leads_to AskSignature = 6 ∷ 7 ∷ 12 ∷ 13 ∷ []
leads_to AwaitServerHelloDone = 7 ∷ 8 ∷ 12 ∷ 13 ∷ []
leads_to AskWrapping = 8 ∷ 9 ∷ 12 ∷ 13 ∷ []
leads_to ClientAwaitChange = 9 ∷ 10 ∷ 12 ∷ 13 ∷ []
leads_to ClientAwaitFinished = 10 ∷ 11 ∷ 12 ∷ 13 ∷ []
leads_to AwaitClientHello = 21 ∷ 22 ∷ 12 ∷ 13 ∷ []
leads_to AskServerFlight = 22 ∷ 23 ∷ 12 ∷ 13 ∷ []
leads_to AwaitClientKeyExchange = 23 ∷ 24 ∷ 12 ∷ 13 ∷ []
leads_to AskUnwrapping = 24 ∷ 25 ∷ 12 ∷ 13 ∷ []
leads_to ServerAwaitChange = 25 ∷ 26 ∷ 12 ∷ 13 ∷ []
leads_to ServerAwaitFinished = 26 ∷ 11 ∷ 12 ∷ 13 ∷ []
leads_to Open = 11 ∷ 12 ∷ 13 ∷ []
leads_to Closed = 12 ∷ []
leads_to Dead = 13 ∷ []

-- whether a call can lead from one stage to another
abbrev pub can_move : Stage → Stage → Bool
can_move s t = among (stage_number t) (leads_to s)

module _ {H : Type 0} where
  -- ---- keys stand nowhere longer than they must, and nothing stays buffered at the end
  pub record Clean (e : End H) : Type 0 where
    pub no_keys_left : e.scratch ≡ no_keys
    pub open_zero : is_open e.stage ≡ true → e.master ≡ no_master
    pub over_zero : over e.stage ≡ true → e.master ≡ no_master
    pub over_empty : over e.stage ≡ true → e.buffered ≡ []

  -- ---- the numbers stay within their limits
  pub record InLimits (e : End H) : Type 0 where
    pub buffer_fits : length e.buffered ≤ buffer_size
    pub reads_fit : e.reads ≤ read_limit
    pub writes_fit : over e.stage ≡ false → e.writes ≤ send_limit
    pub last_fits : e.writes ≤ send_limit + 1

  -- ---- the last that an end writes: nothing, its close_notify or its alert, sealed if writing is protected
  abbrev pub LastWord : End H → Stage → List Write → Option Fault → Type 0
  LastWord e AskClientRandom ws t = ⊥
  LastWord e AwaitServerHello ws t = ⊥
  LastWord e AwaitCertificate ws t = ⊥
  LastWord e AskCertificates ws t = ⊥
  LastWord e AwaitServerKeyExchange ws t = ⊥
  LastWord e AskSignature ws t = ⊥
  LastWord e AwaitServerHelloDone ws t = ⊥
  LastWord e AskWrapping ws t = ⊥
  LastWord e ClientAwaitChange ws t = ⊥
  LastWord e ClientAwaitFinished ws t = ⊥
  LastWord e AwaitClientHello ws t = ⊥
  LastWord e AskServerFlight ws t = ⊥
  LastWord e AwaitClientKeyExchange ws t = ⊥
  LastWord e AskUnwrapping ws t = ⊥
  LastWord e ServerAwaitChange ws t = ⊥
  LastWord e ServerAwaitFinished ws t = ⊥
  LastWord e Open ws t = ⊥
  LastWord e Closed ws t = (f : List ℕ) × (ws ≡ put f e alert_kind (alerting 1 0) ∷ []) × (t ≡ None)
  LastWord e Dead ws t = ((ws ≡ []) × (t ≡ None)) ⊎ ((f : List ℕ) × (a : Fault) × (ws ≡ put f e alert_kind (alerting 2 a.alert) ∷ []) × (t ≡ Some a))

module _ {H : Type 0} where
  -- ---- what a call opened: nothing, or what the protection opens with what it holds, at the read number,
  -- of the kind and the content of the first record handed in
  abbrev pub OpenedAs : Protection → End H → Call → List Protected → Type 0
  OpenedAs P e (hand_in xs f out place) os =
      (os ≡ [])
      ⊎ ((k : ℕ) × (x : List ℕ) × (y : List ℕ) × (e.reads_protected ≡ true) × (received (limit_of e.reads_protected) xs ≡ whole k x)
      × (opened_with P e.protection e.reads k x ≡ Ok y) × (os ≡ record { number = e.reads; kind = k; content = y } ∷ []))
  OpenedAs P e (turn f out) os = os ≡ []
  OpenedAs P e (answer q a f out) os = os ≡ []
  OpenedAs P e (look q) os = os ≡ []
  OpenedAs P e (send x f out) os = os ≡ []
  OpenedAs P e (close f out) os = os ≡ []

-- what a call brings to be sealed, and to seal with, are octets: of calls on real buffers always so
abbrev pub BringsOctets : Call → Type 0
BringsOctets (hand_in xs f out place) = Octets f
BringsOctets (turn f out) = Octets f
BringsOctets (answer q a f out) = Octets f
BringsOctets (look q) = Unit {0}
BringsOctets (send x f out) = Octets x × Octets f
BringsOctets (close f out) = Octets f

module _ {H : Type 0} where
  -- what is written fits into 4,096 octets, what a send writes into its content + 2,053
  abbrev pub FindsRoom : Protection → Outcome H → Type 0
  FindsRoom P o = (length (output P o) ≤ reply_space) ⊎ ((x : List ℕ) × (o.sent ≡ x ∷ []) × (length (output P o) ≤ send_space (length x)))

module _ {H : Type 0} (step : Steps H) where
  -- a call at some end of a stage leads to the stage of a number
  abbrev pub MadeBy : Stage → ℕ → Type 0
  MadeBy s n = (e : End H) × (c : Call) × (e.stage ≡ s) × (stage_number (step e c).end.stage ≡ n)

  -- all of a list of numbers
  abbrev pub AllMade : Stage → List ℕ → Type 0
  AllMade s [] = Unit {0}
  AllMade s (n ∷ ns) = MadeBy s n × AllMade s ns

-- all laws of one end
pub record EndLaws {H : Type 0} (K : Schedule H) (P : Protection) (step : Steps H) : Type 0 where
  -- a refused call touches nothing, and a line that is over refuses every call
  pub refused_still : (e : End H) (c : Call) (r : Refusal) → (step e c).refused ≡ Some r → step e c ≡ refusing r e
  pub over_refuses : (e : End H) (c : Call) → over e.stage ≡ true → step e c ≡ refusing Over e
  -- the stages move by the table, and every move of the table is made
  pub moves_by_table : (e : End H) (c : Call) → can_move e.stage (step e c).end.stage ≡ true
  pub makes_every_move : (s : Stage) → AllMade step s (leads_to s)
  -- where an end closes or dies, the last it writes is its close_notify or its alert
  pub ends_with : (e : End H) (c : Call) → over e.stage ≡ false → over (step e c).end.stage ≡ true → LastWord e (step e c).end.stage (step e c).writes (step e c).fault
  -- what is opened, is opened by the protection; what is sent, is the reading of an accepted send
  pub opens_so : (e : End H) (c : Call) → OpenedAs P e c (step e c).opened
  pub sends_so : (e : End H) (c : Call) → (step e c).sent ≡ brought (step e c).refused c
  -- the running hash is that of the octets of the messages joined, in their order
  pub hashes_joined : (e : End H) (c : Call) → (step e c).end.transcript ≡ K.absorb e.transcript (joined_octets (step e c).joined)
  -- zeros where they must be, after every call; where keys are made, whatever stood there before
  pub stays_clean : (e : End H) (c : Call) → Clean e → Clean (step e c).end
  pub wipes_keys : (e : End H) (c : Call) (p : List ℕ) (ps : List (List ℕ)) → (step e c).premasters ≡ p ∷ ps → (step e c).end.scratch ≡ no_keys
  -- the buffer never overflows, and the numbers never pass their limits
  pub stays_in_limits : (e : End H) (c : Call) → InLimits e → InLimits (step e c).end
  -- with octets in the buffer a change is alert 10 at every stage, bare and under protection
  pub no_change_over_half : (e : End H) (xs f : List ℕ) (out place : ℕ) → is_none e.buffered ≡ false → (step e (hand_in xs f out place)).refused ≡ None
      → received (limit_of e.reads_protected) xs ≡ whole change_kind (1 ∷ []) → e.reads_protected ≡ false
      → (step e (hand_in xs f out place)).fault ≡ Some (record { alert = 10; layer = AtContent })
  pub no_protected_change_over_half : (e : End H) (xs f y : List ℕ) (out place : ℕ) → is_none e.buffered ≡ false → (step e (hand_in xs f out place)).refused ≡ None
      → received (limit_of e.reads_protected) xs ≡ whole change_kind y → e.reads_protected ≡ true → e.reads + 1 ≤ read_limit → opened_with P e.protection e.reads change_kind y ≡ Ok (1 ∷ [])
      → (step e (hand_in xs f out place)).fault ≡ Some (record { alert = 10; layer = AtContent })
  -- what a protection holds stays in order, and what is written finds room
  pub stays_held : (e : End H) (c : Call) → Held P e.protection → Held P (step e c).end.protection
  pub finds_room : (e : End H) (c : Call) → length e.suites ≤ suite_limit → Held P e.protection → InLimits e → BringsOctets c → FindsRoom P (step e c)
