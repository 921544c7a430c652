-- One call, whatever it is: the ways through the step, walked once for every property.
use Rattle.std.proofs.Common.{◌≡◌, ℕ, ◌+◌, ◌*◌, ◌<◌, ◌≤◌, Bool, true, false, cond, not, ◌&&◌, eqb, leb, ◌⊎◌, List, [], ◌∷◌, length, take, Some, None, Ok, Err, Option, Result, refl, inl, inr, arith, lit≤, eqb-true}
use Rattle.octets.specs.Octets.{Octets}
use Rattle.records.specs.declared.fault.Layer.TheVariants.{Record as AtRecord}
use Rattle.records.specs.Kinds.{known_kind}
use Rattle.records.specs.Records.{Received, more, faulty, whole, received, limit_of}
use Rattle.protection.specs.declared.error.OpenError.{OpenError}
use Rattle.protection.specs.Limits.{content_limit, fresh_size}
use Rattle.handshake.specs.Frames.{next}
use Rattle.model.specs.declared.stage.Stage.TheVariants.{Open}
use Rattle.model.specs.declared.question.Question.{Question}
use Rattle.model.specs.declared.refusal.Refusal.{Refusal}
use Rattle.model.specs.declared.refusal.Refusal.TheVariants.{Over, QuestionOpen, NotAsked, MessageReady, NothingReady, NotOpen, WrongLength, NoSpace, NumbersSpent, NoNotTaken}
use Rattle.model.specs.Stages.{asks, asking, is_open, over}
use Rattle.model.specs.Limits.{reply_space, send_space, place_space, send_limit, read_limit}
use Rattle.model.specs.Schedule.{Schedule}
use Rattle.model.specs.Protections.{Protection, opened_with}
use Rattle.model.specs.Endpoint.{End, Answer, Call, hand_in, turn, answer, look, send, close, with_in}
use Rattle.model.specs.Outcomes.{Protected, Outcome, writing, refusing, consuming, wanting, noting}
use Rattle.model.specs.Deeds.{Deed, waits, closes, raises, sends, perform}
use Rattle.model.specs.Refusals.{within, lengths_fit, takes_answer, asked_as, message_ready, refusal}
use Rattle.model.specs.Contents.{on_content}
use Rattle.model.specs.Turns.{turned}
use Rattle.model.specs.Answers.{answered}
use Rattle.model.specs.Steps.{on_opening, on_record, taken, act, gated, step}
use Rattle.model.specs.EndLaws.{BringsOctets}
use Rattle.model.proofs.Fronts.{can_die, not_asking_dies, open_is}
use Rattle.model.proofs.Fits.{Fits, SendsOctets, content_fits, handed, ordinary_handed, ordinary_sends}
use Rattle.model.proofs.Decisions.{answered_fits, answered_ordinary, asked_is, turned_fits, turned_ordinary}

module _ {H : Type 0} (K : Schedule H) where
  live : (e : End H) (c : Call) → refusal e c ≡ None → over e.stage ≡ false
  live e (hand_in xs f out place) q = grind arith
  live e (turn f out) q = grind arith
  live e (answer k a f out) q = grind arith
  live e (look k) q = grind arith
  live e (send x f out) q = grind arith
  live e (close f out) q = grind arith

  -- ---- what an accepted call has
  pub hand_in_facts : (e : End H) (xs f : List ℕ) (out place : ℕ) → refusal e (hand_in xs f out place) ≡ None → (message_ready e ≡ false) × (length f ≡ fresh_size) × (can_die e.stage ≡ true)
  hand_in_facts e xs f out place q = let h = go (over e.stage) (asking e.stage) (message_ready e) (eqb (length f) fresh_size) (leb reply_space out && leb place_space place) q in (h.0, eqb-true _ _ h.1, not_asking_dies _ h.2)
    where
      go : (b1 b2 b3 b4 b5 : Bool) → cond b1 (Some Over) (cond b2 (Some QuestionOpen) (cond b3 (Some MessageReady) (cond (not b4) (Some WrongLength) (cond (not b5) (Some NoSpace) None)))) ≡ None → (b3 ≡ false) × (b4 ≡ true) × (b2 ≡ false)
      go b1 b2 b3 b4 b5 z = (grind arith, grind arith, grind arith)

  pub turn_facts : (e : End H) (f : List ℕ) (out : ℕ) → refusal e (turn f out) ≡ None → (length f ≡ fresh_size) × (can_die e.stage ≡ true)
  turn_facts e f out q = let h = go (over e.stage) (asking e.stage) (message_ready e) (eqb (length f) fresh_size) (leb reply_space out) q in (eqb-true _ _ h.0, not_asking_dies _ h.1)
    where
      go : (b1 b2 b3 b4 b5 : Bool) → cond b1 (Some Over) (cond b2 (Some QuestionOpen) (cond (not b3) (Some NothingReady) (cond (not b4) (Some WrongLength) (cond (not b5) (Some NoSpace) None)))) ≡ None → (b4 ≡ true) × (b2 ≡ false)
      go b1 b2 b3 b4 b5 z = (grind arith, grind arith)

  pub answer_facts : (e : End H) (k : Question) (a : Answer) (f : List ℕ) (out : ℕ) → refusal e (answer k a f out) ≡ None → (asks e.stage ≡ Some k) × (lengths_fit k a ≡ true) × (takes_answer k a ≡ true) × (length f ≡ fresh_size)
  answer_facts e k a f out q = let h = go (over e.stage) (asked_as (asks e.stage) k) (eqb (length f) fresh_size) (lengths_fit k a) (leb reply_space out) (takes_answer k a) q in (asked_is K e.stage k h.0, h.1, h.2, eqb-true _ _ h.3)
    where
      go : (b1 b2 b3 b4 b5 b6 : Bool) → cond b1 (Some Over) (cond (not b2) (Some NotAsked) (cond (not (b3 && b4)) (Some WrongLength) (cond (not b5) (Some NoSpace) (cond (not b6) (Some NoNotTaken) None)))) ≡ None → (b2 ≡ true) × (b4 ≡ true) × (b6 ≡ true) × (b3 ≡ true)
      go b1 b2 b3 b4 b5 b6 z = (grind arith, grind arith, grind arith, grind arith)

  pub send_facts : (e : End H) (x f : List ℕ) (out : ℕ) → refusal e (send x f out) ≡ None → (e.stage ≡ Open) × (length f ≡ fresh_size) × (1 ≤ length x) × (length x ≤ content_limit) × (e.writes < send_limit)
  send_facts e x f out q = let h = go (over e.stage) (is_open e.stage) (eqb (length f) fresh_size) (within 1 content_limit (length x)) (leb (send_space (length x)) out) (leb send_limit e.writes) q in
      let a : within 1 content_limit (length x) ≡ true = h.2 in let b : leb send_limit e.writes ≡ false = h.3 in
      (open_is _ h.0, eqb-true _ _ h.1, grind arith, grind arith, grind arith)
    where
      go : (b1 b2 b3 b4 b5 b6 : Bool) → cond b1 (Some Over) (cond (not b2) (Some NotOpen) (cond (not (b3 && b4)) (Some WrongLength) (cond (not b5) (Some NoSpace) (cond b6 (Some NumbersSpent) None)))) ≡ None → (b2 ≡ true) × (b3 ≡ true) × (b4 ≡ true) × (b6 ≡ false)
      go b1 b2 b3 b4 b5 b6 z = (grind arith, grind arith, grind arith, grind arith)

  pub close_facts : (e : End H) (f : List ℕ) (out : ℕ) → refusal e (close f out) ≡ None → length f ≡ fresh_size
  close_facts e f out q = eqb-true _ _ (go (over e.stage) (eqb (length f) fresh_size) (leb reply_space out) q)
    where
      go : (b1 b2 b3 : Bool) → cond b1 (Some Over) (cond (not b2) (Some WrongLength) (cond (not b3) (Some NoSpace) None)) ≡ None → b2 ≡ true
      go b1 b2 b3 z = grind arith

  -- the alert of a faulty header is an octet
  abbrev Low : Received → Type 0
  Low more = Unit {0}
  Low (faulty n) = n < 256
  Low (whole k x) = Unit {0}

  received_low : (limit : ℕ) (xs : List ℕ) → Low (received limit xs)
  received_low limit [] = tt
  received_low limit (k ∷ []) = tt
  received_low limit (k ∷ (v ∷ [])) = tt
  received_low limit (k ∷ (v ∷ (w ∷ []))) = tt
  received_low limit (k ∷ (v ∷ (w ∷ (a ∷ [])))) = tt
  received_low limit (k ∷ (v ∷ (w ∷ (a ∷ (b ∷ xs))))) = go (eqb v 1 && eqb w 1) (leb (a * 256 + b) limit) (leb (a * 256 + b) (length xs))
    where
      go : (b1 b2 b3 : Bool) → Low (cond b1 (cond b2 (cond b3 (whole k (take (a * 256 + b) xs)) more) (faulty 22)) (faulty 70))
      go true true true = tt
      go true true false = tt
      go true false b3 = lit≤ tt
      go false b2 b3 = lit≤ tt

  -- ---- one call, whatever it is: the ways through `step`, walked once for every property
  abbrev pub opened_as : End H → ℕ → List ℕ → Protected
  opened_as e k y = record { number = e.reads; kind = k; content = y }

  abbrev pub one_read : End H → End H
  one_read e = with_in true (e.reads + 1) e

  module _ (P : Protection) where
    pub record Ways (e : End H) (c : Call) (Q : Outcome H → Type 0) : Type 0 where
      pub refused : (r : Refusal) → Q (refusing r e)
      pub wants : over e.stage ≡ false → Q (wanting (writing [] e))
      pub done : (n : ℕ) (f : List ℕ) (d : Deed) → over e.stage ≡ false → Fits K e d → handed d ≡ false → (d ≡ waits) ⊎ (length f ≡ fresh_size) → (BringsOctets c → Octets f × SendsOctets d) → Q (consuming n (perform K P f e d))
      pub plain : (n : ℕ) (f : List ℕ) (k : ℕ) (x : List ℕ) → over e.stage ≡ false → e.reads_protected ≡ false → Fits K e (on_content e k x) → message_ready e ≡ false → length f ≡ fresh_size → (BringsOctets c → Octets f) → Q (consuming n (perform K P f e (on_content e k x)))
      pub under : (n : ℕ) (f : List ℕ) (k : ℕ) (x : List ℕ) → over e.stage ≡ false → e.reads_protected ≡ true → Fits K (one_read e) (on_content (one_read e) k x) → message_ready e ≡ false → length f ≡ fresh_size → (BringsOctets c → Octets f) → e.reads < read_limit → Q (consuming n (noting (opened_as e k x) (perform K P f (one_read e) (on_content (one_read e) k x))))

    -- what a hand in has, whatever it then does
    record Takes (e : End H) (c : Call) (f : List ℕ) : Type 0 where
      lives : over e.stage ≡ false
      unready : message_ready e ≡ false
      sixteen : length f ≡ fresh_size
      dies : can_die e.stage ≡ true
      octets_in : BringsOctets c → Octets f

    module _ (e : End H) (c : Call) (Q : Outcome H → Type 0) (w : Ways e c Q) where
      raises_by : (n : ℕ) (f : List ℕ) (a : ℕ) → Takes e c f → a < 256 → Q (consuming n (perform K P f e (raises AtRecord a)))
      raises_by n f a t i = w.done n f (raises AtRecord a) t.lives (t.dies, i) refl (inr t.sixteen) (λ o. (t.octets_in o, tt))

      waits_by : (n : ℕ) (f : List ℕ) → Takes e c f → Q (consuming n (perform K P f e waits))
      waits_by n f t = w.done n f waits t.lives tt refl (inl refl) (λ o. (t.octets_in o, tt))

      opening_by : (n : ℕ) (f : List ℕ) (k : ℕ) (o : Result (List ℕ) OpenError) → e.reads_protected ≡ true → e.reads < read_limit → Takes e c f → Q (consuming n (on_opening K P f e k o))
      opening_by n f k (Err x) q m t = raises_by n f 20 t (lit≤ tt)
      opening_by n f k (Ok y) q m t = w.under n f k y t.lives q (content_fits K (one_read e) k y t.dies) t.unready t.sixteen t.octets_in m

      limited_by : (n : ℕ) (f : List ℕ) (k : ℕ) (b : Bool) (o : Result (List ℕ) OpenError) → leb read_limit e.reads ≡ b → e.reads_protected ≡ true → Takes e c f → Q (consuming n (cond b (perform K P f e (raises AtRecord 10)) (on_opening K P f e k o)))
      limited_by n f k true o i q t = raises_by n f 10 t (lit≤ tt)
      limited_by n f k false o i q t = opening_by n f k o q (grind arith) t

      record_by : (n : ℕ) (f : List ℕ) (b : Bool) (k : ℕ) (x : List ℕ) → e.reads_protected ≡ b → Takes e c f → Q (consuming n (on_record K P f e b k x))
      record_by n f false k x q t = w.plain n f k x t.lives q (content_fits K e k x t.dies) t.unready t.sixteen t.octets_in
      record_by n f true k x q t = limited_by n f k (leb read_limit e.reads) (opened_with P e.protection e.reads k x) refl q t

      kind_by : (n : ℕ) (f : List ℕ) (b : Bool) (k : ℕ) (x : List ℕ) → Takes e c f → Q (consuming n (cond b (on_record K P f e e.reads_protected k x) (perform K P f e waits)))
      kind_by n f true k x t = record_by n f e.reads_protected k x refl t
      kind_by n f false k x t = waits_by n f t

      taken_by : (f : List ℕ) (r : Received) → Low r → Takes e c f → Q (taken K P f e r)
      taken_by f more i t = w.wants t.lives
      taken_by f (faulty n) i t = raises_by 0 f n t i
      taken_by f (whole k x) i t = kind_by (length x + 5) f (known_kind k) k x t

    module _ (e : End H) (Q : Outcome H → Type 0) where
      act_by : (c : Call) → Ways e c Q → refusal e c ≡ None → Q (act K P e c)
      act_by (hand_in xs f out place) w q =
          let h = hand_in_facts e xs f out place q in
          taken_by e (hand_in xs f out place) Q w f (received (limit_of e.reads_protected) xs) (received_low _ xs) (record { lives = live e (hand_in xs f out place) q; unready = h.0; sixteen = h.1; dies = h.2; octets_in = λ o. o })
      act_by (turn f out) w q = let h = turn_facts e f out q in w.done 0 f (turned K e (next e.buffered)) (live e (turn f out) q) (turned_fits K e _ h.1 refl) (ordinary_handed (turned K e (next e.buffered)) (turned_ordinary K e (next e.buffered))) (inr h.0) (λ o. (o, ordinary_sends (turned K e (next e.buffered)) (turned_ordinary K e (next e.buffered))))
      act_by (answer k a f out) w q = let h = answer_facts e k a f out q in w.done 0 f (answered e k a) (live e (answer k a f out) q) (answered_fits K e k a h.0 h.1 h.2) (ordinary_handed (answered e k a) (answered_ordinary K e k a)) (inr h.3) (λ o. (o, ordinary_sends (answered e k a) (answered_ordinary K e k a)))
      act_by (look k) w q = w.done 0 [] waits (live e (look k) q) tt refl (inl refl) (λ o. (tt, tt))
      act_by (send x f out) w q = let h = send_facts e x f out q in w.done 0 f (sends x) (live e (send x f out) q) (h.0, h.2, h.3, h.4) refl (inr h.1) (λ o. (o.1, o.0))
      act_by (close f out) w q = w.done 0 f closes (live e (close f out) q) tt refl (inr (close_facts e f out q)) (λ o. (o, tt))

      gated_by : (c : Call) → Ways e c Q → (o : Option Refusal) → refusal e c ≡ o → Q (gated K P o e c)
      gated_by c w (Some r) q = w.refused r
      gated_by c w None q = act_by c w q

      pub step_by : (c : Call) → Ways e c Q → Q (step K P e c)
      unfolding step
      step_by c w = gated_by c w (refusal e c) refl
