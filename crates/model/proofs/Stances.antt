-- What a call can do at an end on an undisturbed wire, by how the end stands: nothing, or this one thing.
use Rattle.std.proofs.Common.{◌≡◌, ℕ, ◌+◌, ◌<◌, ◌≤◌, true, false, cond, ◌⊎◌, List, [], ◌++◌, length, Some, None, Option, refl, ap, ◌∙◌, inl, inr, ⊎_elim, arith}
use Rattle.octets.specs.Octets.{Octets}
use Rattle.records.specs.Kinds.{known_kind}
use Rattle.records.specs.Records.{framed, whole, received, limit_of}
use Rattle.protection.specs.Limits.{fresh_size}
use Rattle.handshake.specs.Frames.{Next, next, is_ready}
use Rattle.model.specs.declared.question.Question.{Question}
use Rattle.model.specs.declared.refusal.Refusal.{Refusal}
use Rattle.model.specs.declared.refusal.Refusal.TheVariants.{QuestionOpen, NotAsked, MessageReady, NothingReady, NotOpen}
use Rattle.model.specs.Stages.{asks, asking, is_open, over}
use Rattle.model.specs.Limits.{send_limit}
use Rattle.model.specs.Schedule.{Schedule}
use Rattle.model.specs.Protections.{Protection}
use Rattle.model.specs.Endpoint.{End, Parts, Answer, yes, no, Call, hand_in, turn, answer, look, send, close}
use Rattle.model.specs.Outcomes.{Outcome, consuming}
use Rattle.model.specs.Deeds.{waits, sends, perform}
use Rattle.model.specs.Refusals.{within, parts_fit, message_ready, refusal}
use Rattle.model.specs.Turns.{turned}
use Rattle.model.specs.Answers.{said_yes}
use Rattle.model.specs.Steps.{on_record, taken, step}
use Rattle.model.specs.EndLaws.{BringsOctets}
use Rattle.model.specs.Runs.{Begins}
use Rattle.model.specs.Law.{counts, CalmAs, SaysYes, YesAs}
use Rattle.model.proofs.Ways.{answer_facts, send_facts, turn_facts}
use Rattle.model.proofs.Accepting.{Sendable, Still, accepted, acted_as, begins_none, closing, either, framed_front, kind_whole, looks, still_more, still_refused}

module _ {H : Type 0} (K : Schedule H) (P : Protection) where
  -- an end that is not over and asks nothing
  pub record Plain (e : End H) : Type 0 where
    pub lives : over e.stage ≡ false
    pub asks_not : asking e.stage ≡ false
    pub asks_none : asks e.stage ≡ None

  pub unasked : (e : End H) (k : Question) (a : Answer) (f : List ℕ) (out : ℕ) → Plain e → (Still K P) e (answer k a f out) (step K P e (answer k a f out))
  unasked e k a f out p = (still_refused K P) e (answer k a f out) NotAsked (rw (p.lives, p.asks_none) refl)

  pub unready : (e : End H) (f : List ℕ) (out : ℕ) → Plain e → message_ready e ≡ false → (Still K P) e (turn f out) (step K P e (turn f out))
  unready e f out p d = (still_refused K P) e (turn f out) NothingReady (rw (p.lives, p.asks_not, d) refl)

  pub unopen : (e : End H) (x f : List ℕ) (out : ℕ) → over e.stage ≡ false → is_open e.stage ≡ false → (Still K P) e (send x f out) (step K P e (send x f out))
  unopen e x f out l o = (still_refused K P) e (send x f out) NotOpen (rw (l, o) refl)

  pub nothing_comes : (e : End H) (xs f : List ℕ) (out place : ℕ) → CalmAs (step K P e (hand_in xs f out place)).refused (hand_in xs f out place) [] → (Still K P) e (hand_in xs f out place) (step K P e (hand_in xs f out place))
  nothing_comes e xs f out place k = go (refusal e (hand_in xs f out place)) refl
    where
      go : (o : Option Refusal) → refusal e (hand_in xs f out place) ≡ o → (Still K P) e (hand_in xs f out place) (step K P e (hand_in xs f out place))
      go (Some r) q = (still_refused K P) e (hand_in xs f out place) r q
      go None q = (still_more K P) e xs f out place q (ap (received (limit_of e.reads_protected)) (begins_none xs (rw ((accepted K P) e (hand_in xs f out place) q) at k)))

  -- nothing waits, nothing is ready, nothing is asked: nothing happens
  pub idle : (e : End H) (c : Call) → Plain e → message_ready e ≡ false → is_open e.stage ≡ false → CalmAs (step K P e c).refused c [] → (Still K P) e c (step K P e c)
  idle e (hand_in xs f out place) p d o k = nothing_comes e xs f out place k
  idle e (turn f out) p d o k = unready e f out p d
  idle e (answer q a f out) p d o k = unasked e q a f out p
  idle e (look q) p d o k = (looks K P) e q
  idle e (send x f out) p d o k = unopen e x f out p.lives o
  idle e (close f out) p d o k = (closing K P) e f out [] k

  -- a record is taken
  abbrev pub Takes : End H → Call → ℕ → List ℕ → Outcome H → Type 0
  Takes e c k x o = (f : List ℕ) × (o ≡ consuming (length x + 5) (cond (known_kind k) (on_record K P f e e.reads_protected k x) (perform K P f e waits))) × (counts c o ≡ 1)

  pub record_comes : (e : End H) (xs f : List ℕ) (out place k : ℕ) (x rest : List ℕ) → length x ≤ limit_of e.reads_protected → CalmAs (step K P e (hand_in xs f out place)).refused (hand_in xs f out place) (framed k x ++ rest)
      → (Still K P) e (hand_in xs f out place) (step K P e (hand_in xs f out place)) ⊎ Takes e (hand_in xs f out place) k x (step K P e (hand_in xs f out place))
  record_comes e xs f out place k x rest l h =
      (either K P) e (hand_in xs f out place) (λ q.
      let g : Begins xs (framed k x ++ rest) = rw ((accepted K P) e (hand_in xs f out place) q) at h in
      ⊎_elim (λ z. inl ((still_more K P) e xs f out place q z))
      (λ (z : received (limit_of e.reads_protected) xs ≡ whole k x).
      let s : step K P e (hand_in xs f out place) ≡ consuming (length x + 5) (cond (known_kind k) (on_record K P f e e.reads_protected k x) (perform K P f e waits)) = (acted_as K P) e (hand_in xs f out place) q ∙ ap (taken K P f e) z in
      inr (f, s, rw ((accepted K P) e (hand_in xs f out place) q, s, (kind_whole K P) f e k x) refl))
      (framed_front (limit_of e.reads_protected) k x rest xs l g))

  pub takes : (e : End H) (c : Call) (k : ℕ) (x rest : List ℕ) → Plain e → message_ready e ≡ false → is_open e.stage ≡ false → length x ≤ limit_of e.reads_protected → CalmAs (step K P e c).refused c (framed k x ++ rest)
      → (Still K P) e c (step K P e c) ⊎ Takes e c k x (step K P e c)
  takes e (hand_in xs f out place) k x rest p d o l h = record_comes e xs f out place k x rest l h
  takes e (turn f out) k x rest p d o l h = inl (unready e f out p d)
  takes e (answer q a f out) k x rest p d o l h = inl (unasked e q a f out p)
  takes e (look q) k x rest p d o l h = inl ((looks K P) e q)
  takes e (send y f out) k x rest p d o l h = inl (unopen e y f out p.lives o)
  takes e (close f out) k x rest p d o l h = inl ((closing K P) e f out _ h)

  -- fresh octets that a call brought
  pub record Fresh (f : List ℕ) : Type 0 where
    pub sixteen : length f ≡ fresh_size
    pub are_octets : Octets f

  -- a message is ready: it is turned
  abbrev pub Turns : End H → Call → Next → Outcome H → Type 0
  Turns e c n o = (f : List ℕ) × Fresh f × (o ≡ consuming 0 (perform K P f e (turned K e n))) × (counts c o ≡ 1)

  pub turns : (e : End H) (c : Call) (w : List ℕ) (n : Next) → Plain e → next e.buffered ≡ n → is_ready n ≡ true → is_open e.stage ≡ false → CalmAs (step K P e c).refused c w → BringsOctets c
      → (Still K P) e c (step K P e c) ⊎ Turns e c n (step K P e c)
  turns e (hand_in xs f out place) w n p d y o h b = inl ((still_refused K P) e (hand_in xs f out place) MessageReady (rw (p.lives, p.asks_not, d, y) refl))
  turns e (turn f out) w n p d y o h b =
      (either K P) e (turn f out) (λ q. inr (f, record { sixteen = (turn_facts K e f out q).0; are_octets = b }, (acted_as K P) e (turn f out) q ∙ ap (λ z. consuming 0 (perform K P f e (turned K e z))) d, rw ((accepted K P) e (turn f out) q) refl))
  turns e (answer q a f out) w n p d y o h b = inl (unasked e q a f out p)
  turns e (look q) w n p d y o h b = inl ((looks K P) e q)
  turns e (send x f out) w n p d y o h b = inl (unopen e x f out p.lives o)
  turns e (close f out) w n p d y o h b = inl ((closing K P) e f out w h)

  -- a question is open: it is answered with a yes
  abbrev pub Answers : End H → Call → Question → List (List ℕ) → Outcome H → Type 0
  Answers e c k ps o = (p : Parts) × (f : List ℕ) × Fresh f × (parts_fit k p ≡ true) × SaysYes k (yes p) ps × (o ≡ consuming 0 (perform K P f e (said_yes e k p))) × (counts c o ≡ 1)

  pub answers : (e : End H) (c : Call) (w : List ℕ) (ps : List (List ℕ)) (k : Question) → over e.stage ≡ false → asking e.stage ≡ true → asks e.stage ≡ Some k → is_open e.stage ≡ false → CalmAs (step K P e c).refused c w → YesAs (step K P e c).refused c ps → BringsOctets c
      → (Still K P) e c (step K P e c) ⊎ Answers e c k ps (step K P e c)
  answers e (hand_in xs f out place) w ps k l a q o h y b = inl ((still_refused K P) e (hand_in xs f out place) QuestionOpen (rw (l, a) refl))
  answers e (turn f out) w ps k l a q o h y b = inl ((still_refused K P) e (turn f out) QuestionOpen (rw (l, a) refl))
  answers e (answer k' (yes p) f out) w ps k l a q o h y b =
      (either K P) e (answer k' (yes p) f out) (λ z.
      let r = answer_facts K e k' (yes p) f out z in
      let m : asks e.stage ≡ Some k' = r.0 in
      let i : k' ≡ k = cc in
      let v : SaysYes k' (yes p) ps = rw ((accepted K P) e (answer k' (yes p) f out) z) at y in
      inr (p, f, record { sixteen = r.3; are_octets = b }, rw i at r.1, rw i at v, (acted_as K P) e (answer k' (yes p) f out) z ∙ ap (λ j. consuming 0 (perform K P f e (said_yes e j p))) i, rw ((accepted K P) e (answer k' (yes p) f out) z) refl))
  answers e (answer k' (no n) f out) w ps k l a q o h y b =
      (either K P) e (answer k' (no n) f out) (λ z. let v : SaysYes k' (no n) ps = rw ((accepted K P) e (answer k' (no n) f out) z) at y in absurd v)
  answers e (look k') w ps k l a q o h y b = inl ((looks K P) e k')
  answers e (send x f out) w ps k l a q o h y b = inl (unopen e x f out l o)
  answers e (close f out) w ps k l a q o h y b = inl ((closing K P) e f out w h)

  -- an end that is open: it sends, or takes a record
  abbrev pub Sends : End H → Call → Outcome H → Type 0
  Sends e c o = (x : List ℕ) × (f : List ℕ) × Sendable x f × (e.writes < send_limit) × (o ≡ consuming 0 (perform K P f e (sends x))) × (counts c o ≡ 0)

  pub within_is : (a b n : ℕ) → within a b n ≡ true → (a ≤ n) × (n ≤ b)
  within_is a b n q = (grind arith, grind arith)

  pub open_sends : (e : End H) (x f : List ℕ) (out : ℕ) → Octets x → Octets f → (Still K P) e (send x f out) (step K P e (send x f out)) ⊎ Sends e (send x f out) (step K P e (send x f out))
  open_sends e x f out ox of =
      (either K P) e (send x f out) (λ q.
      let g = send_facts K e x f out q in
      inr (x, f, record { some_content = g.2; not_long = g.3; fresh_enough = g.1; x_octets = ox; fresh_octets = of }, g.4, (acted_as K P) e (send x f out) q, rw ((accepted K P) e (send x f out) q) refl))

  pub open_idle : (e : End H) (c : Call) → Plain e → message_ready e ≡ false → CalmAs (step K P e c).refused c [] → BringsOctets c → (Still K P) e c (step K P e c) ⊎ Sends e c (step K P e c)
  open_idle e (hand_in xs f out place) p d k b = inl (nothing_comes e xs f out place k)
  open_idle e (turn f out) p d k b = inl (unready e f out p d)
  open_idle e (answer q a f out) p d k b = inl (unasked e q a f out p)
  open_idle e (look q) p d k b = inl ((looks K P) e q)
  open_idle e (send x f out) p d k b = open_sends e x f out b.0 b.1
  open_idle e (close f out) p d k b = inl ((closing K P) e f out [] k)

  pub open_takes : (e : End H) (c : Call) (k : ℕ) (x rest : List ℕ) → Plain e → message_ready e ≡ false → length x ≤ limit_of e.reads_protected → CalmAs (step K P e c).refused c (framed k x ++ rest) → BringsOctets c
      → ((Still K P) e c (step K P e c) ⊎ Sends e c (step K P e c)) ⊎ Takes e c k x (step K P e c)
  open_takes e (hand_in xs f out place) k x rest p d l h b = ⊎_elim (λ z. inl (inl z)) (λ z. inr z) (record_comes e xs f out place k x rest l h)
  open_takes e (turn f out) k x rest p d l h b = inl (inl (unready e f out p d))
  open_takes e (answer q a f out) k x rest p d l h b = inl (inl (unasked e q a f out p))
  open_takes e (look q) k x rest p d l h b = inl (inl ((looks K P) e q))
  open_takes e (send y f out) k x rest p d l h b = inl (open_sends e y f out b.0 b.1)
  open_takes e (close f out) k x rest p d l h b = inl (inl ((closing K P) e f out _ h))
