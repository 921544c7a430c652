-- Stages move by the table; refusals touch nothing; where a line ends, its last word.
use Rattle.std.proofs.Common.{◌≡◌, ℕ, ◌+◌, ◌≤◌, Bool, true, false, leb, List, [], ◌∷◌, Some, None, Ok, Option, sym, refl, ap, ◌∙◌, inl, inr, arith}
use Rattle.records.specs.declared.fault.Layer.TheVariants.{Content as AtContent, Stage as AtStage}
use Rattle.records.specs.Kinds.{change_kind}
use Rattle.records.specs.Records.{whole, received, limit_of}
use Rattle.handshake.specs.Parts.{is_none}
use Rattle.model.specs.declared.stage.Stage.{Stage}
use Rattle.model.specs.declared.stage.Stage.TheVariants.{AskClientRandom, AwaitServerHello, AwaitCertificate, AskCertificates, AwaitServerKeyExchange, AskSignature, AwaitServerHelloDone, AskWrapping, ClientAwaitChange, ClientAwaitFinished, AwaitClientHello, AskServerFlight, AwaitClientKeyExchange, AskUnwrapping, ServerAwaitChange, ServerAwaitFinished, Open, Closed, Dead}
use Rattle.model.specs.declared.refusal.Refusal.{Refusal}
use Rattle.model.specs.declared.refusal.Refusal.TheVariants.{Over}
use Rattle.model.specs.Stages.{over}
use Rattle.model.specs.Limits.{read_limit}
use Rattle.model.specs.Schedule.{Schedule}
use Rattle.model.specs.Protections.{Protection, opened_with}
use Rattle.model.specs.Endpoint.{End, Call, hand_in, turn, answer, look, send, close}
use Rattle.model.specs.Outcomes.{Outcome, refusing}
use Rattle.model.specs.Deeds.{Deed, waits, halts, closes, raises, client_changes, server_changes, buffers, releases, takes_client_hello, takes_server_hello, takes_done, keeps_certificates, keeps_signature, keeps_wrapped, fails_check, client_opens, server_opens, greets, offers, trusts_certificates, trusts_signature, exchanges, unwraps, sends, perform}
use Rattle.model.specs.Refusals.{refusal}
use Rattle.model.specs.Contents.{on_content}
use Rattle.model.specs.Steps.{taken, step}
use Rattle.model.specs.EndLaws.{can_move, LastWord}
use Rattle.model.proofs.ReadBack.{leb_not}
use Rattle.model.proofs.Fronts.{can_die, never}
use Rattle.model.proofs.Fits.{Fits}
use Rattle.model.proofs.Ways.{one_read, step_by}
use Rattle.model.proofs.Accepting.{accepted, accepted_back, acted_as, refused_as}

-- ---- the table
self_moves : (t : Stage) → can_move t t ≡ true
self_moves AskClientRandom = refl
self_moves AwaitServerHello = refl
self_moves AwaitCertificate = refl
self_moves AskCertificates = refl
self_moves AwaitServerKeyExchange = refl
self_moves AskSignature = refl
self_moves AwaitServerHelloDone = refl
self_moves AskWrapping = refl
self_moves ClientAwaitChange = refl
self_moves ClientAwaitFinished = refl
self_moves AwaitClientHello = refl
self_moves AskServerFlight = refl
self_moves AwaitClientKeyExchange = refl
self_moves AskUnwrapping = refl
self_moves ServerAwaitChange = refl
self_moves ServerAwaitFinished = refl
self_moves Open = refl
self_moves Closed = refl
self_moves Dead = refl

dead_moves : (t : Stage) → over t ≡ false → can_die t ≡ true → can_move t Dead ≡ true
dead_moves AskClientRandom q r = never (sym r)
dead_moves AwaitServerHello q r = refl
dead_moves AwaitCertificate q r = refl
dead_moves AskCertificates q r = refl
dead_moves AwaitServerKeyExchange q r = refl
dead_moves AskSignature q r = refl
dead_moves AwaitServerHelloDone q r = refl
dead_moves AskWrapping q r = refl
dead_moves ClientAwaitChange q r = refl
dead_moves ClientAwaitFinished q r = refl
dead_moves AwaitClientHello q r = refl
dead_moves AskServerFlight q r = refl
dead_moves AwaitClientKeyExchange q r = refl
dead_moves AskUnwrapping q r = refl
dead_moves ServerAwaitChange q r = refl
dead_moves ServerAwaitFinished q r = refl
dead_moves Open q r = refl
dead_moves Closed q r = never q
dead_moves Dead q r = never q

closed_moves : (t : Stage) → over t ≡ false → can_move t Closed ≡ true
closed_moves AskClientRandom q = refl
closed_moves AwaitServerHello q = refl
closed_moves AwaitCertificate q = refl
closed_moves AskCertificates q = refl
closed_moves AwaitServerKeyExchange q = refl
closed_moves AskSignature q = refl
closed_moves AwaitServerHelloDone q = refl
closed_moves AskWrapping q = refl
closed_moves ClientAwaitChange q = refl
closed_moves ClientAwaitFinished q = refl
closed_moves AwaitClientHello q = refl
closed_moves AskServerFlight q = refl
closed_moves AwaitClientKeyExchange q = refl
closed_moves AskUnwrapping q = refl
closed_moves ServerAwaitChange q = refl
closed_moves ServerAwaitFinished q = refl
closed_moves Open q = refl
closed_moves Closed q = never q
closed_moves Dead q = never q

module _ {H : Type 0} (K : Schedule H) (P : Protection) where
  moves : (f : List ℕ) (e : End H) (d : Deed) → Fits K e d → over e.stage ≡ false → can_move e.stage (perform K P f e d).end.stage ≡ true
  moves f e waits g l = self_moves e.stage
  moves f e halts g l = dead_moves e.stage l g
  moves f e closes g l = closed_moves e.stage l
  moves f e (raises i n) g l = dead_moves e.stage l g.0
  moves f e client_changes g l = rw g.0 refl
  moves f e server_changes g l = rw g.0 refl
  moves f e (buffers x) g l = self_moves e.stage
  moves f e (releases x) g l = self_moves e.stage
  moves f e (takes_client_hello v u m rest) g l = rw g.0 refl
  moves f e (takes_server_hello v u m rest) g l = rw g.0 refl
  moves f e (takes_done m rest) g l = rw g.0 refl
  moves f e keeps_certificates g l = rw g refl
  moves f e keeps_signature g l = rw g refl
  moves f e keeps_wrapped g l = rw g refl
  moves f e fails_check g l = dead_moves e.stage l g
  moves f e (client_opens m) g l = rw g.0 refl
  moves f e (server_opens m) g l = rw g.0 refl
  moves f e (greets v) g l = rw g.0 refl
  moves f e (offers p) g l = rw g.0 refl
  moves f e (trusts_certificates m rest) g l = rw g.0 refl
  moves f e (trusts_signature m rest) g l = rw g.0 refl
  moves f e (exchanges p w) g l = rw g.0 refl
  moves f e (unwraps p m rest) g l = rw g.0 refl
  moves f e (sends x) g l = self_moves e.stage

  pub moves_step : (e : End H) (c : Call) → can_move e.stage (step K P e c).end.stage ≡ true
  moves_step e c =
      step_by K P e (λ o. can_move e.stage o.end.stage ≡ true) c
      (record {
        refused = λ r. self_moves e.stage;
        wants = λ l. self_moves e.stage;
        done = λ n f d l g h _ _. moves f e d g l;
        plain = λ n f k x l b g _ _ _. moves f e (on_content e k x) g l;
        under = λ n f k x l b g _ _ _ _. moves f (one_read K e) (on_content (one_read K e) k x) g l;
      })

  -- ---- the last word
  Ends : End H → Outcome H → Type 0
  Ends e o = over o.end.stage ≡ true → LastWord e o.end.stage o.writes o.fault

  ends : (f : List ℕ) (e : End H) (d : Deed) → over e.stage ≡ false → over (perform K P f e d).end.stage ≡ true → LastWord e (perform K P f e d).end.stage (perform K P f e d).writes (perform K P f e d).fault
  ends f e waits l q = never (sym q ∙ l)
  ends f e halts l q = inl (refl, refl)
  ends f e closes l q = (f, refl, refl)
  ends f e (raises i n) l q = inr (f, record { alert = n; layer = i }, refl, refl)
  ends f e client_changes l q = never (sym q)
  ends f e server_changes l q = never (sym q)
  ends f e (buffers x) l q = never (sym q ∙ l)
  ends f e (releases x) l q = never (sym q ∙ l)
  ends f e (takes_client_hello v u m rest) l q = never (sym q)
  ends f e (takes_server_hello v u m rest) l q = never (sym q)
  ends f e (takes_done m rest) l q = never (sym q)
  ends f e keeps_certificates l q = never (sym q)
  ends f e keeps_signature l q = never (sym q)
  ends f e keeps_wrapped l q = never (sym q)
  ends f e fails_check l q = inr (f, record { alert = 51; layer = AtStage }, refl, refl)
  ends f e (client_opens m) l q = never (sym q)
  ends f e (server_opens m) l q = never (sym q)
  ends f e (greets v) l q = never (sym q)
  ends f e (offers p) l q = never (sym q)
  ends f e (trusts_certificates m rest) l q = never (sym q)
  ends f e (trusts_signature m rest) l q = never (sym q)
  ends f e (exchanges p w) l q = never (sym q)
  ends f e (unwraps p m rest) l q = never (sym q)
  ends f e (sends x) l q = never (sym q ∙ l)

  pub ends_step : (e : End H) (c : Call) → over e.stage ≡ false → over (step K P e c).end.stage ≡ true → LastWord e (step K P e c).end.stage (step K P e c).writes (step K P e c).fault
  unfolding Ends
  ends_step e c live =
      step_by K P e (Ends e) c
      (record {
        refused = λ r q. never (sym q ∙ live);
        wants = λ l q. never (sym q ∙ live);
        done = λ n f d l g h _ _ q. ends f e d l q;
        plain = λ n f k x l b g _ _ _ q. ends f e (on_content e k x) l q;
        under = λ n f k x l b g _ _ _ _ q. ends f (one_read K e) (on_content (one_read K e) k x) l q;
      })

  -- ---- refusals
  pub refused_still : (e : End H) (c : Call) (r : Refusal) → (step K P e c).refused ≡ Some r → step K P e c ≡ refusing r e
  refused_still e c r q = go (refusal e c) refl
    where
      is_none_of : Option Refusal → Bool
      is_none_of None = true
      is_none_of (Some z) = false

      go : (o : Option Refusal) → refusal e c ≡ o → step K P e c ≡ refusing r e
      go (Some r') h =
          let a = refused_as K P e c r' h in
          let b : Some r' ≡ Some r = ap (λ (o : Outcome H). o.refused) (sym a) ∙ q in
          let i : r' ≡ r = cc in a ∙ ap (λ z. refusing z e) i
      go None h = never (ap is_none_of (sym (accepted K P e c h) ∙ q))

  over-refusal : (e : End H) (c : Call) → over e.stage ≡ true → refusal e c ≡ Some Over
  over-refusal e (hand_in xs f out place) q = rw q refl
  over-refusal e (turn f out) q = rw q refl
  over-refusal e (answer k a f out) q = rw q refl
  over-refusal e (look k) q = rw q refl
  over-refusal e (send x f out) q = rw q refl
  over-refusal e (close f out) q = rw q refl

  pub over_refuses : (e : End H) (c : Call) → over e.stage ≡ true → step K P e c ≡ refusing Over e
  over_refuses e c q = refused_as K P e c Over (over-refusal e c q)

  -- ---- a change over half a message
  pub half_bare : (e : End H) (xs f : List ℕ) (out place : ℕ) → is_none e.buffered ≡ false → (step K P e (hand_in xs f out place)).refused ≡ None
      → received (limit_of e.reads_protected) xs ≡ whole change_kind (1 ∷ []) → e.reads_protected ≡ false
      → (step K P e (hand_in xs f out place)).fault ≡ Some (record { alert = 10; layer = AtContent })
  half_bare e xs f out place n q r b = let a = accepted_back K P e (hand_in xs f out place) q in
      ap (λ (o : Outcome H). o.fault) (acted_as K P e (hand_in xs f out place) a ∙ ap (taken K P f e) r) ∙ rw (b, n) refl

  pub half_protected : (e : End H) (xs f y : List ℕ) (out place : ℕ) → is_none e.buffered ≡ false → (step K P e (hand_in xs f out place)).refused ≡ None
      → received (limit_of e.reads_protected) xs ≡ whole change_kind y → e.reads_protected ≡ true → e.reads + 1 ≤ read_limit → opened_with P e.protection e.reads change_kind y ≡ Ok (1 ∷ [])
      → (step K P e (hand_in xs f out place)).fault ≡ Some (record { alert = 10; layer = AtContent })
  half_protected e xs f y out place n q r b m z = let a = accepted_back K P e (hand_in xs f out place) q in
      let k : leb read_limit e.reads ≡ false = leb_not _ _ (omega arith) in
      ap (λ (o : Outcome H). o.fault) (acted_as K P e (hand_in xs f out place) a ∙ ap (taken K P f e) r) ∙ rw (b, k, z, n) refl
