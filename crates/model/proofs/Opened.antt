-- What a call opens, the protection opens: with what it holds, at the read number, of the record handed in.
use Rattle.std.proofs.Common.{◌≡◌, ℕ, Bool, true, false, cond, leb, ◌⊎◌, List, [], ◌∷◌, Some, None, Ok, Err, Option, Result, refl, inl, inr, ⊎_elim}
use Rattle.records.specs.declared.fault.Layer.TheVariants.{Record as AtRecord}
use Rattle.records.specs.Kinds.{known_kind}
use Rattle.records.specs.Records.{Received, more, faulty, whole, received, limit_of}
use Rattle.protection.specs.declared.error.OpenError.{OpenError}
use Rattle.handshake.specs.Frames.{next}
use Rattle.model.specs.declared.refusal.Refusal.{Refusal}
use Rattle.model.specs.Limits.{read_limit}
use Rattle.model.specs.Schedule.{Schedule}
use Rattle.model.specs.Protections.{Protection, opened_with}
use Rattle.model.specs.Endpoint.{End, Call, hand_in, turn, answer, look, send, close}
use Rattle.model.specs.Outcomes.{Outcome}
use Rattle.model.specs.Deeds.{Deed, waits, halts, closes, raises, client_changes, server_changes, buffers, releases, takes_client_hello, takes_server_hello, takes_done, keeps_certificates, keeps_signature, keeps_wrapped, fails_check, client_opens, server_opens, greets, offers, trusts_certificates, trusts_signature, exchanges, unwraps, sends, perform}
use Rattle.model.specs.Refusals.{refusal}
use Rattle.model.specs.Contents.{on_content}
use Rattle.model.specs.Turns.{turned}
use Rattle.model.specs.Answers.{answered}
use Rattle.model.specs.Steps.{on_opening, on_record, taken, act, step}
use Rattle.model.specs.EndLaws.{OpenedAs}
use Rattle.model.proofs.Accepting.{acted_as, refused_as}

module _ {H : Type 0} (K : Schedule H) (P : Protection) where
  deed_opened : (f : List ℕ) (e : End H) (d : Deed) → (perform K P f e d).opened ≡ []
  deed_opened f e waits = refl
  deed_opened f e halts = refl
  deed_opened f e closes = refl
  deed_opened f e (raises l n) = refl
  deed_opened f e client_changes = refl
  deed_opened f e server_changes = refl
  deed_opened f e (buffers x) = refl
  deed_opened f e (releases x) = refl
  deed_opened f e (takes_client_hello r u m rest) = refl
  deed_opened f e (takes_server_hello r u m rest) = refl
  deed_opened f e (takes_done m rest) = refl
  deed_opened f e keeps_certificates = refl
  deed_opened f e keeps_signature = refl
  deed_opened f e keeps_wrapped = refl
  deed_opened f e fails_check = refl
  deed_opened f e (client_opens m) = refl
  deed_opened f e (server_opens m) = refl
  deed_opened f e (greets r) = refl
  deed_opened f e (offers p) = refl
  deed_opened f e (trusts_certificates m rest) = refl
  deed_opened f e (trusts_signature m rest) = refl
  deed_opened f e (exchanges p w) = refl
  deed_opened f e (unwraps p m rest) = refl
  deed_opened f e (sends x) = refl

  -- what a record opened
  abbrev By : List ℕ → End H → Bool → ℕ → List ℕ → Outcome H → Type 0
  By f e b k x o = (o.opened ≡ []) ⊎ ((y : List ℕ) × (b ≡ true) × (opened_with P e.protection e.reads k x ≡ Ok y) × (o.opened ≡ record { number = e.reads; kind = k; content = y } ∷ []))

  record_opened : (f : List ℕ) (e : End H) (b : Bool) (k : ℕ) (x : List ℕ) → By f e b k x (on_record K P f e b k x)
  record_opened f e false k x = inl (deed_opened f e (on_content e k x))
  record_opened f e true k x = go (leb read_limit e.reads) (opened_with P e.protection e.reads k x) refl
    where
      go : (b : Bool) (o : Result (List ℕ) OpenError) → opened_with P e.protection e.reads k x ≡ o → By f e true k x (cond b (perform K P f e (raises AtRecord 10)) (on_opening K P f e k o))
      go true o q = inl refl
      go false (Err y) q = inl refl
      go false (Ok y) q = inr (y, refl, q, refl)

  kind_opened : (f : List ℕ) (e : End H) (k : ℕ) (x : List ℕ) → By f e e.reads_protected k x (cond (known_kind k) (on_record K P f e e.reads_protected k x) (perform K P f e waits))
  kind_opened f e k x = go (known_kind k)
    where
      go : (b : Bool) → By f e e.reads_protected k x (cond b (on_record K P f e e.reads_protected k x) (perform K P f e waits))
      go true = record_opened f e e.reads_protected k x
      go false = inl refl

  act-opened : (e : End H) (c : Call) → OpenedAs P e c (act K P e c).opened
  act-opened e (hand_in xs f out place) = go (received (limit_of e.reads_protected) xs) refl
    where
      go : (r : Received) → received (limit_of e.reads_protected) xs ≡ r → OpenedAs P e (hand_in xs f out place) (taken K P f e r).opened
      go more q = inl refl
      go (faulty n) q = inl refl
      go (whole k x) q = ⊎_elim (λ z. inl z) (λ (z : (y : List ℕ) × (e.reads_protected ≡ true) × (opened_with P e.protection e.reads k x ≡ Ok y) × ((cond (known_kind k) (on_record K P f e e.reads_protected k x) (perform K P f e waits)).opened ≡ record { number = e.reads; kind = k; content = y } ∷ [])). inr (k, x, z.0, z.1, q, z.2, z.3)) (kind_opened f e k x)
  act-opened e (turn f out) = deed_opened f e (turned K e (next e.buffered))
  act-opened e (answer q a f out) = deed_opened f e (answered e q a)
  act-opened e (look q) = refl
  act-opened e (send x f out) = refl
  act-opened e (close f out) = refl

  refused_opened : (e : End H) (c : Call) → OpenedAs P e c []
  refused_opened e (hand_in xs f out place) = inl refl
  refused_opened e (turn f out) = refl
  refused_opened e (answer q a f out) = refl
  refused_opened e (look q) = refl
  refused_opened e (send x f out) = refl
  refused_opened e (close f out) = refl

  pub opened-step : (e : End H) (c : Call) → OpenedAs P e c (step K P e c).opened
  opened-step e c = go (refusal e c) refl
    where
      go : (o : Option Refusal) → refusal e c ≡ o → OpenedAs P e c (step K P e c).opened
      go (Some r) q = rw (refused_as K P e c r q) (refused_opened e c)
      go None q = rw (acted_as K P e c q) (act-opened e c)
