-- The step: what every call does. Its refusal first; then the decisions, in the order of the rules, to a deed.
use Rattle.std.specs.Prelude.{ℕ, ◌+◌, Bool, true, false, cond, List, [], length, Some, None, Ok, Err, Option, Result, nat_le}
use Rattle.records.specs.declared.fault.Layer.TheVariants.{Record as AtRecord}
use Rattle.records.specs.Records.{Received, more, faulty, whole, received, limit_of}
use Rattle.records.specs.Kinds.{known_kind}
use Rattle.protection.specs.declared.error.OpenError.{OpenError}
use Rattle.handshake.specs.Frames.{next}
use Rattle.model.specs.declared.refusal.Refusal.{Refusal}
use Rattle.model.specs.Limits.{read_limit}
use Rattle.model.specs.Schedule.{Schedule}
use Rattle.model.specs.Protections.{Protection, opened_with}
use Rattle.model.specs.Endpoint.{End, Call, hand_in, turn, answer, look, send, close, with_in}
use Rattle.model.specs.Outcomes.{Outcome, refusing, consuming, wanting, noting}
use Rattle.model.specs.Deeds.{waits, closes, raises, sends, perform}
use Rattle.model.specs.Refusals.{refusal}
use Rattle.model.specs.Contents.{on_content}
use Rattle.model.specs.Turns.{turned}
use Rattle.model.specs.Answers.{answered}

-- what the calls do, whatever does it
abbrev pub Steps : Type 0 → Type 0
Steps H = End H → Call → Outcome H

module _ {H : Type 0} (K : Schedule H) (P : Protection) where
  -- ---- hand in
  -- a no is alert 20; an opening that succeeded raises the read number before the content is looked at
  abbrev pub on_opening : List ℕ → End H → ℕ → Result (List ℕ) OpenError → Outcome H
  on_opening f e k (Err x) = perform K P f e (raises AtRecord 20)
  on_opening f e k (Ok y) =
      let e' = with_in true (e.reads + 1) e in
      noting (record { number = e.reads; kind = k; content = y }) (perform K P f e' (on_content e' k y))

  -- a whole record of a known kind, where reading is bare or protected
  abbrev pub on_record : List ℕ → End H → Bool → ℕ → List ℕ → Outcome H
  on_record f e false k x = perform K P f e (on_content e k x)
  on_record f e true k x = cond (nat_le read_limit e.reads) (perform K P f e (raises AtRecord 10)) (on_opening f e k (opened_with P e.protection e.reads k x))

  -- the first record received: not there, at fault in its header, or whole and from here on consumed
  abbrev pub taken : List ℕ → End H → Received → Outcome H
  taken f e more = wanting (perform K P f e waits)
  taken f e (faulty n) = consuming 0 (perform K P f e (raises AtRecord n))
  taken f e (whole k x) = consuming (length x + 5) (cond (known_kind k) (on_record f e e.reads_protected k x) (perform K P f e waits))

  -- ---- every call that is accepted
  abbrev pub act : End H → Call → Outcome H
  act e (hand_in xs f out place) = taken f e (received (limit_of e.reads_protected) xs)
  act e (turn f out) = consuming 0 (perform K P f e (turned K e (next e.buffered)))
  act e (answer q a f out) = consuming 0 (perform K P f e (answered e q a))
  act e (look q) = consuming 0 (perform K P [] e waits)
  act e (send x f out) = consuming 0 (perform K P f e (sends x))
  act e (close f out) = consuming 0 (perform K P f e closes)

  -- refused, or accepted
  abbrev pub gated : Option Refusal → End H → Call → Outcome H
  gated (Some r) e c = refusing r e
  gated None e c = act e c

  -- what a call does to an end
  unfoldable pub step : Steps H
  step e c = gated (refusal e c) e c
