-- The pieces for the bench: each hand in is accepted, its record read by computation, and its result read off.
use Rattle.std.proofs.Common.{◌≡◌, ℕ, ◌-◌, true, false, leb, List, [], ◌∷◌, length, None, sym, refl, ap, ◌∙◌, append-nil, arith}
use Rattle.octets.specs.Laid.{laid}
use Rattle.octets.proofs.Lays.{none_laid}
use Rattle.records.specs.declared.fault.Layer.{Layer}
use Rattle.records.specs.declared.fault.Layer.TheVariants.{Record as AtRecord, Content as AtContent}
use Rattle.records.specs.Records.{received, limit_of}
use Rattle.records.specs.Kinds.{alert_kind}
use Rattle.handshake.specs.Frames.{next, is_ready}
use Rattle.model.specs.declared.stage.Stage.TheVariants.{ServerAwaitFinished}
use Rattle.model.specs.Limits.{reply_space, place_space}
use Rattle.model.specs.Schedule.{Schedule}
use Rattle.model.specs.Protections.{Protection}
use Rattle.model.specs.Endpoint.{End, hand_in, with_stage, with_in}
use Rattle.model.specs.Outcomes.{Outcome, octets, put, writing, consuming, wanting}
use Rattle.model.specs.Deeds.{alerting, raises, perform}
use Rattle.model.specs.Refusals.{refusal, message_ready}
use Rattle.model.specs.Steps.{taken}
use Rattle.model.specs.Results.{zeros, seen, hand_in_yields}
use Rattle.model.specs.Bench.{TakesRecords, Enough, wants_more, quietly, with_alert, Bench}
use Rattle.model.proofs.ReadBack.{leb_is}
use Rattle.model.proofs.Accepting.{acted_as}

none_out : (out : List ℕ) → laid out 0 [] ≡ out
none_out out = sym (none_laid out [] 0 (omega arith))

all_zero : (place : List ℕ) → zeros (length place - 0) ≡ zeros (length place)
all_zero place = let e : length place - 0 ≡ length place = omega arith in ap zeros e

module _ {H : Type 0} (K : Schedule H) (P : Protection) (e : End H) (f out place : List ℕ) (t : TakesRecords e) (n : Enough f out place) where
  accepts : (xs : List ℕ) → refusal e (hand_in xs f (length out) (length place)) ≡ None
  accepts xs =
      let r : message_ready e ≡ false = ap (λ l. is_ready (next l)) t.nothing_buffered in
      let a : leb reply_space (length out) ≡ true = leb_is _ _ n.output_space in
      let b : leb place_space (length place) ≡ true = leb_is _ _ n.opening_space in
      rw (t.lives, t.asks_not, r, n.sixteen, a, b) refl

  -- the outcome of a hand in, by what its octets lead to
  yields : (xs : List ℕ) (o : Outcome H) → taken K P f e (received (limit_of e.reads_protected) xs) ≡ o → hand_in_yields K P e xs f out place ≡ seen P o out place
  unfolding hand_in_yields
  yields xs o q = ap (λ (z : Outcome H). seen P z out place) (acted_as K P e (hand_in xs f (length out) (length place)) (accepts xs) ∙ q)

  more_yields : (xs : List ℕ) → taken K P f e (received (limit_of e.reads_protected) xs) ≡ wanting (writing [] e) → hand_in_yields K P e xs f out place ≡ wants_more K P e out place
  more_yields xs q = yields xs _ q ∙ rw (none_out out, all_zero place) refl

  quiet_yields : (xs : List ℕ) (e' : End H) (m : ℕ) → taken K P f e (received (limit_of e.reads_protected) xs) ≡ consuming m (writing [] e') → hand_in_yields K P e xs f out place ≡ quietly K P e' m out place
  quiet_yields xs e' m q = yields xs _ q ∙ rw (none_out out, all_zero place) refl

  alert_yields : (xs : List ℕ) (a : ℕ) (l : Layer) (m : ℕ) → taken K P f e (received (limit_of e.reads_protected) xs) ≡ consuming m (perform K P f e (raises l a)) → hand_in_yields K P e xs f out place ≡ with_alert K P e f a l m out place
  alert_yields xs a l m q = yields xs _ q ∙ rw (append-nil (octets P e.protection (put f e alert_kind (alerting 2 a))), all_zero place) refl

pub bench : {H : Type 0} (K : Schedule H) (P : Protection) → Bench {H = H} K P
bench K P =
    record {
      short_header = λ e f out place t n. more_yields K P e f out place t n _ refl;
      other_version = λ e f out place t n. alert_yields K P e f out place t n _ 70 AtRecord 0 refl;
      bare_too_long = λ e f out place t n b. alert_yields K P e f out place t n (22 ∷ (1 ∷ (1 ∷ (64 ∷ (1 ∷ []))))) 22 AtRecord 0 (rw b refl);
      protected_too_long = λ e f out place t n b. alert_yields K P e f out place t n (23 ∷ (1 ∷ (1 ∷ (72 ∷ (1 ∷ []))))) 22 AtRecord 0 (rw b refl);
      protected_longest = λ e f out place t n b. more_yields K P e f out place t n (23 ∷ (1 ∷ (1 ∷ (72 ∷ (0 ∷ []))))) (rw b refl);
      unknown_kind = λ e f out place t n b. quiet_yields K P e f out place t n (24 ∷ (1 ∷ (1 ∷ (0 ∷ (1 ∷ (255 ∷ [])))))) e 6 (rw b refl);
      change_awaited = λ e f out place t n b s. quiet_yields K P e f out place t n (20 ∷ (1 ∷ (1 ∷ (0 ∷ (1 ∷ (1 ∷ [])))))) (with_in true 0 (with_stage ServerAwaitFinished e)) 6 (rw (b, s, t.nothing_buffered) refl);
      change_too_early = λ e f out place t n b s. alert_yields K P e f out place t n (20 ∷ (1 ∷ (1 ∷ (0 ∷ (1 ∷ (1 ∷ [])))))) 10 AtContent 6 (rw (b, s, t.nothing_buffered) refl);
      user_canceled = λ e f out place t n b. quiet_yields K P e f out place t n (21 ∷ (1 ∷ (1 ∷ (0 ∷ (2 ∷ (1 ∷ (90 ∷ []))))))) e 7 (rw b refl);
      unlisted_alert = λ e f out place t n b. alert_yields K P e f out place t n (21 ∷ (1 ∷ (1 ∷ (0 ∷ (2 ∷ (1 ∷ (52 ∷ []))))))) 47 AtContent 7 (rw b refl);
    }
