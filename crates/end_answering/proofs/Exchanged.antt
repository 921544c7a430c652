-- The client's exchange of the premaster: its three records and the end after them.
use Rattle.std.proofs.Common.{◌≡◌, ℕ, ◌≤◌, true, List, [], ◌∷◌, ◌++◌, length, None, refl, ap, ◌∙◌, arith}
use Rattle.octets.specs.declared.role.Role.TheVariants.{Client}
use Rattle.octets.specs.Laid.{laid}
use Rattle.records.specs.Kinds.{handshake_kind, change_kind}
use Rattle.records.specs.Records.{framed}
use Rattle.sm3.specs.Hash.{Running, absorb}
use Rattle.model.specs.declared.stage.Stage.TheVariants.{ClientAwaitChange}
use Rattle.model.specs.Protections.{Protection}
use Rattle.model.specs.Messages.{client_key_exchange, finished}
use Rattle.model.specs.Endpoint.{End, with_stage, with_transcript, with_out}
use Rattle.model.specs.Outcomes.{output}
use Rattle.model.specs.Deeds.{perform, exchanges}
use Rattle.model.specs.Tlcp.{tlcp}
use Rattle.end_state.specs.Keys.{keyed_end}
use Rattle.end_writer.specs.Written.{message_record, record_octets}
use Rattle.end_writer.proofs.Lengths.{wrapped_within}
use Rattle.end_writer.proofs.Following.{Placed, then, last, first_end}
use Rattle.end_reports.specs.Reports.{done, done_by}
use Rattle.end_answering.proofs.Answered.{done_as}

-- a ClientKeyExchange in its record is short
pub exchange_short : (x : List ℕ) → 1 ≤ length x → length x ≤ 512 → length (message_record (client_key_exchange x)) ≤ 523
exchange_short x a b = let s = (wrapped_within x a b).short in omega arith

module _ (P : Protection) (f : List ℕ) (e : End Running) (p x : List ℕ) where
  -- the end with its keys, and its check value over all messages to the ClientKeyExchange
  abbrev keyed : End Running
  keyed = keyed_end P.serves P.size p e

  abbrev joined : Running
  joined = absorb keyed.transcript (client_key_exchange x)

  abbrev check : List ℕ
  check = tlcp.verify_data Client keyed.master joined

  -- ---- each call: keys, ClientKeyExchange, change, check value, Finished, the end at last
  module _ {e₁ : End Running} {h₂ h₃ : Running} {v : List ℕ} (keys : e₁ ≡ keyed) (sent : h₂ ≡ absorb e₁.transcript (client_key_exchange x))
      (value : v ≡ tlcp.verify_data Client e₁.master h₂) (ended : h₃ ≡ absorb h₂ (finished v)) where
    joined_is : h₂ ≡ joined
    joined_is = sent ∙ ap (λ z. absorb z.transcript (client_key_exchange x)) keys

    check_is : v ≡ check
    check_is = value ∙ ap (λ z. tlcp.verify_data Client z.master h₂) keys ∙ ap (λ h. tlcp.verify_data Client keyed.master h) joined_is

    end_is : {e₄ : End Running} → e₄ ≡ with_out true 1 (with_stage ClientAwaitChange (with_transcript h₃ e₁)) → e₄ ≡ (perform tlcp P f e (exchanges p x)).end
    end_is q =
        let t : h₃ ≡ absorb joined (finished check) = ended ∙ ap (λ h. absorb h (finished v)) joined_is ∙ ap (λ u. absorb joined (finished u)) check_is in
        q ∙ ap (λ h. with_out true 1 (with_stage ClientAwaitChange (with_transcript h e₁))) t
        ∙ ap (λ z. with_out true 1 (with_stage ClientAwaitChange (with_transcript (absorb joined (finished check)) z))) keys

    records_are : framed handshake_kind (client_key_exchange x) ++ (framed change_kind (1 ∷ []) ++ (record_octets P e₁.protection true 0 handshake_kind (finished v) f ++ []))
        ≡ output P (perform tlcp P f e (exchanges p x))
    records_are =
        ap (λ z. framed handshake_kind (client_key_exchange x) ++ (framed change_kind (1 ∷ []) ++ (record_octets P z.protection true 0 handshake_kind (finished v) f ++ []))) keys
        ∙ ap (λ u. framed handshake_kind (client_key_exchange x) ++ (framed change_kind (1 ∷ []) ++ (record_octets P keyed.protection true 0 handshake_kind (finished u) f ++ []))) check_is

    pub exchanged : (o : List ℕ) {o₁ o₂ o₃ : List ℕ} {t₁ t₂ w : ℕ} {e₄ : End Running}
        → Placed o 0 (message_record (client_key_exchange x)) o₁ t₁ → Placed o₁ t₁ (framed change_kind (1 ∷ [])) o₂ t₂
        → Placed o₂ t₂ (record_octets P e₁.protection true 0 handshake_kind (finished v) f) o₃ w
        → e₄ ≡ with_out true 1 (with_stage ClientAwaitChange (with_transcript h₃ e₁))
        → done_by (record { stage = e₄.stage; written = w; fault = None }) e₄ o₃ ≡ done P (perform tlcp P f e (exchanges p x)) o
    exchanged o a b d q =
        let l = then a (then b (last d)) in
        done_as P (perform tlcp P f e (exchanges p x)) o refl (end_is q) (first_end l ∙ ap length records_are) (l.after ∙ ap (laid o 0) records_are)
