-- A turn done: as it is judged, as it is seen, and as a call.
use Rattle.std.proofs.Common.{◌≡◌, ℕ, Bool, true, List, [], length, Some, None, Err, sym, refl, ap, ◌∙◌}
use Rattle.sm3.specs.Hash.{Running}
use Rattle.handshake.specs.Frames.{next}
use Rattle.model.specs.declared.refusal.Refusal.{Refusal}
use Rattle.model.specs.Protections.{Protection}
use Rattle.model.specs.Endpoint.{End, turn}
use Rattle.model.specs.Deeds.{Deed, perform, waits, halts, closes, raises, client_changes, server_changes, buffers, releases, takes_client_hello, takes_server_hello, takes_done, keeps_certificates, keeps_signature, keeps_wrapped, fails_check, client_opens, server_opens, greets, offers, trusts_certificates, trusts_signature, exchanges, unwraps, sends}
use Rattle.model.specs.Turns.{turned}
use Rattle.model.specs.Refusals.{turn_refusal, message_ready}
use Rattle.model.specs.Results.{seen, turn_yields}
use Rattle.model.specs.Tlcp.{tlcp}
use Rattle.model.proofs.Fronts.{never}
use Rattle.model.proofs.Fits.{ordinary}
use Rattle.model.proofs.Decisions.{turned_ordinary}
use Rattle.model.proofs.Accepting.{deed_accepted, deed_whole}
use Rattle.end_reports.specs.declared.report.Report.{Report}
use Rattle.end_turning.specs.declared.judging.TurnEffect.{TurnEffect}
use Rattle.end_reports.specs.Reports.{Done, done, done_by, seen_by, quiet}
use Rattle.end_turning.specs.Turns.{plain, turn_deed}
use Rattle.end_reports.proofs.Yields.{quiet_done, plain_seen, seen_of_done}
use Rattle.model.proofs.Accepting.{refused_as, acted_as}

module _ (P : Protection) (f : List ℕ) (e : End Running) (out : List ℕ) where
  -- ---- an effect that writes nothing, by which effect it is
  pub turned_quietly : (m rest : List ℕ) (b : TurnEffect) (r : Report) {a : TurnEffect} {e1 e2 : End Running} → a ≡ b → r ≡ quiet e1.stage → e1 ≡ e2
      → e2 ≡ (perform tlcp P f e (turn_deed m rest b)).end → (perform tlcp P f e (turn_deed m rest b)).writes ≡ [] → (perform tlcp P f e (turn_deed m rest b)).fault ≡ None
      → done_by r e1 out ≡ done P (perform tlcp P f e (turn_deed m rest a)) out
  turned_quietly m rest b r {a} {e1} {e2} q er e12 ee ew ef =
      quiet_done P (perform tlcp P f e (turn_deed m rest b)) out r e1 er (e12 ∙ ee) ew ef
      ∙ sym (ap (λ z. done P (perform tlcp P f e (turn_deed m rest z)) out) q)

  -- ---- a check value that differs is done as its alert is
  plain_done : (d : Deed) → done P (perform tlcp P f e (plain d)) out ≡ done P (perform tlcp P f e d) out
  plain_done waits = refl
  plain_done halts = refl
  plain_done closes = refl
  plain_done (raises l n) = refl
  plain_done client_changes = refl
  plain_done server_changes = refl
  plain_done (buffers x) = refl
  plain_done (releases x) = refl
  plain_done (takes_client_hello r u m rest) = refl
  plain_done (takes_server_hello r u m rest) = refl
  plain_done (takes_done m rest) = refl
  plain_done keeps_certificates = refl
  plain_done keeps_signature = refl
  plain_done keeps_wrapped = refl
  plain_done fails_check = refl
  plain_done (client_opens m) = refl
  plain_done (server_opens m) = refl
  plain_done (greets r) = refl
  plain_done (offers p) = refl
  plain_done (trusts_certificates m rest) = refl
  plain_done (trusts_signature m rest) = refl
  plain_done (exchanges q w) = refl
  plain_done (unwraps q m rest) = refl
  plain_done (sends x) = refl

  -- so what is judged is done
  pub judged_done : (d c : Deed) {r : Done} → c ≡ plain d → r ≡ done P (perform tlcp P f e c) out → r ≡ done P (perform tlcp P f e d) out
  judged_done d c q p = p ∙ ap (λ z. done P (perform tlcp P f e z) out) q ∙ plain_done d

  -- ---- what is turned releases nothing
  ordinary_keeps : (d : Deed) → ordinary d ≡ true → (perform tlcp P f e d).released ≡ []
  ordinary_keeps waits q = refl
  ordinary_keeps halts q = refl
  ordinary_keeps closes q = refl
  ordinary_keeps (raises l n) q = refl
  ordinary_keeps client_changes q = refl
  ordinary_keeps server_changes q = refl
  ordinary_keeps (buffers x) q = refl
  ordinary_keeps (releases x) q = never (sym q)
  ordinary_keeps (takes_client_hello r u m rest) q = refl
  ordinary_keeps (takes_server_hello r u m rest) q = refl
  ordinary_keeps (takes_done m rest) q = refl
  ordinary_keeps keeps_certificates q = refl
  ordinary_keeps keeps_signature q = refl
  ordinary_keeps keeps_wrapped q = refl
  ordinary_keeps fails_check q = refl
  ordinary_keeps (client_opens m) q = refl
  ordinary_keeps (server_opens m) q = refl
  ordinary_keeps (greets r) q = refl
  ordinary_keeps (offers p) q = refl
  ordinary_keeps (trusts_certificates m rest) q = refl
  ordinary_keeps (trusts_signature m rest) q = refl
  ordinary_keeps (exchanges p w) q = refl
  ordinary_keeps (unwraps p m rest) q = refl
  ordinary_keeps (sends x) q = refl

  -- ---- the call: refused, and accepted
  pub turn_refused : (r : Refusal) (b : Bool) → b ≡ message_ready e → Some r ≡ turn_refusal e.stage b (length f) (length out)
      → seen_by (Err r) e out ≡ turn_yields tlcp P e f out
  unfolding turn_yields
  turn_refused r b i q =
      sym (ap (λ o. seen P o out []) (refused_as tlcp P e (turn f (length out)) r (sym (q ∙ ap (λ z. turn_refusal e.stage z (length f) (length out)) i))))

  pub turn_accepted : (b : Bool) {d : Done} → b ≡ message_ready e → None ≡ turn_refusal e.stage b (length f) (length out)
      → d ≡ done P (perform tlcp P f e (turned tlcp e (next e.buffered))) out → seen_of_done d ≡ turn_yields tlcp P e f out
  unfolding turn_yields
  turn_accepted b {d} i q p =
      let t = turned tlcp e (next e.buffered) in
      ap seen_of_done p
      ∙ plain_seen P (perform tlcp P f e t) out
      (record { accepted = deed_accepted tlcp P f e t; keeps = ordinary_keeps t (turned_ordinary tlcp e (next e.buffered)); sated = deed_whole tlcp P f e t })
      ∙ sym (ap (λ o. seen P o out []) (acted_as tlcp P e (turn f (length out)) (sym (q ∙ ap (λ z. turn_refusal e.stage z (length f) (length out)) i))))
