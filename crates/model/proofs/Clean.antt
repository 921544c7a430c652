-- Zeros where they must be, and the running hash.
use Rattle.std.proofs.Common.{◌≡◌, ℕ, Bool, true, false, List, [], ◌∷◌, sym, refl, ap, ◌∙◌}
use Rattle.model.specs.Stages.{over}
use Rattle.model.specs.Schedule.{Schedule, ScheduleLaws, joined_octets, absorbed}
use Rattle.model.specs.Protections.{Protection}
use Rattle.model.specs.Endpoint.{End, Call, no_keys}
use Rattle.model.specs.Outcomes.{Outcome}
use Rattle.model.specs.Deeds.{Deed, waits, halts, closes, raises, client_changes, server_changes, buffers, releases, takes_client_hello, takes_server_hello, takes_done, keeps_certificates, keeps_signature, keeps_wrapped, fails_check, client_opens, server_opens, greets, offers, trusts_certificates, trusts_signature, exchanges, unwraps, sends, perform}
use Rattle.model.specs.Contents.{on_content}
use Rattle.model.specs.Steps.{step}
use Rattle.model.specs.EndLaws.{Clean}
use Rattle.model.proofs.Fronts.{never}
use Rattle.model.proofs.Fits.{Fits}
use Rattle.model.proofs.Ways.{one_read, step_by}
use Rattle.model.proofs.History.{absorbed_joined}

module _ {H : Type 0} (K : Schedule H) (P : Protection) where
  -- ---- zeros where they must be
  clean : (f : List ℕ) (e : End H) (d : Deed) → Fits K e d → Clean e → over e.stage ≡ false → Clean (perform K P f e d).end
  clean f e waits g h live = h
  clean f e halts g h live = record { no_keys_left = h.no_keys_left; open_zero = λ q. refl; over_zero = λ q. refl; over_empty = λ q. refl }
  clean f e closes g h live = record { no_keys_left = h.no_keys_left; open_zero = λ q. refl; over_zero = λ q. refl; over_empty = λ q. refl }
  clean f e (raises i n) g h live = record { no_keys_left = h.no_keys_left; open_zero = λ q. refl; over_zero = λ q. refl; over_empty = λ q. refl }
  clean f e client_changes g h live = record { no_keys_left = h.no_keys_left; open_zero = λ z. never (sym z); over_zero = λ z. never (sym z); over_empty = λ z. never (sym z) }
  clean f e server_changes g h live = record { no_keys_left = h.no_keys_left; open_zero = λ z. never (sym z); over_zero = λ z. never (sym z); over_empty = λ z. never (sym z) }
  clean f e (buffers x) g h live = record { no_keys_left = h.no_keys_left; open_zero = h.open_zero; over_zero = h.over_zero; over_empty = λ q. never (sym q ∙ live) }
  clean f e (releases x) g h live = h
  clean f e (takes_client_hello v u m rest) g h live = record { no_keys_left = h.no_keys_left; open_zero = λ z. never (sym z); over_zero = λ z. never (sym z); over_empty = λ z. never (sym z) }
  clean f e (takes_server_hello v u m rest) g h live = record { no_keys_left = h.no_keys_left; open_zero = λ z. never (sym z); over_zero = λ z. never (sym z); over_empty = λ z. never (sym z) }
  clean f e (takes_done m rest) g h live = record { no_keys_left = h.no_keys_left; open_zero = λ z. never (sym z); over_zero = λ z. never (sym z); over_empty = λ z. never (sym z) }
  clean f e keeps_certificates g h live = record { no_keys_left = h.no_keys_left; open_zero = λ z. never (sym z); over_zero = λ z. never (sym z); over_empty = λ z. never (sym z) }
  clean f e keeps_signature g h live = record { no_keys_left = h.no_keys_left; open_zero = λ z. never (sym z); over_zero = λ z. never (sym z); over_empty = λ z. never (sym z) }
  clean f e keeps_wrapped g h live = record { no_keys_left = h.no_keys_left; open_zero = λ z. never (sym z); over_zero = λ z. never (sym z); over_empty = λ z. never (sym z) }
  clean f e fails_check g h live = record { no_keys_left = h.no_keys_left; open_zero = λ q. refl; over_zero = λ q. refl; over_empty = λ q. refl }
  clean f e (client_opens m) g h live = record { no_keys_left = h.no_keys_left; open_zero = λ q. refl; over_zero = λ q. refl; over_empty = λ q. refl }
  clean f e (server_opens m) g h live = record { no_keys_left = h.no_keys_left; open_zero = λ q. refl; over_zero = λ q. refl; over_empty = λ q. refl }
  clean f e (greets v) g h live = record { no_keys_left = h.no_keys_left; open_zero = λ z. never (sym z); over_zero = λ z. never (sym z); over_empty = λ z. never (sym z) }
  clean f e (offers p) g h live = record { no_keys_left = h.no_keys_left; open_zero = λ z. never (sym z); over_zero = λ z. never (sym z); over_empty = λ z. never (sym z) }
  clean f e (trusts_certificates m rest) g h live = record { no_keys_left = h.no_keys_left; open_zero = λ z. never (sym z); over_zero = λ z. never (sym z); over_empty = λ z. never (sym z) }
  clean f e (trusts_signature m rest) g h live = record { no_keys_left = h.no_keys_left; open_zero = λ z. never (sym z); over_zero = λ z. never (sym z); over_empty = λ z. never (sym z) }
  clean f e (exchanges p w) g h live = record { no_keys_left = refl; open_zero = λ z. never (sym z); over_zero = λ z. never (sym z); over_empty = λ z. never (sym z) }
  clean f e (unwraps p m rest) g h live = record { no_keys_left = refl; open_zero = λ z. never (sym z); over_zero = λ z. never (sym z); over_empty = λ z. never (sym z) }
  clean f e (sends x) g h live = record { no_keys_left = h.no_keys_left; open_zero = h.open_zero; over_zero = h.over_zero; over_empty = h.over_empty }

  pub clean_step : (e : End H) (c : Call) → Clean e → Clean (step K P e c).end
  clean_step e c h =
      step_by K P e (λ o. Clean o.end) c
      (record {
        refused = λ r. h;
        wants = λ l. h;
        done = λ n f d l g t _ _. clean f e d g h l;
        plain = λ n f k x l b g _ _ _. clean f e (on_content e k x) g h l;
        under = λ n f k x l b g _ _ _ _. clean f (one_read K e) (on_content (one_read K e) k x) g (record { no_keys_left = h.no_keys_left; open_zero = h.open_zero; over_zero = h.over_zero; over_empty = h.over_empty }) l;
      })

  -- ---- where keys are made, the place for them is wiped
  abbrev none_in : List (List ℕ) → Bool
  none_in [] = true
  none_in (x ∷ xs) = false

  Wipes : Outcome H → Type 0
  Wipes o = (p : List ℕ) (ps : List (List ℕ)) → o.premasters ≡ p ∷ ps → o.end.scratch ≡ no_keys

  wipes : (f : List ℕ) (e : End H) (d : Deed) (p : List ℕ) (ps : List (List ℕ)) → (perform K P f e d).premasters ≡ p ∷ ps → (perform K P f e d).end.scratch ≡ no_keys
  wipes f e waits p ps q = never (ap none_in q)
  wipes f e halts p ps q = never (ap none_in q)
  wipes f e closes p ps q = never (ap none_in q)
  wipes f e (raises i n) p ps q = never (ap none_in q)
  wipes f e client_changes p ps q = never (ap none_in q)
  wipes f e server_changes p ps q = never (ap none_in q)
  wipes f e (buffers x) p ps q = never (ap none_in q)
  wipes f e (releases x) p ps q = never (ap none_in q)
  wipes f e (takes_client_hello v u m rest) p ps q = never (ap none_in q)
  wipes f e (takes_server_hello v u m rest) p ps q = never (ap none_in q)
  wipes f e (takes_done m rest) p ps q = never (ap none_in q)
  wipes f e keeps_certificates p ps q = never (ap none_in q)
  wipes f e keeps_signature p ps q = never (ap none_in q)
  wipes f e keeps_wrapped p ps q = never (ap none_in q)
  wipes f e fails_check p ps q = never (ap none_in q)
  wipes f e (client_opens m) p ps q = never (ap none_in q)
  wipes f e (server_opens m) p ps q = never (ap none_in q)
  wipes f e (greets v) p ps q = never (ap none_in q)
  wipes f e (offers p') p ps q = never (ap none_in q)
  wipes f e (trusts_certificates m rest) p ps q = never (ap none_in q)
  wipes f e (trusts_signature m rest) p ps q = never (ap none_in q)
  wipes f e (exchanges p' w) p ps q = refl
  wipes f e (unwraps p' m rest) p ps q = refl
  wipes f e (sends x) p ps q = never (ap none_in q)

  pub wipes_step : (e : End H) (c : Call) (p : List ℕ) (ps : List (List ℕ)) → (step K P e c).premasters ≡ p ∷ ps → (step K P e c).end.scratch ≡ no_keys
  unfolding Wipes
  wipes_step e c =
      step_by K P e Wipes c
      (record {
        refused = λ r p ps q. never (ap none_in q);
        wants = λ l p ps q. never (ap none_in q);
        done = λ n f d l g t _ _. wipes f e d;
        plain = λ n f k x l b g _ _ _. wipes f e (on_content e k x);
        under = λ n f k x l b g _ _ _ _. wipes f (one_read K e) (on_content (one_read K e) k x);
      })

  -- ---- the running hash
  hashed : (f : List ℕ) (e : End H) (d : Deed) → (perform K P f e d).end.transcript ≡ absorbed K e.transcript (perform K P f e d).joined
  hashed f e waits = refl
  hashed f e halts = refl
  hashed f e closes = refl
  hashed f e (raises i n) = refl
  hashed f e client_changes = refl
  hashed f e server_changes = refl
  hashed f e (buffers x) = refl
  hashed f e (releases x) = refl
  hashed f e (takes_client_hello v u m rest) = refl
  hashed f e (takes_server_hello v u m rest) = refl
  hashed f e (takes_done m rest) = refl
  hashed f e keeps_certificates = refl
  hashed f e keeps_signature = refl
  hashed f e keeps_wrapped = refl
  hashed f e fails_check = refl
  hashed f e (client_opens m) = refl
  hashed f e (server_opens m) = refl
  hashed f e (greets v) = refl
  hashed f e (offers p) = refl
  hashed f e (trusts_certificates m rest) = refl
  hashed f e (trusts_signature m rest) = refl
  hashed f e (exchanges p w) = refl
  hashed f e (unwraps p m rest) = refl
  hashed f e (sends x) = refl

  pub hashed_step : ScheduleLaws K → (e : End H) (c : Call) → (step K P e c).end.transcript ≡ K.absorb e.transcript (joined_octets (step K P e c).joined)
  hashed_step kl e c =
      step_by K P e (λ o. o.end.transcript ≡ absorbed K e.transcript o.joined) c
      (record { refused = λ r. refl; wants = λ l. refl; done = λ n f d l g h _ _. hashed f e d; plain = λ n f k x l b g _ _ _. hashed f e (on_content e k x); under = λ n f k x l b g _ _ _ _. hashed f (one_read K e) (on_content (one_read K e) k x) })
      ∙ absorbed_joined K kl e.transcript (step K P e c).joined
