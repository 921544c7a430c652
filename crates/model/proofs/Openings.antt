-- The history of an end goes on with every call; what opens an end.
use Rattle.std.proofs.Common.{◌≡◌, ℕ, ◌≤◌, true, false, ◌⊎◌, List, [], ◌∷◌, length, sym, refl, ◌∙◌, inl, inr, append-nil}
use Rattle.octets.specs.declared.role.Role.{Role}
use Rattle.octets.specs.declared.role.Role.TheVariants.{Client, Server}
use Rattle.model.specs.declared.stage.Stage.TheVariants.{ClientAwaitFinished, ServerAwaitFinished}
use Rattle.model.specs.declared.refusal.Refusal.{Refusal}
use Rattle.model.specs.declared.refusal.Refusal.TheVariants.{Over}
use Rattle.model.specs.Stages.{is_open}
use Rattle.model.specs.Schedule.{Schedule, ScheduleLaws}
use Rattle.model.specs.Protections.{Protection}
use Rattle.model.specs.Endpoint.{End, Call}
use Rattle.model.specs.Outcomes.{Outcome, refusing}
use Rattle.model.specs.Deeds.{Deed, waits, halts, closes, raises, client_changes, server_changes, buffers, releases, takes_client_hello, takes_server_hello, takes_done, keeps_certificates, keeps_signature, keeps_wrapped, fails_check, client_opens, server_opens, greets, offers, trusts_certificates, trusts_signature, exchanges, unwraps, sends, finished_of, perform}
use Rattle.model.specs.Contents.{on_content}
use Rattle.model.specs.Steps.{step}
use Rattle.model.specs.Runs.{Past, later}
use Rattle.model.proofs.Fronts.{never}
use Rattle.model.proofs.Fits.{Fits}
use Rattle.model.proofs.Ways.{one_read, step_by}
use Rattle.model.proofs.Local.{Sound, sound_read}
use Rattle.model.proofs.History.{History, history, unsworn}

abbrev pub said_by : Deed → List ℕ
said_by waits = []
said_by halts = []
said_by closes = []
said_by (raises l n) = []
said_by client_changes = []
said_by server_changes = []
said_by (buffers x) = x
said_by (releases x) = []
said_by (takes_client_hello r u m rest) = []
said_by (takes_server_hello r u m rest) = []
said_by (takes_done m rest) = []
said_by keeps_certificates = []
said_by keeps_signature = []
said_by keeps_wrapped = []
said_by fails_check = []
said_by (client_opens m) = []
said_by (server_opens m) = []
said_by (greets r) = []
said_by (offers p) = []
said_by (trusts_certificates m rest) = []
said_by (trusts_signature m rest) = []
said_by (exchanges q w) = []
said_by (unwraps q m rest) = []
said_by (sends x) = []

module _ {H : Type 0} (K : Schedule H) (P : Protection) (kl : ScheduleLaws K) where
  pub refused_told : (X : Role) (e : End H) (p : Past) (r : Refusal) → History K X e p → History K X e (later K X p (refusing r e))
  refused_told X e p r t = unsworn K X e p (refusing r e) t (record { none_finished = refl; none_said = refl; bare_only = λ _. refl; hash = refl; same_suites = refl; same_out = refl; tale = simp append-nil t.tale })

  pub told_read : (X : Role) (e : End H) (p : Past) → History K X e p → History K X (one_read K e) p
  told_read X e p t = record { hash = t.hash; tale = t.tale; quiet = t.quiet; spoke = t.spoke }

  pub told_step : (X : Role) (e : End H) (p : Past) (c : Call) → 1 ≤ length e.suites → Sound e → History K X e p → History K X (step K P e c).end (later K X p (step K P e c))
  told_step X e p c n s t =
      step_by K P e (λ o. History K X o.end (later K X p o)) c
      (record {
        wants = λ l. refused_told X e p Over t;
        refused = λ r. refused_told X e p r t;
        done = λ _ f d l g h _ _. let z = history K P kl X f e p d n s t g in record { hash = z.hash; tale = z.tale; quiet = z.quiet; spoke = z.spoke };
        plain = λ _ f k x l q g _ _ _. let z = history K P kl X f e p (on_content e k x) n s t g in record { hash = z.hash; tale = z.tale; quiet = z.quiet; spoke = z.spoke };
        under = λ _ f k x l q g _ _ _ _. let z = history K P kl X f (one_read K e) p (on_content (one_read K e) k x) n (sound_read K P e s q) (told_read X e p t) g in record { hash = z.hash; tale = z.tale; quiet = z.quiet; spoke = z.spoke };
      })

  -- ---- what opens an end
  abbrev pub Checked : Role → End H → Type 0
  Checked Client e = (e.stage ≡ ClientAwaitFinished) × (e.buffered ≡ finished_of K Server e)
  Checked Server e = (e.stage ≡ ServerAwaitFinished) × (e.buffered ≡ finished_of K Client e)

  pub record Opening (e : End H) (o : Outcome H) : Type 0 where
    pub checked : Checked Client e ⊎ Checked Server e
    pub compares : o.compared ≡ [] ∷ []
    pub answers_none : o.premasters ≡ []

  pub opening : (f : List ℕ) (e : End H) (d : Deed) → Fits K e d → is_open e.stage ≡ false → is_open (perform K P f e d).end.stage ≡ true → Opening e (perform K P f e d)
  opening f e waits g q r = never (sym r ∙ q)
  opening f e halts g q r = never (sym r)
  opening f e closes g q r = never (sym r)
  opening f e (raises l i) g q r = never (sym r)
  opening f e client_changes g q r = never (sym r)
  opening f e server_changes g q r = never (sym r)
  opening f e (buffers x) g q r = never (sym r ∙ q)
  opening f e (releases x) g q r = never (sym r ∙ q)
  opening f e (takes_client_hello r' u' m rest) g q r = never (sym r)
  opening f e (takes_server_hello r' u' m rest) g q r = never (sym r)
  opening f e (takes_done m rest) g q r = never (sym r)
  opening f e keeps_certificates g q r = never (sym r)
  opening f e keeps_signature g q r = never (sym r)
  opening f e keeps_wrapped g q r = never (sym r)
  opening f e fails_check g q r = never (sym r)
  opening f e (client_opens m) g q r = record { checked = inl (g.0, g.1 ∙ g.2); compares = refl; answers_none = refl }
  opening f e (server_opens m) g q r = record { checked = inr (g.0, g.1 ∙ g.2); compares = refl; answers_none = refl }
  opening f e (greets r') g q r = never (sym r)
  opening f e (offers p') g q r = never (sym r)
  opening f e (trusts_certificates m rest) g q r = never (sym r)
  opening f e (trusts_signature m rest) g q r = never (sym r)
  opening f e (exchanges q' w) g q r = never (sym r)
  opening f e (unwraps q' m rest) g q r = never (sym r)
  opening f e (sends x) g q r = never (sym r ∙ q)

  pub opening_step : (e : End H) (c : Call) → is_open e.stage ≡ false → is_open (step K P e c).end.stage ≡ true → Opening e (step K P e c)
  opening_step e c q =
      step_by K P e (λ o. is_open o.end.stage ≡ true → Opening e o) c
      (record {
        wants = λ l r. never (sym r ∙ q);
        refused = λ n r. never (sym r ∙ q);
        done = λ n f d l g h _ _ r. let z = opening f e d g q r in record { checked = z.checked; compares = z.compares; answers_none = z.answers_none };
        plain = λ n f k x l b g _ _ _ r. let z = opening f e (on_content e k x) g q r in record { checked = z.checked; compares = z.compares; answers_none = z.answers_none };
        under = λ n f k x l b g _ _ _ _ r. let z = opening f (one_read K e) (on_content (one_read K e) k x) g q r in record { checked = z.checked; compares = z.compares; answers_none = z.answers_none };
      })
