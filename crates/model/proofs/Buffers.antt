-- The buffer, once reading is protected, is the handshake octets opened.
use Rattle.std.proofs.Common.{◌≡◌, ℕ, Bool, true, false, cond, eqb, leb, ◌⊎◌, List, [], ◌∷◌, ◌++◌, length, sym, refl, ap, ◌∙◌, inl, inr, append-nil, arith, eqb-true}
use Rattle.records.specs.declared.fault.Layer.TheVariants.{Record as AtRecord, Content as AtContent}
use Rattle.records.specs.Kinds.{change_kind, alert_kind, handshake_kind, data_kind}
use Rattle.protection.specs.Limits.{content_limit}
use Rattle.handshake.specs.Parts.{is_none}
use Rattle.model.specs.declared.stage.Stage.{Stage}
use Rattle.model.specs.Stages.{is_open, over}
use Rattle.model.specs.Schedule.{Schedule, ScheduleLaws, joined_octets}
use Rattle.model.specs.Protections.{Protection}
use Rattle.model.specs.Endpoint.{End, Call}
use Rattle.model.specs.Outcomes.{Protected}
use Rattle.model.specs.Deeds.{Deed, waits, halts, closes, raises, client_changes, server_changes, buffers, releases, takes_client_hello, takes_server_hello, takes_done, keeps_certificates, keeps_signature, keeps_wrapped, fails_check, client_opens, server_opens, greets, offers, trusts_certificates, trusts_signature, exchanges, unwraps, sends, perform}
use Rattle.model.specs.Contents.{on_change, is_one, on_alert, on_kind, on_content}
use Rattle.model.specs.Steps.{step}
use Rattle.model.proofs.Fronts.{never}
use Rattle.model.proofs.Fits.{Fits, handed, pair_by}
use Rattle.model.proofs.Ways.{one_read, opened_as, step_by}
use Rattle.model.proofs.Local.{Sound, at, reads, sound_read}
use Rattle.model.proofs.History.{spoken, spoken-++}
use Rattle.model.proofs.Openings.{said_by}

module _ {H : Type 0} (K : Schedule H) (P : Protection) (kl : ScheduleLaws K) where
  -- ---- the buffer, once reading is protected: the handshake octets opened
  pub record Poured (e : End H) (opened : List Protected) : Type 0 where
    pub whole_buffer : e.reads_protected ≡ true → is_open e.stage ≡ false → over e.stage ≡ false → e.buffered ≡ spoken opened
    pub none_opened : e.reads_protected ≡ false → opened ≡ []

  pub same_said : (xs os : List Protected) → [] ≡ spoken os → spoken xs ≡ spoken (xs ++ os)
  same_said xs os u = sym (append-nil (spoken xs)) ∙ ap (λ l. spoken xs ++ l) u ∙ sym (spoken-++ xs os)

  pub poured : (f : List ℕ) (e : End H) (d : Deed) (xs os : List Protected) → Sound e → Fits K e d → e.reads_protected ≡ true → Poured e xs → (over (perform K P f e d).end.stage ≡ true) ⊎ (said_by d ≡ spoken os)
      → is_open (perform K P f e d).end.stage ≡ false → over (perform K P f e d).end.stage ≡ false → (perform K P f e d).end.buffered ≡ spoken (xs ++ os)
  poured f e d xs os s g b h (inl u) q r = never (sym u ∙ r)
  poured f e waits xs os s g b h (inr u) q r = h.whole_buffer b q r ∙ same_said xs os u
  poured f e halts xs os s g b h (inr u) q r = never r
  poured f e closes xs os s g b h (inr u) q r = never r
  poured f e (raises l i) xs os s g b h (inr u) q r = never r
  poured f e client_changes xs os s g b h (inr u) q r = never (sym b ∙ (at e _ g.0 s).1)
  poured f e server_changes xs os s g b h (inr u) q r = never (sym b ∙ (at e _ g.0 s).1)
  poured f e (buffers x) xs os s g b h (inr u) q r = ap (λ l. l ++ x) (h.whole_buffer b q r) ∙ ap (λ l. spoken xs ++ l) u ∙ sym (spoken-++ xs os)
  poured f e (releases x) xs os s g b h (inr u) q r = never (sym (ap is_open g) ∙ q)
  poured f e (takes_client_hello r' u' m rest) xs os s g b h (inr u) q r = never (sym b ∙ (at e _ g.0 s).1)
  poured f e (takes_server_hello r' u' m rest) xs os s g b h (inr u) q r = never (sym b ∙ (at e _ g.0 s).1)
  poured f e (takes_done m rest) xs os s g b h (inr u) q r = never (sym b ∙ (at e _ g.0 s).1)
  poured f e keeps_certificates xs os s g b h (inr u) q r = never (sym b ∙ (at e _ (g) s).1)
  poured f e keeps_signature xs os s g b h (inr u) q r = never (sym b ∙ (at e _ (g) s).1)
  poured f e keeps_wrapped xs os s g b h (inr u) q r = never (sym b ∙ (at e _ (g) s).1)
  poured f e fails_check xs os s g b h (inr u) q r = never r
  poured f e (client_opens m) xs os s g b h (inr u) q r = never q
  poured f e (server_opens m) xs os s g b h (inr u) q r = never q
  poured f e (greets r') xs os s g b h (inr u) q r = never (sym b ∙ (at e _ g.0 s).1)
  poured f e (offers p') xs os s g b h (inr u) q r = never (sym b ∙ (at e _ g.0 s).1)
  poured f e (trusts_certificates m rest) xs os s g b h (inr u) q r = never (sym b ∙ (at e _ g.0 s).1)
  poured f e (trusts_signature m rest) xs os s g b h (inr u) q r = never (sym b ∙ (at e _ g.0 s).1)
  poured f e (exchanges q' w) xs os s g b h (inr u) q r = never (sym b ∙ (at e _ g.0 s).1)
  poured f e (unwraps q' m rest) xs os s g b h (inr u) q r = never (sym b ∙ (at e _ g.0 s).1)
  poured f e (sends x) xs os s g b h (inr u) q r = never (sym (ap is_open g.0) ∙ q)

  pub handed_said : (d : Deed) → handed d ≡ false → said_by d ≡ []
  handed_said d q = grind arith

  pub handed_in : (f : List ℕ) (e : End H) (d : Deed) → handed d ≡ false → (perform K P f e d).end.reads_protected ≡ e.reads_protected
  handed_in f e waits q = refl
  handed_in f e halts q = refl
  handed_in f e closes q = refl
  handed_in f e (raises l n) q = refl
  handed_in f e client_changes q = never q
  handed_in f e server_changes q = never q
  handed_in f e (buffers x) q = never q
  handed_in f e (releases x) q = never q
  handed_in f e (takes_client_hello r u m rest) q = refl
  handed_in f e (takes_server_hello r u m rest) q = refl
  handed_in f e (takes_done m rest) q = refl
  handed_in f e keeps_certificates q = refl
  handed_in f e keeps_signature q = refl
  handed_in f e keeps_wrapped q = refl
  handed_in f e fails_check q = refl
  handed_in f e (client_opens m) q = refl
  handed_in f e (server_opens m) q = refl
  handed_in f e (greets r) q = refl
  handed_in f e (offers p) q = refl
  handed_in f e (trusts_certificates m rest) q = refl
  handed_in f e (trusts_signature m rest) q = refl
  handed_in f e (exchanges k w) q = refl
  handed_in f e (unwraps k m rest) q = refl
  handed_in f e (sends x) q = refl

  pub in_stays : (f : List ℕ) (e : End H) (d : Deed) → e.reads_protected ≡ true → (perform K P f e d).end.reads_protected ≡ true
  in_stays f e waits q = q
  in_stays f e halts q = q
  in_stays f e closes q = q
  in_stays f e (raises l n) q = q
  in_stays f e client_changes q = refl
  in_stays f e server_changes q = refl
  in_stays f e (buffers x) q = q
  in_stays f e (releases x) q = q
  in_stays f e (takes_client_hello r u m rest) q = q
  in_stays f e (takes_server_hello r u m rest) q = q
  in_stays f e (takes_done m rest) q = q
  in_stays f e keeps_certificates q = q
  in_stays f e keeps_signature q = q
  in_stays f e keeps_wrapped q = q
  in_stays f e fails_check q = q
  in_stays f e (client_opens m) q = q
  in_stays f e (server_opens m) q = q
  in_stays f e (greets r) q = q
  in_stays f e (offers p) q = q
  in_stays f e (trusts_certificates m rest) q = q
  in_stays f e (trusts_signature m rest) q = q
  in_stays f e (exchanges k w) q = q
  in_stays f e (unwraps k m rest) q = q
  in_stays f e (sends x) q = q

  pub alert_said : (x : List ℕ) → said_by (on_alert x) ≡ []
  alert_said [] = refl
  alert_said (l ∷ []) = refl
  alert_said (l ∷ (n ∷ [])) = pair_by (λ d. said_by d ≡ []) refl refl refl refl l n
  alert_said (l ∷ (n ∷ (x ∷ xs))) = refl

  pub change_said : (t : Stage) → said_by (on_change t) ≡ []
  change_said t = grind arith

  pub Said : (f : List ℕ) (e : End H) (x : List ℕ) (d : Deed) → Type 0
  Said f e x d = (over (perform K P f e d).end.stage ≡ true) ⊎ (said_by d ≡ x)

  pub kind_said : (f : List ℕ) (e : End H) (k : ℕ) (y : List ℕ) → Said f e (joined_octets (cond (eqb k handshake_kind) (y ∷ []) [])) (on_kind e k y)
  unfolding Said
  kind_said f e k y = go (eqb k change_kind) (eqb k alert_kind) (eqb k handshake_kind) (eqb k data_kind) refl refl refl refl
    where
      only : (n : ℕ) → eqb k n ≡ true → eqb n handshake_kind ≡ false → eqb k handshake_kind ≡ true → true ≡ false
      only n a b c = let h = eqb-true k n a in sym c ∙ ap (λ z. eqb z handshake_kind) h ∙ b

      takes : (b : Bool) → (over (perform K P f e (cond b (raises AtContent 10) (buffers y))).end.stage ≡ true) ⊎ (said_by (cond b (raises AtContent 10) (buffers y)) ≡ joined_octets (y ∷ []))
      takes true = inl refl
      takes false = inr (sym (append-nil y))

      go : (b1 b2 b3 b4 : Bool) → eqb k change_kind ≡ b1 → eqb k alert_kind ≡ b2 → eqb k handshake_kind ≡ b3 → eqb k data_kind ≡ b4
          → Said f e (joined_octets (cond b3 (y ∷ []) [])) (cond b1 (cond (is_one y) (cond (is_none e.buffered) (on_change e.stage) (raises AtContent 10)) (raises AtContent 50)) (cond b2 (on_alert y) (cond b3 (cond (is_open e.stage) (raises AtContent 10) (buffers y)) (cond b4 (cond (is_open e.stage) (releases y) (raises AtContent 10)) waits))))
      go true b2 true b4 q1 q2 q3 q4 = never (only change_kind q1 refl q3)
      go true b2 false b4 q1 q2 q3 q4 = inr (grind (arith, change_said e.stage))
      go false true true b4 q1 q2 q3 q4 = never (only alert_kind q2 refl q3)
      go false true false b4 q1 q2 q3 q4 = inr (alert_said y)
      go false false true b4 q1 q2 q3 q4 = takes (is_open e.stage)
      go false false false true q1 q2 q3 q4 = inr (grind arith)
      go false false false false q1 q2 q3 q4 = inr refl

  pub content_said : (f : List ℕ) (e : End H) (k : ℕ) (y : List ℕ) → Said f e (joined_octets (cond (eqb k handshake_kind) (y ∷ []) [])) (on_content e k y)
  unfolding Said
  content_said f e k y = go (is_none y) (leb (length y) content_limit)
    where
      go : (b1 b2 : Bool) → Said f e (joined_octets (cond (eqb k handshake_kind) (y ∷ []) [])) (cond b1 (raises AtRecord 50) (cond b2 (on_kind e k y) (raises AtRecord 22)))
      go true b2 = inl refl
      go false true = kind_said f e k y
      go false false = inl refl

  pub bare_whole : (f : List ℕ) (e : End H) (d : Deed) (xs : List Protected) → Fits K e d → e.reads_protected ≡ false → xs ≡ [] → (perform K P f e d).end.reads_protected ≡ true → (perform K P f e d).end.buffered ≡ spoken (xs ++ [])
  bare_whole f e waits xs g q z r = never (sym r ∙ q)
  bare_whole f e halts xs g q z r = never (sym r ∙ q)
  bare_whole f e closes xs g q z r = never (sym r ∙ q)
  bare_whole f e (raises l i) xs g q z r = never (sym r ∙ q)
  bare_whole f e client_changes xs g q z r = rw z g.1
  bare_whole f e server_changes xs g q z r = rw z g.1
  bare_whole f e (buffers x) xs g q z r = never (sym r ∙ q)
  bare_whole f e (releases x) xs g q z r = never (sym r ∙ q)
  bare_whole f e (takes_client_hello v u' m rest) xs g q z r = never (sym r ∙ q)
  bare_whole f e (takes_server_hello v u' m rest) xs g q z r = never (sym r ∙ q)
  bare_whole f e (takes_done m rest) xs g q z r = never (sym r ∙ q)
  bare_whole f e keeps_certificates xs g q z r = never (sym r ∙ q)
  bare_whole f e keeps_signature xs g q z r = never (sym r ∙ q)
  bare_whole f e keeps_wrapped xs g q z r = never (sym r ∙ q)
  bare_whole f e fails_check xs g q z r = never (sym r ∙ q)
  bare_whole f e (client_opens m) xs g q z r = never (sym r ∙ q)
  bare_whole f e (server_opens m) xs g q z r = never (sym r ∙ q)
  bare_whole f e (greets v) xs g q z r = never (sym r ∙ q)
  bare_whole f e (offers p') xs g q z r = never (sym r ∙ q)
  bare_whole f e (trusts_certificates m rest) xs g q z r = never (sym r ∙ q)
  bare_whole f e (trusts_signature m rest) xs g q z r = never (sym r ∙ q)
  bare_whole f e (exchanges k w) xs g q z r = never (sym r ∙ q)
  bare_whole f e (unwraps k m rest) xs g q z r = never (sym r ∙ q)
  bare_whole f e (sends x) xs g q z r = never (sym r ∙ q)

  pub poured_step : (e : End H) (xs : List Protected) (c : Call) → Sound e → Poured e xs → Poured (step K P e c).end (xs ++ (step K P e c).opened)
  unfolding Said
  poured_step e xs c s h =
      step_by K P e (λ o. Poured o.end (xs ++ o.opened)) c
      (record {
        wants = λ l. record { whole_buffer = λ b q r. rw (append-nil xs) (h.whole_buffer b q r); none_opened = λ b. rw (append-nil xs) (h.none_opened b) };
        refused = λ n. record { whole_buffer = simp append-nil h.whole_buffer; none_opened = simp append-nil h.none_opened };
        done = λ n f d l g t _ _. let a = (reads K P f e d s g).none_opened in
            record {
              whole_buffer = λ b q r. poured f e d xs (perform K P f e d).opened s g (sym (handed_in f e d t) ∙ b) h (inr (rw a (handed_said d t))) q r;
              none_opened = λ b. rw (a, h.none_opened (sym (handed_in f e d t) ∙ b)) refl;
            };
        plain = λ n f k x l b g _ _ _. let d = on_content e k x in let a = (reads K P f e d s g).none_opened in
            record { whole_buffer = λ r _ _. rw a (bare_whole f e d xs g b (h.none_opened b) r); none_opened = λ _. rw (a, h.none_opened b) refl };
        under = λ n f k x l b g _ _ _ _. let d = on_content (one_read K e) k x in
            record {
              whole_buffer = λ _ q r. poured f (one_read K e) d xs (opened_as K e k x ∷ []) (sound_read K P e s b) g refl (record { whole_buffer = λ _. h.whole_buffer b; none_opened = never }) (content_said f (one_read K e) k x) q r;
              none_opened = λ z. never (sym (in_stays f (one_read K e) d refl) ∙ z);
            };
      })

  pub deed_suites : (f : List ℕ) (e : End H) (d : Deed) → (perform K P f e d).end.suites ≡ e.suites
  deed_suites f e waits = refl
  deed_suites f e halts = refl
  deed_suites f e closes = refl
  deed_suites f e (raises l n) = refl
  deed_suites f e client_changes = refl
  deed_suites f e server_changes = refl
  deed_suites f e (buffers x) = refl
  deed_suites f e (releases x) = refl
  deed_suites f e (takes_client_hello r u m rest) = refl
  deed_suites f e (takes_server_hello r u m rest) = refl
  deed_suites f e (takes_done m rest) = refl
  deed_suites f e keeps_certificates = refl
  deed_suites f e keeps_signature = refl
  deed_suites f e keeps_wrapped = refl
  deed_suites f e fails_check = refl
  deed_suites f e (client_opens m) = refl
  deed_suites f e (server_opens m) = refl
  deed_suites f e (greets r) = refl
  deed_suites f e (offers p) = refl
  deed_suites f e (trusts_certificates m rest) = refl
  deed_suites f e (trusts_signature m rest) = refl
  deed_suites f e (exchanges q w) = refl
  deed_suites f e (unwraps q m rest) = refl
  deed_suites f e (sends x) = refl

  pub suites-step : (e : End H) (c : Call) → (step K P e c).end.suites ≡ e.suites
  suites-step e c = step_by K P e (λ o. o.end.suites ≡ e.suites) c (record { refused = λ n. refl; wants = λ l. refl; done = λ n f d l g t _ _. deed_suites f e d; plain = λ n f k x l b g _ _ _. deed_suites f e (on_content e k x); under = λ n f k x l b g _ _ _ _. deed_suites f (one_read K e) (on_content (one_read K e) k x) })
