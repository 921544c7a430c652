-- Every call of the server, phase by phase: it moves on by one or stays.
use Rattle.std.proofs.Common.{◌≡◌, ℕ, ◌+◌, ◌<◌, ◌≤◌, true, cond, List, [], ◌∷◌, ◌++◌, length, refl, ap, ◌∙◌, ⊎_elim, append_assoc, add-zero, arith, lit≤}
use Rattle.records.specs.declared.fault.Layer.TheVariants.{Card as AtCard}
use Rattle.records.specs.Kinds.{change_kind, handshake_kind, data_kind}
use Rattle.handshake.specs.Parts.{versioned}
use Rattle.handshake.specs.Frames.{ready, next}
use Rattle.handshake.specs.Hellos.{client_hello_body}
use Rattle.handshake.specs.Exchanges.{exchange_body}
use Rattle.model.specs.declared.question.Question.TheVariants.{ServerFlight, UnwrapPremaster}
use Rattle.model.specs.Limits.{send_limit, read_limit}
use Rattle.model.specs.Schedule.{Schedule}
use Rattle.model.specs.Protections.{Protection, sealed_with}
use Rattle.model.specs.Endpoint.{End, Call, with_in}
use Rattle.model.specs.Outcomes.{Write, bare, flat, consuming, noting}
use Rattle.model.specs.Deeds.{raises, server_changes, buffers, releases, takes_client_hello, keeps_wrapped, server_opens, unwraps, changing, first_sealed, perform}
use Rattle.model.specs.Answers.{about}
use Rattle.model.specs.Steps.{step}
use Rattle.model.specs.EndLaws.{BringsOctets}
use Rattle.model.specs.Law.{counts, CalmAs, YesAs}
use Rattle.model.proofs.ReadBack.{next-message}
use Rattle.model.proofs.Stances.{Answers, Fresh, Sends, answers, idle, open_idle, takes, turns}
use Rattle.model.proofs.Taking.{takes_bare, takes_data, takes_sealed}
use Rattle.model.proofs.Talks.{Queue, Talk, TalkOk, flat-++, flight_fits, none_waits, queue_more, queue_under, reading_at, waits_next}
use Rattle.model.proofs.Logs.{Log}
use Rattle.model.proofs.Phases.{AfterServer, C1, C15, C22, C23, CH, CX, Co, Fc, Fs, Ja, Jb, KC, KS, Ka, Kb, M5, Phase, Pl, S0, S16, S17, S18, S19, S2, S20, S3, S4, Setting, So, Vc, ph0, ph1, ph10, ph11, ph12, ph13, ph14, ph15, ph16, ph17, ph18, ph19, ph2, ph20, ph21, ph22, ph23, ph24, ph3, ph4, ph5, ph6, ph7, ph8, ph9, quiet_server, stay_server, taken_server}
use Rattle.model.proofs.Sealing.{ch_body, cx_body, fc_body, fc_sealable, client_short, message_short, server_opens_it, turn_client_finished, turn_client_hello, turn_wrapped}

module _ {H : Type 0} (K : Schedule H) (P : Protection) (L : Setting K P) where
  pub offers_on : (rc : List ℕ) (l : length rc ≡ 32) (k : Call) → Answers K P ((S3 K P L) rc) k ServerFlight [] (step K P ((S3 K P L) rc) k) → (AfterServer K P L) 3 ((C1 K P L) rc) [] [] [] [] ((Pl K P L) ((CH K P L) rc ∷ [])) ((Pl K P L) ((CH K P L) rc ∷ [])) k (step K P ((S3 K P L) rc) k)
  offers_on rc l k (q, f, fr, fit, y, e, t) = (rw (t, e) (ph4 rc q (record { random_ok = l; flight_ok = flight_fits q fit })), rw e refl)

  pub unwraps_on : (T : Talk) (h : TalkOk K P T) (k : Call) → Answers K P ((S17 K P L) T) k UnwrapPremaster (T.p ∷ []) (step K P ((S17 K P L) T) k) → (AfterServer K P L) 17 ((C15 K P L) T) (flat P ((KC K P L) T) (changing ∷ (first_sealed ((Fc K P L) T) T.f ∷ []))) [] (changing ∷ (first_sealed ((Fc K P L) T) T.f ∷ [])) [] ((Ka K P L) T) ((Pl K P L) ((M5 K P L) T.rc T.q)) k (step K P ((S17 K P L) T) k)
  unwraps_on T h k (x, f, fr, fit, y, e, t) =
      let i : x.premaster ≡ T.p = (let y' = y in cc) in
      let v : versioned x.premaster ≡ true = rw i h.premaster_ok in
      (quiet_server K P L) 17 ((Pl K P L) ((M5 K P L) T.rc T.q)) k _ (perform K P f ((S17 K P L) T) (unwraps T.p ((CX K P L) T) [])) ((S18 K P L) T)
      (e ∙ ap (λ b. consuming 0 (perform K P f ((S17 K P L) T) (cond b (about (unwraps x.premaster) (next ((CX K P L) T))) (raises AtCard 40)))) v
      ∙ ap (λ n. consuming 0 (perform K P f ((S17 K P L) T) (about (unwraps x.premaster) n))) (next-message 16 (exchange_body T.w) ((cx_body K P L) T h))
      ∙ ap (λ z. consuming 0 (perform K P f ((S17 K P L) T) (unwraps z ((CX K P L) T) []))) i) t refl refl refl refl (ph18 T h)

  pub opens_on : (T : Talk) → TalkOk K P T → (k : Call) (g : List ℕ) → Fresh K P g → step K P ((S20 K P L) T) k ≡ consuming 0 (perform K P g ((S20 K P L) T) (server_opens ((Fc K P L) T))) → counts k (step K P ((S20 K P L) T) k) ≡ 1 → (AfterServer K P L) 20 ((C15 K P L) T) [] [] [] [] ((Ka K P L) T) ((Ja K P L) T) k (step K P ((S20 K P L) T) k)
  opens_on T o k g fr e t = (rw (t, e) (ph21 T g 1 [] o fr none_waits (lit≤ tt)), rw e refl)

  -- ---- the server sends before the client is open
  pub sends_early : (n : ℕ) (T : Talk) (e : End H) (pre : List Write) (j : ℕ) (v : List Write) → ((j' : ℕ) (v' : List Write) → Queue 1 j' v' → j' ≤ send_limit → (Phase K P L) n e ((So K P L) T 1 j') [] (flat P ((KS K P L) T) (pre ++ v')) [] (pre ++ v') ((Ka K P L) T) ((Jb K P L) T))
      → Queue 1 j v → (k : Call) → Sends K P ((So K P L) T 1 j) k (step K P ((So K P L) T 1 j) k) → (AfterServer K P L) n e [] (flat P ((KS K P L) T) (pre ++ v)) [] (pre ++ v) ((Ka K P L) T) ((Jb K P L) T) k (step K P ((So K P L) T 1 j) k)
  sends_early n T e pre j v mk z k (x, f, o, l, q, t) =
      (rw (t, q, add-zero, ← flat-++ P ((KS K P L) T) (pre ++ v) (reading_at j x f ∷ []), append_assoc pre v (reading_at j x f ∷ [])) (mk (j + 1) (v ++ (reading_at j x f ∷ [])) (queue_more x f o z) (omega arith)), rw q refl)

  pub server_sends : (n : ℕ) (T : Talk) (i j i' j' : ℕ) (u v : List Write) → 24 ≤ n → TalkOk K P T → Queue i' j u → Queue i j' v → j ≤ send_limit → (k : Call) → Sends K P ((So K P L) T i' j') k (step K P ((So K P L) T i' j') k)
      → (AfterServer K P L) n ((Co K P L) T i j) (flat P ((KC K P L) T) u) (flat P ((KS K P L) T) v) u v ((Kb K P L) T) ((Jb K P L) T) k (step K P ((So K P L) T i' j') k)
  server_sends n T i j i' j' u v b ok zu zv lu k (x, f, o, l, q, t) =
      (rw (t, q, add-zero, ← flat-++ P ((KS K P L) T) v (reading_at j' x f ∷ [])) (ph24 n T i j i' (j' + 1) u (v ++ (reading_at j' x f ∷ [])) b ok zu (queue_more x f o zv) lu (omega arith)), rw q refl)

  pub server_open : (n : ℕ) (T : Talk) (i j i' j' : ℕ) (u v : List Write) → 24 ≤ n → TalkOk K P T → Queue i' j u → Queue i j' v → j ≤ send_limit → j' ≤ send_limit → (k : Call) → CalmAs (step K P ((So K P L) T i' j') k).refused k (flat P ((KC K P L) T) u) → BringsOctets k
      → (AfterServer K P L) n ((Co K P L) T i j) (flat P ((KC K P L) T) u) (flat P ((KS K P L) T) v) u v ((Kb K P L) T) ((Jb K P L) T) k (step K P ((So K P L) T i' j') k)
  server_open n T i j i' j' u v b ok none_waits zv lu lv k h oc =
      ⊎_elim ((stay_server K P L) k _ (ph24 n T i j i' j' [] v b ok none_waits zv lu lv)) (server_sends n T i j i' j' [] v b ok none_waits zv lu k) (open_idle K P ((So K P L) T i' j') k (record { lives = refl; asks_not = refl; asks_none = refl }) refl h oc)
  server_open n T i j i' j' u v b ok (waits_next {ws = ws} x f o zu) zv lu lv k h oc =
      let y = sealed_with P ((KC K P L) T) i' data_kind x f in
      let lt : i' < read_limit = (let m = queue_under zu in omega arith) in
      ⊎_elim (⊎_elim ((stay_server K P L) k _ (ph24 n T i j i' j' (reading_at i' x f ∷ ws) v b ok (waits_next x f o zu) zv lu lv)) (server_sends n T i j i' j' (reading_at i' x f ∷ ws) v b ok (waits_next x f o zu) zv lu k))
      (λ z. (taken_server K P L) n k _ (noting (record { number = i'; kind = data_kind; content = x }) (perform K P z.0 ((So K P L) T (i' + 1) j') (releases x))) ((So K P L) T (i' + 1) j') data_kind y (flat P ((KC K P L) T) ws) (reading_at i' x f) ws z.1 z.2 refl refl (refl, refl, refl, refl) refl (ph24 (n + 1) T i j (i' + 1) j' ws v (omega arith) ok zu zv lu lv))
      (takes_data K P ((So K P L) T i' j') k y x (flat P ((KC K P L) T) ws) (record { lives = refl; asks_not = refl; asks_none = refl }) refl refl refl lt ((client_short K P L) T i' data_kind x f (omega arith) (lit≤ tt) o) ((server_opens_it K P L) T i' data_kind x f (omega arith) (lit≤ tt) o) o.some_content o.not_long h oc)

  -- ---- and of the server
  pub server_moves : {n : ℕ} {e f : End H} {ws wc : List ℕ} {qs qc : List Write} {lc ls : Log} (k : Call) → (Phase K P L) n e f ws wc qs qc lc ls → CalmAs (step K P f k).refused k ws → YesAs (step K P f k).refused k lc.premasters → BringsOctets k → (AfterServer K P L) n e ws wc qs qc lc ls k (step K P f k)
  server_moves k ph0 h y b = (stay_server K P L) k _ ph0 (idle K P (S0 K P L) k (record { lives = refl; asks_not = refl; asks_none = refl }) refl refl h)
  server_moves k (ph1 rc l) h y b =
      ⊎_elim ((stay_server K P L) k _ (ph1 rc l)) (λ z. (taken_server K P L) 1 k _ (perform K P z.0 (S0 K P L) (buffers ((CH K P L) rc))) ((S2 K P L) rc) handshake_kind ((CH K P L) rc) [] (bare handshake_kind ((CH K P L) rc)) [] z.1 z.2 refl refl (refl, refl, refl, refl) refl (ph2 rc l))
      (takes_bare K P (S0 K P L) k ((CH K P L) rc) [] (record { lives = refl; asks_not = refl; asks_none = refl }) refl refl refl refl ((message_short K P L) 1 _ ((ch_body K P L) rc l)) h)
  server_moves k (ph2 rc l) h y b =
      ⊎_elim ((stay_server K P L) k _ (ph2 rc l)) (λ z. (quiet_server K P L) 2 ((Pl K P L) []) k _ (perform K P z.0 ((S2 K P L) rc) (takes_client_hello rc L.s ((CH K P L) rc) [])) ((S3 K P L) rc) (z.2 ∙ ap (λ d. consuming 0 (perform K P z.0 ((S2 K P L) rc) d)) ((turn_client_hello K P L) rc l)) z.3 refl refl refl refl (ph3 rc l))
      (turns K P ((S2 K P L) rc) k [] (ready 1 ((CH K P L) rc) (client_hello_body rc L.cs) []) (record { lives = refl; asks_not = refl; asks_none = refl }) (next-message 1 (client_hello_body rc L.cs) ((ch_body K P L) rc l)) refl refl h b)
  server_moves k (ph3 rc l) h y b = ⊎_elim ((stay_server K P L) k _ (ph3 rc l)) (offers_on rc l k) (answers K P ((S3 K P L) rc) k [] [] ServerFlight refl refl refl refl h y b)
  server_moves k (ph4 rc q o) h y b = (stay_server K P L) k _ (ph4 rc q o) (idle K P ((S4 K P L) rc q) k (record { lives = refl; asks_not = refl; asks_none = refl }) refl refl h)
  server_moves k (ph5 rc q o) h y b = (stay_server K P L) k _ (ph5 rc q o) (idle K P ((S4 K P L) rc q) k (record { lives = refl; asks_not = refl; asks_none = refl }) refl refl h)
  server_moves k (ph6 rc q o) h y b = (stay_server K P L) k _ (ph6 rc q o) (idle K P ((S4 K P L) rc q) k (record { lives = refl; asks_not = refl; asks_none = refl }) refl refl h)
  server_moves k (ph7 rc q o) h y b = (stay_server K P L) k _ (ph7 rc q o) (idle K P ((S4 K P L) rc q) k (record { lives = refl; asks_not = refl; asks_none = refl }) refl refl h)
  server_moves k (ph8 rc q o) h y b = (stay_server K P L) k _ (ph8 rc q o) (idle K P ((S4 K P L) rc q) k (record { lives = refl; asks_not = refl; asks_none = refl }) refl refl h)
  server_moves k (ph9 rc q o) h y b = (stay_server K P L) k _ (ph9 rc q o) (idle K P ((S4 K P L) rc q) k (record { lives = refl; asks_not = refl; asks_none = refl }) refl refl h)
  server_moves k (ph10 rc q o) h y b = (stay_server K P L) k _ (ph10 rc q o) (idle K P ((S4 K P L) rc q) k (record { lives = refl; asks_not = refl; asks_none = refl }) refl refl h)
  server_moves k (ph11 rc q o) h y b = (stay_server K P L) k _ (ph11 rc q o) (idle K P ((S4 K P L) rc q) k (record { lives = refl; asks_not = refl; asks_none = refl }) refl refl h)
  server_moves k (ph12 rc q o) h y b = (stay_server K P L) k _ (ph12 rc q o) (idle K P ((S4 K P L) rc q) k (record { lives = refl; asks_not = refl; asks_none = refl }) refl refl h)
  server_moves k (ph13 rc q o) h y b = (stay_server K P L) k _ (ph13 rc q o) (idle K P ((S4 K P L) rc q) k (record { lives = refl; asks_not = refl; asks_none = refl }) refl refl h)
  server_moves k (ph14 rc q o) h y b = (stay_server K P L) k _ (ph14 rc q o) (idle K P ((S4 K P L) rc q) k (record { lives = refl; asks_not = refl; asks_none = refl }) refl refl h)
  server_moves k (ph15 T o) h y b =
      ⊎_elim ((stay_server K P L) k _ (ph15 T o)) (λ z. (taken_server K P L) 15 k _ (perform K P z.0 ((S4 K P L) T.rc T.q) (buffers ((CX K P L) T))) ((S16 K P L) T) handshake_kind ((CX K P L) T) (flat P ((KC K P L) T) (changing ∷ (first_sealed ((Fc K P L) T) T.f ∷ []))) (bare handshake_kind ((CX K P L) T)) (changing ∷ (first_sealed ((Fc K P L) T) T.f ∷ [])) z.1 z.2 refl refl (refl, refl, refl, refl) refl (ph16 T o))
      (takes_bare K P ((S4 K P L) T.rc T.q) k ((CX K P L) T) (flat P ((KC K P L) T) (changing ∷ (first_sealed ((Fc K P L) T) T.f ∷ []))) (record { lives = refl; asks_not = refl; asks_none = refl }) refl refl refl refl ((message_short K P L) 16 _ ((cx_body K P L) T o)) h)
  server_moves k (ph16 T o) h y b =
      ⊎_elim ((stay_server K P L) k _ (ph16 T o)) (λ z. (quiet_server K P L) 16 ((Pl K P L) ((M5 K P L) T.rc T.q)) k _ (perform K P z.0 ((S16 K P L) T) keeps_wrapped) ((S17 K P L) T) (z.2 ∙ ap (λ d. consuming 0 (perform K P z.0 ((S16 K P L) T) d)) ((turn_wrapped K P L) T o)) z.3 refl refl refl refl (ph17 T o))
      (turns K P ((S16 K P L) T) k _ (ready 16 ((CX K P L) T) (exchange_body T.w) []) (record { lives = refl; asks_not = refl; asks_none = refl }) (next-message 16 (exchange_body T.w) ((cx_body K P L) T o)) refl refl h b)
  server_moves k (ph17 T o) h y b = ⊎_elim ((stay_server K P L) k _ (ph17 T o)) (unwraps_on T o k) (answers K P ((S17 K P L) T) k _ (T.p ∷ []) UnwrapPremaster refl refl refl refl h y b)
  server_moves k (ph18 T o) h y b =
      ⊎_elim ((stay_server K P L) k _ (ph18 T o)) (λ z. (taken_server K P L) 18 k _ (perform K P z.0 ((S18 K P L) T) server_changes) ((S19 K P L) T) change_kind (1 ∷ []) (flat P ((KC K P L) T) (first_sealed ((Fc K P L) T) T.f ∷ [])) changing (first_sealed ((Fc K P L) T) T.f ∷ []) z.1 z.2 refl refl (refl, refl, refl, refl) refl (ph19 T o))
      (takes K P ((S18 K P L) T) k change_kind (1 ∷ []) (flat P ((KC K P L) T) (first_sealed ((Fc K P L) T) T.f ∷ [])) (record { lives = refl; asks_not = refl; asks_none = refl }) refl refl (lit≤ tt) h)
  server_moves k (ph19 T o) h y b =
      let c = (fc_sealable K P L) T o in
      ⊎_elim ((stay_server K P L) k _ (ph19 T o)) (λ z. (taken_server K P L) 19 k _ (noting (record { number = 0; kind = handshake_kind; content = (Fc K P L) T }) (perform K P z.0 (with_in true 1 ((S19 K P L) T)) (buffers ((Fc K P L) T)))) ((S20 K P L) T) handshake_kind (sealed_with P ((KC K P L) T) 0 handshake_kind ((Fc K P L) T) T.f) [] (first_sealed ((Fc K P L) T) T.f) [] z.1 z.2 refl refl (refl, refl, refl, refl) refl (ph20 T o))
      (takes_sealed K P ((S19 K P L) T) k (sealed_with P ((KC K P L) T) 0 handshake_kind ((Fc K P L) T) T.f) ((Fc K P L) T) [] (record { lives = refl; asks_not = refl; asks_none = refl }) refl refl refl (lit≤ tt) ((client_short K P L) T 0 handshake_kind ((Fc K P L) T) T.f (lit≤ tt) (lit≤ tt) c) ((server_opens_it K P L) T 0 handshake_kind ((Fc K P L) T) T.f (lit≤ tt) (lit≤ tt) c) refl c.not_long h)
  server_moves k (ph20 T o) h y b =
      ⊎_elim ((stay_server K P L) k _ (ph20 T o)) (λ z. opens_on T o k z.0 z.1 (z.2 ∙ ap (λ d. consuming 0 (perform K P z.0 ((S20 K P L) T) d)) ((turn_client_finished K P L) T)) z.3)
      (turns K P ((S20 K P L) T) k [] (ready 20 ((Fc K P L) T) ((Vc K P L) T) []) (record { lives = refl; asks_not = refl; asks_none = refl }) (next-message 20 ((Vc K P L) T) ((fc_body K P L) T)) refl refl h b)
  server_moves k (ph21 T g j v o fr z l) h y b = ⊎_elim ((stay_server K P L) k _ (ph21 T g j v o fr z l)) (sends_early 21 T ((C15 K P L) T) (changing ∷ (first_sealed ((Fs K P L) T) g ∷ [])) j v (λ j' v' z' l'. ph21 T g j' v' o fr z' l') z k) (open_idle K P ((So K P L) T 1 j) k (record { lives = refl; asks_not = refl; asks_none = refl }) refl h b)
  server_moves k (ph22 T g j v o fr z l) h y b = ⊎_elim ((stay_server K P L) k _ (ph22 T g j v o fr z l)) (sends_early 22 T ((C22 K P L) T) (first_sealed ((Fs K P L) T) g ∷ []) j v (λ j' v' z' l'. ph22 T g j' v' o fr z' l') z k) (open_idle K P ((So K P L) T 1 j) k (record { lives = refl; asks_not = refl; asks_none = refl }) refl h b)
  server_moves k (ph23 T j v o z l) h y b = ⊎_elim ((stay_server K P L) k _ (ph23 T j v o z l)) (sends_early 23 T ((C23 K P L) T) [] j v (λ j' v' z' l'. ph23 T j' v' o z' l') z k) (open_idle K P ((So K P L) T 1 j) k (record { lives = refl; asks_not = refl; asks_none = refl }) refl h b)
  server_moves k (ph24 n T i j i' j' u v b o zu zv lu lv) h y oc = server_open n T i j i' j' u v b o zu zv lu lv k h oc
