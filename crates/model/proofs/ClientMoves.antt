-- Every call of the client, phase by phase: it moves on by one or stays.
use Rattle.std.proofs.Common.{ℕ, ◌+◌, ◌<◌, ◌≤◌, true, List, [], ◌∷◌, ◌++◌, refl, ap, ◌∙◌, ⊎_elim, add-zero, arith, lit≤, eqb-true}
use Rattle.records.specs.Kinds.{change_kind, handshake_kind, data_kind}
use Rattle.handshake.specs.Frames.{ready}
use Rattle.handshake.specs.Hellos.{server_hello_body}
use Rattle.handshake.specs.Certificates.{certificate_body}
use Rattle.handshake.specs.Exchanges.{exchange_body}
use Rattle.model.specs.declared.question.Question.TheVariants.{ClientRandom, CheckCertificates, CheckSignature, WrapPremaster}
use Rattle.model.specs.Limits.{send_limit, read_limit}
use Rattle.model.specs.Schedule.{Schedule}
use Rattle.model.specs.Protections.{Protection, sealed_with}
use Rattle.model.specs.Endpoint.{End, Parts, Call, with_in}
use Rattle.model.specs.Outcomes.{Write, bare, flat, consuming, noting}
use Rattle.model.specs.Deeds.{client_changes, buffers, releases, takes_server_hello, takes_done, keeps_certificates, keeps_signature, client_opens, trusts_certificates, trusts_signature, changing, first_sealed, in_records, perform}
use Rattle.model.specs.Answers.{about}
use Rattle.model.specs.Steps.{step}
use Rattle.model.specs.EndLaws.{BringsOctets}
use Rattle.model.specs.Law.{CalmAs, YesAs}
use Rattle.model.proofs.ReadBack.{next-message}
use Rattle.model.proofs.Stances.{Answers, Sends, answers, idle, open_idle, takes, turns}
use Rattle.model.proofs.Taking.{takes_bare, takes_data, takes_sealed}
use Rattle.model.proofs.Talks.{Ok2, Queue, Talk, TalkOk, exchange_fits, flat-++, none_waits, queue_more, queue_under, reading_at, waits_next}
use Rattle.model.proofs.Logs.{Log}
use Rattle.model.proofs.Phases.{AfterClient, C0, C1, C10, C11, C12, C13, C14, C15, C22, C23, C5, C6, C7, C8, C9, CE, CH, Co, Fs, HD, Jb, KC, KE, KS, Ka, Kb, M5, Phase, Pl, S0, S4, SH, Setting, So, Vs, ph0, ph1, ph10, ph11, ph12, ph13, ph14, ph15, ph16, ph17, ph18, ph19, ph2, ph20, ph21, ph22, ph23, ph24, ph3, ph4, ph5, ph6, ph7, ph8, ph9, quiet_client, stay_client, taken_client}
use Rattle.model.proofs.Sealing.{ce_body, fs_body, fs_sealable, ke_body, sh_body, client_opens_it, message_short, server_short, turn_certificate, turn_done, turn_server_finished, turn_server_hello, turn_signature}

module _ {H : Type 0} (K : Schedule H) (P : Protection) (L : Setting K P) where
  -- ---- answers
  pub greeted : (k : Call) → Answers K P (C0 K P L) k ClientRandom [] (step K P (C0 K P L) k) → (AfterClient K P L) 0 (S0 K P L) [] [] [] [] ((Pl K P L) []) ((Pl K P L) []) k (step K P (C0 K P L) k)
  greeted k (p, f, fr, fit, y, e, t) = (rw (t, e) (ph1 p.random (eqb-true _ _ fit)), rw e refl)

  pub trusts_on : (rc : List ℕ) (q : Parts) (h : Ok2 rc q) (k : Call) → Answers K P ((C8 K P L) rc q) k CheckCertificates [] (step K P ((C8 K P L) rc q) k) → (AfterClient K P L) 8 ((S4 K P L) rc q) [] (flat P L.ks (in_records ((KE K P L) q ∷ ((HD K P L) ∷ [])))) [] (in_records ((KE K P L) q ∷ ((HD K P L) ∷ []))) ((Pl K P L) ((CH K P L) rc ∷ ((SH K P L) q ∷ []))) ((Pl K P L) ((M5 K P L) rc q)) k (step K P ((C8 K P L) rc q) k)
  trusts_on rc q h k (p, f, fr, fit, y, e, t) =
      (quiet_client K P L) 8 ((Pl K P L) ((CH K P L) rc ∷ ((SH K P L) q ∷ []))) k _ (perform K P f ((C8 K P L) rc q) (trusts_certificates ((CE K P L) q) [])) ((C9 K P L) rc q) (e ∙ ap (λ n. consuming 0 (perform K P f ((C8 K P L) rc q) (about trusts_certificates n))) (next-message 11 (certificate_body q.certificates) ((ce_body K P L) rc q h))) t refl refl refl refl (ph9 rc q h)

  pub signs_on : (rc : List ℕ) (q : Parts) (h : Ok2 rc q) (k : Call) → Answers K P ((C11 K P L) rc q) k CheckSignature [] (step K P ((C11 K P L) rc q) k) → (AfterClient K P L) 11 ((S4 K P L) rc q) [] (flat P L.ks (in_records ((HD K P L) ∷ []))) [] (in_records ((HD K P L) ∷ [])) ((Pl K P L) ((CH K P L) rc ∷ ((SH K P L) q ∷ ((CE K P L) q ∷ [])))) ((Pl K P L) ((M5 K P L) rc q)) k (step K P ((C11 K P L) rc q) k)
  signs_on rc q h k (p, f, fr, fit, y, e, t) =
      (quiet_client K P L) 11 ((Pl K P L) ((CH K P L) rc ∷ ((SH K P L) q ∷ ((CE K P L) q ∷ [])))) k _ (perform K P f ((C11 K P L) rc q) (trusts_signature ((KE K P L) q) [])) ((C12 K P L) rc q) (e ∙ ap (λ n. consuming 0 (perform K P f ((C11 K P L) rc q) (about trusts_signature n))) (next-message 12 (exchange_body q.signature) ((ke_body K P L) rc q h))) t refl refl refl refl (ph12 rc q h)

  pub exchanges_on : (rc : List ℕ) (q : Parts) (h : Ok2 rc q) (k : Call) → Answers K P ((C14 K P L) rc q) k WrapPremaster [] (step K P ((C14 K P L) rc q) k) → (AfterClient K P L) 14 ((S4 K P L) rc q) [] [] [] [] ((Pl K P L) ((M5 K P L) rc q)) ((Pl K P L) ((M5 K P L) rc q)) k (step K P ((C14 K P L) rc q) k)
  exchanges_on rc q h k (x, f, fr, fit, y, e, t) =
      let z = exchange_fits K P x fit in
      (rw (t, e) (ph15 (record { rc = rc; q = q; p = x.premaster; w = x.wrapped; f = f }) (record { hellos_ok = h; premaster_ok = z.0; premaster_48 = z.3; wrapped_some = z.1; wrapped_short = z.2; fresh_ok = fr })), rw e refl)

  -- ---- both open
  pub client_sends : (n : ℕ) (T : Talk) (i j i' j' : ℕ) (u v : List Write) → 24 ≤ n → TalkOk K P T → Queue i' j u → Queue i j' v → j' ≤ send_limit → (k : Call) → Sends K P ((Co K P L) T i j) k (step K P ((Co K P L) T i j) k)
      → (AfterClient K P L) n ((So K P L) T i' j') (flat P ((KC K P L) T) u) (flat P ((KS K P L) T) v) u v ((Kb K P L) T) ((Jb K P L) T) k (step K P ((Co K P L) T i j) k)
  client_sends n T i j i' j' u v b ok zu zv lv k (x, f, o, l, q, t) =
      (rw (t, q, add-zero, ← flat-++ P ((KC K P L) T) u (reading_at j x f ∷ [])) (ph24 n T i (j + 1) i' j' (u ++ (reading_at j x f ∷ [])) v b ok (queue_more x f o zu) zv (omega arith) lv), rw q refl)

  pub client_open : (n : ℕ) (T : Talk) (i j i' j' : ℕ) (u v : List Write) → 24 ≤ n → TalkOk K P T → Queue i' j u → Queue i j' v → j ≤ send_limit → j' ≤ send_limit → (k : Call) → CalmAs (step K P ((Co K P L) T i j) k).refused k (flat P ((KS K P L) T) v) → BringsOctets k
      → (AfterClient K P L) n ((So K P L) T i' j') (flat P ((KC K P L) T) u) (flat P ((KS K P L) T) v) u v ((Kb K P L) T) ((Jb K P L) T) k (step K P ((Co K P L) T i j) k)
  client_open n T i j i' j' u v b ok zu none_waits lu lv k h oc =
      ⊎_elim ((stay_client K P L) k _ (ph24 n T i j i' j' u [] b ok zu none_waits lu lv)) (client_sends n T i j i' j' u [] b ok zu none_waits lv k) (open_idle K P ((Co K P L) T i j) k (record { lives = refl; asks_not = refl; asks_none = refl }) refl h oc)
  client_open n T i j i' j' u v b ok zu (waits_next {ws = ws} x f o zv) lu lv k h oc =
      let y = sealed_with P ((KS K P L) T) i data_kind x f in
      let lt : i < read_limit = (let m = queue_under zv in omega arith) in
      ⊎_elim (⊎_elim ((stay_client K P L) k _ (ph24 n T i j i' j' u (reading_at i x f ∷ ws) b ok zu (waits_next x f o zv) lu lv)) (client_sends n T i j i' j' u (reading_at i x f ∷ ws) b ok zu (waits_next x f o zv) lv k))
      (λ z. (taken_client K P L) n k _ (noting (record { number = i; kind = data_kind; content = x }) (perform K P z.0 ((Co K P L) T (i + 1) j) (releases x))) ((Co K P L) T (i + 1) j) data_kind y (flat P ((KS K P L) T) ws) (reading_at i x f) ws z.1 z.2 refl refl (refl, refl, refl, refl) refl (ph24 (n + 1) T (i + 1) j i' j' u ws (omega arith) ok zu zv lu lv))
      (takes_data K P ((Co K P L) T i j) k y x (flat P ((KS K P L) T) ws) (record { lives = refl; asks_not = refl; asks_none = refl }) refl refl refl lt ((server_short K P L) T i data_kind x f (omega arith) (lit≤ tt) o) ((client_opens_it K P L) T i data_kind x f (omega arith) (lit≤ tt) o) o.some_content o.not_long h oc)

  -- ---- every call of the client, phase by phase
  pub client_moves : {n : ℕ} {e f : End H} {ws wc : List ℕ} {qs qc : List Write} {lc ls : Log} (k : Call) → (Phase K P L) n e f ws wc qs qc lc ls → CalmAs (step K P e k).refused k wc → YesAs (step K P e k).refused k lc.premasters → BringsOctets k → (AfterClient K P L) n f ws wc qs qc lc ls k (step K P e k)
  client_moves k ph0 h y b = ⊎_elim ((stay_client K P L) k _ ph0) (greeted k) (answers K P (C0 K P L) k [] [] ClientRandom refl refl refl refl h y b)
  client_moves k (ph1 rc l) h y b = (stay_client K P L) k _ (ph1 rc l) (idle K P ((C1 K P L) rc) k (record { lives = refl; asks_not = refl; asks_none = refl }) refl refl h)
  client_moves k (ph2 rc l) h y b = (stay_client K P L) k _ (ph2 rc l) (idle K P ((C1 K P L) rc) k (record { lives = refl; asks_not = refl; asks_none = refl }) refl refl h)
  client_moves k (ph3 rc l) h y b = (stay_client K P L) k _ (ph3 rc l) (idle K P ((C1 K P L) rc) k (record { lives = refl; asks_not = refl; asks_none = refl }) refl refl h)
  client_moves k (ph4 rc q o) h y b = ⊎_elim ((stay_client K P L) k _ (ph4 rc q o)) (λ z. (taken_client K P L) 4 k _ (perform K P z.0 ((C1 K P L) rc) (buffers ((SH K P L) q))) ((C5 K P L) rc q) handshake_kind ((SH K P L) q) (flat P L.ks (in_records ((CE K P L) q ∷ ((KE K P L) q ∷ ((HD K P L) ∷ []))))) (bare handshake_kind ((SH K P L) q)) (in_records ((CE K P L) q ∷ ((KE K P L) q ∷ ((HD K P L) ∷ [])))) z.1 z.2 refl refl (refl, refl, refl, refl) refl (ph5 rc q o)) (takes_bare K P ((C1 K P L) rc) k ((SH K P L) q) (flat P L.ks (in_records ((CE K P L) q ∷ ((KE K P L) q ∷ ((HD K P L) ∷ []))))) (record { lives = refl; asks_not = refl; asks_none = refl }) refl refl refl refl ((message_short K P L) 2 _ ((sh_body K P L) rc q o)) h)
  client_moves k (ph5 rc q o) h y b = ⊎_elim ((stay_client K P L) k _ (ph5 rc q o)) (λ z. (quiet_client K P L) 5 ((Pl K P L) ((CH K P L) rc ∷ [])) k _ (perform K P z.0 ((C5 K P L) rc q) (takes_server_hello q.random L.s ((SH K P L) q) [])) ((C6 K P L) rc q) (z.2 ∙ ap (λ d. consuming 0 (perform K P z.0 ((C5 K P L) rc q) d)) ((turn_server_hello K P L) rc q o)) z.3 refl refl refl refl (ph6 rc q o)) (turns K P ((C5 K P L) rc q) k _ (ready 2 ((SH K P L) q) (server_hello_body q.random q.session L.s) []) (record { lives = refl; asks_not = refl; asks_none = refl }) (next-message 2 (server_hello_body q.random q.session L.s) ((sh_body K P L) rc q o)) refl refl h b)
  client_moves k (ph6 rc q o) h y b = ⊎_elim ((stay_client K P L) k _ (ph6 rc q o)) (λ z. (taken_client K P L) 6 k _ (perform K P z.0 ((C6 K P L) rc q) (buffers ((CE K P L) q))) ((C7 K P L) rc q) handshake_kind ((CE K P L) q) (flat P L.ks (in_records ((KE K P L) q ∷ ((HD K P L) ∷ [])))) (bare handshake_kind ((CE K P L) q)) (in_records ((KE K P L) q ∷ ((HD K P L) ∷ []))) z.1 z.2 refl refl (refl, refl, refl, refl) refl (ph7 rc q o)) (takes_bare K P ((C6 K P L) rc q) k ((CE K P L) q) (flat P L.ks (in_records ((KE K P L) q ∷ ((HD K P L) ∷ [])))) (record { lives = refl; asks_not = refl; asks_none = refl }) refl refl refl refl ((message_short K P L) 11 _ ((ce_body K P L) rc q o)) h)
  client_moves k (ph7 rc q o) h y b = ⊎_elim ((stay_client K P L) k _ (ph7 rc q o)) (λ z. (quiet_client K P L) 7 ((Pl K P L) ((CH K P L) rc ∷ ((SH K P L) q ∷ []))) k _ (perform K P z.0 ((C7 K P L) rc q) (keeps_certificates)) ((C8 K P L) rc q) (z.2 ∙ ap (λ d. consuming 0 (perform K P z.0 ((C7 K P L) rc q) d)) ((turn_certificate K P L) rc q o)) z.3 refl refl refl refl (ph8 rc q o)) (turns K P ((C7 K P L) rc q) k _ (ready 11 ((CE K P L) q) (certificate_body q.certificates) []) (record { lives = refl; asks_not = refl; asks_none = refl }) (next-message 11 (certificate_body q.certificates) ((ce_body K P L) rc q o)) refl refl h b)
  client_moves k (ph8 rc q o) h y b = ⊎_elim ((stay_client K P L) k _ (ph8 rc q o)) (trusts_on rc q o k) (answers K P ((C8 K P L) rc q) k _ [] CheckCertificates refl refl refl refl h y b)
  client_moves k (ph9 rc q o) h y b = ⊎_elim ((stay_client K P L) k _ (ph9 rc q o)) (λ z. (taken_client K P L) 9 k _ (perform K P z.0 ((C9 K P L) rc q) (buffers ((KE K P L) q))) ((C10 K P L) rc q) handshake_kind ((KE K P L) q) (flat P L.ks (in_records ((HD K P L) ∷ []))) (bare handshake_kind ((KE K P L) q)) (in_records ((HD K P L) ∷ [])) z.1 z.2 refl refl (refl, refl, refl, refl) refl (ph10 rc q o)) (takes_bare K P ((C9 K P L) rc q) k ((KE K P L) q) (flat P L.ks (in_records ((HD K P L) ∷ []))) (record { lives = refl; asks_not = refl; asks_none = refl }) refl refl refl refl ((message_short K P L) 12 _ ((ke_body K P L) rc q o)) h)
  client_moves k (ph10 rc q o) h y b = ⊎_elim ((stay_client K P L) k _ (ph10 rc q o)) (λ z. (quiet_client K P L) 10 ((Pl K P L) ((CH K P L) rc ∷ ((SH K P L) q ∷ ((CE K P L) q ∷ [])))) k _ (perform K P z.0 ((C10 K P L) rc q) (keeps_signature)) ((C11 K P L) rc q) (z.2 ∙ ap (λ d. consuming 0 (perform K P z.0 ((C10 K P L) rc q) d)) ((turn_signature K P L) rc q o)) z.3 refl refl refl refl (ph11 rc q o)) (turns K P ((C10 K P L) rc q) k _ (ready 12 ((KE K P L) q) (exchange_body q.signature) []) (record { lives = refl; asks_not = refl; asks_none = refl }) (next-message 12 (exchange_body q.signature) ((ke_body K P L) rc q o)) refl refl h b)
  client_moves k (ph11 rc q o) h y b = ⊎_elim ((stay_client K P L) k _ (ph11 rc q o)) (signs_on rc q o k) (answers K P ((C11 K P L) rc q) k _ [] CheckSignature refl refl refl refl h y b)
  client_moves k (ph12 rc q o) h y b = ⊎_elim ((stay_client K P L) k _ (ph12 rc q o)) (λ z. (taken_client K P L) 12 k _ (perform K P z.0 ((C12 K P L) rc q) (buffers ((HD K P L)))) ((C13 K P L) rc q) handshake_kind ((HD K P L)) (flat P L.ks ([])) (bare handshake_kind ((HD K P L))) ([]) z.1 z.2 refl refl (refl, refl, refl, refl) refl (ph13 rc q o)) (takes_bare K P ((C12 K P L) rc q) k ((HD K P L)) (flat P L.ks ([])) (record { lives = refl; asks_not = refl; asks_none = refl }) refl refl refl refl ((message_short K P L) 14 [] (lit≤ tt)) h)
  client_moves k (ph13 rc q o) h y b = ⊎_elim ((stay_client K P L) k _ (ph13 rc q o)) (λ z. (quiet_client K P L) 13 ((Pl K P L) ((CH K P L) rc ∷ ((SH K P L) q ∷ ((CE K P L) q ∷ ((KE K P L) q ∷ []))))) k _ (perform K P z.0 ((C13 K P L) rc q) (takes_done (HD K P L) [])) ((C14 K P L) rc q) (z.2 ∙ ap (λ d. consuming 0 (perform K P z.0 ((C13 K P L) rc q) d)) ((turn_done K P L) rc q)) z.3 refl refl refl refl (ph14 rc q o)) (turns K P ((C13 K P L) rc q) k _ (ready 14 ((HD K P L)) ([]) []) (record { lives = refl; asks_not = refl; asks_none = refl }) (next-message 14 ([]) (lit≤ tt)) refl refl h b)
  client_moves k (ph14 rc q o) h y b = ⊎_elim ((stay_client K P L) k _ (ph14 rc q o)) (exchanges_on rc q o k) (answers K P ((C14 K P L) rc q) k _ [] WrapPremaster refl refl refl refl h y b)
  client_moves k (ph15 T o) h y b = (stay_client K P L) k _ (ph15 T o) (idle K P ((C15 K P L) T) k (record { lives = refl; asks_not = refl; asks_none = refl }) refl refl h)
  client_moves k (ph16 T o) h y b = (stay_client K P L) k _ (ph16 T o) (idle K P ((C15 K P L) T) k (record { lives = refl; asks_not = refl; asks_none = refl }) refl refl h)
  client_moves k (ph17 T o) h y b = (stay_client K P L) k _ (ph17 T o) (idle K P ((C15 K P L) T) k (record { lives = refl; asks_not = refl; asks_none = refl }) refl refl h)
  client_moves k (ph18 T o) h y b = (stay_client K P L) k _ (ph18 T o) (idle K P ((C15 K P L) T) k (record { lives = refl; asks_not = refl; asks_none = refl }) refl refl h)
  client_moves k (ph19 T o) h y b = (stay_client K P L) k _ (ph19 T o) (idle K P ((C15 K P L) T) k (record { lives = refl; asks_not = refl; asks_none = refl }) refl refl h)
  client_moves k (ph20 T o) h y b = (stay_client K P L) k _ (ph20 T o) (idle K P ((C15 K P L) T) k (record { lives = refl; asks_not = refl; asks_none = refl }) refl refl h)
  client_moves k (ph21 T g j v o fr z l) h y b =
      ⊎_elim ((stay_client K P L) k _ (ph21 T g j v o fr z l)) (λ m. (taken_client K P L) 21 k _ (perform K P m.0 ((C15 K P L) T) client_changes) ((C22 K P L) T) change_kind (1 ∷ []) (flat P ((KS K P L) T) (first_sealed ((Fs K P L) T) g ∷ v)) changing (first_sealed ((Fs K P L) T) g ∷ v) m.1 m.2 refl refl (refl, refl, refl, refl) refl (ph22 T g j v o fr z l))
      (takes K P ((C15 K P L) T) k change_kind (1 ∷ []) (flat P ((KS K P L) T) (first_sealed ((Fs K P L) T) g ∷ v)) (record { lives = refl; asks_not = refl; asks_none = refl }) refl refl (lit≤ tt) h)
  client_moves k (ph22 T g j v o fr z l) h y b =
      let c = (fs_sealable K P L) T g fr in
      ⊎_elim ((stay_client K P L) k _ (ph22 T g j v o fr z l)) (λ m. (taken_client K P L) 22 k _ (noting (record { number = 0; kind = handshake_kind; content = (Fs K P L) T }) (perform K P m.0 (with_in true 1 ((C22 K P L) T)) (buffers ((Fs K P L) T)))) ((C23 K P L) T) handshake_kind (sealed_with P ((KS K P L) T) 0 handshake_kind ((Fs K P L) T) g) (flat P ((KS K P L) T) v) (first_sealed ((Fs K P L) T) g) v m.1 m.2 refl refl (refl, refl, refl, refl) refl (ph23 T j v o z l))
      (takes_sealed K P ((C22 K P L) T) k (sealed_with P ((KS K P L) T) 0 handshake_kind ((Fs K P L) T) g) ((Fs K P L) T) (flat P ((KS K P L) T) v) (record { lives = refl; asks_not = refl; asks_none = refl }) refl refl refl (lit≤ tt) ((server_short K P L) T 0 handshake_kind ((Fs K P L) T) g (lit≤ tt) (lit≤ tt) c) ((client_opens_it K P L) T 0 handshake_kind ((Fs K P L) T) g (lit≤ tt) (lit≤ tt) c) refl c.not_long h)
  client_moves k (ph23 T j v o z l) h y b =
      ⊎_elim ((stay_client K P L) k _ (ph23 T j v o z l)) (λ m. (quiet_client K P L) 23 ((Ka K P L) T) k _ (perform K P m.0 ((C23 K P L) T) (client_opens ((Fs K P L) T))) ((Co K P L) T 1 1) (m.2 ∙ ap (λ d. consuming 0 (perform K P m.0 ((C23 K P L) T) d)) ((turn_server_finished K P L) T)) m.3 refl refl refl refl (ph24 24 T 1 1 1 j [] v (lit≤ tt) o none_waits z (lit≤ tt) l))
      (turns K P ((C23 K P L) T) k _ (ready 20 ((Fs K P L) T) ((Vs K P L) T) []) (record { lives = refl; asks_not = refl; asks_none = refl }) (next-message 20 ((Vs K P L) T) ((fs_body K P L) T)) refl refl h b)
  client_moves k (ph24 n T i j i' j' u v b o zu zv lu lv) h y oc = client_open n T i j i' j' u v b o zu zv lu lv k h oc
