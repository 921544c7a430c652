-- The phases of an undisturbed line: at each what both ends hold and what is on the wire.
use Rattle.std.proofs.Common.{◌≡◌, ℕ, ◌+◌, ◌≤◌, Bool, true, false, List, [], ◌∷◌, ◌++◌, length, drop, Some, Option, refl, append-nil, add-zero}
use Rattle.octets.specs.declared.role.Role.TheVariants.{Client, Server}
use Rattle.records.specs.Kinds.{handshake_kind}
use Rattle.records.specs.Records.{framed}
use Rattle.protection.specs.Keys.{Keying}
use Rattle.handshake.specs.Parts.{among}
use Rattle.model.specs.declared.stage.Stage.{Stage}
use Rattle.model.specs.declared.stage.Stage.TheVariants.{AwaitServerHello, AwaitCertificate, AskCertificates, AwaitServerKeyExchange, AskSignature, AwaitServerHelloDone, AskWrapping, ClientAwaitChange, ClientAwaitFinished, AwaitClientHello, AskServerFlight, AwaitClientKeyExchange, AskUnwrapping, ServerAwaitChange, ServerAwaitFinished, Open}
use Rattle.model.specs.Limits.{suite_limit, send_limit}
use Rattle.model.specs.Messages.{client_hello, server_hello, certificate, server_key_exchange, server_hello_done, client_key_exchange, finished, first_shared}
use Rattle.model.specs.Schedule.{Schedule, ScheduleLaws, absorbed}
use Rattle.model.specs.Protections.{Protection, Lawful, keyed_with}
use Rattle.model.specs.Endpoint.{End, new_end, Parts, Call, no_master, no_random, no_keys}
use Rattle.model.specs.Outcomes.{Write, bare, Outcome, flat, output, consuming}
use Rattle.model.specs.Deeds.{changing, first_sealed, flight, in_records}
use Rattle.model.specs.Runs.{Check, secret, sealed_in}
use Rattle.model.specs.Law.{counts, left}
use Rattle.model.proofs.Accepting.{Still, drop-framed, leb_five}
use Rattle.model.proofs.Stances.{Fresh}
use Rattle.model.proofs.Talks.{Ok2, Queue, Talk, TalkOk}
use Rattle.model.proofs.Logs.{AddsNone, Log, grown, grown_none}

-- ---- a line with a shared suite: what its two protections hold, its suite lists and the suite
pub record Setting {H : Type 0} (K : Schedule H) (P : Protection) : Type 0 where
  pub law : Lawful P
  pub sized : ScheduleLaws K
  pub kc : Option Keying
  pub ks : Option Keying
  pub cs : List ℕ
  pub ss : List ℕ
  pub s : ℕ
  pub shared : first_shared cs ss ≡ Some s
  pub offered : among s cs ≡ true
  pub served : P.serves s ≡ true
  pub some_c : 1 ≤ length cs
  pub few : length cs ≤ suite_limit

module _ {H : Type 0} (K : Schedule H) (P : Protection) (L : Setting K P) where
  -- ---- messages
  abbrev pub CH : List ℕ → List ℕ
  CH rc = client_hello rc L.cs

  abbrev pub SH : Parts → List ℕ
  SH q = server_hello q.random q.session L.s

  abbrev pub CE : Parts → List ℕ
  CE q = certificate q.certificates

  abbrev pub KE : Parts → List ℕ
  KE q = server_key_exchange q.signature

  abbrev pub HD : List ℕ
  HD = server_hello_done

  abbrev pub M5 : List ℕ → Parts → List (List ℕ)
  M5 rc q = CH rc ∷ (SH q ∷ (CE q ∷ (KE q ∷ (HD ∷ []))))

  abbrev pub CX : Talk → List ℕ
  CX T = client_key_exchange T.w

  abbrev pub M6 : Talk → List (List ℕ)
  M6 T = CH T.rc ∷ (SH T.q ∷ (CE T.q ∷ (KE T.q ∷ (HD ∷ (CX T ∷ [])))))

  abbrev pub Mas : Talk → List ℕ
  Mas T = K.master_secret T.p T.rc T.q.random

  abbrev pub Vc : Talk → List ℕ
  Vc T = K.verify_data Client (Mas T) (absorbed K K.blank (M6 T))

  abbrev pub Fc : Talk → List ℕ
  Fc T = finished (Vc T)

  abbrev pub M7 : Talk → List (List ℕ)
  M7 T = CH T.rc ∷ (SH T.q ∷ (CE T.q ∷ (KE T.q ∷ (HD ∷ (CX T ∷ (Fc T ∷ []))))))

  abbrev pub Vs : Talk → List ℕ
  Vs T = K.verify_data Server (Mas T) (absorbed K K.blank (M7 T))

  abbrev pub Fs : Talk → List ℕ
  Fs T = finished (Vs T)

  abbrev pub M8 : Talk → List (List ℕ)
  M8 T = CH T.rc ∷ (SH T.q ∷ (CE T.q ∷ (KE T.q ∷ (HD ∷ (CX T ∷ (Fc T ∷ (Fs T ∷ [])))))))

  -- ---- keys
  abbrev pub Mat : Talk → List ℕ
  Mat T = K.key_material (Mas T) T.rc T.q.random (P.size L.s)

  abbrev pub KC : Talk → Option Keying
  KC T = keyed_with P L.kc (record { suite = L.s; role = Client; material = Mat T })

  abbrev pub KS : Talk → Option Keying
  KS T = keyed_with P L.ks (record { suite = L.s; role = Server; material = Mat T })

  -- ---- ends: before keys (stage, randoms, suite, messages, buffer) and after (stage, master secret, messages, numbers, flags, buffer)
  abbrev pub Cb : Stage → List ℕ → List ℕ → ℕ → List (List ℕ) → List ℕ → End H
  Cb t rc rs u ms x = record { role = Client; stage = t; suites = L.cs; protection = L.kc; client_random = rc; server_random = rs; suite = u; master = no_master; transcript = absorbed K K.blank ms; scratch = no_keys; reads = 0; writes = 0; reads_protected = false; writes_protected = false; buffered = x }

  abbrev pub Sb : Stage → List ℕ → List ℕ → ℕ → List (List ℕ) → List ℕ → End H
  Sb t rc rs u ms x = record { role = Server; stage = t; suites = L.ss; protection = L.ks; client_random = rc; server_random = rs; suite = u; master = no_master; transcript = absorbed K K.blank ms; scratch = no_keys; reads = 0; writes = 0; reads_protected = false; writes_protected = false; buffered = x }

  abbrev pub Ck : Stage → Talk → List ℕ → List (List ℕ) → ℕ → ℕ → Bool → List ℕ → End H
  Ck t T m ms i j b x = record { role = Client; stage = t; suites = L.cs; protection = KC T; client_random = T.rc; server_random = T.q.random; suite = L.s; master = m; transcript = absorbed K K.blank ms; scratch = no_keys; reads = i; writes = j; reads_protected = b; writes_protected = true; buffered = x }

  abbrev pub Sk : Stage → Talk → List ℕ → List (List ℕ) → ℕ → ℕ → Bool → Bool → List ℕ → End H
  Sk t T m ms i j b d x = record { role = Server; stage = t; suites = L.ss; protection = KS T; client_random = T.rc; server_random = T.q.random; suite = L.s; master = m; transcript = absorbed K K.blank ms; scratch = no_keys; reads = i; writes = j; reads_protected = b; writes_protected = d; buffered = x }

  abbrev pub C0 : End H
  C0 = new_end K Client L.kc L.cs

  abbrev pub S0 : End H
  S0 = new_end K Server L.ks L.ss

  abbrev pub C1 : List ℕ → End H
  C1 rc = Cb AwaitServerHello rc no_random 0 (CH rc ∷ []) []

  abbrev pub S2 : List ℕ → End H
  S2 rc = Sb AwaitClientHello no_random no_random 0 [] (CH rc)

  abbrev pub S3 : List ℕ → End H
  S3 rc = Sb AskServerFlight rc no_random L.s (CH rc ∷ []) []

  abbrev pub S4 : List ℕ → Parts → End H
  S4 rc q = Sb AwaitClientKeyExchange rc q.random L.s (M5 rc q) []

  abbrev pub C5 : List ℕ → Parts → End H
  C5 rc q = Cb AwaitServerHello rc no_random 0 (CH rc ∷ []) (SH q)

  abbrev pub C6 : List ℕ → Parts → End H
  C6 rc q = Cb AwaitCertificate rc q.random L.s (CH rc ∷ (SH q ∷ [])) []

  abbrev pub C7 : List ℕ → Parts → End H
  C7 rc q = Cb AwaitCertificate rc q.random L.s (CH rc ∷ (SH q ∷ [])) (CE q)

  abbrev pub C8 : List ℕ → Parts → End H
  C8 rc q = Cb AskCertificates rc q.random L.s (CH rc ∷ (SH q ∷ [])) (CE q)

  abbrev pub C9 : List ℕ → Parts → End H
  C9 rc q = Cb AwaitServerKeyExchange rc q.random L.s (CH rc ∷ (SH q ∷ (CE q ∷ []))) []

  abbrev pub C10 : List ℕ → Parts → End H
  C10 rc q = Cb AwaitServerKeyExchange rc q.random L.s (CH rc ∷ (SH q ∷ (CE q ∷ []))) (KE q)

  abbrev pub C11 : List ℕ → Parts → End H
  C11 rc q = Cb AskSignature rc q.random L.s (CH rc ∷ (SH q ∷ (CE q ∷ []))) (KE q)

  abbrev pub C12 : List ℕ → Parts → End H
  C12 rc q = Cb AwaitServerHelloDone rc q.random L.s (CH rc ∷ (SH q ∷ (CE q ∷ (KE q ∷ [])))) []

  abbrev pub C13 : List ℕ → Parts → End H
  C13 rc q = Cb AwaitServerHelloDone rc q.random L.s (CH rc ∷ (SH q ∷ (CE q ∷ (KE q ∷ [])))) HD

  abbrev pub C14 : List ℕ → Parts → End H
  C14 rc q = Cb AskWrapping rc q.random L.s (M5 rc q) []

  abbrev pub C15 : Talk → End H
  C15 T = Ck ClientAwaitChange T (Mas T) (M7 T) 0 1 false []

  abbrev pub S16 : Talk → End H
  S16 T = Sb AwaitClientKeyExchange T.rc T.q.random L.s (M5 T.rc T.q) (CX T)

  abbrev pub S17 : Talk → End H
  S17 T = Sb AskUnwrapping T.rc T.q.random L.s (M5 T.rc T.q) (CX T)

  abbrev pub S18 : Talk → End H
  S18 T = Sk ServerAwaitChange T (Mas T) (M6 T) 0 0 false false []

  abbrev pub S19 : Talk → End H
  S19 T = Sk ServerAwaitFinished T (Mas T) (M6 T) 0 0 true false []

  abbrev pub S20 : Talk → End H
  S20 T = Sk ServerAwaitFinished T (Mas T) (M6 T) 1 0 true false (Fc T)

  abbrev pub So : Talk → ℕ → ℕ → End H
  So T i j = Sk Open T no_master (M8 T) i j true true []

  abbrev pub C22 : Talk → End H
  C22 T = Ck ClientAwaitFinished T (Mas T) (M7 T) 0 1 true []

  abbrev pub C23 : Talk → End H
  C23 T = Ck ClientAwaitFinished T (Mas T) (M7 T) 1 1 true (Fs T)

  abbrev pub Co : Talk → ℕ → ℕ → End H
  Co T i j = Ck Open T no_master (M8 T) i j true []

  -- ---- logs: early, by the messages; then with keys, and open
  abbrev pub Pl : List (List ℕ) → Log
  Pl ms = record { messages = ms; premasters = []; finished = []; compared = [] }

  -- the check behind each Finished
  abbrev pub c1 : Talk → Check
  c1 T = record { label = Client; master = secret K (T.p ∷ []) (M7 T); messages = M6 T }

  abbrev pub c2 : Talk → Check
  c2 T = record { label = Server; master = secret K (T.p ∷ []) (M8 T); messages = M7 T }

  abbrev pub Ka : Talk → Log
  Ka T = record { messages = M7 T; premasters = T.p ∷ []; finished = c1 T ∷ []; compared = [] }

  abbrev pub Kb : Talk → Log
  Kb T = record { messages = M8 T; premasters = T.p ∷ []; finished = c1 T ∷ []; compared = c2 T ∷ [] }

  abbrev pub Ja : Talk → Log
  Ja T = record { messages = M6 T; premasters = T.p ∷ []; finished = []; compared = [] }

  abbrev pub Jb : Talk → Log
  Jb T = record { messages = M8 T; premasters = T.p ∷ []; finished = c2 T ∷ []; compared = c1 T ∷ [] }

  -- a phase: how many calls were counted, the two ends, what waits for the server and for the client, the two logs
  pub data Phase : ℕ → End H → End H → List ℕ → List ℕ → List Write → List Write → Log → Log → Type 0 where
    ph0 : Phase 0 C0 S0 [] [] [] [] (Pl []) (Pl [])
    ph1 : (rc : List ℕ) → length rc ≡ 32 → Phase 1 (C1 rc) S0 (flat P L.kc (in_records (CH rc ∷ []))) [] (in_records (CH rc ∷ [])) [] (Pl (CH rc ∷ [])) (Pl [])
    ph2 : (rc : List ℕ) → length rc ≡ 32 → Phase 2 (C1 rc) (S2 rc) [] [] [] [] (Pl (CH rc ∷ [])) (Pl [])
    ph3 : (rc : List ℕ) → length rc ≡ 32 → Phase 3 (C1 rc) (S3 rc) [] [] [] [] (Pl (CH rc ∷ [])) (Pl (CH rc ∷ []))
    ph4 : (rc : List ℕ) (q : Parts) → Ok2 rc q → Phase 4 (C1 rc) (S4 rc q) [] (flat P L.ks (in_records (flight q L.s))) [] (in_records (flight q L.s)) (Pl (CH rc ∷ [])) (Pl (M5 rc q))
    ph5 : (rc : List ℕ) (q : Parts) → Ok2 rc q → Phase 5 (C5 rc q) (S4 rc q) [] (flat P L.ks (in_records (CE q ∷ (KE q ∷ (HD ∷ []))))) [] (in_records (CE q ∷ (KE q ∷ (HD ∷ [])))) (Pl (CH rc ∷ [])) (Pl (M5 rc q))
    ph6 : (rc : List ℕ) (q : Parts) → Ok2 rc q → Phase 6 (C6 rc q) (S4 rc q) [] (flat P L.ks (in_records (CE q ∷ (KE q ∷ (HD ∷ []))))) [] (in_records (CE q ∷ (KE q ∷ (HD ∷ [])))) (Pl (CH rc ∷ (SH q ∷ []))) (Pl (M5 rc q))
    ph7 : (rc : List ℕ) (q : Parts) → Ok2 rc q → Phase 7 (C7 rc q) (S4 rc q) [] (flat P L.ks (in_records (KE q ∷ (HD ∷ [])))) [] (in_records (KE q ∷ (HD ∷ []))) (Pl (CH rc ∷ (SH q ∷ []))) (Pl (M5 rc q))
    ph8 : (rc : List ℕ) (q : Parts) → Ok2 rc q → Phase 8 (C8 rc q) (S4 rc q) [] (flat P L.ks (in_records (KE q ∷ (HD ∷ [])))) [] (in_records (KE q ∷ (HD ∷ []))) (Pl (CH rc ∷ (SH q ∷ []))) (Pl (M5 rc q))
    ph9 : (rc : List ℕ) (q : Parts) → Ok2 rc q → Phase 9 (C9 rc q) (S4 rc q) [] (flat P L.ks (in_records (KE q ∷ (HD ∷ [])))) [] (in_records (KE q ∷ (HD ∷ []))) (Pl (CH rc ∷ (SH q ∷ (CE q ∷ [])))) (Pl (M5 rc q))
    ph10 : (rc : List ℕ) (q : Parts) → Ok2 rc q → Phase 10 (C10 rc q) (S4 rc q) [] (flat P L.ks (in_records (HD ∷ []))) [] (in_records (HD ∷ [])) (Pl (CH rc ∷ (SH q ∷ (CE q ∷ [])))) (Pl (M5 rc q))
    ph11 : (rc : List ℕ) (q : Parts) → Ok2 rc q → Phase 11 (C11 rc q) (S4 rc q) [] (flat P L.ks (in_records (HD ∷ []))) [] (in_records (HD ∷ [])) (Pl (CH rc ∷ (SH q ∷ (CE q ∷ [])))) (Pl (M5 rc q))
    ph12 : (rc : List ℕ) (q : Parts) → Ok2 rc q → Phase 12 (C12 rc q) (S4 rc q) [] (flat P L.ks (in_records (HD ∷ []))) [] (in_records (HD ∷ [])) (Pl (CH rc ∷ (SH q ∷ (CE q ∷ (KE q ∷ []))))) (Pl (M5 rc q))
    ph13 : (rc : List ℕ) (q : Parts) → Ok2 rc q → Phase 13 (C13 rc q) (S4 rc q) [] [] [] [] (Pl (CH rc ∷ (SH q ∷ (CE q ∷ (KE q ∷ []))))) (Pl (M5 rc q))
    ph14 : (rc : List ℕ) (q : Parts) → Ok2 rc q → Phase 14 (C14 rc q) (S4 rc q) [] [] [] [] (Pl (M5 rc q)) (Pl (M5 rc q))
    ph15 : (T : Talk) → TalkOk K P T → Phase 15 (C15 T) (S4 T.rc T.q) (flat P (KC T) (bare handshake_kind (CX T) ∷ (changing ∷ (first_sealed (Fc T) T.f ∷ [])))) [] (bare handshake_kind (CX T) ∷ (changing ∷ (first_sealed (Fc T) T.f ∷ []))) [] (Ka T) (Pl (M5 T.rc T.q))
    ph16 : (T : Talk) → TalkOk K P T → Phase 16 (C15 T) (S16 T) (flat P (KC T) (changing ∷ (first_sealed (Fc T) T.f ∷ []))) [] (changing ∷ (first_sealed (Fc T) T.f ∷ [])) [] (Ka T) (Pl (M5 T.rc T.q))
    ph17 : (T : Talk) → TalkOk K P T → Phase 17 (C15 T) (S17 T) (flat P (KC T) (changing ∷ (first_sealed (Fc T) T.f ∷ []))) [] (changing ∷ (first_sealed (Fc T) T.f ∷ [])) [] (Ka T) (Pl (M5 T.rc T.q))
    ph18 : (T : Talk) → TalkOk K P T → Phase 18 (C15 T) (S18 T) (flat P (KC T) (changing ∷ (first_sealed (Fc T) T.f ∷ []))) [] (changing ∷ (first_sealed (Fc T) T.f ∷ [])) [] (Ka T) (Ja T)
    ph19 : (T : Talk) → TalkOk K P T → Phase 19 (C15 T) (S19 T) (flat P (KC T) (first_sealed (Fc T) T.f ∷ [])) [] (first_sealed (Fc T) T.f ∷ []) [] (Ka T) (Ja T)
    ph20 : (T : Talk) → TalkOk K P T → Phase 20 (C15 T) (S20 T) [] [] [] [] (Ka T) (Ja T)
    ph21 : (T : Talk) (g : List ℕ) (j : ℕ) (v : List Write) → TalkOk K P T → Fresh K P g → Queue 1 j v → j ≤ send_limit → Phase 21 (C15 T) (So T 1 j) [] (flat P (KS T) (changing ∷ (first_sealed (Fs T) g ∷ v))) [] (changing ∷ (first_sealed (Fs T) g ∷ v)) (Ka T) (Jb T)
    ph22 : (T : Talk) (g : List ℕ) (j : ℕ) (v : List Write) → TalkOk K P T → Fresh K P g → Queue 1 j v → j ≤ send_limit → Phase 22 (C22 T) (So T 1 j) [] (flat P (KS T) (first_sealed (Fs T) g ∷ v)) [] (first_sealed (Fs T) g ∷ v) (Ka T) (Jb T)
    ph23 : (T : Talk) (j : ℕ) (v : List Write) → TalkOk K P T → Queue 1 j v → j ≤ send_limit → Phase 23 (C23 T) (So T 1 j) [] (flat P (KS T) v) [] v (Ka T) (Jb T)
    ph24 : (n : ℕ) (T : Talk) (i j i' j' : ℕ) (u v : List Write) → 24 ≤ n → TalkOk K P T → Queue i' j u → Queue i j' v → j ≤ send_limit → j' ≤ send_limit → Phase n (Co T i j) (So T i' j') (flat P (KC T) u) (flat P (KS T) v) u v (Kb T) (Jb T)

  abbrev pub AfterClient : ℕ → End H → List ℕ → List ℕ → List Write → List Write → Log → Log → Call → Outcome H → Type 0
  AfterClient n f ws wc qs qc lc ls k o = Phase (n + counts k o) o.end f (ws ++ output P o) (drop o.consumed wc) (qs ++ o.writes) (left o.consumed qc) (grown K Client lc o) ls × (sealed_in qc ≡ o.opened ++ sealed_in (left o.consumed qc))

  abbrev pub AfterServer : ℕ → End H → List ℕ → List ℕ → List Write → List Write → Log → Log → Call → Outcome H → Type 0
  AfterServer n e ws wc qs qc lc ls k o = Phase (n + counts k o) e o.end (drop o.consumed ws) (wc ++ output P o) (left o.consumed qs) (qc ++ o.writes) lc (grown K Server ls o) × (sealed_in qs ≡ o.opened ++ sealed_in (left o.consumed qs))

  -- ---- a call that stays, that takes a record, that does one thing without a word
  pub stay_client : {n : ℕ} {e f : End H} {ws wc : List ℕ} {qs qc : List Write} {lc ls : Log} (k : Call) (o : Outcome H) → Phase n e f ws wc qs qc lc ls → Still K P e k o → AfterClient n f ws wc qs qc lc ls k o
  stay_client {lc = lc} k o h t = let a = t.same_end in let b = t.writes_none in let x = t.consumes_none in let z = t.uncounted in let v = t.opens_none in let g = grown_none K Client lc o (t.joins_none, t.answers_none, t.makes_none, t.compares_none) in (rw (g, z, b, x, a, add-zero, append-nil, append-nil) h, rw (v, x) refl)

  pub stay_server : {n : ℕ} {e f : End H} {ws wc : List ℕ} {qs qc : List Write} {lc ls : Log} (k : Call) (o : Outcome H) → Phase n e f ws wc qs qc lc ls → Still K P f k o → AfterServer n e ws wc qs qc lc ls k o
  stay_server {ls = ls} k o h t = let a = t.same_end in let b = t.writes_none in let x = t.consumes_none in let z = t.uncounted in let v = t.opens_none in let g = grown_none K Server ls o (t.joins_none, t.answers_none, t.makes_none, t.compares_none) in (rw (g, z, b, x, a, add-zero, append-nil, append-nil) h, rw (v, x) refl)

  pub taken_client : (n : ℕ) {f : End H} {ws : List ℕ} {qs : List Write} {lc ls : Log} (k : Call) (o o' : Outcome H) (e' : End H) (kd : ℕ) (x rest : List ℕ) (w : Write) (qc : List Write) → o ≡ consuming (length x + 5) o' → counts k o ≡ 1 → o'.end ≡ e' → o'.writes ≡ [] → AddsNone o' → sealed_in (w ∷ qc) ≡ o'.opened ++ sealed_in qc
      → Phase (n + 1) e' f ws rest qs qc lc ls → AfterClient n f ws (framed kd x ++ rest) qs (w ∷ qc) lc ls k o
  taken_client n {lc = lc} k o o' e' kd x rest w qc e t a b c d h = (rw (t, e, grown_none K Client lc o' c, b, a, drop-framed kd x rest, leb_five (length x), append-nil, append-nil) h, rw (e, leb_five (length x)) d)

  pub taken_server : (n : ℕ) {e : End H} {wc : List ℕ} {qc : List Write} {lc ls : Log} (k : Call) (o o' : Outcome H) (f' : End H) (kd : ℕ) (x rest : List ℕ) (w : Write) (qs : List Write) → o ≡ consuming (length x + 5) o' → counts k o ≡ 1 → o'.end ≡ f' → o'.writes ≡ [] → AddsNone o' → sealed_in (w ∷ qs) ≡ o'.opened ++ sealed_in qs
      → Phase (n + 1) e f' rest wc qs qc lc ls → AfterServer n e (framed kd x ++ rest) wc (w ∷ qs) qc lc ls k o
  taken_server n {ls = ls} k o o' f' kd x rest w qs e t a b c d h = (rw (t, e, grown_none K Server ls o' c, b, a, drop-framed kd x rest, leb_five (length x), append-nil, append-nil) h, rw (e, leb_five (length x)) d)

  pub quiet_client : (n : ℕ) (lc : Log) {f : End H} {ws wc : List ℕ} {qs qc : List Write} {lc' ls : Log} (k : Call) (o o' : Outcome H) (e' : End H) → o ≡ consuming 0 o' → counts k o ≡ 1 → o'.end ≡ e' → o'.writes ≡ [] → grown K Client lc o' ≡ lc' → o'.opened ≡ []
      → Phase (n + 1) e' f ws wc qs qc lc' ls → AfterClient n f ws wc qs qc lc ls k o
  quiet_client n lc k o o' e' e t a b c d h = (rw (t, e, c, b, a, append-nil, append-nil) h, rw (e, d) refl)

  pub quiet_server : (n : ℕ) (ls : Log) {e : End H} {ws wc : List ℕ} {qs qc : List Write} {lc ls' : Log} (k : Call) (o o' : Outcome H) (f' : End H) → o ≡ consuming 0 o' → counts k o ≡ 1 → o'.end ≡ f' → o'.writes ≡ [] → grown K Server ls o' ≡ ls' → o'.opened ≡ []
      → Phase (n + 1) e f' ws wc qs qc lc ls' → AfterServer n e ws wc qs qc lc ls k o
  quiet_server n ls k o o' f' e t a b c d h = (rw (t, e, c, b, a, append-nil, append-nil) h, rw (e, d) refl)
