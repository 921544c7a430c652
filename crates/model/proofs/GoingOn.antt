-- While an end is not open or octets wait, a further counted call can be made.
use Rattle.std.proofs.Common.{◌≡◌, ℕ, ◌+◌, ◌≤◌, true, false, ◌&&◌, ◌⊎◌, List, [], ◌∷◌, ◌++◌, length, drop, None, refl, ap, inl, inr, ⊎_elim, append-nil, arith, lit≤}
use Rattle.octets.specs.declared.role.Role.{Role}
use Rattle.octets.specs.declared.role.Role.TheVariants.{Client, Server}
use Rattle.octets.specs.Octets.{Octets}
use Rattle.records.specs.Kinds.{change_kind, handshake_kind, data_kind}
use Rattle.records.specs.Records.{framed, limit_of}
use Rattle.handshake.specs.Frames.{is_ready}
use Rattle.handshake.specs.Hellos.{client_hello_body, server_hello_body}
use Rattle.handshake.specs.Certificates.{certificate_body}
use Rattle.handshake.specs.Exchanges.{exchange_body}
use Rattle.model.specs.declared.question.Question.TheVariants.{ClientRandom, ServerFlight, CheckCertificates, CheckSignature, WrapPremaster, UnwrapPremaster}
use Rattle.model.specs.Stages.{is_open}
use Rattle.model.specs.Limits.{send_limit}
use Rattle.model.specs.Schedule.{Schedule}
use Rattle.model.specs.Protections.{Protection, sealed_with}
use Rattle.model.specs.Endpoint.{End, Parts, yes, Call, hand_in, turn, answer}
use Rattle.model.specs.Outcomes.{Write, flat}
use Rattle.model.specs.Deeds.{changing, first_sealed, in_records}
use Rattle.model.specs.Refusals.{message_ready, refusal}
use Rattle.model.specs.Steps.{act, step}
use Rattle.model.specs.EndLaws.{BringsOctets}
use Rattle.model.specs.Law.{counts_as, counts, CalmAs, YesAs, waiting, count, both_open, GoesOn}
use Rattle.model.proofs.ReadBack.{next-message}
use Rattle.model.proofs.Fronts.{never}
use Rattle.model.proofs.Accepting.{accepted, acted_as, framed-whole, kind_whole}
use Rattle.model.proofs.Stances.{Plain}
use Rattle.model.proofs.Talks.{Queue, Talk, none_waits, queue_under, waits_next}
use Rattle.model.proofs.Logs.{Log}
use Rattle.model.proofs.Phases.{C0, C1, C10, C11, C12, C13, C14, C15, C22, C23, C5, C6, C7, C8, C9, CE, CH, CX, Co, Fc, Fs, HD, KC, KE, KS, Phase, S0, S16, S17, S18, S19, S2, S20, S3, S4, SH, Setting, So, Vc, Vs, ph0, ph1, ph10, ph11, ph12, ph13, ph14, ph15, ph16, ph17, ph18, ph19, ph2, ph20, ph21, ph22, ph23, ph24, ph3, ph4, ph5, ph6, ph7, ph8, ph9}
use Rattle.model.proofs.Sealing.{ce_body, ch_body, cx_body, fc_body, fc_sealable, fs_body, fs_sealable, ke_body, sh_body, client_short, message_short, server_short}
use Rattle.model.proofs.Standing.{made, standing}

module _ {H : Type 0} (K : Schedule H) (P : Protection) (L : Setting K P) where
  -- ---- a further call
  abbrev pub z16 : List ℕ
  z16 = 0 ∷ (0 ∷ (0 ∷ (0 ∷ (0 ∷ (0 ∷ (0 ∷ (0 ∷ (0 ∷ (0 ∷ (0 ∷ (0 ∷ (0 ∷ (0 ∷ (0 ∷ (0 ∷ [])))))))))))))))

  pub z16_octets : Octets z16
  z16_octets = (lit≤ tt, (lit≤ tt, (lit≤ tt, (lit≤ tt, (lit≤ tt, (lit≤ tt, (lit≤ tt, (lit≤ tt, (lit≤ tt, (lit≤ tt, (lit≤ tt, (lit≤ tt, (lit≤ tt, (lit≤ tt, (lit≤ tt, (lit≤ tt, tt))))))))))))))))

  abbrev pub z32 : List ℕ
  z32 = z16 ++ z16

  abbrev pub some_parts : List ℕ → Parts
  some_parts p = record { random = z32; session = z32; certificates = (0 ∷ []) ∷ ((0 ∷ []) ∷ []); signature = 0 ∷ []; premaster = p; wrapped = 0 ∷ [] }

  abbrev pub a_premaster : List ℕ
  a_premaster = 1 ∷ (1 ∷ (drop 2 (z16 ++ (z16 ++ z16))))

  pub Can : End H → List ℕ → List (List ℕ) → Type 0
  Can e w ps = (k : Call) × CalmAs (step K P e k).refused k w × YesAs (step K P e k).refused k ps × BringsOctets k × ((step K P e k).refused ≡ None) × (counts k (step K P e k) ≡ 1)

  pub can : (e : End H) (w : List ℕ) (ps : List (List ℕ)) (k : Call) → refusal e k ≡ None → CalmAs None k w → YesAs None k ps → BringsOctets k → counts_as None k (act K P e k).more ≡ 1 → Can e w ps
  unfolding Can
  can e w ps k q a y b t = (k, rw (accepted K P e k q) a, rw (accepted K P e k q) y, b, accepted K P e k q, rw (accepted K P e k q, acted_as K P e k q) t)

  pub can_take : (e : End H) (k : ℕ) (x rest : List ℕ) (ps : List (List ℕ)) → Plain K P e → message_ready e ≡ false → length x ≤ limit_of e.reads_protected → Can e (framed k x ++ rest) ps
  can_take e k x rest ps p d l =
      can e (framed k x ++ rest) ps (hand_in (framed k x ++ rest) z16 4096 18432) (rw (p.lives, p.asks_not, d) refl) ([], append-nil (framed k x ++ rest)) tt z16_octets
      (rw (framed-whole (limit_of e.reads_protected) k x rest l, kind_whole K P z16 e k x) refl)

  pub can_turn : (e : End H) (w : List ℕ) (ps : List (List ℕ)) → Plain K P e → message_ready e ≡ true → Can e w ps
  can_turn e w ps p d = can e w ps (turn z16 4096) (rw (p.lives, p.asks_not, d) refl) tt tt z16_octets refl

  pub NextCall : End H → End H → List ℕ → List ℕ → List (List ℕ) → Type 0
  NextCall e f ws wc ps = Can e wc ps ⊎ Can f ws ps

  pub open_next : {i j i' j' : ℕ} {u v : List Write} (T : Talk) → Queue i' j u → Queue i j' v → j ≤ send_limit → j' ≤ send_limit → (true ≡ false) ⊎ ((flat P ((KC K P L) T) u ≡ [] → ⊥) ⊎ (flat P ((KS K P L) T) v ≡ [] → ⊥)) → Can ((Co K P L) T i j) (flat P ((KS K P L) T) v) (T.p ∷ []) ⊎ Can ((So K P L) T i' j') (flat P ((KC K P L) T) u) (T.p ∷ [])
  open_next T none_waits none_waits lu lv (inl x) = never x
  open_next T none_waits none_waits lu lv (inr (inl x)) = absurd (x refl)
  open_next T none_waits none_waits lu lv (inr (inr x)) = absurd (x refl)
  open_next {j = j} T none_waits (waits_next {i = i} {ws = ws} x f o z) lu lv y = let m = queue_under z in inl (can_take ((Co K P L) T i j) data_kind (sealed_with P ((KS K P L) T) i data_kind x f) (flat P ((KS K P L) T) ws) (T.p ∷ []) (record { lives = refl; asks_not = refl; asks_none = refl }) refl ((server_short K P L) T i data_kind x f (omega arith) (lit≤ tt) o))
  open_next {j' = j'} T (waits_next {i = i'} {ws = ws} x f o z) z' lu lv y = let m = queue_under z in inr (can_take ((So K P L) T i' j') data_kind (sealed_with P ((KC K P L) T) i' data_kind x f) (flat P ((KC K P L) T) ws) (T.p ∷ []) (record { lives = refl; asks_not = refl; asks_none = refl }) refl ((client_short K P L) T i' data_kind x f (omega arith) (lit≤ tt) o))

  pub next_call : {n : ℕ} {e f : End H} {ws wc : List ℕ} {qs qc : List Write} {lc ls : Log} → (Phase K P L) n e f ws wc qs qc lc ls → ((is_open e.stage && is_open f.stage) ≡ false) ⊎ ((ws ≡ [] → ⊥) ⊎ (wc ≡ [] → ⊥)) → NextCall e f ws wc lc.premasters
  unfolding NextCall
  next_call ph0 zz = inl (can (C0 K P L) [] [] (answer ClientRandom (yes (some_parts (a_premaster))) z16 4096) refl tt tt z16_octets refl)
  next_call (ph1 rc l) zz = inr (can_take (S0 K P L) handshake_kind ((CH K P L) rc) [] [] (record { lives = refl; asks_not = refl; asks_none = refl }) refl ((message_short K P L) 1 (client_hello_body rc L.cs) ((ch_body K P L) rc l)))
  next_call (ph2 rc l) zz = inr (can_turn ((S2 K P L) rc) [] [] (record { lives = refl; asks_not = refl; asks_none = refl }) (ap is_ready (next-message 1 (client_hello_body rc L.cs) ((ch_body K P L) rc l))))
  next_call (ph3 rc l) zz = inr (can ((S3 K P L) rc) [] [] (answer ServerFlight (yes (some_parts (a_premaster))) z16 4096) refl tt tt z16_octets refl)
  next_call (ph4 rc q o) zz = inl (can_take ((C1 K P L) rc) handshake_kind ((SH K P L) q) (flat P L.ks (in_records ((CE K P L) q ∷ ((KE K P L) q ∷ ((HD K P L) ∷ []))))) [] (record { lives = refl; asks_not = refl; asks_none = refl }) refl ((message_short K P L) 2 (server_hello_body q.random q.session L.s) ((sh_body K P L) rc q o)))
  next_call (ph5 rc q o) zz = inl (can_turn ((C5 K P L) rc q) (flat P L.ks (in_records ((CE K P L) q ∷ ((KE K P L) q ∷ ((HD K P L) ∷ []))))) [] (record { lives = refl; asks_not = refl; asks_none = refl }) (ap is_ready (next-message 2 (server_hello_body q.random q.session L.s) ((sh_body K P L) rc q o))))
  next_call (ph6 rc q o) zz = inl (can_take ((C6 K P L) rc q) handshake_kind ((CE K P L) q) (flat P L.ks (in_records ((KE K P L) q ∷ ((HD K P L) ∷ [])))) [] (record { lives = refl; asks_not = refl; asks_none = refl }) refl ((message_short K P L) 11 (certificate_body q.certificates) ((ce_body K P L) rc q o)))
  next_call (ph7 rc q o) zz = inl (can_turn ((C7 K P L) rc q) (flat P L.ks (in_records ((KE K P L) q ∷ ((HD K P L) ∷ [])))) [] (record { lives = refl; asks_not = refl; asks_none = refl }) (ap is_ready (next-message 11 (certificate_body q.certificates) ((ce_body K P L) rc q o))))
  next_call (ph8 rc q o) zz = inl (can ((C8 K P L) rc q) (flat P L.ks (in_records ((KE K P L) q ∷ ((HD K P L) ∷ [])))) [] (answer CheckCertificates (yes (some_parts (a_premaster))) z16 4096) refl tt tt z16_octets refl)
  next_call (ph9 rc q o) zz = inl (can_take ((C9 K P L) rc q) handshake_kind ((KE K P L) q) (flat P L.ks (in_records ((HD K P L) ∷ []))) [] (record { lives = refl; asks_not = refl; asks_none = refl }) refl ((message_short K P L) 12 (exchange_body q.signature) ((ke_body K P L) rc q o)))
  next_call (ph10 rc q o) zz = inl (can_turn ((C10 K P L) rc q) (flat P L.ks (in_records ((HD K P L) ∷ []))) [] (record { lives = refl; asks_not = refl; asks_none = refl }) (ap is_ready (next-message 12 (exchange_body q.signature) ((ke_body K P L) rc q o))))
  next_call (ph11 rc q o) zz = inl (can ((C11 K P L) rc q) (flat P L.ks (in_records ((HD K P L) ∷ []))) [] (answer CheckSignature (yes (some_parts (a_premaster))) z16 4096) refl tt tt z16_octets refl)
  next_call (ph12 rc q o) zz = inl (can_take ((C12 K P L) rc q) handshake_kind ((HD K P L)) (flat P L.ks ([])) [] (record { lives = refl; asks_not = refl; asks_none = refl }) refl ((message_short K P L) 14 ([]) (lit≤ tt)))
  next_call (ph13 rc q o) zz = inl (can_turn ((C13 K P L) rc q) [] [] (record { lives = refl; asks_not = refl; asks_none = refl }) refl)
  next_call (ph14 rc q o) zz = inl (can ((C14 K P L) rc q) [] [] (answer WrapPremaster (yes (some_parts (a_premaster))) z16 4096) refl tt tt z16_octets refl)
  next_call (ph15 T o) zz = inr (can_take ((S4 K P L) T.rc T.q) handshake_kind ((CX K P L) T) (flat P ((KC K P L) T) (changing ∷ (first_sealed ((Fc K P L) T) T.f ∷ []))) (T.p ∷ []) (record { lives = refl; asks_not = refl; asks_none = refl }) refl ((message_short K P L) 16 (exchange_body T.w) ((cx_body K P L) T o)))
  next_call (ph16 T o) zz = inr (can_turn ((S16 K P L) T) (flat P ((KC K P L) T) (changing ∷ (first_sealed ((Fc K P L) T) T.f ∷ []))) (T.p ∷ []) (record { lives = refl; asks_not = refl; asks_none = refl }) (ap is_ready (next-message 16 (exchange_body T.w) ((cx_body K P L) T o))))
  next_call (ph17 T o) zz = inr (can ((S17 K P L) T) (flat P ((KC K P L) T) (changing ∷ (first_sealed ((Fc K P L) T) T.f ∷ []))) (T.p ∷ []) (answer UnwrapPremaster (yes (some_parts T.p)) z16 4096) (rw o.premaster_48 refl) tt refl z16_octets refl)
  next_call (ph18 T o) zz = inr (can_take ((S18 K P L) T) change_kind (1 ∷ []) (flat P ((KC K P L) T) (first_sealed ((Fc K P L) T) T.f ∷ [])) (T.p ∷ []) (record { lives = refl; asks_not = refl; asks_none = refl }) refl (lit≤ tt))
  next_call (ph19 T o) zz = inr (can_take ((S19 K P L) T) handshake_kind (sealed_with P ((KC K P L) T) 0 handshake_kind ((Fc K P L) T) T.f) [] (T.p ∷ []) (record { lives = refl; asks_not = refl; asks_none = refl }) refl ((client_short K P L) T 0 handshake_kind ((Fc K P L) T) T.f (lit≤ tt) (lit≤ tt) ((fc_sealable K P L) T o)))
  next_call (ph20 T o) zz = inr (can_turn ((S20 K P L) T) [] (T.p ∷ []) (record { lives = refl; asks_not = refl; asks_none = refl }) (ap is_ready (next-message 20 ((Vc K P L) T) ((fc_body K P L) T))))
  next_call (ph21 T g j v o fr z l) zz = inl (can_take ((C15 K P L) T) change_kind (1 ∷ []) (flat P ((KS K P L) T) (first_sealed ((Fs K P L) T) g ∷ v)) (T.p ∷ []) (record { lives = refl; asks_not = refl; asks_none = refl }) refl (lit≤ tt))
  next_call (ph22 T g j v o fr z l) zz = inl (can_take ((C22 K P L) T) handshake_kind (sealed_with P ((KS K P L) T) 0 handshake_kind ((Fs K P L) T) g) (flat P ((KS K P L) T) v) (T.p ∷ []) (record { lives = refl; asks_not = refl; asks_none = refl }) refl ((server_short K P L) T 0 handshake_kind ((Fs K P L) T) g (lit≤ tt) (lit≤ tt) ((fs_sealable K P L) T g fr)))
  next_call (ph23 T j v o z l) zz = inl (can_turn ((C23 K P L) T) (flat P ((KS K P L) T) v) (T.p ∷ []) (record { lives = refl; asks_not = refl; asks_none = refl }) (ap is_ready (next-message 20 ((Vs K P L) T) ((fs_body K P L) T))))
  next_call (ph24 n T i j i' j' u v b o zu zv lu lv) zz = open_next T zu zv lu lv zz

  pub goes_on : GoesOn K P (step K P) (made K P L)
  unfolding NextCall Can
  goes_on r u v o z =
      ⊎_elim (λ n. (Client, n.0, (u, n.1), (v, n.2), (o, n.3), n.4, ap (λ m. count K P (step K P) (made K P L) r + m) n.5))
      (λ n. (Server, n.0, (u, n.1), (v, n.2), (o, n.3), n.4, ap (λ m. count K P (step K P) (made K P L) r + m) n.5)) (next_call ((standing K P L) r u v o) (either_wire z))
    where
      either_wire : (both_open K P (step K P) (made K P L) r ≡ false) ⊎ ((X : Role) × (waiting K P (step K P) (made K P L) r X ≡ [] → ⊥)) → (both_open K P (step K P) (made K P L) r ≡ false) ⊎ ((waiting K P (step K P) (made K P L) r Server ≡ [] → ⊥) ⊎ (waiting K P (step K P) (made K P L) r Client ≡ [] → ⊥))
      either_wire (inl x) = inl x
      either_wire (inr x) = inr (side x.0 x.1)
        where
          side : (X : Role) → (waiting K P (step K P) (made K P L) r X ≡ [] → ⊥) → (waiting K P (step K P) (made K P L) r Server ≡ [] → ⊥) ⊎ (waiting K P (step K P) (made K P L) r Client ≡ [] → ⊥)
          side Client h = inr h
          side Server h = inl h
