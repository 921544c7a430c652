-- A reading's record that is consumed is released.
use Rattle.std.proofs.Common.{◌≡◌, ℕ, ◌+◌, ◌<◌, ◌≤◌, Bool, false, eqb, List, [], ◌∷◌, length, Option, sym, refl, ap, ◌∙◌, ⊎_elim, arith, lit≤}
use Rattle.octets.specs.declared.role.Role.TheVariants.{Client, Server}
use Rattle.octets.specs.Octets.{Octets}
use Rattle.records.specs.Kinds.{data_kind}
use Rattle.protection.specs.Keys.{Keying}
use Rattle.model.specs.declared.refusal.Refusal.TheVariants.{MessageReady}
use Rattle.model.specs.Limits.{send_limit, read_limit}
use Rattle.model.specs.Schedule.{Schedule}
use Rattle.model.specs.Protections.{Protection, sealed_with}
use Rattle.model.specs.Endpoint.{End, Call, hand_in}
use Rattle.model.specs.Outcomes.{Write, bare, under, Outcome, octets, flat}
use Rattle.model.specs.Deeds.{changing}
use Rattle.model.specs.Steps.{step}
use Rattle.model.specs.EndLaws.{BringsOctets}
use Rattle.model.specs.Law.{CalmAs, Delivers}
use Rattle.model.proofs.ReadBack.{next-message}
use Rattle.model.proofs.Fronts.{never}
use Rattle.model.proofs.Accepting.{Still, still_refused}
use Rattle.model.proofs.Stances.{Sends}
use Rattle.model.proofs.Taking.{takes_data}
use Rattle.model.proofs.Talks.{Queue, Talk, none_waits, queue_under, reading_at, waits_next}
use Rattle.model.proofs.Logs.{Log}
use Rattle.model.proofs.Phases.{C23, Co, KC, KS, Phase, Setting, So, Vs, ph0, ph1, ph10, ph11, ph12, ph13, ph14, ph15, ph16, ph17, ph18, ph19, ph2, ph20, ph21, ph22, ph23, ph24, ph3, ph4, ph5, ph6, ph7, ph8, ph9}
use Rattle.model.proofs.Sealing.{fs_body, client_opens_it, client_short, server_opens_it, server_short}
use Rattle.model.proofs.Standing.{made, standing}

module _ {H : Type 0} (K : Schedule H) (P : Protection) (L : Setting K P) where
  -- ---- a reading's record that is consumed
  abbrev pub is_reading : List Write → Bool
  is_reading [] = false
  is_reading (bare k x ∷ ws) = false
  is_reading (under r f ∷ ws) = eqb r.kind data_kind

  abbrev pub first_content : List Write → List ℕ
  first_content [] = []
  first_content (bare k x ∷ ws) = x
  first_content (under r f ∷ ws) = r.content

  abbrev pub first_write : List Write → Write
  first_write [] = changing
  first_write (w ∷ ws) = w

  pub one : {A : Type 0} (k : Call) (o : Outcome H) (e : End H) → Still K P e k o → (o.consumed ≡ 0 → ⊥) → A
  one k o e t q = absurd (q t.consumes_none)

  pub none_sent : {A : Type 0} (e : End H) (k : Call) (o : Outcome H) → Sends K P e k o → (o.consumed ≡ 0 → ⊥) → A
  none_sent e k o t q = absurd (q (ap (λ (a : Outcome H). a.consumed) t.4))

  -- the record of a reading has its header and the sealed list
  pub all_of_it : (q : Option Keying) (i : ℕ) (y f : List ℕ) → length (sealed_with P q i data_kind y f) + 5 ≡ length (octets P q (reading_at i y f))
  all_of_it q i y f = omega arith

  pub client_gets : (T : Talk) (i j j' : ℕ) (v : List Write) → Queue i j' v → j' ≤ send_limit → (k : Call) (m : ℕ) (x g : List ℕ) (vs : List Write) → CalmAs (step K P ((Co K P L) T i j) k).refused k (flat P ((KS K P L) T) v) → BringsOctets k
      → ((step K P ((Co K P L) T i j) k).consumed ≡ 0 → ⊥) → v ≡ reading_at m x g ∷ vs → ((step K P ((Co K P L) T i j) k).released ≡ x ∷ []) × ((step K P ((Co K P L) T i j) k).consumed ≡ length (octets P ((KS K P L) T) (reading_at m x g)))
  client_gets T i j j' v none_waits l k m x g vs h b t q = never (sym (ap is_reading q))
  client_gets T i j j' v (waits_next {ws = ws} y f o z) l k m x g vs h b t q =
      let w = sealed_with P ((KS K P L) T) i data_kind y f in
      let same-one : y ≡ x = ap first_content q in
      let lt : i < read_limit = (let m' = queue_under z in omega arith) in
      ⊎_elim (⊎_elim (λ u. one k _ ((Co K P L) T i j) u t) (λ u. none_sent ((Co K P L) T i j) k _ u t)) (λ u. (ap (λ (a : Outcome H). a.released) u.1 ∙ ap (λ a. a ∷ []) same-one, ap (λ (a : Outcome H). a.consumed) u.1 ∙ all_of_it ((KS K P L) T) i y f ∙ ap (λ (a : Write). length (octets P ((KS K P L) T) a)) (ap first_write q)))
      (takes_data K P ((Co K P L) T i j) k w y (flat P ((KS K P L) T) ws) (record { lives = refl; asks_not = refl; asks_none = refl }) refl refl refl lt ((server_short K P L) T i data_kind y f (omega arith) (lit≤ tt) o) ((client_opens_it K P L) T i data_kind y f (omega arith) (lit≤ tt) o) o.some_content o.not_long h b)

  pub server_gets : (T : Talk) (i j j' : ℕ) (v : List Write) → Queue i j' v → j' ≤ send_limit → (k : Call) (m : ℕ) (x g : List ℕ) (vs : List Write) → CalmAs (step K P ((So K P L) T i j) k).refused k (flat P ((KC K P L) T) v) → BringsOctets k
      → ((step K P ((So K P L) T i j) k).consumed ≡ 0 → ⊥) → v ≡ reading_at m x g ∷ vs → ((step K P ((So K P L) T i j) k).released ≡ x ∷ []) × ((step K P ((So K P L) T i j) k).consumed ≡ length (octets P ((KC K P L) T) (reading_at m x g)))
  server_gets T i j j' v none_waits l k m x g vs h b t q = never (sym (ap is_reading q))
  server_gets T i j j' v (waits_next {ws = ws} y f o z) l k m x g vs h b t q =
      let w = sealed_with P ((KC K P L) T) i data_kind y f in
      let same-one : y ≡ x = ap first_content q in
      let lt : i < read_limit = (let m' = queue_under z in omega arith) in
      ⊎_elim (⊎_elim (λ u. one k _ ((So K P L) T i j) u t) (λ u. none_sent ((So K P L) T i j) k _ u t)) (λ u. (ap (λ (a : Outcome H). a.released) u.1 ∙ ap (λ a. a ∷ []) same-one, ap (λ (a : Outcome H). a.consumed) u.1 ∙ all_of_it ((KC K P L) T) i y f ∙ ap (λ (a : Write). length (octets P ((KC K P L) T) a)) (ap first_write q)))
      (takes_data K P ((So K P L) T i j) k w y (flat P ((KC K P L) T) ws) (record { lives = refl; asks_not = refl; asks_none = refl }) refl refl refl lt ((client_short K P L) T i data_kind y f (omega arith) (lit≤ tt) o) ((server_opens_it K P L) T i data_kind y f (omega arith) (lit≤ tt) o) o.some_content o.not_long h b)

  pub client_delivers : {n : ℕ} {e f : End H} {ws wc : List ℕ} {qs qc : List Write} {lc ls : Log} (xs fr : List ℕ) (out place m : ℕ) (x g' : List ℕ) (vs : List Write) → (Phase K P L) n e f ws wc qs qc lc ls → CalmAs (step K P e (hand_in xs fr out place)).refused (hand_in xs fr out place) wc → Octets fr
      → ((step K P e (hand_in xs fr out place)).consumed ≡ 0 → ⊥) → qc ≡ reading_at m x g' ∷ vs → ((step K P e (hand_in xs fr out place)).released ≡ x ∷ []) × ((step K P e (hand_in xs fr out place)).consumed ≡ length (octets P f.protection (reading_at m x g')))
  client_delivers xs fr out place m x g' vs ph0 h b t e = never (sym (ap is_reading e))
  client_delivers xs fr out place m x g' vs (ph1 rc l) h b t e = never (sym (ap is_reading e))
  client_delivers xs fr out place m x g' vs (ph2 rc l) h b t e = never (sym (ap is_reading e))
  client_delivers xs fr out place m x g' vs (ph3 rc l) h b t e = never (sym (ap is_reading e))
  client_delivers xs fr out place m x g' vs (ph4 rc q o) h b t e = never (sym (ap is_reading e))
  client_delivers xs fr out place m x g' vs (ph5 rc q o) h b t e = never (sym (ap is_reading e))
  client_delivers xs fr out place m x g' vs (ph6 rc q o) h b t e = never (sym (ap is_reading e))
  client_delivers xs fr out place m x g' vs (ph7 rc q o) h b t e = never (sym (ap is_reading e))
  client_delivers xs fr out place m x g' vs (ph8 rc q o) h b t e = never (sym (ap is_reading e))
  client_delivers xs fr out place m x g' vs (ph9 rc q o) h b t e = never (sym (ap is_reading e))
  client_delivers xs fr out place m x g' vs (ph10 rc q o) h b t e = never (sym (ap is_reading e))
  client_delivers xs fr out place m x g' vs (ph11 rc q o) h b t e = never (sym (ap is_reading e))
  client_delivers xs fr out place m x g' vs (ph12 rc q o) h b t e = never (sym (ap is_reading e))
  client_delivers xs fr out place m x g' vs (ph13 rc q o) h b t e = never (sym (ap is_reading e))
  client_delivers xs fr out place m x g' vs (ph14 rc q o) h b t e = never (sym (ap is_reading e))
  client_delivers xs fr out place m x g' vs (ph15 T o) h b t e = never (sym (ap is_reading e))
  client_delivers xs fr out place m x g' vs (ph16 T o) h b t e = never (sym (ap is_reading e))
  client_delivers xs fr out place m x g' vs (ph17 T o) h b t e = never (sym (ap is_reading e))
  client_delivers xs fr out place m x g' vs (ph18 T o) h b t e = never (sym (ap is_reading e))
  client_delivers xs fr out place m x g' vs (ph19 T o) h b t e = never (sym (ap is_reading e))
  client_delivers xs fr out place m x g' vs (ph20 T o) h b t e = never (sym (ap is_reading e))
  client_delivers xs fr out place m x g' vs (ph21 T g j v o fs z l) h b t e = never (sym (ap is_reading e))
  client_delivers xs fr out place m x g' vs (ph22 T g j v o fs z l) h b t e = never (sym (ap is_reading e))
  client_delivers xs fr out place m x g' vs (ph23 T j v o z l) h b t e = one (hand_in xs fr out place) _ ((C23 K P L) T) (still_refused K P ((C23 K P L) T) (hand_in xs fr out place) MessageReady (rw (next-message 20 ((Vs K P L) T) ((fs_body K P L) T)) refl)) t
  client_delivers xs fr out place m x g' vs (ph24 n T i j i' j' u v b24 o zu zv lu lv) h b t e = client_gets T i j j' v zv lv (hand_in xs fr out place) m x g' vs h b t e

  pub server_delivers : {n : ℕ} {e f : End H} {ws wc : List ℕ} {qs qc : List Write} {lc ls : Log} (xs fr : List ℕ) (out place m : ℕ) (x g' : List ℕ) (vs : List Write) → (Phase K P L) n e f ws wc qs qc lc ls → CalmAs (step K P f (hand_in xs fr out place)).refused (hand_in xs fr out place) ws → Octets fr
      → ((step K P f (hand_in xs fr out place)).consumed ≡ 0 → ⊥) → qs ≡ reading_at m x g' ∷ vs → ((step K P f (hand_in xs fr out place)).released ≡ x ∷ []) × ((step K P f (hand_in xs fr out place)).consumed ≡ length (octets P e.protection (reading_at m x g')))
  server_delivers xs fr out place m x g' vs ph0 h b t e = never (sym (ap is_reading e))
  server_delivers xs fr out place m x g' vs (ph1 rc l) h b t e = never (sym (ap is_reading e))
  server_delivers xs fr out place m x g' vs (ph2 rc l) h b t e = never (sym (ap is_reading e))
  server_delivers xs fr out place m x g' vs (ph3 rc l) h b t e = never (sym (ap is_reading e))
  server_delivers xs fr out place m x g' vs (ph4 rc q o) h b t e = never (sym (ap is_reading e))
  server_delivers xs fr out place m x g' vs (ph5 rc q o) h b t e = never (sym (ap is_reading e))
  server_delivers xs fr out place m x g' vs (ph6 rc q o) h b t e = never (sym (ap is_reading e))
  server_delivers xs fr out place m x g' vs (ph7 rc q o) h b t e = never (sym (ap is_reading e))
  server_delivers xs fr out place m x g' vs (ph8 rc q o) h b t e = never (sym (ap is_reading e))
  server_delivers xs fr out place m x g' vs (ph9 rc q o) h b t e = never (sym (ap is_reading e))
  server_delivers xs fr out place m x g' vs (ph10 rc q o) h b t e = never (sym (ap is_reading e))
  server_delivers xs fr out place m x g' vs (ph11 rc q o) h b t e = never (sym (ap is_reading e))
  server_delivers xs fr out place m x g' vs (ph12 rc q o) h b t e = never (sym (ap is_reading e))
  server_delivers xs fr out place m x g' vs (ph13 rc q o) h b t e = never (sym (ap is_reading e))
  server_delivers xs fr out place m x g' vs (ph14 rc q o) h b t e = never (sym (ap is_reading e))
  server_delivers xs fr out place m x g' vs (ph15 T o) h b t e = never (sym (ap is_reading e))
  server_delivers xs fr out place m x g' vs (ph16 T o) h b t e = never (sym (ap is_reading e))
  server_delivers xs fr out place m x g' vs (ph17 T o) h b t e = never (sym (ap is_reading e))
  server_delivers xs fr out place m x g' vs (ph18 T o) h b t e = never (sym (ap is_reading e))
  server_delivers xs fr out place m x g' vs (ph19 T o) h b t e = never (sym (ap is_reading e))
  server_delivers xs fr out place m x g' vs (ph20 T o) h b t e = never (sym (ap is_reading e))
  server_delivers xs fr out place m x g' vs (ph21 T g j v o fs z l) h b t e = never (sym (ap is_reading e))
  server_delivers xs fr out place m x g' vs (ph22 T g j v o fs z l) h b t e = never (sym (ap is_reading e))
  server_delivers xs fr out place m x g' vs (ph23 T j v o z l) h b t e = never (sym (ap is_reading e))
  server_delivers xs fr out place m x g' vs (ph24 n T i j i' j' u v b24 o zu zv lu lv) h b t e = server_gets T i' j' j u zu lu (hand_in xs fr out place) m x g' vs h b t e

  pub delivers : Delivers K P (step K P) (made K P L)
  delivers r Client xs f out place n x g ws u v o t q = client_delivers xs f out place n x g ws ((standing K P L) r u.0 v.0 o.0) u.1 o.1 t q
  delivers r Server xs f out place n x g ws u v o t q = server_delivers xs f out place n x g ws ((standing K P L) r u.0 v.0 o.0) u.1 o.1 t q
