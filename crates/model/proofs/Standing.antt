-- Where an undisturbed line stands after a run: on time, with nothing lost, and both premises met.
use Rattle.std.proofs.Common.{◌≡◌, ℕ, true, false, ◌&&◌, leb, List, [], ◌∷◌, ◌++◌, sym, refl, ap, ◌∙◌, inl, inr, ⊎_elim, append_assoc}
use mathlib.Core.List.Memᴰ
use mathlib.Core.List.{Memᴰ}
use Rattle.octets.specs.declared.role.Role.{Role}
use Rattle.octets.specs.declared.role.Role.TheVariants.{Client, Server}
use Rattle.octets.specs.Roles.{peer}
use Rattle.model.specs.Stages.{is_open, over}
use Rattle.model.specs.Schedule.{Schedule}
use Rattle.model.specs.Protections.{Protection}
use Rattle.model.specs.Endpoint.{End}
use Rattle.model.specs.Outcomes.{Protected, Write, bare, under, flat}
use Rattle.model.specs.Steps.{step}
use Rattle.model.specs.Runs.{Run, newly_made, by, line, Past, no_past, sealed_in, Begins, after, past, Genuine}
use Rattle.model.specs.Law.{left, readings, waiting, unread, count, Undisturbed, Willing, InOctets, OnTime, Tied, LosesNone, MeetsBoth}
use Rattle.model.proofs.Lists.{readings-++}
use Rattle.model.proofs.ReadBack.{leb_is}
use Rattle.model.proofs.Fronts.{never}
use Rattle.model.proofs.Sent.{sent_run}
use Rattle.model.proofs.Readings.{Solo, solo}
use Rattle.model.proofs.Logs.{Log, OneEach, each_alike, log_of}
use Rattle.model.proofs.Phases.{Phase, Setting, c1, c2, ph0, ph1, ph10, ph11, ph12, ph13, ph14, ph15, ph16, ph17, ph18, ph19, ph2, ph20, ph21, ph22, ph23, ph24, ph3, ph4, ph5, ph6, ph7, ph8, ph9}
use Rattle.model.proofs.ClientMoves.{client_moves}
use Rattle.model.proofs.ServerMoves.{server_moves}

module _ {H : Type 0} (K : Schedule H) (P : Protection) (L : Setting K P) where
  -- ---- over runs
  abbrev pub made : Role → End H
  made = line K L.kc L.ks L.cs L.ss

  pub standing : (r : Run) → Undisturbed K P (step K P) made r → Willing K P (step K P) made r → InOctets K P (step K P) made r
      → (Phase K P L) (count K P (step K P) made r) (after K (step K P) made r Client) (after K (step K P) made r Server) (waiting K P (step K P) made r Server) (waiting K P (step K P) made r Client) (unread K P (step K P) made r Server) (unread K P (step K P) made r Client) (log_of (past K (step K P) made r Client)) (log_of (past K (step K P) made r Server))
  standing newly_made u v o = ph0
  standing (by r Client k) u v o = ((client_moves K P L) k (standing r u.0 v.0 o.0) u.1 v.1 o.1).0
  standing (by r Server k) u v o = ((server_moves K P L) k (standing r u.0 v.0 o.0) u.1 v.1 o.1).0

  pub on_time_at : {n : ℕ} {e f : End H} {ws wc : List ℕ} {qs qc : List Write} {lc ls : Log} → (Phase K P L) n e f ws wc qs qc lc ls → (is_open e.stage && is_open f.stage) ≡ leb 24 n
  on_time_at ph0 = refl
  on_time_at (ph1 rc l) = refl
  on_time_at (ph2 rc l) = refl
  on_time_at (ph3 rc l) = refl
  on_time_at (ph4 rc q o) = refl
  on_time_at (ph5 rc q o) = refl
  on_time_at (ph6 rc q o) = refl
  on_time_at (ph7 rc q o) = refl
  on_time_at (ph8 rc q o) = refl
  on_time_at (ph9 rc q o) = refl
  on_time_at (ph10 rc q o) = refl
  on_time_at (ph11 rc q o) = refl
  on_time_at (ph12 rc q o) = refl
  on_time_at (ph13 rc q o) = refl
  on_time_at (ph14 rc q o) = refl
  on_time_at (ph15 T o) = refl
  on_time_at (ph16 T o) = refl
  on_time_at (ph17 T o) = refl
  on_time_at (ph18 T o) = refl
  on_time_at (ph19 T o) = refl
  on_time_at (ph20 T o) = refl
  on_time_at (ph21 T g j v o fr z l) = refl
  on_time_at (ph22 T g j v o fr z l) = refl
  on_time_at (ph23 T j v o z l) = refl
  on_time_at (ph24 n T i j i' j' u v b o zu zv lu lv) = sym (leb_is 24 n b)

  pub on_time : OnTime K P (step K P) made
  on_time r u v o = on_time_at (standing r u v o)

  -- ---- premise one is met
  pub sealed_in-++ : (xs ys : List Write) → sealed_in (xs ++ ys) ≡ sealed_in xs ++ sealed_in ys
  sealed_in-++ [] ys = refl
  sealed_in-++ (bare k x ∷ xs) ys = sealed_in-++ xs ys
  sealed_in-++ (under r f ∷ xs) ys = ap (λ l. r ∷ l) (sealed_in-++ xs ys)

  pub takes_on : (os ns : List Protected) (ws ws' : List Write) (ss' : List Protected) → os ++ sealed_in ws ≡ ss' → sealed_in ws ≡ ns ++ sealed_in ws' → (os ++ ns) ++ sealed_in ws' ≡ ss'
  takes_on os ns ws ws' ss' a b = append_assoc os ns (sealed_in ws') ∙ ap (λ l. os ++ l) (sym b) ∙ a

  pub writes_on : (os : List Protected) (ws vs : List Write) (ss' : List Protected) → os ++ sealed_in ws ≡ ss' → os ++ sealed_in (ws ++ vs) ≡ ss' ++ sealed_in vs
  writes_on os ws vs ss' a = ap (λ l. os ++ l) (sealed_in-++ ws vs) ∙ sym (append_assoc os (sealed_in ws) (sealed_in vs)) ∙ ap (λ l. l ++ sealed_in vs) a

  -- what an end has opened, and what it has not read, is what the other has sealed
  pub settled : (r : Run) → Undisturbed K P (step K P) made r → Willing K P (step K P) made r → InOctets K P (step K P) made r → (X : Role) → (past K (step K P) made r X).opened ++ sealed_in (unread K P (step K P) made r X) ≡ (past K (step K P) made r (peer X)).sealed
  settled newly_made u v o Client = refl
  settled newly_made u v o Server = refl
  settled (by r Client k) u v o Client = takes_on _ _ (unread K P (step K P) made r Client) (left (step K P (after K (step K P) made r Client) k).consumed (unread K P (step K P) made r Client)) _ (settled r u.0 v.0 o.0 Client) ((client_moves K P L) k (standing r u.0 v.0 o.0) u.1 v.1 o.1).1
  settled (by r Client k) u v o Server = writes_on _ (unread K P (step K P) made r Server) _ _ (settled r u.0 v.0 o.0 Server)
  settled (by r Server k) u v o Client = writes_on _ (unread K P (step K P) made r Client) _ _ (settled r u.0 v.0 o.0 Client)
  settled (by r Server k) u v o Server = takes_on _ _ (unread K P (step K P) made r Server) (left (step K P (after K (step K P) made r Server) k).consumed (unread K P (step K P) made r Server)) _ (settled r u.0 v.0 o.0 Server) ((server_moves K P L) k (standing r u.0 v.0 o.0) u.1 v.1 o.1).1

  pub held : (os ns zs ss' : List Protected) (ws : List Write) → os ++ sealed_in ws ≡ ss' → sealed_in ws ≡ ns ++ zs → (x : Protected) → Memᴰ x ns → Memᴰ x ss'
  held os ns zs ss' ws a b x m = rw (← a, b) (Memᴰ.append_right os (Memᴰ.append_left zs m))

  pub genuine : (r : Run) → Undisturbed K P (step K P) made r → Willing K P (step K P) made r → InOctets K P (step K P) made r → Genuine K (step K P) made r
  genuine newly_made u v o = tt
  genuine (by r Client k) u v o = (genuine r u.0 v.0 o.0, held _ _ _ _ (unread K P (step K P) made r Client) (settled r u.0 v.0 o.0 Client) ((client_moves K P L) k (standing r u.0 v.0 o.0) u.1 v.1 o.1).1)
  genuine (by r Server k) u v o = (genuine r u.0 v.0 o.0, held _ _ _ _ (unread K P (step K P) made r Server) (settled r u.0 v.0 o.0 Server) ((server_moves K P L) k (standing r u.0 v.0 o.0) u.1 v.1 o.1).1)

  -- ---- premise two is met: under each label there is one check
  pub apart_at : {n : ℕ} {e f : End H} {ws wc : List ℕ} {qs qc : List Write} {lc ls : Log} → (Phase K P L) n e f ws wc qs qc lc ls → OneEach ((lc.finished ++ lc.compared) ++ (ls.finished ++ ls.compared))
  apart_at ph0 x y a b l = elim a [ ]
  apart_at (ph1 rc l') x y a b l = elim a [ ]
  apart_at (ph2 rc l') x y a b l = elim a [ ]
  apart_at (ph3 rc l') x y a b l = elim a [ ]
  apart_at (ph4 rc q o) x y a b l = elim a [ ]
  apart_at (ph5 rc q o) x y a b l = elim a [ ]
  apart_at (ph6 rc q o) x y a b l = elim a [ ]
  apart_at (ph7 rc q o) x y a b l = elim a [ ]
  apart_at (ph8 rc q o) x y a b l = elim a [ ]
  apart_at (ph9 rc q o) x y a b l = elim a [ ]
  apart_at (ph10 rc q o) x y a b l = elim a [ ]
  apart_at (ph11 rc q o) x y a b l = elim a [ ]
  apart_at (ph12 rc q o) x y a b l = elim a [ ]
  apart_at (ph13 rc q o) x y a b l = elim a [ ]
  apart_at (ph14 rc q o) x y a b l = elim a [ ]
  apart_at (ph15 T o) x y a b l = each_alike ((c1 K P L) T) ((c2 K P L) T) ((c1 K P L) T ∷ []) refl refl (inl refl, tt) x y a b l
  apart_at (ph16 T o) x y a b l = each_alike ((c1 K P L) T) ((c2 K P L) T) ((c1 K P L) T ∷ []) refl refl (inl refl, tt) x y a b l
  apart_at (ph17 T o) x y a b l = each_alike ((c1 K P L) T) ((c2 K P L) T) ((c1 K P L) T ∷ []) refl refl (inl refl, tt) x y a b l
  apart_at (ph18 T o) x y a b l = each_alike ((c1 K P L) T) ((c2 K P L) T) ((c1 K P L) T ∷ []) refl refl (inl refl, tt) x y a b l
  apart_at (ph19 T o) x y a b l = each_alike ((c1 K P L) T) ((c2 K P L) T) ((c1 K P L) T ∷ []) refl refl (inl refl, tt) x y a b l
  apart_at (ph20 T o) x y a b l = each_alike ((c1 K P L) T) ((c2 K P L) T) ((c1 K P L) T ∷ []) refl refl (inl refl, tt) x y a b l
  apart_at (ph21 T g j v o fr z l') x y a b l = each_alike ((c1 K P L) T) ((c2 K P L) T) ((c1 K P L) T ∷ ((c2 K P L) T ∷ ((c1 K P L) T ∷ []))) refl refl (inl refl, (inr refl, (inl refl, tt))) x y a b l
  apart_at (ph22 T g j v o fr z l') x y a b l = each_alike ((c1 K P L) T) ((c2 K P L) T) ((c1 K P L) T ∷ ((c2 K P L) T ∷ ((c1 K P L) T ∷ []))) refl refl (inl refl, (inr refl, (inl refl, tt))) x y a b l
  apart_at (ph23 T j v o z l') x y a b l = each_alike ((c1 K P L) T) ((c2 K P L) T) ((c1 K P L) T ∷ ((c2 K P L) T ∷ ((c1 K P L) T ∷ []))) refl refl (inl refl, (inr refl, (inl refl, tt))) x y a b l
  apart_at (ph24 n T i j i' j' u v b24 o zu zv lu lv) x y a b l = each_alike ((c1 K P L) T) ((c2 K P L) T) ((c1 K P L) T ∷ ((c2 K P L) T ∷ ((c2 K P L) T ∷ ((c1 K P L) T ∷ [])))) refl refl (inl refl, (inr refl, (inr refl, (inl refl, tt)))) x y a b l

  pub meets_both : MeetsBoth K P (step K P) made
  meets_both r u v o = (genuine r u v o, λ x y a b l e. apart_at (standing r u v o) x y a b l)

  -- ---- octets and records that wait
  pub tied_at : {n : ℕ} {e f : End H} {ws wc : List ℕ} {qs qc : List Write} {lc ls : Log} → (Phase K P L) n e f ws wc qs qc lc ls → (ws ≡ flat P e.protection qs) × (wc ≡ flat P f.protection qc)
  tied_at ph0 = (refl, refl)
  tied_at (ph1 rc l) = (refl, refl)
  tied_at (ph2 rc l) = (refl, refl)
  tied_at (ph3 rc l) = (refl, refl)
  tied_at (ph4 rc q o) = (refl, refl)
  tied_at (ph5 rc q o) = (refl, refl)
  tied_at (ph6 rc q o) = (refl, refl)
  tied_at (ph7 rc q o) = (refl, refl)
  tied_at (ph8 rc q o) = (refl, refl)
  tied_at (ph9 rc q o) = (refl, refl)
  tied_at (ph10 rc q o) = (refl, refl)
  tied_at (ph11 rc q o) = (refl, refl)
  tied_at (ph12 rc q o) = (refl, refl)
  tied_at (ph13 rc q o) = (refl, refl)
  tied_at (ph14 rc q o) = (refl, refl)
  tied_at (ph15 T o) = (refl, refl)
  tied_at (ph16 T o) = (refl, refl)
  tied_at (ph17 T o) = (refl, refl)
  tied_at (ph18 T o) = (refl, refl)
  tied_at (ph19 T o) = (refl, refl)
  tied_at (ph20 T o) = (refl, refl)
  tied_at (ph21 T g j v o fr z l) = (refl, refl)
  tied_at (ph22 T g j v o fr z l) = (refl, refl)
  tied_at (ph23 T j v o z l) = (refl, refl)
  tied_at (ph24 n T i j i' j' u v b o zu zv lu lv) = (refl, refl)

  pub tied : Tied K P (step K P) made
  tied r u v o Client = (tied_at (standing r u v o)).1
  tied r u v o Server = (tied_at (standing r u v o)).0

  -- ---- nothing is lost: no end is over
  pub alive_at : {n : ℕ} {e f : End H} {ws wc : List ℕ} {qs qc : List Write} {lc ls : Log} → (Phase K P L) n e f ws wc qs qc lc ls → (over e.stage ≡ false) × (over f.stage ≡ false)
  alive_at ph0 = (refl, refl)
  alive_at (ph1 rc l) = (refl, refl)
  alive_at (ph2 rc l) = (refl, refl)
  alive_at (ph3 rc l) = (refl, refl)
  alive_at (ph4 rc q o) = (refl, refl)
  alive_at (ph5 rc q o) = (refl, refl)
  alive_at (ph6 rc q o) = (refl, refl)
  alive_at (ph7 rc q o) = (refl, refl)
  alive_at (ph8 rc q o) = (refl, refl)
  alive_at (ph9 rc q o) = (refl, refl)
  alive_at (ph10 rc q o) = (refl, refl)
  alive_at (ph11 rc q o) = (refl, refl)
  alive_at (ph12 rc q o) = (refl, refl)
  alive_at (ph13 rc q o) = (refl, refl)
  alive_at (ph14 rc q o) = (refl, refl)
  alive_at (ph15 T o) = (refl, refl)
  alive_at (ph16 T o) = (refl, refl)
  alive_at (ph17 T o) = (refl, refl)
  alive_at (ph18 T o) = (refl, refl)
  alive_at (ph19 T o) = (refl, refl)
  alive_at (ph20 T o) = (refl, refl)
  alive_at (ph21 T g j v o fr z l) = (refl, refl)
  alive_at (ph22 T g j v o fr z l) = (refl, refl)
  alive_at (ph23 T j v o z l) = (refl, refl)
  alive_at (ph24 n T i j i' j' u v b o zu zv lu lv) = (refl, refl)

  pub alive : (r : Run) → Undisturbed K P (step K P) made r → Willing K P (step K P) made r → InOctets K P (step K P) made r → (X : Role) → over (after K (step K P) made r X).stage ≡ false
  alive r u v o Client = (alive_at (standing r u v o)).0
  alive r u v o Server = (alive_at (standing r u v o)).1

  pub all_freed : (e : End H) (p : Past) → Solo K P e p → over e.stage ≡ false → readings p.opened ≡ p.released
  all_freed e p h l = ⊎_elim (λ q. q) (λ (q : Begins p.released (readings p.opened) × (over e.stage ≡ true)). never (sym q.1 ∙ l)) h.freed

  pub loses_none : ((X : Role) → Solo K P (made X) no_past) → LosesNone K P (step K P) made
  loses_none fresh r u v o X =
      let p = past K (step K P) made r X in
      let p' = past K (step K P) made r (peer X) in
      let ws = unread K P (step K P) made r X in
      let a = (solo K P made fresh r (peer X)).sent in
      let b = all_freed (after K (step K P) made r X) p (solo K P made fresh r X) (alive r u v o X) in
      sym (sent_run K P made r (peer X)) ∙ sym a ∙ ap readings (sym (settled r u v o X)) ∙ readings-++ p.opened (sealed_in ws) ∙ ap (λ l. l ++ readings (sealed_in ws)) b
