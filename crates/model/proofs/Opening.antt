-- Opening, over runs, from the local properties.
use Rattle.std.proofs.Common.{◌≡◌, ℕ, ◌≤◌, Bool, true, false, List, [], ◌∷◌, ◌++◌, length, get_or, Some, sym, refl, ap, ◌∙◌, ap₂, ⊎_elim, append-nil, arith}
use mathlib.Core.List.Memᴰ
use mathlib.Core.List.{Memᴰ}
use Rattle.octets.specs.declared.role.Role.{Role}
use Rattle.octets.specs.declared.role.Role.TheVariants.{Client, Server}
use Rattle.octets.specs.Roles.{peer}
use Rattle.records.specs.Kinds.{handshake_kind}
use Rattle.model.specs.Stages.{is_open, over}
use Rattle.model.specs.Messages.{finished, first_shared, suite_of}
use Rattle.model.specs.Schedule.{Schedule, ScheduleLaws, joined_octets}
use Rattle.model.specs.Protections.{Protection}
use Rattle.model.specs.Endpoint.{End, Call}
use Rattle.model.specs.Outcomes.{Protected, Outcome}
use Rattle.model.specs.Deeds.{finished_of}
use Rattle.model.specs.Steps.{step}
use Rattle.model.specs.Runs.{Run, newly_made, by, Check, value, secret, Past, no_past, checks_of, Begins, after, outcome, past, checks, Agreed, FinishedSo}
use Rattle.model.proofs.Local.{Sound, at}
use Rattle.model.proofs.Readings.{Solo, opened, solo}
use Rattle.model.proofs.History.{Hellos, History, Late, Spoke, absorbed_joined, choice_told, known, offer_told, secret_on, spoken, spoken-++}
use Rattle.model.proofs.Openings.{Checked, Opening, opening_step, told_step}
use Rattle.model.proofs.Buffers.{Poured, poured_step, suites-step}

module _ {H : Type 0} (K : Schedule H) (P : Protection) (kl : ScheduleLaws K) where
  -- ---- what is heard
  pub nothing_left : {A : Type 0} (xs ys : List A) → xs ++ ys ≡ [] → xs ≡ []
  nothing_left [] ys q = refl
  nothing_left (x ∷ xs) ys q = cc

  pub heard : (xs zs rest : List Protected) (v w : List ℕ) → xs ++ zs ≡ record { number = 0; kind = handshake_kind; content = finished w } ∷ rest → spoken rest ≡ [] → finished v ≡ spoken xs → v ≡ w
  heard [] zs rest v w q s h = cc
  heard (x ∷ xs) zs rest v w q s h =
      let a : x ≡ record { number = 0; kind = handshake_kind; content = finished w } = cc in
      let b : xs ++ zs ≡ rest = cc in
      let c = nothing_left (spoken xs) (spoken zs) (sym (spoken-++ xs zs) ∙ ap spoken b ∙ s) in
      let d : finished v ≡ finished w = h ∙ ap (λ (y : Protected). spoken (y ∷ xs)) a ∙ ap (λ l. finished w ++ l) c ∙ append-nil (finished w) in
      cc

  pub one_suite : (cs ss : List ℕ) (ms ns : List (List ℕ)) → ms ≡ ns → Hellos Client cs ms → Hellos Server ss ns → first_shared cs ss ≡ Some (suite_of ms)
  one_suite cs ss ms ns q a b =
      let x = a.are in let y = b.are in let o = a.own refl in let k = b.picks refl in
      let all : a.first ∷ (a.second ∷ a.rest) ≡ b.first ∷ (b.second ∷ b.rest) = sym x ∙ q ∙ y in
      let z : a.first ≡ b.first = ap (λ l. get_or l 0 []) all in let u : a.second ≡ b.second = ap (λ l. get_or l 1 []) all in
      let w : suite_of ms ≡ choice_told a.second = ap suite_of x in
      ap (λ l. first_shared l ss) (sym o ∙ ap offer_told z) ∙ k ∙ ap Some (ap choice_told (sym u) ∙ sym w)

  pub same_check : (a b : Check) → a.label ≡ b.label → a.master ≡ b.master → a.messages ≡ b.messages → a ≡ b
  same_check a b l m n = λ i. record { label = l i; master = m i; messages = n i }

  -- what is known of an end that opens
  pub record Opens (X : Role) (e : End H) (p : Past) (o : Outcome H) : Type 0 where
    pub buffer_is : e.buffered ≡ finished_of K (peer X) e
    pub late : Late K X (known e) p.messages p.premasters
    pub reads_sealed : e.reads_protected ≡ true
    pub alive : over e.stage ≡ false
    pub compares : o.compared ≡ [] ∷ []
    pub answers_none : o.premasters ≡ []

  pub opens_client : (X : Role) (e : End H) (p : Past) (o : Outcome H) → Sound e → History K X e p → (Checked K P kl) Client e → (Opening K P kl) e o → Opens X e p o
  opens_client X e p o s t k z =
      let h = rw k.0 at t.tale in let x = h.0 in
      record { buffer_is = rw x k.1; late = h.1; reads_sealed = (at e _ k.0 s).1; alive = ap over k.0; compares = z.compares; answers_none = z.answers_none }

  pub opens_server : (X : Role) (e : End H) (p : Past) (o : Outcome H) → Sound e → History K X e p → (Checked K P kl) Server e → (Opening K P kl) e o → Opens X e p o
  opens_server X e p o s t k z =
      let h = rw k.0 at t.tale in let x = h.0 in
      record { buffer_is = rw x k.1; late = h.1; reads_sealed = (at e _ k.0 s).1; alive = ap over k.0; compares = z.compares; answers_none = z.answers_none }

  pub opens : (X : Role) (e : End H) (p : Past) (o : Outcome H) → Sound e → History K X e p → (Opening K P kl) e o → Opens X e p o
  opens X e p o s t z = ⊎_elim (λ k. opens_client X e p o s t k z) (λ k. opens_server X e p o s t k z) z.checked

  -- the check that an opening end makes
  abbrev pub own_check : Role → Past → Outcome H → Check
  own_check X p o = record { label = peer X; master = secret K (p.premasters ++ o.premasters) (p.messages ++ o.joined); messages = p.messages ++ [] }

  pub made_value : (X : Role) (e : End H) (p : Past) (o : Outcome H) → History K X e p → Opens X e p o → K.verify_data (peer X) e.master e.transcript ≡ value K (own_check X p o)
  unfolding value
  made_value X e p o t z =
      let a = z.answers_none in let b = z.late.keys in let c = t.hash in
      let d = secret_on K X e.suites p.premasters p.messages o.joined z.late.both in
      let m : e.master ≡ secret K (p.premasters ++ o.premasters) (p.messages ++ o.joined) = rw (a, append-nil) (b ∙ d) in
      let n : e.transcript ≡ K.absorb K.blank (joined_octets (p.messages ++ [])) = rw append-nil (c ∙ absorbed_joined K kl K.blank p.messages) in
      cc

  -- ---- an end that opens, and the other
  pub record Agree (X : Role) (p p' : Past) (cs ss : List ℕ) : Type 0 where
    pub other_made : Memᴰ (record { label = peer X; master = secret K p.premasters p.messages; messages = p.messages }) p'.finished
    pub same_suite : suite_of p.messages ≡ suite_of p'.messages
    pub first_one : first_shared cs ss ≡ Some (suite_of p.messages)

  pub spoke_of : (X : Role) (e e' : End H) (p p' : Past) (b : Bool) → e'.writes_protected ≡ b → History K (peer X) e' p' → Begins p.opened p'.sealed → (v : List ℕ) → finished v ≡ spoken p.opened → Spoke K (peer X) e'.suites p'.finished p'.sealed p'.messages
  spoke_of X e e' p p' true q t b v h = t.spoke q
  spoke_of X e e' p p' false q t b v h =
      let z = (t.quiet q).1 in
      let a = nothing_left p.opened b.0 (b.1 ∙ z) in
      let n : finished v ≡ [] = h ∙ ap spoken a in
      let w : ◌≡◌ {A = ℕ} 0 1 = cc in absurd (omega arith)

  pub only : {A : Type 0} (k : A) (xs : List A) → xs ≡ k ∷ [] → Memᴰ k xs
  only k xs q = rw q (Memᴰ.head refl)

  pub only_as : {A : Type 0} (a k : A) (xs : List A) → xs ≡ k ∷ [] → a ≡ k → Memᴰ a xs
  only_as a k xs q e = rw (q, e) (Memᴰ.head refl)

  pub compared_in : (s : Role) (m : List ℕ) (ms : List (List ℕ)) (js : List (List (List ℕ))) → js ≡ [] ∷ [] → Memᴰ (record { label = s; master = m; messages = ms ++ [] }) (checks_of s m ms js)
  compared_in s m ms js q = rw q (Memᴰ.head refl)

  pub suite_on : (X : Role) (suites : List ℕ) (ms js : List (List ℕ)) → Hellos X suites ms → suite_of ms ≡ suite_of (ms ++ js)
  suite_on X suites ms js h = let a = h.are in rw a refl

  pub core : (X : Role) (e e' : End H) (p p' : Past) (o : Outcome H) → History K X e p → History K (peer X) e' p' → Opens X e p o → (Poured K P kl) e p.opened → is_open e.stage ≡ false → Begins p.opened p'.sealed
      → ((k : Check) → Memᴰ k p'.finished → k.label ≡ peer X → value K k ≡ value K (own_check X p o) → (k.master ≡ (own_check X p o).master) × (k.messages ≡ (own_check X p o).messages))
      → (s : Spoke K (peer X) e'.suites p'.finished p'.sealed p'.messages) × (s.check.master ≡ secret K p.premasters p.messages) × (s.check.messages ≡ p.messages)
  core X e e' p p' o t t' z u q b apart =
      let v = K.verify_data (peer X) e.master e.transcript in
      let h : finished v ≡ spoken p.opened = sym z.buffer_is ∙ u.whole_buffer z.reads_sealed q z.alive in
      let s = spoke_of X e e' p p' e'.writes_protected refl t' b v h in
      let same : v ≡ value K s.check = heard p.opened b.0 s.rest v (value K s.check) (b.1 ∙ s.sealed_is) s.rest_is h in
      let k = apart s.check (only s.check p'.finished s.finish_is) s.label_is (sym same ∙ made_value X e p o t z) in
      let a = z.answers_none in
      (s, k.0 ∙ rw (a, append-nil) (sym (secret_on K X e.suites p.premasters p.messages o.joined z.late.both)), k.1 ∙ append-nil p.messages)

  -- ---- over runs
  module _ (first : Role → End H) (fresh : (X : Role) → Solo K P (first X) no_past) (told-first : (X : Role) → History K X (first X) no_past) (poured-first : (X : Role) → (Poured K P kl) (first X) []) (some-suites : (X : Role) → 1 ≤ length (first X).suites) where
    suites_run : (r : Run) (X : Role) → (after K (step K P) first r X).suites ≡ (first X).suites
    suites_run newly_made X = refl
    suites_run (by r Client c) Client = (suites-step K P kl) _ c ∙ suites_run r Client
    suites_run (by r Server c) Client = suites_run r Client
    suites_run (by r Client c) Server = suites_run r Server
    suites_run (by r Server c) Server = (suites-step K P kl) _ c ∙ suites_run r Server

    many : (r : Run) (X : Role) → 1 ≤ length (after K (step K P) first r X).suites
    many r X = rw (suites_run r X) (some-suites X)

    told_run : (r : Run) (X : Role) → History K X (after K (step K P) first r X) (past K (step K P) first r X)
    told_run newly_made X = told-first X
    told_run (by r Client c) Client = (told_step K P kl) Client _ _ c (many r Client) (solo K P first fresh r Client).sound (told_run r Client)
    told_run (by r Server c) Client = told_run r Client
    told_run (by r Client c) Server = told_run r Server
    told_run (by r Server c) Server = (told_step K P kl) Server _ _ c (many r Server) (solo K P first fresh r Server).sound (told_run r Server)

    poured_run : (r : Run) (X : Role) → (Poured K P kl) (after K (step K P) first r X) (past K (step K P) first r X).opened
    poured_run newly_made X = poured-first X
    poured_run (by r Client c) Client = (poured_step K P kl) _ _ c (solo K P first fresh r Client).sound (poured_run r Client)
    poured_run (by r Server c) Client = poured_run r Client
    poured_run (by r Client c) Server = poured_run r Server
    poured_run (by r Server c) Server = (poured_step K P kl) _ _ c (solo K P first fresh r Server).sound (poured_run r Server)

    -- the checks in question are checks of the run
    other_in : (r : Run) (X : Role) (c : Call) (k : Check) → Memᴰ k (past K (step K P) first r (peer X)).finished → Memᴰ k (checks K (step K P) first (by r X c))
    other_in r Client c k m = Memᴰ.append_right _ (Memᴰ.append_left _ m)
    other_in r Server c k m = Memᴰ.append_left _ (Memᴰ.append_left _ m)

    own_in : (r : Run) (X : Role) (c : Call) → (outcome K (step K P) first r X c).compared ≡ [] ∷ [] → Memᴰ (own_check X (past K (step K P) first r X) (outcome K (step K P) first r X c)) (checks K (step K P) first (by r X c))
    own_in r Client c q =
        let p = past K (step K P) first (by r Client c) Client in
        let p' = past K (step K P) first (by r Client c) Server in
        Memᴰ.append_left (p'.finished ++ p'.compared) (Memᴰ.append_right p.finished (Memᴰ.append_right (past K (step K P) first r Client).compared (compared_in Server _ _ _ q)))
    own_in r Server c q =
        let p = past K (step K P) first (by r Server c) Client in
        let p' = past K (step K P) first (by r Server c) Server in
        Memᴰ.append_right (p.finished ++ p.compared) (Memᴰ.append_right p'.finished (Memᴰ.append_right (past K (step K P) first r Server).compared (compared_in Client _ _ _ q)))

    conclude : (X : Role) (ss ss' : List ℕ) (p p' : Past) → Hellos X ss p.messages → (s : Spoke K (peer X) ss' p'.finished p'.sealed p'.messages) → s.check.master ≡ secret K p.premasters p.messages → s.check.messages ≡ p.messages
        → ss ≡ (first X).suites → ss' ≡ (first (peer X)).suites
        → Memᴰ (record { label = peer X; master = secret K p.premasters p.messages; messages = p.messages }) p'.finished
        × (suite_of p.messages ≡ suite_of p'.messages)
        × (first_shared (first Client).suites (first Server).suites ≡ Some (suite_of p.messages))
    conclude Client ss ss' p p' h s a b u u' = (
      only_as _ s.check p'.finished s.finish_is (same_check _ s.check (sym s.label_is) (sym a) (sym b)),
      suite_on Client ss p.messages s.more h ∙ ap suite_of (ap (λ l. l ++ s.more) (sym b) ∙ sym s.goes_on),
      ap₂ first_shared (sym u) (sym u') ∙ one_suite ss ss' p.messages s.check.messages (sym b) h s.both,
    )
    conclude Server ss ss' p p' h s a b u u' = (
      only_as _ s.check p'.finished s.finish_is (same_check _ s.check (sym s.label_is) (sym a) (sym b)),
      suite_on Server ss p.messages s.more h ∙ ap suite_of (ap (λ l. l ++ s.more) (sym b) ∙ sym s.goes_on),
      ap₂ first_shared (sym u') (sym u) ∙ one_suite ss' ss s.check.messages p.messages b s.both h ∙ ap (λ ms. Some (suite_of ms)) b,
    )

    pub finished_so : FinishedSo K (step K P) first
    finished_so r X k m = go (after K (step K P) first r X).writes_protected refl
      where
        one_of : (xs : List Check) (c : Check) → xs ≡ c ∷ [] → Memᴰ k xs → k ≡ c
        one_of xs c q n = ⊎_elim (λ (e : k ≡ c). e) (λ (t : Memᴰ k []). elim t [ ]) (Memᴰ.cases_cons (rw q at n))

        none_of : {A : Type 0} (xs : List Check) → xs ≡ [] → Memᴰ k xs → A
        none_of xs q n = let z : Memᴰ k [] = rw q at n in elim z [ ]

        go : (b : Bool) → (after K (step K P) first r X).writes_protected ≡ b → (rest : List Protected) × ((past K (step K P) first r X).sealed ≡ record { number = 0; kind = handshake_kind; content = finished (value K k) } ∷ rest) × (k.label ≡ X)
        go true q =
            let s = (told_run r X).spoke q in
            let e = one_of (past K (step K P) first r X).finished s.check s.finish_is m in
            (s.rest, s.sealed_is ∙ ap (λ (c : Check). record { number = 0; kind = handshake_kind; content = finished (value K c) } ∷ s.rest) (sym e), ap (λ (c : Check). c.label) e ∙ s.label_is)
        go false q = none_of (past K (step K P) first r X).finished ((told_run r X).quiet q).0 m

    pub agreed : Agreed K (step K P) first
    agreed r X c g apart q o =
        let e = after K (step K P) first r X in
        let p = past K (step K P) first r X in
        let p' = past K (step K P) first r (peer X) in
        let z = opens X e p (step K P e c) (solo K P first fresh r X).sound (told_run r X) ((opening_step K P kl) e c q o) in
        let k = core X e (after K (step K P) first r (peer X)) p p' (step K P e c) (told_run r X) (told_run r (peer X)) z (poured_run r X) q (opened K P first fresh r g.0 X) (λ k m l v. apart k (own_check X p (step K P e c)) (other_in r X c k m) (own_in r X c z.compares) l v) in
        conclude X (after K (step K P) first r X).suites (after K (step K P) first r (peer X)).suites p p' z.late.both k.0 k.1 k.2 (suites_run r X) (suites_run r (peer X))
