-- The whole law of a line.
use Rattle.std.proofs.Common.{◌≡◌, ℕ, ◌≤◌, Bool, true, false, cond, not, ◌&&◌, eqb, List, [], ◌∷◌, length, Some, None, Option, sym, refl, ap, inl, arith, eqb-true}
use Rattle.octets.specs.declared.role.Role.{Role}
use Rattle.octets.specs.declared.role.Role.TheVariants.{Client, Server}
use Rattle.records.specs.Kinds.{data_kind}
use Rattle.protection.specs.Keys.{Keying}
use Rattle.handshake.specs.Parts.{among}
use Rattle.model.specs.declared.stage.Stage.TheVariants.{Open}
use Rattle.model.specs.declared.refusal.Refusal.{Refusal}
use Rattle.model.specs.declared.refusal.Refusal.TheVariants.{BadSuites}
use Rattle.model.specs.Limits.{suite_limit}
use Rattle.model.specs.Messages.{first_shared}
use Rattle.model.specs.Schedule.{Schedule, ScheduleLaws}
use Rattle.model.specs.Protections.{Protection, Lawful}
use Rattle.model.specs.Endpoint.{End, send}
use Rattle.model.specs.Outcomes.{under}
use Rattle.model.specs.Refusals.{within, distinct, all_served, set_up_refusal}
use Rattle.model.specs.Steps.{step}
use Rattle.model.specs.Runs.{line, no_past, after}
use Rattle.model.specs.Law.{SendsOne, LineLaw}
use Rattle.model.proofs.Fronts.{never}
use Rattle.model.proofs.ReadBack.{eqb_is}
use Rattle.model.proofs.Ways.{send_facts}
use Rattle.model.proofs.Local.{Sound, at}
use Rattle.model.proofs.Readings.{Solo, solo as Solo-run, in_order}
use Rattle.model.proofs.History.{History}
use Rattle.model.proofs.Buffers.{Poured}
use Rattle.model.proofs.Opening.{agreed, finished_so}
use Rattle.model.proofs.Accepting.{acted_as, accepted_back}
use Rattle.model.proofs.Phases.{Setting}
use Rattle.model.proofs.Standing.{on_time, tied, loses_none, meets_both}
use Rattle.model.proofs.Deliveries.{delivers}
use Rattle.model.proofs.GoingOn.{goes_on}

-- ---- accepted set-ups
accepted_suites : (serves : ℕ → Bool) (ss : List ℕ) → set_up_refusal serves ss ≡ None → (1 ≤ length ss) × (length ss ≤ suite_limit) × (all_served serves ss ≡ true)
accepted_suites serves ss q = go (within 1 suite_limit (length ss)) (distinct ss) (all_served serves ss) refl refl q
  where
    is_some : Option Refusal → Bool
    is_some None = false
    is_some (Some r) = true

    go : (b1 b2 b3 : Bool) → within 1 suite_limit (length ss) ≡ b1 → all_served serves ss ≡ b3 → cond (not (b1 && (b2 && b3))) (Some BadSuites) None ≡ None → (1 ≤ length ss) × (length ss ≤ suite_limit) × (all_served serves ss ≡ true)
    go true true true h k z = (grind arith, grind arith, k)
    go true true false h k z = never (ap is_some z)
    go true false b3 h k z = never (ap is_some z)
    go false b2 b3 h k z = never (ap is_some z)

shared_among : (cs ss : List ℕ) (s : ℕ) → first_shared cs ss ≡ Some s → among s cs ≡ true
shared_among [] ss s q = cc
shared_among (x ∷ xs) ss s q = go (among x ss) (shared_among xs ss s) q
  where
    later_one : (b : Bool) → cond b true true ≡ true
    later_one true = refl
    later_one false = refl

    go : (b : Bool) → (first_shared xs ss ≡ Some s → among s xs ≡ true) → cond b (Some x) (first_shared xs ss) ≡ Some s → among s (x ∷ xs) ≡ true
    go true ih h = let e : x ≡ s = cc in rw (e, eqb_is s s refl) refl
    go false ih h = rw (ih h) (later_one (eqb s x))

served_among : (serves : ℕ → Bool) (ss : List ℕ) (s : ℕ) → all_served serves ss ≡ true → among s ss ≡ true → serves s ≡ true
served_among serves [] s a q = never (sym q)
served_among serves (x ∷ xs) s a q = go (serves x) (eqb s x) (served_among serves xs s) refl refl a q
  where
    go : (b1 b2 : Bool) → (all_served serves xs ≡ true → among s xs ≡ true → serves s ≡ true) → serves x ≡ b1 → eqb s x ≡ b2 → (b1 && all_served serves xs) ≡ true → cond b2 true (among s xs) ≡ true → serves s ≡ true
    go true true ih h k z y = rw (eqb-true s x k) h
    go true false ih h k z y = ih z y
    go false b2 ih h k z y = never (sym z)

module _ {H : Type 0} (K : Schedule H) (P : Protection) (c d : Option Keying) (cs ss : List ℕ) where
  sound : (X : Role) → Sound (line K c d cs ss X)
  sound Client = record { out_at = refl; in_at = refl; out_zero = λ _. refl; in_zero = λ _. refl }
  sound Server = record { out_at = refl; in_at = refl; out_zero = λ _. refl; in_zero = λ _. refl }

  solo : (X : Role) → Solo K P (line K c d cs ss X) no_past
  solo Client = record { sound = sound Client; out = tt; out_count = refl; sent = refl; into = tt; in_count = refl; freed = inl refl }
  solo Server = record { sound = sound Server; out = tt; out_count = refl; sent = refl; into = tt; in_count = refl; freed = inl refl }

  history : (X : Role) → History K X (line K c d cs ss X) no_past
  history Client = record { hash = refl; tale = (refl, refl, refl); quiet = λ _. (refl, refl); spoke = λ q. never (sym q) }
  history Server = record { hash = refl; tale = (refl, refl, refl); quiet = λ _. (refl, refl); spoke = λ q. never (sym q) }

  poured : (kl : ScheduleLaws K) (X : Role) → Poured K P kl (line K c d cs ss X) []
  poured kl Client = record { whole_buffer = λ _ _ _. refl; none_opened = λ _. refl }
  poured kl Server = record { whole_buffer = λ _ _ _. refl; none_opened = λ _. refl }

  many : set_up_refusal P.serves cs ≡ None → set_up_refusal P.serves ss ≡ None → (X : Role) → 1 ≤ length (line K c d cs ss X).suites
  many a b Client = (accepted_suites P.serves cs a).0
  many a b Server = (accepted_suites P.serves ss b).0

-- ---- an accepted send
module _ {H : Type 0} (K : Schedule H) (P : Protection) where
  sends_one_at : (e : End H) (x f : List ℕ) (out : ℕ) → Sound e → (step K P e (send x f out)).refused ≡ None
      → ((step K P e (send x f out)).writes ≡ under (record { number = e.writes; kind = data_kind; content = x }) f ∷ []) × ((step K P e (send x f out)).sent ≡ x ∷ [])
  sends_one_at e x f out s q =
      let a = accepted_back K P e (send x f out) q in
      let h = send_facts K e x f out a in
      let w : e.writes_protected ≡ true = (at e Open h.0 s).0 in
      rw (acted_as K P e (send x f out) a) (rw w refl, refl)

  pub sends_one : (first : Role → End H) → ((X : Role) → Solo K P (first X) no_past) → SendsOne K P (step K P) first
  sends_one first fresh r X x f out q = sends_one_at (after K (step K P) first r X) x f out (Solo-run K P first fresh r X).sound q

-- ---- the whole
setting : {H : Type 0} (K : Schedule H) (P : Protection) → ScheduleLaws K → Lawful P → (c d : Option Keying) (cs ss : List ℕ) (s : ℕ) → set_up_refusal P.serves cs ≡ None → first_shared cs ss ≡ Some s → Setting K P
setting K P kl law c d cs ss s a q =
    let h = shared_among cs ss s q in
    let m = accepted_suites P.serves cs a in
    record { law = law; sized = kl; kc = c; ks = d; cs = cs; ss = ss; s = s; shared = q; offered = h; served = served_among P.serves cs s m.2 h; some_c = m.0; few = m.1 }

pub line_law : {H : Type 0} (K : Schedule H) (P : Protection) → ScheduleLaws K → Lawful P → LineLaw K P (step K P)
unfolding setting
line_law K P kl law =
    record {
      in_order = λ c d cs ss a b. in_order K P (line K c d cs ss) (solo K P c d cs ss);
      agreed = λ c d cs ss a b. agreed K P kl (line K c d cs ss) (solo K P c d cs ss) (history K P c d cs ss) (poured K P c d cs ss kl) (many K P c d cs ss a b);
      finished_so = λ c d cs ss a b. finished_so K P kl (line K c d cs ss) (solo K P c d cs ss) (history K P c d cs ss) (poured K P c d cs ss kl) (many K P c d cs ss a b);
      on_time = λ c d cs ss s a b q. on_time K P (setting K P kl law c d cs ss s a q);
      goes_on = λ c d cs ss s a b q. goes_on K P (setting K P kl law c d cs ss s a q);
      sends_one = λ c d cs ss a b. sends_one K P (line K c d cs ss) (solo K P c d cs ss);
      tied = λ c d cs ss s a b q. tied K P (setting K P kl law c d cs ss s a q);
      delivers = λ c d cs ss s a b q. delivers K P (setting K P kl law c d cs ss s a q);
      loses_none = λ c d cs ss s a b q. loses_none K P (setting K P kl law c d cs ss s a q) (solo K P c d cs ss);
      meets_both = λ c d cs ss s a b q. meets_both K P (setting K P kl law c d cs ss s a q);
    }
