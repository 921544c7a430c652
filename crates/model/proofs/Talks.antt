-- What the answers of a handshake brought, and readings that wait.
use Rattle.std.proofs.Common.{◌≡◌, ℕ, ◌+◌, ◌≤◌, Bool, true, false, ◌&&◌, eqb, leb, List, [], ◌∷◌, ◌++◌, length, Option, sym, refl, ap, ◌∙◌, append_assoc, arith, eqb-true}
use Rattle.records.specs.Kinds.{data_kind}
use Rattle.protection.specs.Keys.{Keying}
use Rattle.handshake.specs.Parts.{versioned, other_version}
use Rattle.handshake.specs.Frames.{message_limit}
use Rattle.handshake.specs.Certificates.{certificate_body}
use Rattle.model.specs.declared.question.Question.TheVariants.{ServerFlight, WrapPremaster}
use Rattle.model.specs.Schedule.{Schedule}
use Rattle.model.specs.Protections.{Protection}
use Rattle.model.specs.Endpoint.{Parts}
use Rattle.model.specs.Outcomes.{Write, under, octets, flat}
use Rattle.model.specs.Refusals.{within, certificates_fit, parts_fit}
use Rattle.model.proofs.ReadBack.{AllSome, certificate_length}
use Rattle.model.proofs.Fronts.{never}
use Rattle.model.proofs.Accepting.{Sendable}
use Rattle.model.proofs.Stances.{Fresh}

-- ---- readings that wait, numbered from the first number to before the second
abbrev pub reading_at : ℕ → List ℕ → List ℕ → Write
reading_at n x f = under (record { number = n; kind = data_kind; content = x }) f

pub data Queue : ℕ → ℕ → List Write → Type 0 where
  none_waits : {i : ℕ} → Queue i i []
  waits_next : {i j : ℕ} {ws : List Write} (x f : List ℕ) → Sendable x f → Queue (i + 1) j ws → Queue i j (reading_at i x f ∷ ws)

pub queue_more : {i j : ℕ} {ws : List Write} (x f : List ℕ) → Sendable x f → Queue i j ws → Queue i (j + 1) (ws ++ (reading_at j x f ∷ []))
queue_more x f o none_waits = waits_next x f o none_waits
queue_more x f o (waits_next y g p q) = waits_next y g p (queue_more x f o q)

pub queue_under : {i j : ℕ} {ws : List Write} → Queue i j ws → i ≤ j
queue_under none_waits = omega arith
queue_under (waits_next {i = i} {j = j} x f o q) = let h = queue_under q in omega arith

pub flat-++ : (P : Protection) (k : Option Keying) (xs ys : List Write) → flat P k (xs ++ ys) ≡ flat P k xs ++ flat P k ys
flat-++ P k [] ys = refl
flat-++ P k (x ∷ xs) ys = ap (λ l. octets P k x ++ l) (flat-++ P k xs ys) ∙ sym (append_assoc (octets P k x) (flat P k xs) (flat P k ys))

pub and_false : (b : Bool) → (b && false) ≡ false
and_false true = refl
and_false false = refl

pub no_other_version : (x : List ℕ) → versioned x ≡ true → other_version x ≡ false
no_other_version x q = rw q (and_false (leb 2 (length x)))

-- ---- what the answers of a handshake brought
pub record Talk : Type 0 where
  pub rc : List ℕ
  pub q : Parts
  pub p : List ℕ
  pub w : List ℕ
  pub f : List ℕ

pub record FlightOk (q : Parts) : Type 0 where
  pub random_32 : length q.random ≡ 32
  pub session_32 : length q.session ≡ 32
  pub all_some : AllSome q.certificates
  pub are_two : length q.certificates ≡ 2
  pub certificates_short : length (certificate_body q.certificates) ≤ message_limit
  pub signature_some : 1 ≤ length q.signature
  pub signature_short : length q.signature ≤ 512

pub record Ok2 (rc : List ℕ) (q : Parts) : Type 0 where
  pub random_ok : length rc ≡ 32
  pub flight_ok : FlightOk q

pub certificates_ok : (cs : List (List ℕ)) → certificates_fit cs ≡ true → AllSome cs × (length cs ≡ 2) × (length (certificate_body cs) ≤ message_limit)
certificates_ok [] h = never (sym h)
certificates_ok (a ∷ []) h = never (sym h)
certificates_ok (a ∷ (b ∷ [])) h =
    let x : within 1 1500 (length a) ≡ true = grind arith in let y : within 1 1500 (length b) ≡ true = grind arith in
    let u : (1 ≤ length a) × (length a ≤ 1500) = (grind arith, grind arith) in let v : (1 ≤ length b) × (length b ≤ 1500) = (grind arith, grind arith) in
    ((u.0, (v.0, tt)), refl, certificate_length a b u.1 v.1)
certificates_ok (a ∷ (b ∷ (c ∷ cs))) h = never (sym h)

pub flight_fits : (q : Parts) → parts_fit ServerFlight q ≡ true → FlightOk q
flight_fits q h = go (eqb (length q.random) 32) (eqb (length q.session) 32) (certificates_fit q.certificates) (within 1 512 (length q.signature)) refl refl refl refl h
  where
    go : (b1 b2 b3 b4 : Bool) → eqb (length q.random) 32 ≡ b1 → eqb (length q.session) 32 ≡ b2 → certificates_fit q.certificates ≡ b3 → within 1 512 (length q.signature) ≡ b4 → (b1 && (b2 && (b3 && b4))) ≡ true → FlightOk q
    go true true true true q1 q2 q3 q4 z =
        let c = certificates_ok q.certificates q3 in
        let l : (1 ≤ length q.signature) × (length q.signature ≤ 512) = (grind arith, grind arith) in
        record { random_32 = eqb-true _ _ q1; session_32 = eqb-true _ _ q2; all_some = c.0; are_two = c.1; certificates_short = c.2; signature_some = l.0; signature_short = l.1 }
    go false b2 b3 b4 q1 q2 q3 q4 z = never (sym z)
    go true false b3 b4 q1 q2 q3 q4 z = never (sym z)
    go true true false b4 q1 q2 q3 q4 z = never (sym z)
    go true true true false q1 q2 q3 q4 z = never (sym z)

module _ {H : Type 0} (K : Schedule H) (P : Protection) where
  pub record TalkOk (T : Talk) : Type 0 where
    pub hellos_ok : Ok2 T.rc T.q
    pub premaster_ok : versioned T.p ≡ true
    pub premaster_48 : length T.p ≡ 48
    pub wrapped_some : 1 ≤ length T.w
    pub wrapped_short : length T.w ≤ 512
    pub fresh_ok : Fresh K P T.f

  pub exchange_fits : (x : Parts) → parts_fit WrapPremaster x ≡ true → (versioned x.premaster ≡ true) × (1 ≤ length x.wrapped) × (length x.wrapped ≤ 512) × (length x.premaster ≡ 48)
  exchange_fits x h = go (eqb (length x.premaster) 48) (versioned x.premaster) (within 1 512 (length x.wrapped)) refl refl refl h
    where
      go : (b1 b2 b3 : Bool) → eqb (length x.premaster) 48 ≡ b1 → versioned x.premaster ≡ b2 → within 1 512 (length x.wrapped) ≡ b3 → (b1 && (b2 && b3)) ≡ true → (versioned x.premaster ≡ true) × (1 ≤ length x.wrapped) × (length x.wrapped ≤ 512) × (length x.premaster ≡ 48)
      go true true true q1 q2 q3 z = (q2, grind arith, grind arith, eqb-true _ _ q1)
      go false b2 b3 q1 q2 q3 z = never (sym z)
      go true false b3 q1 q2 q3 z = never (sym z)
      go true true false q1 q2 q3 z = never (sym z)
