-- What an accepted answer has done, from what its parts have done.
use Rattle.std.proofs.Common.{◌≡◌, ℕ, ◌≤◌, Bool, true, false, cond, not, ◌&&◌, ◌||◌, eqb, leb, ◌⊎◌, List, [], ◌∷◌, length, is_some, Some, None, Err, Option, unwrap_or, sym, refl, ap, ◌∙◌, inl, inr, arith}
use Rattle.std.proofs.lemmas.Bool.{true≢false, leb-true, le-leb, eqb-true, and_parts, and_from, or_cases, or_left, or_right, not-false, cond_both}
use Rattle.octets.specs.Laid.{laid}
use Rattle.octets.proofs.Lays.{none_laid}
use Rattle.records.specs.declared.fault.Alert.{Alert}
use Rattle.records.specs.declared.fault.Alert.TheVariants.{InternalError}
use Rattle.records.specs.declared.fault.Layer.TheVariants.{Card as AtCard}
use Rattle.records.specs.Faults.{alert_number, alert_of, alerts, listed}
use Rattle.records.proofs.Numbering.{numbered_has, listed_is}
use Rattle.sm3.specs.Hash.{Running}
use Rattle.handshake.specs.Frames.{Next, not_ready, too_long, ready, next}
use Rattle.handshake.specs.Parts.{versioned}
use Rattle.model.specs.declared.stage.Stage.{Stage}
use Rattle.model.specs.declared.stage.Stage.TheVariants.{ServerAwaitChange}
use Rattle.model.specs.declared.question.Question.{Question}
use Rattle.model.specs.declared.question.Question.TheVariants.{ClientRandom, ServerFlight, CheckCertificates, CheckSignature, WrapPremaster, UnwrapPremaster}
use Rattle.model.specs.declared.refusal.Refusal.{Refusal}
use Rattle.model.specs.declared.refusal.Refusal.TheVariants.{Over, NotAsked, WrongLength, NoSpace, NoNotTaken}
use Rattle.model.specs.Stages.{over, asks}
use Rattle.model.specs.Refusals.{refusal, answer_refusal, asked_as, certificates_fit, parts_fit, lengths_fit, takes_no, takes_answer, within}
use Rattle.model.specs.Results.{seen, answer_yields}
use Rattle.model.specs.Protections.{Protection}
use Rattle.model.specs.Endpoint.{End, Parts, Answer, yes, no, answer, with_stage, with_buffer}
use Rattle.model.specs.Outcomes.{Outcome, writing, joining, output}
use Rattle.model.specs.Deeds.{Deed, perform, hearing, in_records, trusts_certificates, trusts_signature, unwraps, waits, raises}
use Rattle.model.specs.Answers.{about, said_no, answered}
use Rattle.model.specs.Tlcp.{tlcp}
use Rattle.model.proofs.Accepting.{refused_as, acted_as}
use Rattle.end_state.specs.Fronts.{is_whole, passed_front}
use Rattle.end_state.specs.Keys.{keyed_end}
use Rattle.end_writer.specs.Flights.{message_records}
use Rattle.end_writer.proofs.Following.{flat_records}
use Rattle.end_reports.specs.Reports.{Done, done, done_by, seen_by}
use Rattle.end_reports.proofs.Yields.{Plain, plain_seen, seen_of_done}

-- done without a fault: the end, the octets written and the output after it
pub done_as : (P : Protection) (o : Outcome Running) (out : List ℕ) {e : End Running} {w : ℕ} {after : List ℕ} → o.fault ≡ None → e ≡ o.end
    → w ≡ length (output P o) → after ≡ laid out 0 (output P o) → done_by (record { stage = e.stage; written = w; fault = None }) e after ≡ done P o out
done_as P o out {e} {w} {after} f q n a = λ i. record { stage = (q i).stage; written = n i; fault = sym f i; end = q i; output = a i }

-- nothing is written
pub still : (P : Protection) (o : Outcome Running) (out : List ℕ) {e : End Running} → o.fault ≡ None → output P o ≡ [] → e ≡ o.end
    → done_by (record { stage = e.stage; written = 0; fault = None }) e out ≡ done P o out
still P o out {e} f n q = done_as P o out f q (ap length (sym n)) (none_laid out [] 0 (omega arith) ∙ ap (laid out 0) (sym n))

-- messages are written, each in a record of its own, bare
pub said : (P : Protection) (next : End Running) (ms : List (List ℕ)) (out : List ℕ) {e : End Running} {w : ℕ} {after : List ℕ} → e ≡ next
    → w ≡ length (message_records ms) → after ≡ laid out 0 (message_records ms)
    → done_by (record { stage = e.stage; written = w; fault = None }) e after ≡ done P (joining ms (in_records ms) next) out
said P next ms out {e} {w} {after} q n a =
    let r = sym (flat_records P next.protection ms) in
    done_as P (joining ms (in_records ms) next) out refl q (n ∙ ap length r) (a ∙ ap (laid out 0) r)

-- a yes about the message at the front, if there is one
module _ (P : Protection) (f : List ℕ) (e : End Running) where
  pub passed : (s : Stage) (d : List ℕ → List ℕ → Deed) (n : Next) (out : List ℕ)
      → ((m rest : List ℕ) → perform tlcp P f e (d m rest) ≡ joining (m ∷ []) [] (with_buffer rest (hearing tlcp (m ∷ []) (with_stage s e))))
      → done P (writing [] (passed_front s n e)) out ≡ done P (perform tlcp P f e (about d n)) out
  passed s d not_ready out h = refl
  passed s d too_long out h = refl
  passed s d (ready t m x rest) out h = ap (λ o. done P o out) (sym (h m rest))

  -- a premaster, if the message that wraps it is there: keys are made
  pub unwrapped : (p : List ℕ) (n : Next) (out : List ℕ) {e₁ e₂ : End Running} → true ≡ is_whole n → e₁ ≡ passed_front ServerAwaitChange n e
      → e₂ ≡ keyed_end P.serves P.size p e₁
      → done_by (record { stage = e₂.stage; written = 0; fault = None }) e₂ out ≡ done P (perform tlcp P f e (about (unwraps p) n)) out
  unwrapped p not_ready out w q k = absurd (true≢false w)
  unwrapped p too_long out w q k = absurd (true≢false w)
  unwrapped p (ready t m x rest) out w q k = still P (perform tlcp P f e (unwraps p m rest)) out refl refl (k ∙ ap (keyed_end P.serves P.size p) q)

  -- and if it is not: nothing is done
  pub not_unwrapped : (p : List ℕ) (n : Next) (out : List ℕ) {e₁ : End Running} → false ≡ is_whole n → e₁ ≡ passed_front ServerAwaitChange n e
      → done_by (record { stage = e₁.stage; written = 0; fault = None }) e₁ out ≡ done P (perform tlcp P f e (about (unwraps p) n)) out
  not_unwrapped p not_ready out w q = still P (perform tlcp P f e waits) out refl refl q
  not_unwrapped p too_long out w q = still P (perform tlcp P f e waits) out refl refl q
  not_unwrapped p (ready t m x rest) out w q = absurd (true≢false (sym w))

-- ---- a no: the number that it brings is an alert's
found : (n : ℕ) (o : Option Alert) → alert_of n ≡ o → is_some o ≡ true → alert_number (unwrap_or o InternalError) ≡ n
found n None e t = absurd (true≢false (sym t))
found n (Some a) e t = numbered_has alert_number alerts n a e

brought : (n : ℕ) → listed n ≡ true → alert_number (unwrap_or (alert_of n) InternalError) ≡ n
brought n t = found n (alert_of n) refl (sym (listed_is n) ∙ t)

-- what a card may say of certificates and signatures
of_card : (n : ℕ) → 42 ≤ n → n ≤ 51 → listed n ≡ true
of_card n a b =
    let w : (leb 42 n && leb n 51) ≡ true = and_from _ _ (le-leb 42 n a) (le-leb n 51 b) in
    or_right (eqb n 0) _ (or_right (eqb n 10) _ (or_right (leb 20 n && leb n 22) _ (or_right (eqb n 30) _ (or_right (eqb n 40) _
    (or_left _ ((leb 70 n && leb n 71) || (eqb n 80 || (eqb n 90 || (eqb n 100 || (leb 200 n && leb n 205))))) w)))))

certificates_no : (n : ℕ) → (within 42 46 n || eqb n 48) ≡ true → listed n ≡ true
certificates_no n h = elim (or_cases _ _ h) [
  | inl w ↦ (let p = and_parts (leb 42 n) (leb n 46) w in
      let a = leb-true 42 n p.0 in
      let b = leb-true n 46 p.1 in
      of_card n a (omega arith))
  | inr e ↦ (let a = eqb-true n 48 e in of_card n (omega arith) (omega arith))
]

signature_no : (n : ℕ) → eqb n 51 ≡ true → listed n ≡ true
signature_no n e = let a = eqb-true n 51 e in of_card n (omega arith) (omega arith)

pub no_alert : (q : Question) (n : ℕ) {o : Option Alert} {a : Alert} → (q ≡ ClientRandom) ⊎ ((q ≡ CheckCertificates) ⊎ (q ≡ CheckSignature))
    → takes_no q n ≡ true → o ≡ alert_of n → a ≡ unwrap_or o InternalError → raises AtCard (alert_number a) ≡ said_no q n
no_alert q n (inl p) t e v = absurd (true≢false (sym t ∙ ap (λ x. takes_no x n) p))
no_alert q n {o} {a} (inr (inl p)) t e v =
    let l = certificates_no n (sym (ap (λ x. takes_no x n) p) ∙ t) in
    ap (λ x. raises AtCard (alert_number x)) (v ∙ ap (λ x. unwrap_or x InternalError) e) ∙ ap (raises AtCard) (brought n l) ∙ sym (ap (λ x. said_no x n) p)
no_alert q n {o} {a} (inr (inr p)) t e v =
    let l = signature_no n (sym (ap (λ x. takes_no x n) p) ∙ t) in
    ap (λ x. raises AtCard (alert_number x)) (v ∙ ap (λ x. unwrap_or x InternalError) e) ∙ ap (raises AtCard) (brought n l) ∙ sym (ap (λ x. said_no x n) p)

-- ---- what the refusal has ruled out
pub record Accepted (s : Stage) (l t : Bool) (f out : ℕ) : Type 0 where
  pub running : over s ≡ false
  pub fresh : f ≡ 16
  pub room : 4096 ≤ out
  pub lengths : l ≡ true
  pub taken : t ≡ true

-- a ground that does not fit, and what is left of the list
passed_by : {A : Type 0} (b : Bool) (r : A) {rest : Option A} → cond b (Some r) rest ≡ None → (b ≡ false) × (rest ≡ None)
passed_by true r e = let z : ◌≡◌ {A = ℕ} 0 1 = cc in absurd (omega arith)
passed_by false r e = (refl, e)

-- the tests of an answer are what the definitions say of it
pub by_tests : (s : Stage) (q : Question) (a : Answer) (f out : ℕ) {l t : Bool} {r r₁ : Option Refusal} → l ≡ lengths_fit q a → t ≡ takes_answer q a
    → r ≡ answer_refusal s q l t f out → r ≡ r₁ → answer_refusal s q (lengths_fit q a) (takes_answer q a) f out ≡ r₁
by_tests s q a f out {l} {t} el et er e = ap (λ x. answer_refusal s q x (takes_answer q a) f out) (sym el) ∙ ap (λ x. answer_refusal s q l x f out) (sym et) ∙ sym er ∙ e

pub accepted : (s : Stage) (q : Question) (l t : Bool) (f out : ℕ) → answer_refusal s q l t f out ≡ None → Accepted s l t f out
accepted s q l t f out e =
    let a = passed_by (over s) Over e in
    let b = passed_by (not (asked_as (asks s) q)) NotAsked a.1 in
    let c = passed_by (not (eqb f 16 && l)) WrongLength b.1 in
    let d = passed_by (not (leb 4096 out)) NoSpace c.1 in
    let n = passed_by (not t) NoNotTaken d.1 in
    let p = and_parts (eqb f 16) l (not-false _ c.0) in
    record { running = a.0; fresh = eqb-true f 16 p.0; room = leb-true 4096 out (not-false _ d.0); lengths = p.1; taken = not-false _ n.0 }

-- ---- the parts that a yes brings
module _ (p : Parts) where
  pub record FlightFits : Type 0 where
    pub random : length p.random ≡ 32
    pub session : length p.session ≡ 32
    pub two : certificates_fit p.certificates ≡ true
    pub least : 1 ≤ length p.signature
    pub most : length p.signature ≤ 512

  pub flight_fits : {q : Question} → q ≡ ServerFlight → parts_fit q p ≡ true → FlightFits
  flight_fits e h =
      let a = and_parts (eqb (length p.random) 32) _ (sym (ap (λ x. parts_fit x p) e) ∙ h) in
      let b = and_parts (eqb (length p.session) 32) _ a.1 in
      let c = and_parts (certificates_fit p.certificates) _ b.1 in
      let d = and_parts (leb 1 (length p.signature)) _ c.1 in
      record {
        random = eqb-true _ 32 a.0;
        session = eqb-true _ 32 b.0;
        two = c.0;
        least = leb-true 1 _ d.0;
        most = leb-true _ 512 d.1;
      }

-- ---- the call
about_plain : (P : Protection) (f : List ℕ) (e : End Running) (d : List ℕ → List ℕ → Deed) (n : Next) → ((m rest : List ℕ) → Plain (perform tlcp P f e (d m rest)))
    → Plain (perform tlcp P f e (about d n))
about_plain P f e d not_ready h = record { accepted = refl; keeps = refl; sated = refl }
about_plain P f e d too_long h = record { accepted = refl; keeps = refl; sated = refl }
about_plain P f e d (ready t m x rest) h = h m rest

answer_plain : (P : Protection) (f : List ℕ) (e : End Running) (q : Question) (a : Answer) → Plain (perform tlcp P f e (answered e q a))
answer_plain P f e ClientRandom (yes p) = record { accepted = refl; keeps = refl; sated = refl }
answer_plain P f e ServerFlight (yes p) = record { accepted = refl; keeps = refl; sated = refl }
answer_plain P f e CheckCertificates (yes p) = about_plain P f e trusts_certificates (next e.buffered) (λ m rest. record { accepted = refl; keeps = refl; sated = refl })
answer_plain P f e CheckSignature (yes p) = about_plain P f e trusts_signature (next e.buffered) (λ m rest. record { accepted = refl; keeps = refl; sated = refl })
answer_plain P f e WrapPremaster (yes p) = record { accepted = refl; keeps = refl; sated = refl }
answer_plain P f e UnwrapPremaster (yes p) =
    cond_both (versioned p.premaster) _ _ (λ d. Plain (perform tlcp P f e d))
    (λ _. about_plain P f e (unwraps p.premaster) (next e.buffered) (λ m rest. record { accepted = refl; keeps = refl; sated = refl }))
    (λ _. record { accepted = refl; keeps = refl; sated = refl })
answer_plain P f e ClientRandom (no n) = record { accepted = refl; keeps = refl; sated = refl }
answer_plain P f e ServerFlight (no n) = record { accepted = refl; keeps = refl; sated = refl }
answer_plain P f e CheckCertificates (no n) = record { accepted = refl; keeps = refl; sated = refl }
answer_plain P f e CheckSignature (no n) = record { accepted = refl; keeps = refl; sated = refl }
answer_plain P f e WrapPremaster (no n) = record { accepted = refl; keeps = refl; sated = refl }
answer_plain P f e UnwrapPremaster (no n) = record { accepted = refl; keeps = refl; sated = refl }

module _ (P : Protection) (e : End Running) (q : Question) (a : Answer) (f out : List ℕ) where
  pub answer_refused : (r : Refusal) → refusal e (answer q a f (length out)) ≡ Some r → seen_by (Err r) e out ≡ answer_yields tlcp P e q a f out
  unfolding answer_yields
  answer_refused r h = sym (ap (λ o. seen P o out []) (refused_as tlcp P e (answer q a f (length out)) r h))

  pub answer_accepted : {d : Done} → refusal e (answer q a f (length out)) ≡ None → d ≡ done P (perform tlcp P f e (answered e q a)) out
      → seen_of_done d ≡ answer_yields tlcp P e q a f out
  unfolding answer_yields
  answer_accepted {d} h p =
      ap seen_of_done p ∙ plain_seen P (perform tlcp P f e (answered e q a)) out (answer_plain P f e q a)
      ∙ sym (ap (λ o. seen P o out []) (acted_as tlcp P e (answer q a f (length out)) h))
