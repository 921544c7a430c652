-- Calls that are refused leave all as it is; what an accepted call comes to; records at the front of what waits.
use Rattle.std.proofs.Common.{◌≡◌, ℕ, suc, ◌+◌, ◌*◌, ◌/◌, ◌%◌, ◌^◌, ◌<◌, ◌≤◌, Bool, true, false, cond, leb, ◌⊎◌, List, [], ◌∷◌, ◌++◌, length, take, drop, Some, None, Ok, Err, Option, Result, sym, refl, ap, ◌∙◌, inl, inr, arith, length-append, leb-true}
use lib.Seq.{take-append-le, take-append_seam, drop-append_seam}
use Rattle.octets.specs.Octets.{Octets}
use Rattle.records.specs.declared.fault.Layer.TheVariants.{Record as AtRecord}
use Rattle.records.specs.Kinds.{known_kind}
use Rattle.records.specs.Records.{framed, Received, more, faulty, whole, received, bounded, limit_of}
use Rattle.protection.specs.declared.error.OpenError.{OpenError}
use Rattle.protection.specs.Limits.{content_limit, fresh_size}
use Rattle.protection.specs.Owed.{Sealable}
use Rattle.handshake.specs.Frames.{next}
use Rattle.model.specs.declared.question.Question.{Question}
use Rattle.model.specs.declared.refusal.Refusal.{Refusal}
use Rattle.model.specs.Limits.{read_limit}
use Rattle.model.specs.Schedule.{Schedule}
use Rattle.model.specs.Protections.{Protection, opened_with}
use Rattle.model.specs.Endpoint.{End, Call, hand_in, turn, answer, look, send, close, with_in}
use Rattle.model.specs.Outcomes.{Outcome, refusing}
use Rattle.model.specs.Deeds.{Deed, waits, halts, closes, raises, client_changes, server_changes, buffers, releases, takes_client_hello, takes_server_hello, takes_done, keeps_certificates, keeps_signature, keeps_wrapped, fails_check, client_opens, server_opens, greets, offers, trusts_certificates, trusts_signature, exchanges, unwraps, sends, perform}
use Rattle.model.specs.Refusals.{refusal}
use Rattle.model.specs.Contents.{on_content}
use Rattle.model.specs.Turns.{turned}
use Rattle.model.specs.Answers.{answered}
use Rattle.model.specs.Steps.{on_opening, on_record, taken, act, gated, step}
use Rattle.model.specs.Runs.{Begins}
use Rattle.model.specs.Law.{counts, CalmAs}
use Rattle.model.proofs.ReadBack.{leb_is}
use Rattle.model.proofs.Fronts.{never}

-- ---- records at the front of what waits
pub bounded_front : (limit k n : ℕ) (x rest ys zs : List ℕ) → n ≡ length x → length x ≤ limit → ys ++ zs ≡ x ++ rest → (bounded limit k n ys ≡ more) ⊎ (bounded limit k n ys ≡ whole k x)
bounded_front limit k n x rest ys zs e l w = go (leb n (length ys)) refl
  where
    h : leb n limit ≡ true
    h = leb_is n limit (omega arith)

    go : (t : Bool) → leb n (length ys) ≡ t → (cond (leb n limit) (cond t (whole k (take n ys)) more) (faulty 22) ≡ more) ⊎ (cond (leb n limit) (cond t (whole k (take n ys)) more) (faulty 22) ≡ whole k x)
    go false q = inl (rw h refl)
    go true q =
        let g = leb-true n (length ys) q in
        let y : take n ys ≡ x = sym (take-append-le n ys zs g) ∙ ap (take n) w ∙ ap (λ m. take m (x ++ rest)) e ∙ take-append_seam x rest in
        inr (rw h (ap (whole k) y))

pub framed_front : (limit k : ℕ) (x rest xs : List ℕ) → length x ≤ limit → Begins xs (framed k x ++ rest) → (received limit xs ≡ more) ⊎ (received limit xs ≡ whole k x)
framed_front limit k x rest [] l b = inl refl
framed_front limit k x rest (a ∷ []) l b = inl refl
framed_front limit k x rest (a ∷ (v ∷ [])) l b = inl refl
framed_front limit k x rest (a ∷ (v ∷ (w ∷ []))) l b = inl refl
framed_front limit k x rest (a ∷ (v ∷ (w ∷ (c ∷ [])))) l b = inl refl
framed_front limit k x rest (a ∷ (v ∷ (w ∷ (c ∷ (d ∷ ys))))) l b =
    let z = b.1 in
    let ka : a ≡ k = cc in
    let va : v ≡ 1 = cc in
    let wa : w ≡ 1 = cc in
    let ca : c ≡ length x / 256 = cc in
    let da : d ≡ length x % 256 = cc in
    let ra : ys ++ b.0 ≡ x ++ rest = cc in
    let n : c * 256 + d ≡ length x = omega arith in
    rw (va, wa, ka) (bounded_front limit k (c * 256 + d) x rest ys b.0 n l ra)

pub framed-whole : (limit k : ℕ) (x rest : List ℕ) → length x ≤ limit → received limit (framed k x ++ rest) ≡ whole k x
framed-whole limit k x rest l =
    let n : length x / 256 * 256 + length x % 256 ≡ length x = omega arith in
    let a : leb (length x) limit ≡ true = leb_is _ _ l in
    let b : leb (length x) (length (x ++ rest)) ≡ true = rw (length-append x rest) (leb_is _ _ (omega arith)) in
    rw (n, a, b) (ap (whole k) (take-append_seam x rest))

pub drop-framed : (k : ℕ) (x rest : List ℕ) → drop (length x + 5) (framed k x ++ rest) ≡ rest
drop-framed k x rest = let q : length x + 5 ≡ suc (suc (suc (suc (suc (length x))))) = omega arith in rw q (drop-append_seam x rest)

pub leb_five : (n : ℕ) → leb 1 (n + 5) ≡ true
leb_five n = leb_is 1 (n + 5) (omega arith)

pub begins_none : (xs : List ℕ) → Begins xs [] → xs ≡ []
begins_none [] b = refl
begins_none (x ∷ xs) b = let q = b.1 in cc

-- what may be sealed, at any number and for any kind
pub record Sendable (x f : List ℕ) : Type 0 where
  pub some_content : 1 ≤ length x
  pub not_long : length x ≤ content_limit
  pub fresh_enough : length f ≡ fresh_size
  pub x_octets : Octets x
  pub fresh_octets : Octets f

pub sealable : (n t : ℕ) (x f : List ℕ) → n < 2 ^ 64 → t < 256 → Sendable x f → Sealable n t x f
sealable n t x f i j s = record { number = i; kind = j; least = s.some_content; most = s.not_long; content = s.x_octets; sixteen = s.fresh_enough; fresh = s.fresh_octets }

module _ {H : Type 0} (K : Schedule H) (P : Protection) where
  -- a call that leaves all as it is
  pub record Still (e : End H) (c : Call) (o : Outcome H) : Type 0 where
    pub same_end : o.end ≡ e
    pub writes_none : o.writes ≡ []
    pub consumes_none : o.consumed ≡ 0
    pub answers_none : o.premasters ≡ []
    pub opens_none : o.opened ≡ []
    pub joins_none : o.joined ≡ []
    pub makes_none : o.finished ≡ []
    pub compares_none : o.compared ≡ []
    pub uncounted : counts c o ≡ 0

  pub refused_as : (e : End H) (c : Call) (r : Refusal) → refusal e c ≡ Some r → step K P e c ≡ refusing r e
  unfolding step
  refused_as e c r q = ap (λ o. gated K P o e c) q

  pub acted_as : (e : End H) (c : Call) → refusal e c ≡ None → step K P e c ≡ act K P e c
  unfolding step
  acted_as e c q = ap (λ o. gated K P o e c) q

  pub deed_accepted : (f : List ℕ) (e : End H) (d : Deed) → (perform K P f e d).refused ≡ None
  deed_accepted f e waits = refl
  deed_accepted f e halts = refl
  deed_accepted f e closes = refl
  deed_accepted f e (raises l n) = refl
  deed_accepted f e client_changes = refl
  deed_accepted f e server_changes = refl
  deed_accepted f e (buffers x) = refl
  deed_accepted f e (releases x) = refl
  deed_accepted f e (takes_client_hello r u m rest) = refl
  deed_accepted f e (takes_server_hello r u m rest) = refl
  deed_accepted f e (takes_done m rest) = refl
  deed_accepted f e keeps_certificates = refl
  deed_accepted f e keeps_signature = refl
  deed_accepted f e keeps_wrapped = refl
  deed_accepted f e fails_check = refl
  deed_accepted f e (client_opens m) = refl
  deed_accepted f e (server_opens m) = refl
  deed_accepted f e (greets r) = refl
  deed_accepted f e (offers p) = refl
  deed_accepted f e (trusts_certificates m rest) = refl
  deed_accepted f e (trusts_signature m rest) = refl
  deed_accepted f e (exchanges q w) = refl
  deed_accepted f e (unwraps q m rest) = refl
  deed_accepted f e (sends x) = refl

  pub deed_whole : (f : List ℕ) (e : End H) (d : Deed) → (perform K P f e d).more ≡ false
  deed_whole f e waits = refl
  deed_whole f e halts = refl
  deed_whole f e closes = refl
  deed_whole f e (raises l n) = refl
  deed_whole f e client_changes = refl
  deed_whole f e server_changes = refl
  deed_whole f e (buffers x) = refl
  deed_whole f e (releases x) = refl
  deed_whole f e (takes_client_hello r u m rest) = refl
  deed_whole f e (takes_server_hello r u m rest) = refl
  deed_whole f e (takes_done m rest) = refl
  deed_whole f e keeps_certificates = refl
  deed_whole f e keeps_signature = refl
  deed_whole f e keeps_wrapped = refl
  deed_whole f e fails_check = refl
  deed_whole f e (client_opens m) = refl
  deed_whole f e (server_opens m) = refl
  deed_whole f e (greets r) = refl
  deed_whole f e (offers p) = refl
  deed_whole f e (trusts_certificates m rest) = refl
  deed_whole f e (trusts_signature m rest) = refl
  deed_whole f e (exchanges q w) = refl
  deed_whole f e (unwraps q m rest) = refl
  deed_whole f e (sends x) = refl

  pub record_accepted : (f : List ℕ) (e : End H) (b : Bool) (k : ℕ) (x : List ℕ) → (on_record K P f e b k x).refused ≡ None
  record_accepted f e false k x = deed_accepted f e (on_content e k x)
  record_accepted f e true k x = go (leb read_limit e.reads) (opened_with P e.protection e.reads k x)
    where
      go : (b : Bool) (o : Result (List ℕ) OpenError) → (cond b (perform K P f e (raises AtRecord 10)) (on_opening K P f e k o)).refused ≡ None
      go true o = refl
      go false (Err y) = refl
      go false (Ok y) = deed_accepted f (with_in true (e.reads + 1) e) (on_content (with_in true (e.reads + 1) e) k y)

  pub taken_accepted : (f : List ℕ) (e : End H) (r : Received) → (taken K P f e r).refused ≡ None
  taken_accepted f e more = refl
  taken_accepted f e (faulty n) = refl
  taken_accepted f e (whole k x) = go (known_kind k)
    where
      go : (b : Bool) → (cond b (on_record K P f e e.reads_protected k x) (perform K P f e waits)).refused ≡ None
      go true = record_accepted f e e.reads_protected k x
      go false = refl

  pub record_whole : (f : List ℕ) (e : End H) (b : Bool) (k : ℕ) (x : List ℕ) → (on_record K P f e b k x).more ≡ false
  record_whole f e false k x = deed_whole f e (on_content e k x)
  record_whole f e true k x = go (leb read_limit e.reads) (opened_with P e.protection e.reads k x)
    where
      go : (b : Bool) (o : Result (List ℕ) OpenError) → (cond b (perform K P f e (raises AtRecord 10)) (on_opening K P f e k o)).more ≡ false
      go true o = refl
      go false (Err y) = refl
      go false (Ok y) = deed_whole f (with_in true (e.reads + 1) e) (on_content (with_in true (e.reads + 1) e) k y)

  pub kind_whole : (f : List ℕ) (e : End H) (k : ℕ) (x : List ℕ) → (cond (known_kind k) (on_record K P f e e.reads_protected k x) (perform K P f e waits)).more ≡ false
  kind_whole f e k x = go (known_kind k)
    where
      go : (b : Bool) → (cond b (on_record K P f e e.reads_protected k x) (perform K P f e waits)).more ≡ false
      go true = record_whole f e e.reads_protected k x
      go false = refl

  pub act_accepted : (e : End H) (c : Call) → (act K P e c).refused ≡ None
  act_accepted e (hand_in xs f out place) = taken_accepted f e (received (limit_of e.reads_protected) xs)
  act_accepted e (turn f out) = deed_accepted f e (turned K e (next e.buffered))
  act_accepted e (answer q a f out) = deed_accepted f e (answered e q a)
  act_accepted e (look q) = refl
  act_accepted e (send x f out) = refl
  act_accepted e (close f out) = refl

  pub accepted : (e : End H) (c : Call) → refusal e c ≡ None → (step K P e c).refused ≡ None
  accepted e c q = ap (λ (o : Outcome H). o.refused) (acted_as e c q) ∙ act_accepted e c

  pub still_refused : (e : End H) (c : Call) (r : Refusal) → refusal e c ≡ Some r → Still e c (step K P e c)
  still_refused e c r q = rw (refused_as e c r q) (record { same_end = refl; writes_none = refl; consumes_none = refl; answers_none = refl; opens_none = refl; joins_none = refl; makes_none = refl; compares_none = refl; uncounted = refl })

  pub accepted_back : (e : End H) (c : Call) → (step K P e c).refused ≡ None → refusal e c ≡ None
  accepted_back e c q = go (refusal e c) refl
    where
      is_some : Option Refusal → Bool
      is_some None = false
      is_some (Some r) = true

      go : (o : Option Refusal) → refusal e c ≡ o → refusal e c ≡ None
      go None h = h
      go (Some r) h = never (ap is_some (ap (λ (o : Outcome H). o.refused) (sym (refused_as e c r h)) ∙ q))

  -- refused and still, or accepted
  pub either : {B : Type 0} (e : End H) (c : Call) → (refusal e c ≡ None → Still e c (step K P e c) ⊎ B) → Still e c (step K P e c) ⊎ B
  either {B} e c f = go (refusal e c) refl
    where
      go : (o : Option Refusal) → refusal e c ≡ o → Still e c (step K P e c) ⊎ B
      go (Some r) q = inl (still_refused e c r q)
      go None q = f q

  pub still_look : (e : End H) (k : Question) → refusal e (look k) ≡ None → Still e (look k) (step K P e (look k))
  still_look e k q = rw (acted_as e (look k) q) (record { same_end = refl; writes_none = refl; consumes_none = refl; answers_none = refl; opens_none = refl; joins_none = refl; makes_none = refl; compares_none = refl; uncounted = refl })

  pub still_more : (e : End H) (xs f : List ℕ) (out place : ℕ) → refusal e (hand_in xs f out place) ≡ None → received (limit_of e.reads_protected) xs ≡ more → Still e (hand_in xs f out place) (step K P e (hand_in xs f out place))
  still_more e xs f out place q r = rw (acted_as e (hand_in xs f out place) q, r) (record { same_end = refl; writes_none = refl; consumes_none = refl; answers_none = refl; opens_none = refl; joins_none = refl; makes_none = refl; compares_none = refl; uncounted = refl })

  pub looks : (e : End H) (k : Question) → Still e (look k) (step K P e (look k))
  looks e k = go (refusal e (look k)) refl
    where
      go : (o : Option Refusal) → refusal e (look k) ≡ o → Still e (look k) (step K P e (look k))
      go (Some r) q = still_refused e (look k) r q
      go None q = still_look e k q

  pub closing : (e : End H) (f : List ℕ) (out : ℕ) (w : List ℕ) → CalmAs (step K P e (close f out)).refused (close f out) w → Still e (close f out) (step K P e (close f out))
  closing e f out w k = go (refusal e (close f out)) refl
    where
      go : (o : Option Refusal) → refusal e (close f out) ≡ o → Still e (close f out) (step K P e (close f out))
      go (Some r) q = still_refused e (close f out) r q
      go None q = absurd (rw (accepted e (close f out) q) at k)
