-- What a message or an answer leads to may be done, and is nothing that only a record brings about.
use Rattle.std.proofs.Common.{◌≡◌, ℕ, ◌+◌, ◌*◌, ◌≤◌, Bool, true, false, cond, ◌&&◌, eqb, List, ◌∷◌, ◌++◌, length, drop, Some, None, Option, sym, refl, ap, ◌∙◌, append-nil, arith, lit≤, length-append, eqb-true}
use Rattle.octets.specs.declared.role.Role.{Role}
use Rattle.octets.specs.declared.role.Role.TheVariants.{Client, Server}
use Rattle.octets.specs.Octets.{same}
use Rattle.octets.proofs.Alike.{same_true}
use Rattle.records.specs.declared.fault.Layer.TheVariants.{Message as AtMessage, Stage as AtStage, Card as AtCard}
use Rattle.handshake.specs.Parts.{is_none, versioned, other_version, among}
use Rattle.handshake.specs.Frames.{Next, not_ready, too_long, ready, next}
use Rattle.handshake.specs.Hellos.{ClientHello, ServerHello, read_client_hello, read_server_hello}
use Rattle.handshake.specs.Certificates.{read_certificate}
use Rattle.handshake.specs.Exchanges.{read_exchange}
use Rattle.model.specs.declared.stage.Stage.{Stage}
use Rattle.model.specs.declared.stage.Stage.TheVariants.{AskClientRandom, AwaitServerHello, AwaitCertificate, AskCertificates, AwaitServerKeyExchange, AskSignature, AwaitServerHelloDone, AskWrapping, ClientAwaitChange, ClientAwaitFinished, AwaitClientHello, AskServerFlight, AwaitClientKeyExchange, AskUnwrapping, ServerAwaitChange, ServerAwaitFinished, Open, Closed, Dead}
use Rattle.model.specs.declared.question.Question.{Question}
use Rattle.model.specs.declared.question.Question.TheVariants.{ClientRandom, ServerFlight, CheckCertificates, CheckSignature, WrapPremaster, UnwrapPremaster}
use Rattle.model.specs.Stages.{asks, awaits}
use Rattle.model.specs.Messages.{finished, first_shared}
use Rattle.model.specs.Schedule.{Schedule}
use Rattle.model.specs.Endpoint.{End, Answer, yes, no}
use Rattle.model.specs.Deeds.{Deed, raises, takes_server_hello, takes_done, keeps_certificates, keeps_signature, keeps_wrapped, fails_check, trusts_certificates, trusts_signature, unwraps, finished_of}
use Rattle.model.specs.Refusals.{lengths_fit, takes_answer, asked_as}
use Rattle.model.specs.Turns.{chosen, on_client_hello, on_server_hello, on_certificate, on_exchange, on_finished, on_message, turned}
use Rattle.model.specs.Answers.{about, answered}
use Rattle.model.proofs.Fronts.{Front, can_die, next_is, none_is}
use Rattle.model.proofs.Fits.{Fits, ordinary}

module _ {H : Type 0} (K : Schedule H) where
  -- ---- messages
  client_hello_fits : (e : End H) (m x rest : List ℕ) (o : Option ClientHello) → can_die e.stage ≡ true → e.stage ≡ AwaitClientHello → drop 4 m ≡ x → read_client_hello x ≡ o → length rest ≤ length e.buffered → Fits K e (on_client_hello e o m rest)
  client_hello_fits e m x rest None v q d p r = (v, lit≤ tt)
  client_hello_fits e m x rest (Some h) v q d p r = go (among 0 h.compressions) (first_shared h.suites e.suites) refl
    where
      go : (b : Bool) (o : Option ℕ) → first_shared h.suites e.suites ≡ o → Fits K e (cond b (chosen o h.random m rest) (raises AtMessage 47))
      go true None z = (v, lit≤ tt)
      go true (Some s) z = (q, rw (d, p) refl, rw (d, p) z, r)
      go false o z = (v, lit≤ tt)

  server_hello_fits : (e : End H) (m x rest : List ℕ) (o : Option ServerHello) → can_die e.stage ≡ true → e.stage ≡ AwaitServerHello → drop 4 m ≡ x → read_server_hello x ≡ o → length rest ≤ length e.buffered → Fits K e (on_server_hello e o m rest)
  server_hello_fits e m x rest None v q d p r = (v, lit≤ tt)
  server_hello_fits e m x rest (Some h) v q d p r = go (among h.suite e.suites) (eqb h.compression 0) refl
    where
      go : (b b2 : Bool) → among h.suite e.suites ≡ b → Fits K e (cond (b && b2) (takes_server_hello h.random h.suite m rest) (raises AtMessage 47))
      go true true z = (q, rw (d, p) refl, rw (d, p) refl, z, r)
      go true false z = (v, lit≤ tt)
      go false b2 z = (v, lit≤ tt)

  certificate_fits : (e : End H) (o : Option (List (List ℕ))) → can_die e.stage ≡ true → e.stage ≡ AwaitCertificate → Fits K e (on_certificate o)
  certificate_fits e None v q = (v, lit≤ tt)
  certificate_fits e (Some cs) v q = go (eqb (length cs) 2)
    where
      go : (b : Bool) → Fits K e (cond b keeps_certificates (raises AtMessage 42))
      go true = q
      go false = (v, lit≤ tt)

  exchange_fits : (e : End H) (o : Option (List ℕ)) (d : Deed) → can_die e.stage ≡ true → Fits K e d → Fits K e (on_exchange o d)
  exchange_fits e None d v q = (v, lit≤ tt)
  exchange_fits e (Some x) d v q = q

  twelve : (a b c : ℕ) (v : List ℕ) → 12 ≡ a * 65536 + b * 256 + c → length v ≡ 12 → 20 ∷ (a ∷ (b ∷ (c ∷ v))) ≡ finished v
  twelve a b c v q l =
      let a0 : a ≡ 0 = omega arith in let b0 : b ≡ 0 = omega arith in let c0 : c ≡ 12 = omega arith in
      rw (a0, b0, c0, l) refl

  finished_fits : (X : Role) (e : End H) (d : Deed) (m x rest : List ℕ) → can_die e.stage ≡ true → Front e.buffered 20 m x rest → (e.buffered ≡ m → m ≡ finished_of K X e → Fits K e d) → Fits K e (on_finished K X e d x rest)
  finished_fits X e d m x rest v p k = go (eqb (length x) 12) (is_none rest) (same x (K.verify_data X e.master e.transcript)) refl refl refl
    where
      go : (b1 b2 b3 : Bool) → eqb (length x) 12 ≡ b1 → is_none rest ≡ b2 → same x (K.verify_data X e.master e.transcript) ≡ b3 → Fits K e (cond b1 (cond b2 (cond b3 d fails_check) (raises AtStage 10)) (raises AtMessage 50))
      go true true true q1 q2 q3 =
          let l = eqb-true (length x) 12 q1 in let r = none_is rest q2 in let w = same_true x _ q3 in
          let n : 12 ≡ p.a * 65536 + p.b * 256 + p.c = sym l ∙ p.length_is in
          k (p.all_is ∙ ap (λ z. m ++ z) r ∙ append-nil m) (p.message_is ∙ twelve p.a p.b p.c x n l ∙ ap finished w)
      go true true false q1 q2 q3 = v
      go true false b3 q1 q2 q3 = (v, lit≤ tt)
      go false b2 b3 q1 q2 q3 = (v, lit≤ tt)

  body_is : (xs : List ℕ) (t : ℕ) (m x rest : List ℕ) → Front xs t m x rest → drop 4 m ≡ x
  body_is xs t m x rest p = ap (drop 4) p.message_is

  rest_short : (xs : List ℕ) (t : ℕ) (m x rest : List ℕ) → Front xs t m x rest → length rest ≤ length xs
  rest_short xs t m x rest p = let a = p.all_is in let l = length-append m rest in rw a (omega arith)

  done_fits : (e : End H) (m rest : List ℕ) (b : Bool) → can_die e.stage ≡ true → e.stage ≡ AwaitServerHelloDone → length rest ≤ length e.buffered → Fits K e (cond b (takes_done m rest) (raises AtMessage 50))
  done_fits e m rest true v q l = (q, l)
  done_fits e m rest false v q l = (v, lit≤ tt)

  hello_fits : (e : End H) (b : Bool) (d : Deed) → can_die e.stage ≡ true → Fits K e d → Fits K e (cond b (raises AtMessage 70) d)
  hello_fits e true d v f = (v, lit≤ tt)
  hello_fits e false d v f = f

  message_fits : (t : Stage) (e : End H) (m x rest : List ℕ) → can_die e.stage ≡ true → e.stage ≡ t → Front e.buffered (awaits t) m x rest → Fits K e (on_message K t e m x rest)
  message_fits AskClientRandom e m x rest v q p = (v, lit≤ tt)
  message_fits AwaitServerHello e m x rest v q p = hello_fits e (other_version x) _ v (server_hello_fits e m x rest (read_server_hello x) v q (body_is _ _ m x rest p) refl (rest_short _ _ m x rest p))
  message_fits AwaitCertificate e m x rest v q p = certificate_fits e (read_certificate x) v q
  message_fits AskCertificates e m x rest v q p = (v, lit≤ tt)
  message_fits AwaitServerKeyExchange e m x rest v q p = exchange_fits e (read_exchange x) keeps_signature v q
  message_fits AskSignature e m x rest v q p = (v, lit≤ tt)
  message_fits AwaitServerHelloDone e m x rest v q p = done_fits e m rest (is_none x) v q (rest_short _ _ m x rest p)
  message_fits AskWrapping e m x rest v q p = (v, lit≤ tt)
  message_fits ClientAwaitChange e m x rest v q p = (v, lit≤ tt)
  message_fits ClientAwaitFinished e m x rest v q p = finished_fits Server e _ m x rest v p (λ a b. (q, a, b))
  message_fits AwaitClientHello e m x rest v q p = hello_fits e (other_version x) _ v (client_hello_fits e m x rest (read_client_hello x) v q (body_is _ _ m x rest p) refl (rest_short _ _ m x rest p))
  message_fits AskServerFlight e m x rest v q p = (v, lit≤ tt)
  message_fits AwaitClientKeyExchange e m x rest v q p = exchange_fits e (read_exchange x) keeps_wrapped v q
  message_fits AskUnwrapping e m x rest v q p = (v, lit≤ tt)
  message_fits ServerAwaitChange e m x rest v q p = (v, lit≤ tt)
  message_fits ServerAwaitFinished e m x rest v q p = finished_fits Client e _ m x rest v p (λ a b. (q, a, b))
  message_fits Open e m x rest v q p = (v, lit≤ tt)
  message_fits Closed e m x rest v q p = (v, lit≤ tt)
  message_fits Dead e m x rest v q p = (v, lit≤ tt)

  pub turned_fits : (e : End H) (n : Next) → can_die e.stage ≡ true → next e.buffered ≡ n → Fits K e (turned K e n)
  turned_fits e not_ready v q = tt
  turned_fits e too_long v q = (v, lit≤ tt)
  turned_fits e (ready t m x rest) v q = go (eqb t (awaits e.stage)) refl
    where
      go : (b : Bool) → eqb t (awaits e.stage) ≡ b → Fits K e (cond b (on_message K e.stage e m x rest) (raises AtStage 10))
      go true h = let k = eqb-true t _ h in message_fits e.stage e m x rest v refl (rw k at (next_is e.buffered t m x rest q))
      go false h = (v, lit≤ tt)

  -- ---- answers
  about_fits : (e : End H) (d : List ℕ → List ℕ → Deed) (n : Next) → next e.buffered ≡ n → ((m rest : List ℕ) → length rest ≤ length e.buffered → Fits K e (d m rest)) → Fits K e (about d n)
  about_fits e d not_ready q f = tt
  about_fits e d too_long q f = tt
  about_fits e d (ready t m x rest) q f = f m rest (rest_short _ t m x rest (next_is e.buffered t m x rest q))

  pub asked_is : (t : Stage) (q : Question) → asked_as (asks t) q ≡ true → asks t ≡ Some q
  asked_is t q h = grind arith

  pub answered_fits : (e : End H) (q : Question) (a : Answer) → asks e.stage ≡ Some q → lengths_fit q a ≡ true → takes_answer q a ≡ true → Fits K e (answered e q a)
  answered_fits e ClientRandom (yes p) h l y = (grind arith, eqb-true _ _ l)
  answered_fits e ServerFlight (yes p) h l y = (grind arith, grind arith, grind arith, l)
  answered_fits e CheckCertificates (yes p) h l y = let s : e.stage ≡ AskCertificates = grind arith in about_fits e trusts_certificates (next e.buffered) refl (λ m rest l'. (s, l'))
  answered_fits e CheckSignature (yes p) h l y = let s : e.stage ≡ AskSignature = grind arith in about_fits e trusts_signature (next e.buffered) refl (λ m rest l'. (s, l'))
  answered_fits e WrapPremaster (yes p) h l y = (grind arith, grind arith)
  answered_fits e UnwrapPremaster (yes p) h l y = let s : e.stage ≡ AskUnwrapping = grind arith in go (versioned p.premaster) s
    where
      go : (b : Bool) → e.stage ≡ AskUnwrapping → Fits K e (cond b (about (unwraps p.premaster) (next e.buffered)) (raises AtCard 40))
      go true s = about_fits e (unwraps p.premaster) (next e.buffered) refl (λ m rest l'. (s, l'))
      go false s = (ap can_die s, lit≤ tt)
  answered_fits e ClientRandom (no n) h l y = tt
  answered_fits e ServerFlight (no n) h l y = let s : e.stage ≡ AskServerFlight = grind arith in (ap can_die s, lit≤ tt)
  answered_fits e CheckCertificates (no n) h l y = let s : e.stage ≡ AskCertificates = grind arith in (ap can_die s, grind arith)
  answered_fits e CheckSignature (no n) h l y = let s : e.stage ≡ AskSignature = grind arith in (ap can_die s, grind arith)
  answered_fits e WrapPremaster (no n) h l y = let s : e.stage ≡ AskWrapping = grind arith in (ap can_die s, lit≤ tt)
  answered_fits e UnwrapPremaster (no n) h l y = let s : e.stage ≡ AskUnwrapping = grind arith in (ap can_die s, lit≤ tt)

  pub turned_ordinary : (e : End H) (n : Next) → ordinary (turned K e n) ≡ true
  turned_ordinary e not_ready = refl
  turned_ordinary e too_long = refl
  turned_ordinary e (ready t m x rest) = go (eqb t (awaits e.stage)) e.stage
    where
      hello_handed : (b : Bool) (d : Deed) → ordinary d ≡ true → ordinary (cond b (raises AtMessage 70) d) ≡ true
      hello_handed true d f = refl
      hello_handed false d f = f

      client_handed : (o : Option ClientHello) → ordinary (on_client_hello e o m rest) ≡ true
      client_handed None = refl
      client_handed (Some h) = two (among 0 h.compressions) (first_shared h.suites e.suites)
        where
          two : (b : Bool) (o : Option ℕ) → ordinary (cond b (chosen o h.random m rest) (raises AtMessage 47)) ≡ true
          two true None = refl
          two true (Some s) = refl
          two false o = refl

      server_handed : (o : Option ServerHello) → ordinary (on_server_hello e o m rest) ≡ true
      server_handed None = refl
      server_handed (Some h) = two (among h.suite e.suites && eqb h.compression 0)
        where
          two : (b : Bool) → ordinary (cond b (takes_server_hello h.random h.suite m rest) (raises AtMessage 47)) ≡ true
          two true = refl
          two false = refl

      certificate_handed : (o : Option (List (List ℕ))) → ordinary (on_certificate o) ≡ true
      certificate_handed None = refl
      certificate_handed (Some cs) = grind arith

      exchange_handed : (o : Option (List ℕ)) (d : Deed) → ordinary d ≡ true → ordinary (on_exchange o d) ≡ true
      exchange_handed None d q = refl
      exchange_handed (Some y) d q = q

      finished_handed : (X : Role) (d : Deed) → ordinary d ≡ true → ordinary (on_finished K X e d x rest) ≡ true
      finished_handed X d q = three (eqb (length x) 12) (is_none rest) (same x (K.verify_data X e.master e.transcript))
        where
          three : (b1 b2 b3 : Bool) → ordinary (cond b1 (cond b2 (cond b3 d fails_check) (raises AtStage 10)) (raises AtMessage 50)) ≡ true
          three true true true = q
          three true true false = refl
          three true false b3 = refl
          three false b2 b3 = refl

      at : (s : Stage) → ordinary (on_message K s e m x rest) ≡ true
      at AskClientRandom = refl
      at AwaitServerHello = hello_handed (other_version x) _ (server_handed (read_server_hello x))
      at AwaitCertificate = certificate_handed (read_certificate x)
      at AskCertificates = refl
      at AwaitServerKeyExchange = exchange_handed (read_exchange x) keeps_signature refl
      at AskSignature = refl
      at AwaitServerHelloDone = grind arith
      at AskWrapping = refl
      at ClientAwaitChange = refl
      at ClientAwaitFinished = finished_handed Server _ refl
      at AwaitClientHello = hello_handed (other_version x) _ (client_handed (read_client_hello x))
      at AskServerFlight = refl
      at AwaitClientKeyExchange = exchange_handed (read_exchange x) keeps_wrapped refl
      at AskUnwrapping = refl
      at ServerAwaitChange = refl
      at ServerAwaitFinished = finished_handed Client _ refl
      at Open = refl
      at Closed = refl
      at Dead = refl

      go : (b : Bool) (s : Stage) → ordinary (cond b (on_message K s e m x rest) (raises AtStage 10)) ≡ true
      go true s = at s
      go false s = refl

  about_handed : (d : List ℕ → List ℕ → Deed) (n : Next) → ((m rest : List ℕ) → ordinary (d m rest) ≡ true) → ordinary (about d n) ≡ true
  about_handed d not_ready f = refl
  about_handed d too_long f = refl
  about_handed d (ready t m x rest) f = f m rest

  pub answered_ordinary : (e : End H) (q : Question) (a : Answer) → ordinary (answered e q a) ≡ true
  answered_ordinary e ClientRandom (yes p) = refl
  answered_ordinary e ServerFlight (yes p) = refl
  answered_ordinary e CheckCertificates (yes p) = about_handed trusts_certificates (next e.buffered) (λ m rest. refl)
  answered_ordinary e CheckSignature (yes p) = about_handed trusts_signature (next e.buffered) (λ m rest. refl)
  answered_ordinary e WrapPremaster (yes p) = refl
  answered_ordinary e UnwrapPremaster (yes p) = go (versioned p.premaster)
    where
      go : (b : Bool) → ordinary (cond b (about (unwraps p.premaster) (next e.buffered)) (raises AtCard 40)) ≡ true
      go true = about_handed (unwraps p.premaster) (next e.buffered) (λ m rest. refl)
      go false = refl
  answered_ordinary e ClientRandom (no n) = refl
  answered_ordinary e ServerFlight (no n) = refl
  answered_ordinary e CheckCertificates (no n) = refl
  answered_ordinary e CheckSignature (no n) = refl
  answered_ordinary e WrapPremaster (no n) = refl
  answered_ordinary e UnwrapPremaster (no n) = refl
