-- What an end has told and sealed, by cases over the deeds.
use Rattle.std.proofs.Common.{◌≡◌, ℕ, ◌≤◌, Bool, true, false, List, [], ◌∷◌, ◌++◌, length, drop, Some, sym, refl, ap, ◌∙◌, true≢false, append_assoc, append-nil}
use Rattle.octets.specs.declared.role.Role.{Role}
use Rattle.octets.specs.declared.role.Role.TheVariants.{Client, Server}
use Rattle.records.specs.Kinds.{alert_kind, handshake_kind, data_kind}
use Rattle.handshake.specs.Hellos.{read_client_hello, read_server_hello}
use Rattle.model.specs.declared.stage.Stage.{Stage}
use Rattle.model.specs.declared.stage.Stage.TheVariants.{AskClientRandom, AwaitServerHello, AwaitCertificate, AskCertificates, AwaitServerKeyExchange, AskSignature, AwaitServerHelloDone, AskWrapping, ClientAwaitChange, ClientAwaitFinished, AwaitClientHello, AskServerFlight, AwaitClientKeyExchange, AskUnwrapping, ServerAwaitChange, ServerAwaitFinished, Open, Closed, Dead}
use Rattle.model.specs.Messages.{client_hello, server_hello, certificate, server_key_exchange, server_hello_done, client_key_exchange, finished, first_shared, offer_in, offer_random, choice_in, choice_random}
use Rattle.model.specs.Schedule.{Schedule, ScheduleLaws, joined_octets, absorbed}
use Rattle.model.specs.Protections.{Protection}
use Rattle.model.specs.Endpoint.{End, Parts}
use Rattle.model.specs.Outcomes.{Protected, Outcome, put}
use Rattle.model.specs.Deeds.{Deed, waits, halts, closes, raises, client_changes, server_changes, buffers, releases, takes_client_hello, takes_server_hello, takes_done, keeps_certificates, keeps_signature, keeps_wrapped, fails_check, client_opens, server_opens, greets, offers, trusts_certificates, trusts_signature, exchanges, unwraps, sends, flight, hearing, finished_of, keyed, perform}
use Rattle.model.specs.Runs.{Check, value, secret, Past, sealed_in, later}
use Rattle.model.specs.Law.{of_kind}
use Rattle.model.proofs.Lists.{of_kind-++}
use Rattle.model.proofs.ReadBack.{read_back_client, read_back_server}
use Rattle.model.proofs.Fronts.{never}
use Rattle.model.proofs.Fits.{Fits}
use Rattle.model.proofs.Local.{Sound, at}

pub absorbed-++ : {H : Type 0} (K : Schedule H) (h : H) (xs ys : List (List ℕ)) → absorbed K h (xs ++ ys) ≡ absorbed K (absorbed K h xs) ys
absorbed-++ K h [] ys = refl
absorbed-++ K h (x ∷ xs) ys = absorbed-++ K (K.absorb h x) xs ys

-- the running hash after messages one by one is the hash of their octets
pub absorbed_joined : {H : Type 0} (K : Schedule H) → ScheduleLaws K → (h : H) (ms : List (List ℕ)) → absorbed K h ms ≡ K.absorb h (joined_octets ms)
absorbed_joined K kl h [] = sym (kl.none_more h)
absorbed_joined K kl h (m ∷ ms) = absorbed_joined K kl (K.absorb h m) ms ∙ kl.in_pieces h m (joined_octets ms)

-- the handshake contents among records, one after another
pub joined-++ : (xs ys : List (List ℕ)) → joined_octets (xs ++ ys) ≡ joined_octets xs ++ joined_octets ys
joined-++ [] ys = refl
joined-++ (x ∷ xs) ys = ap (λ l. x ++ l) (joined-++ xs ys) ∙ sym (append_assoc x (joined_octets xs) (joined_octets ys))

abbrev pub spoken : List Protected → List ℕ
spoken xs = joined_octets (of_kind handshake_kind xs)

pub spoken-++ : (xs ys : List Protected) → spoken (xs ++ ys) ≡ spoken xs ++ spoken ys
spoken-++ xs ys = ap joined_octets (of_kind-++ handshake_kind xs ys) ∙ joined-++ (of_kind handshake_kind xs) (of_kind handshake_kind ys)

-- what one message tells, if it is a hello
abbrev pub offer_told : List ℕ → List ℕ
offer_told m = offer_in (read_client_hello (drop 4 m))

abbrev pub c_random_told : List ℕ → List ℕ
c_random_told m = offer_random (read_client_hello (drop 4 m))

abbrev pub choice_told : List ℕ → ℕ
choice_told m = choice_in (read_server_hello (drop 4 m))

abbrev pub s_random_told : List ℕ → List ℕ
s_random_told m = choice_random (read_server_hello (drop 4 m))

-- the two hellos that a message list begins with
pub record Hellos (X : Role) (suites : List ℕ) (ms : List (List ℕ)) : Type 0 where
  pub first : List ℕ
  pub second : List ℕ
  pub rest : List (List ℕ)
  pub are : ms ≡ first ∷ (second ∷ rest)
  pub own : X ≡ Client → offer_told first ≡ suites
  pub picks : X ≡ Server → first_shared (offer_told first) suites ≡ Some (choice_told second)

pub record Spoke {H : Type 0} (K : Schedule H) (X : Role) (suites : List ℕ) (made : List Check) (sealed : List Protected) (messages : List (List ℕ)) : Type 0 where
  pub check : Check
  pub rest : List Protected
  pub more : List (List ℕ)
  pub finish_is : made ≡ check ∷ []
  pub sealed_is : sealed ≡ record { number = 0; kind = handshake_kind; content = finished (value K check) } ∷ rest
  pub rest_is : spoken rest ≡ []
  pub label_is : check.label ≡ X
  pub both : Hellos X suites check.messages
  pub goes_on : messages ≡ check.messages ++ more

pub hellos_on : (X : Role) (suites : List ℕ) (ms js : List (List ℕ)) → Hellos X suites ms → Hellos X suites (ms ++ js)
hellos_on X suites ms js h = record { first = h.first; second = h.second; rest = h.rest ++ js; are = ap (λ l. l ++ js) h.are; own = h.own; picks = h.picks }

pub secret_on : {H : Type 0} (K : Schedule H) (X : Role) (suites : List ℕ) (ps ms js : List (List ℕ)) → Hellos X suites ms → secret K ps ms ≡ secret K ps (ms ++ js)
secret_on K X suites [] ms js h = refl
secret_on K X suites (p ∷ ps) ms js h = let a = h.are in rw a refl

-- what an end knows of the handshake
pub record Known : Type 0 where
  pub suites : List ℕ
  pub c_random : List ℕ
  pub s_random : List ℕ
  pub suite : ℕ
  pub master : List ℕ

abbrev pub known : {H : Type 0} → End H → Known
known e = record { suites = e.suites; c_random = e.client_random; s_random = e.server_random; suite = e.suite; master = e.master }

pub record Early (X : Role) (k : Known) (ms : List (List ℕ)) (ps : List (List ℕ)) : Type 0 where
  pub none_yet : ps ≡ []
  pub both : Hellos X k.suites ms
  pub randoms : (k.c_random ≡ c_random_told both.first) × (k.s_random ≡ s_random_told both.second)

pub early_on : (X : Role) (k : Known) (ms ps js : List (List ℕ)) → Early X k ms ps → Early X k (ms ++ js) (ps ++ [])
unfolding hellos_on
early_on X k ms ps js h = record { none_yet = rw h.none_yet refl; both = hellos_on X k.suites ms js h.both; randoms = h.randoms }

pub record Late {H : Type 0} (K : Schedule H) (X : Role) (k : Known) (ms : List (List ℕ)) (ps : List (List ℕ)) : Type 0 where
  pub both : Hellos X k.suites ms
  pub keys : k.master ≡ secret K ps ms

late_on : {H : Type 0} (K : Schedule H) (X : Role) (k : Known) (ms ps js : List (List ℕ)) → Late K X k ms ps → Late K X k (ms ++ js) (ps ++ [])
late_on K X k ms ps js h = record { both = hellos_on X k.suites ms js h.both; keys = rw (append-nil ps) (h.keys ∙ secret_on K X k.suites ps ms js h.both) }

pub record Greeted (k : Known) (ms : List (List ℕ)) (ps : List (List ℕ)) : Type 0 where
  pub hello : List ℕ
  pub are : ms ≡ hello ∷ []
  pub none_yet : ps ≡ []
  pub random : c_random_told hello ≡ k.c_random
  pub offer : offer_told hello ≡ k.suites

pub record Heard (k : Known) (ms : List (List ℕ)) (ps : List (List ℕ)) : Type 0 where
  pub hello : List ℕ
  pub are : ms ≡ hello ∷ []
  pub none_yet : ps ≡ []
  pub random : c_random_told hello ≡ k.c_random
  pub choice : first_shared (offer_told hello) k.suites ≡ Some k.suite

module _ {H : Type 0} (K : Schedule H) where
  abbrev pub Tale : Role → Stage → Known → List (List ℕ) → List (List ℕ) → Type 0
  Tale X AskClientRandom k ms ps = (X ≡ Client) × (ms ≡ []) × (ps ≡ [])
  Tale X AwaitServerHello k ms ps = (X ≡ Client) × Greeted k ms ps
  Tale X AwaitCertificate k ms ps = (X ≡ Client) × Early X k ms ps
  Tale X AskCertificates k ms ps = (X ≡ Client) × Early X k ms ps
  Tale X AwaitServerKeyExchange k ms ps = (X ≡ Client) × Early X k ms ps
  Tale X AskSignature k ms ps = (X ≡ Client) × Early X k ms ps
  Tale X AwaitServerHelloDone k ms ps = (X ≡ Client) × Early X k ms ps
  Tale X AskWrapping k ms ps = (X ≡ Client) × Early X k ms ps
  Tale X ClientAwaitChange k ms ps = (X ≡ Client) × Late K X k ms ps
  Tale X ClientAwaitFinished k ms ps = (X ≡ Client) × Late K X k ms ps
  Tale X AwaitClientHello k ms ps = (X ≡ Server) × (ms ≡ []) × (ps ≡ [])
  Tale X AskServerFlight k ms ps = (X ≡ Server) × Heard k ms ps
  Tale X AwaitClientKeyExchange k ms ps = (X ≡ Server) × Early X k ms ps
  Tale X AskUnwrapping k ms ps = (X ≡ Server) × Early X k ms ps
  Tale X ServerAwaitChange k ms ps = (X ≡ Server) × Late K X k ms ps
  Tale X ServerAwaitFinished k ms ps = (X ≡ Server) × Late K X k ms ps
  Tale X Open k ms ps = Unit {0}
  Tale X Closed k ms ps = Unit {0}
  Tale X Dead k ms ps = Unit {0}

  pub record History (X : Role) (e : End H) (p : Past) : Type 0 where
    pub hash : e.transcript ≡ absorbed K K.blank p.messages
    pub tale : Tale X e.stage (known e) p.messages p.premasters
    pub quiet : e.writes_protected ≡ false → (p.finished ≡ []) × (p.sealed ≡ [])
    pub spoke : e.writes_protected ≡ true → Spoke K X e.suites p.finished p.sealed p.messages

  -- a call by which no Finished is written
  pub record Unsworn (X : Role) (e : End H) (p : Past) (o : Outcome H) : Type 0 where
    pub none_finished : o.finished ≡ []
    pub none_said : spoken (sealed_in o.writes) ≡ []
    pub bare_only : e.writes_protected ≡ false → sealed_in o.writes ≡ []
    pub hash : o.end.transcript ≡ absorbed K e.transcript o.joined
    pub same_suites : o.end.suites ≡ e.suites
    pub same_out : o.end.writes_protected ≡ e.writes_protected
    pub tale : Tale X o.end.stage (known o.end) (p.messages ++ o.joined) (p.premasters ++ o.premasters)

  pub unsworn : (X : Role) (e : End H) (p : Past) (o : Outcome H) → History X e p → Unsworn X e p o → History X o.end (later K X p o)
  unsworn X e p o t m =
      let f = m.none_finished in
      record {
        hash = m.hash ∙ ap (λ h. absorbed K h o.joined) t.hash ∙ sym (absorbed-++ K K.blank p.messages o.joined);
        tale = m.tale;
        quiet = λ q. let b = sym m.same_out ∙ q in let z = t.quiet b in let w = m.bare_only b in (simp (f, append-nil) z.0, simp (w, append-nil) z.1);
        spoke = λ q. let s = t.spoke (sym m.same_out ∙ q) in
            record {
              check = s.check;
              rest = s.rest ++ sealed_in o.writes;
              more = s.more ++ o.joined;
              finish_is = simp (f, append-nil) s.finish_is;
              sealed_is = ap (λ l. l ++ sealed_in o.writes) s.sealed_is;
              rest_is = spoken-++ s.rest _ ∙ rw s.rest_is m.none_said;
              label_is = s.label_is;
              both = rw m.same_suites s.both;
              goes_on = ap (λ l. l ++ o.joined) s.goes_on ∙ append_assoc s.check.messages s.more o.joined;
            };
      }

  -- keys made from the premaster
  late : (X : Role) (k : Known) (ms js : List (List ℕ)) (ps : List (List ℕ)) (q : List ℕ) → Early X k ms ps
      → Late K X (record { suites = k.suites; c_random = k.c_random; s_random = k.s_random; suite = k.suite; master = K.master_secret q k.c_random k.s_random }) (ms ++ js) (ps ++ (q ∷ []))
  late X k ms js ps q h =
      let a = h.both.are in let b = h.none_yet in let c = h.randoms in
      record { both = hellos_on X _ ms js h.both; keys = rw (b, a, c.0, c.1) refl }

  greeted_tale : (X : Role) (k : Known) (ms ps : List (List ℕ)) (r : List ℕ) → length r ≡ 32 → 1 ≤ length k.suites → Tale X AskClientRandom k ms ps
      → Tale X AwaitServerHello (record { suites = k.suites; c_random = r; s_random = k.s_random; suite = k.suite; master = k.master }) (ms ++ (client_hello r k.suites ∷ [])) (ps ++ [])
  greeted_tale X k ms ps r l n h =
      let b = read_back_client r k.suites l n in
      (h.0, record { hello = client_hello r k.suites; are = rw h.1 refl; none_yet = rw h.2 refl; random = ap offer_random b; offer = ap offer_in b })

  offered_tale : (X : Role) (k : Known) (ms ps : List (List ℕ)) (p : Parts) → length p.random ≡ 32 → length p.session ≡ 32 → Tale X AskServerFlight k ms ps
      → Tale X AwaitClientKeyExchange (record { suites = k.suites; c_random = k.c_random; s_random = p.random; suite = k.suite; master = k.master }) (ms ++ flight p k.suite) (ps ++ [])
  offered_tale X k ms ps p l i h =
      let b = read_back_server p.random p.session k.suite l i in
      let x = h.0 in let g = h.1 in (
        x,
        record {
          none_yet = rw g.none_yet refl;
          both = record {
            first = g.hello;
            second = server_hello p.random p.session k.suite;
            rest = certificate p.certificates ∷ (server_key_exchange p.signature ∷ (server_hello_done ∷ []));
            are = rw g.are refl;
            own = λ (z : X ≡ Client). absurd (two_roles (sym z ∙ x));
            picks = λ _. rw b g.choice;
          };
          randoms = (sym g.random, sym (ap choice_random b));
        },
      )
    where
      is_client : Role → Bool
      is_client Client = true
      is_client Server = false

      two_roles : Client ≡ Server → ⊥
      two_roles z = true≢false (ap is_client z)

  taken_tale : (X : Role) (k : Known) (ms ps : List (List ℕ)) (r : List ℕ) (u : ℕ) (m : List ℕ) → s_random_told m ≡ r → choice_told m ≡ u → Tale X AwaitServerHello k ms ps
      → Tale X AwaitCertificate (record { suites = k.suites; c_random = k.c_random; s_random = r; suite = u; master = k.master }) (ms ++ (m ∷ [])) (ps ++ [])
  taken_tale X k ms ps r u m a b h =
      let x = h.0 in let g = h.1 in (
        x,
        record {
          none_yet = rw g.none_yet refl;
          both = record { first = g.hello; second = m; rest = []; are = rw g.are refl; own = λ _. g.offer; picks = λ (z : X ≡ Server). absurd (two_roles (sym x ∙ z)) };
          randoms = (sym g.random, sym a);
        },
      )
    where
      is_client : Role → Bool
      is_client Client = true
      is_client Server = false

      two_roles : Client ≡ Server → ⊥
      two_roles z = true≢false (ap is_client z)

  -- a call by which the Finished is written
  swears : ScheduleLaws K → (X : Role) (e : End H) (p : Past) (o : Outcome H) (js : List (List ℕ)) (f : List ℕ) (m : List ℕ) (h : H) → e.writes_protected ≡ false → History X e p
      → o.finished ≡ js ∷ [] → o.joined ≡ js ++ (f ∷ []) → sealed_in o.writes ≡ record { number = 0; kind = handshake_kind; content = finished (K.verify_data X m h) } ∷ []
      → o.end.writes_protected ≡ true → o.end.transcript ≡ K.absorb h f → h ≡ absorbed K e.transcript js → m ≡ secret K (p.premasters ++ o.premasters) (p.messages ++ js)
      → Hellos X o.end.suites (p.messages ++ js) → Tale X o.end.stage (known o.end) (p.messages ++ o.joined) (p.premasters ++ o.premasters) → History X o.end (later K X p o)
  unfolding value
  swears kl X e p o js f m h q t a b c d r k n hs ta =
      let z = t.quiet q in
      let sec = secret_on K X _ (p.premasters ++ o.premasters) (p.messages ++ js) (f ∷ []) hs in
      let ass = append_assoc p.messages js (f ∷ []) in
      let hh : h ≡ absorbed K K.blank (p.messages ++ js) = k ∙ ap (λ x. absorbed K x js) t.hash ∙ sym (absorbed-++ K K.blank p.messages js) in
      let hv : h ≡ K.absorb K.blank (joined_octets (p.messages ++ js)) = hh ∙ absorbed_joined K kl K.blank (p.messages ++ js) in
      let mm : m ≡ secret K (p.premasters ++ o.premasters) (p.messages ++ o.joined) = n ∙ sec ∙ ap (secret K (p.premasters ++ o.premasters)) (ass ∙ ap (λ l. p.messages ++ l) (sym b)) in
      record {
        hash = r ∙ ap (λ x. K.absorb x f) hh ∙ sym (absorbed-++ K K.blank (p.messages ++ js) (f ∷ [])) ∙ ap (absorbed K K.blank) (ass ∙ ap (λ l. p.messages ++ l) (sym b));
        tale = ta;
        quiet = λ w. never (sym d ∙ w);
        spoke = λ _. record {
          check = record { label = X; master = secret K (p.premasters ++ o.premasters) (p.messages ++ o.joined); messages = p.messages ++ js };
          rest = [];
          more = f ∷ [];
          finish_is = rw (z.0, a) refl;
          sealed_is = rw (z.1, c, mm, hv) refl;
          rest_is = refl;
          label_is = refl;
          both = hs;
          goes_on = ap (λ l. p.messages ++ l) b ∙ sym ass;
        };
      }

  put_said : (f : List ℕ) (e : End H) (x : List ℕ) (b : Bool) → e.writes_protected ≡ b → spoken (sealed_in (put f e alert_kind x ∷ [])) ≡ []
  put_said f e x true q = rw q refl
  put_said f e x false q = rw q refl

  data_said : (f : List ℕ) (e : End H) (x : List ℕ) (b : Bool) → e.writes_protected ≡ b → spoken (sealed_in (put f e data_kind x ∷ [])) ≡ []
  data_said f e x true q = rw q refl
  data_said f e x false q = rw q refl

  put_bare : (f : List ℕ) (e : End H) (k : ℕ) (x : List ℕ) → e.writes_protected ≡ false → sealed_in (put f e k x ∷ []) ≡ []
  put_bare f e k x q = rw q refl

  module _ (P : Protection) where
    pub history : ScheduleLaws K → (X : Role) (f : List ℕ) (e : End H) (p : Past) (d : Deed) → 1 ≤ length e.suites → Sound e → History X e p → Fits K e d → History X (perform K P f e d).end (later K X p (perform K P f e d))
    history kl X f e p waits n s t g = unsworn X e p (perform K P f e waits) t (record { none_finished = refl; none_said = refl; bare_only = λ _. refl; hash = refl; same_suites = refl; same_out = refl; tale = simp append-nil t.tale })
    history kl X f e p halts n s t g = unsworn X e p (perform K P f e halts) t (record { none_finished = refl; none_said = refl; bare_only = λ _. refl; hash = refl; same_suites = refl; same_out = refl; tale = tt })
    history kl X f e p closes n s t g = unsworn X e p (perform K P f e closes) t (record { none_finished = refl; none_said = put_said f e _ _ refl; bare_only = put_bare f e _ _; hash = refl; same_suites = refl; same_out = refl; tale = tt })
    history kl X f e p (raises l i) n s t g = unsworn X e p (perform K P f e (raises l i)) t (record { none_finished = refl; none_said = put_said f e _ _ refl; bare_only = put_bare f e _ _; hash = refl; same_suites = refl; same_out = refl; tale = tt })
    history kl X f e p client_changes n s t g = unsworn X e p (perform K P f e client_changes) t (record { none_finished = refl; none_said = refl; bare_only = λ _. refl; hash = refl; same_suites = refl; same_out = refl; tale = simp append-nil (rw g.0 at t.tale) })
    history kl X f e p server_changes n s t g = unsworn X e p (perform K P f e server_changes) t (record { none_finished = refl; none_said = refl; bare_only = λ _. refl; hash = refl; same_suites = refl; same_out = refl; tale = simp append-nil (rw g.0 at t.tale) })
    history kl X f e p (buffers x) n s t g = unsworn X e p (perform K P f e (buffers x)) t (record { none_finished = refl; none_said = refl; bare_only = λ _. refl; hash = refl; same_suites = refl; same_out = refl; tale = simp append-nil t.tale })
    history kl X f e p (releases x) n s t g = unsworn X e p (perform K P f e (releases x)) t (record { none_finished = refl; none_said = refl; bare_only = λ _. refl; hash = refl; same_suites = refl; same_out = refl; tale = simp append-nil t.tale })
    history kl X f e p (takes_client_hello r u m rest) n s t g = unsworn X e p (perform K P f e (takes_client_hello r u m rest)) t (record { none_finished = refl; none_said = refl; bare_only = λ _. refl; hash = refl; same_suites = refl; same_out = refl; tale = (let h = rw g.0 at t.tale in (h.0, record { hello = m; are = rw h.1 refl; none_yet = rw h.2 refl; random = g.1; choice = g.2 })) })
    history kl X f e p (takes_server_hello r u m rest) n s t g = unsworn X e p (perform K P f e (takes_server_hello r u m rest)) t (record { none_finished = refl; none_said = refl; bare_only = λ _. refl; hash = refl; same_suites = refl; same_out = refl; tale = taken_tale X (known e) p.messages p.premasters r u m g.1 g.2 (rw g.0 at t.tale) })
    history kl X f e p (takes_done m rest) n s t g = unsworn X e p (perform K P f e (takes_done m rest)) t (record { none_finished = refl; none_said = refl; bare_only = λ _. refl; hash = refl; same_suites = refl; same_out = refl; tale = (let h = rw g.0 at t.tale in (h.0, early_on X (known e) p.messages p.premasters (m ∷ []) h.1)) })
    history kl X f e p keeps_certificates n s t g = unsworn X e p (perform K P f e keeps_certificates) t (record { none_finished = refl; none_said = refl; bare_only = λ _. refl; hash = refl; same_suites = refl; same_out = refl; tale = simp append-nil (rw (g) at t.tale) })
    history kl X f e p keeps_signature n s t g = unsworn X e p (perform K P f e keeps_signature) t (record { none_finished = refl; none_said = refl; bare_only = λ _. refl; hash = refl; same_suites = refl; same_out = refl; tale = simp append-nil (rw (g) at t.tale) })
    history kl X f e p keeps_wrapped n s t g = unsworn X e p (perform K P f e keeps_wrapped) t (record { none_finished = refl; none_said = refl; bare_only = λ _. refl; hash = refl; same_suites = refl; same_out = refl; tale = simp append-nil (rw (g) at t.tale) })
    history kl X f e p fails_check n s t g = unsworn X e p (perform K P f e fails_check) t (record { none_finished = refl; none_said = put_said f e _ _ refl; bare_only = put_bare f e _ _; hash = refl; same_suites = refl; same_out = refl; tale = tt })
    history kl X f e p (client_opens m) n s t g = unsworn X e p (perform K P f e (client_opens m)) t (record { none_finished = refl; none_said = refl; bare_only = λ _. refl; hash = refl; same_suites = refl; same_out = refl; tale = tt })
    history kl X f e p (server_opens m) n s t g =
        let h = rw g.0 at t.tale in let x = h.0 in
        let v = finished_of K Server (hearing K (m ∷ []) e) in
        let k : Late K X (known e) (p.messages ++ (m ∷ [])) (p.premasters ++ []) = late_on K X (known e) p.messages p.premasters (m ∷ []) h.1 in
        swears kl X e p (perform K P f e (server_opens m)) (m ∷ []) v e.master (K.absorb e.transcript m) (at e _ g.0 s).0 t refl refl (rw x refl) refl refl refl k.keys k.both tt
    history kl X f e p (greets r) n s t g = unsworn X e p (perform K P f e (greets r)) t (record { none_finished = refl; none_said = refl; bare_only = λ _. refl; hash = refl; same_suites = refl; same_out = refl; tale = greeted_tale X (known e) p.messages p.premasters r g.1 n (rw g.0 at t.tale) })
    history kl X f e p (offers pp) n s t g = unsworn X e p (perform K P f e (offers pp)) t (record { none_finished = refl; none_said = refl; bare_only = λ _. refl; hash = refl; same_suites = refl; same_out = refl; tale = offered_tale X (known e) p.messages p.premasters pp g.1 g.2 (rw g.0 at t.tale) })
    history kl X f e p (trusts_certificates m rest) n s t g = unsworn X e p (perform K P f e (trusts_certificates m rest)) t (record { none_finished = refl; none_said = refl; bare_only = λ _. refl; hash = refl; same_suites = refl; same_out = refl; tale = (let h = rw g.0 at t.tale in (h.0, early_on X (known e) p.messages p.premasters (m ∷ []) h.1)) })
    history kl X f e p (trusts_signature m rest) n s t g = unsworn X e p (perform K P f e (trusts_signature m rest)) t (record { none_finished = refl; none_said = refl; bare_only = λ _. refl; hash = refl; same_suites = refl; same_out = refl; tale = (let h = rw g.0 at t.tale in (h.0, early_on X (known e) p.messages p.premasters (m ∷ []) h.1)) })
    history kl X f e p (exchanges q w) n s t g =
        let h = rw g.0 at t.tale in let x = h.0 in
        let y = client_key_exchange w in
        let v = finished_of K Client (hearing K (y ∷ []) (keyed K P q e)) in
        let k = late X (known e) p.messages (y ∷ []) p.premasters q h.1 in
        let k2 = late X (known e) p.messages (y ∷ (v ∷ [])) p.premasters q h.1 in
        swears kl X e p (perform K P f e (exchanges q w)) (y ∷ []) v (K.master_secret q e.client_random e.server_random) (K.absorb e.transcript y) (at e _ g.0 s).0 t refl refl (rw x refl) refl refl refl k.keys k.both (x, k2)
    history kl X f e p (unwraps q m rest) n s t g = unsworn X e p (perform K P f e (unwraps q m rest)) t (record { none_finished = refl; none_said = refl; bare_only = λ _. refl; hash = refl; same_suites = refl; same_out = refl; tale = (let h = rw g.0 at t.tale in (h.0, late X (known e) p.messages (m ∷ []) p.premasters q h.1)) })
    history kl X f e p (sends x) n s t g = unsworn X e p (perform K P f e (sends x)) t (record { none_finished = refl; none_said = data_said f e _ _ refl; bare_only = put_bare f e _ _; hash = refl; same_suites = refl; same_out = refl; tale = simp append-nil t.tale })
