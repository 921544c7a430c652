-- What one call keeps and does: numbers, readings, an end that is over.
use Rattle.std.proofs.Common.{◌≡◌, ℕ, ◌+◌, Bool, true, false, cond, eqb, leb, ◌⊎◌, List, [], ◌∷◌, length, sym, refl, ap, ◌∙◌, inl, inr, arith, eqb-true}
use Rattle.records.specs.declared.fault.Layer.TheVariants.{Record as AtRecord, Content as AtContent}
use Rattle.records.specs.Kinds.{change_kind, alert_kind, handshake_kind, data_kind}
use Rattle.protection.specs.Limits.{content_limit}
use Rattle.handshake.specs.Parts.{is_none}
use Rattle.model.specs.declared.stage.Stage.{Stage}
use Rattle.model.specs.declared.stage.Stage.TheVariants.{AskClientRandom, AwaitServerHello, AwaitCertificate, AskCertificates, AwaitServerKeyExchange, AskSignature, AwaitServerHelloDone, AskWrapping, ClientAwaitChange, ClientAwaitFinished, AwaitClientHello, AskServerFlight, AwaitClientKeyExchange, AskUnwrapping, ServerAwaitChange, ServerAwaitFinished, Open, Closed, Dead}
use Rattle.model.specs.Stages.{is_open, over}
use Rattle.model.specs.Schedule.{Schedule}
use Rattle.model.specs.Protections.{Protection}
use Rattle.model.specs.Endpoint.{End, Call}
use Rattle.model.specs.Outcomes.{Outcome, put, consuming, noting}
use Rattle.model.specs.Deeds.{Deed, waits, halts, closes, raises, client_changes, server_changes, buffers, releases, takes_client_hello, takes_server_hello, takes_done, keeps_certificates, keeps_signature, keeps_wrapped, fails_check, client_opens, server_opens, greets, offers, trusts_certificates, trusts_signature, exchanges, unwraps, sends, alerting, perform}
use Rattle.model.specs.Contents.{on_change, is_one, on_alert, on_kind, on_content}
use Rattle.model.specs.Steps.{step}
use Rattle.model.specs.Runs.{sealed_in}
use Rattle.model.specs.Law.{readings}
use Rattle.model.proofs.Lists.{Numbered}
use Rattle.model.proofs.Fronts.{never}
use Rattle.model.proofs.Fits.{Fits, handed, pair_by}
use Rattle.model.proofs.Ways.{one_read, opened_as, step_by}

-- how a stage has its two directions
abbrev pub OutAt : Stage → Bool → Type 0
OutAt AskClientRandom b = b ≡ false
OutAt AwaitServerHello b = b ≡ false
OutAt AwaitCertificate b = b ≡ false
OutAt AskCertificates b = b ≡ false
OutAt AwaitServerKeyExchange b = b ≡ false
OutAt AskSignature b = b ≡ false
OutAt AwaitServerHelloDone b = b ≡ false
OutAt AskWrapping b = b ≡ false
OutAt ClientAwaitChange b = b ≡ true
OutAt ClientAwaitFinished b = b ≡ true
OutAt AwaitClientHello b = b ≡ false
OutAt AskServerFlight b = b ≡ false
OutAt AwaitClientKeyExchange b = b ≡ false
OutAt AskUnwrapping b = b ≡ false
OutAt ServerAwaitChange b = b ≡ false
OutAt ServerAwaitFinished b = b ≡ false
OutAt Open b = b ≡ true
OutAt Closed b = Unit {0}
OutAt Dead b = Unit {0}

abbrev pub InAt : Stage → Bool → Type 0
InAt AskClientRandom b = b ≡ false
InAt AwaitServerHello b = b ≡ false
InAt AwaitCertificate b = b ≡ false
InAt AskCertificates b = b ≡ false
InAt AwaitServerKeyExchange b = b ≡ false
InAt AskSignature b = b ≡ false
InAt AwaitServerHelloDone b = b ≡ false
InAt AskWrapping b = b ≡ false
InAt ClientAwaitChange b = b ≡ false
InAt ClientAwaitFinished b = b ≡ true
InAt AwaitClientHello b = b ≡ false
InAt AskServerFlight b = b ≡ false
InAt AwaitClientKeyExchange b = b ≡ false
InAt AskUnwrapping b = b ≡ false
InAt ServerAwaitChange b = b ≡ false
InAt ServerAwaitFinished b = b ≡ true
InAt Open b = b ≡ true
InAt Closed b = Unit {0}
InAt Dead b = Unit {0}

module _ {H : Type 0} where
  pub record Sound (e : End H) : Type 0 where
    pub out_at : OutAt e.stage e.writes_protected
    pub in_at : InAt e.stage e.reads_protected
    pub out_zero : e.writes_protected ≡ false → e.writes ≡ 0
    pub in_zero : e.reads_protected ≡ false → e.reads ≡ 0

  pub record Numbers (e : End H) (o : Outcome H) : Type 0 where
    pub keeps_sound : Sound o.end
    pub numbered_out : Numbered e.writes (sealed_in o.writes)
    pub rises_out : o.end.writes ≡ e.writes + length (sealed_in o.writes)
    pub sends : readings (sealed_in o.writes) ≡ o.sent

  put_numbers : (f : List ℕ) (e : End H) (k : ℕ) (x : List ℕ) (b : Bool) → e.writes_protected ≡ b → Numbered e.writes (sealed_in (put f e k x ∷ []))
  put_numbers f e k x true q = rw q (refl, tt)
  put_numbers f e k x false q = rw q tt

  put-length : (f : List ℕ) (e : End H) (k : ℕ) (x : List ℕ) (b : Bool) → e.writes_protected ≡ b → cond e.writes_protected (e.writes + 1) e.writes ≡ e.writes + length (sealed_in (put f e k x ∷ []))
  put-length f e k x true q = rw q refl
  put-length f e k x false q = rw q (omega arith)

  put-readings : (f : List ℕ) (e : End H) (x : List ℕ) (b : Bool) → e.writes_protected ≡ b → readings (sealed_in (put f e alert_kind x ∷ [])) ≡ []
  put-readings f e x true q = rw q refl
  put-readings f e x false q = rw q refl

  counted_zero : (e : End H) → Sound e → e.writes_protected ≡ false → cond e.writes_protected (e.writes + 1) e.writes ≡ 0
  counted_zero e s q = rw q (s.out_zero q)

  -- what soundness says at a stage that is known
  abbrev pub At : Stage → End H → Type 0
  At t e = OutAt t e.writes_protected × InAt t e.reads_protected

  pub at : (e : End H) (t : Stage) → e.stage ≡ t → Sound e → At t e
  at e t q s = (rw q at s.out_at, rw q at s.in_at)

abbrev pub released_by : Deed → List (List ℕ)
released_by waits = []
released_by halts = []
released_by closes = []
released_by (raises l n) = []
released_by client_changes = []
released_by server_changes = []
released_by (buffers x) = []
released_by (releases x) = x ∷ []
released_by (takes_client_hello r u m rest) = []
released_by (takes_server_hello r u m rest) = []
released_by (takes_done m rest) = []
released_by keeps_certificates = []
released_by keeps_signature = []
released_by keeps_wrapped = []
released_by fails_check = []
released_by (client_opens m) = []
released_by (server_opens m) = []
released_by (greets r) = []
released_by (offers p) = []
released_by (trusts_certificates m rest) = []
released_by (trusts_signature m rest) = []
released_by (exchanges q w) = []
released_by (unwraps q m rest) = []
released_by (sends x) = []

module _ {H : Type 0} (K : Schedule H) (P : Protection) where
  pub numbers : (f : List ℕ) (e : End H) (d : Deed) → Sound e → Fits K e d → Numbers e (perform K P f e d)
  numbers f e waits s g = record { keeps_sound = s; numbered_out = tt; rises_out = omega arith; sends = refl }
  numbers f e halts s g = record { keeps_sound = record { out_at = tt; in_at = tt; out_zero = s.out_zero; in_zero = s.in_zero }; numbered_out = tt; rises_out = omega arith; sends = refl }
  numbers f e closes s g = record { keeps_sound = record { out_at = tt; in_at = tt; out_zero = counted_zero e s; in_zero = s.in_zero }; numbered_out = put_numbers f e _ _ _ refl; rises_out = put-length f e alert_kind (alerting 1 0) _ refl; sends = put-readings f e _ _ refl }
  numbers f e (raises l n) s g = record { keeps_sound = record { out_at = tt; in_at = tt; out_zero = counted_zero e s; in_zero = s.in_zero }; numbered_out = put_numbers f e _ _ _ refl; rises_out = put-length f e alert_kind (alerting 2 n) _ refl; sends = put-readings f e _ _ refl }
  numbers f e client_changes s g = let h = at e _ g.0 s in record { keeps_sound = record { out_at = h.0; in_at = refl; out_zero = s.out_zero; in_zero = λ _. refl }; numbered_out = tt; rises_out = omega arith; sends = refl }
  numbers f e server_changes s g = let h = at e _ g.0 s in record { keeps_sound = record { out_at = h.0; in_at = refl; out_zero = s.out_zero; in_zero = λ _. refl }; numbered_out = tt; rises_out = omega arith; sends = refl }
  numbers f e (buffers x) s g = record { keeps_sound = record { out_at = s.out_at; in_at = s.in_at; out_zero = s.out_zero; in_zero = s.in_zero }; numbered_out = tt; rises_out = omega arith; sends = refl }
  numbers f e (releases x) s g = record { keeps_sound = s; numbered_out = tt; rises_out = omega arith; sends = refl }
  numbers f e (takes_client_hello r u m rest) s g = let h = at e _ g.0 s in record { keeps_sound = record { out_at = h.0; in_at = h.1; out_zero = s.out_zero; in_zero = s.in_zero }; numbered_out = tt; rises_out = omega arith; sends = refl }
  numbers f e (takes_server_hello r u m rest) s g = let h = at e _ g.0 s in record { keeps_sound = record { out_at = h.0; in_at = h.1; out_zero = s.out_zero; in_zero = s.in_zero }; numbered_out = tt; rises_out = omega arith; sends = refl }
  numbers f e (takes_done m rest) s g = let h = at e _ g.0 s in record { keeps_sound = record { out_at = h.0; in_at = h.1; out_zero = s.out_zero; in_zero = s.in_zero }; numbered_out = tt; rises_out = omega arith; sends = refl }
  numbers f e keeps_certificates s g = let h = at e _ (g) s in record { keeps_sound = record { out_at = h.0; in_at = h.1; out_zero = s.out_zero; in_zero = s.in_zero }; numbered_out = tt; rises_out = omega arith; sends = refl }
  numbers f e keeps_signature s g = let h = at e _ (g) s in record { keeps_sound = record { out_at = h.0; in_at = h.1; out_zero = s.out_zero; in_zero = s.in_zero }; numbered_out = tt; rises_out = omega arith; sends = refl }
  numbers f e keeps_wrapped s g = let h = at e _ (g) s in record { keeps_sound = record { out_at = h.0; in_at = h.1; out_zero = s.out_zero; in_zero = s.in_zero }; numbered_out = tt; rises_out = omega arith; sends = refl }
  numbers f e fails_check s g = record { keeps_sound = record { out_at = tt; in_at = tt; out_zero = counted_zero e s; in_zero = s.in_zero }; numbered_out = put_numbers f e _ _ _ refl; rises_out = put-length f e alert_kind (alerting 2 51) _ refl; sends = put-readings f e _ _ refl }
  numbers f e (client_opens m) s g = let h = at e _ g.0 s in record { keeps_sound = record { out_at = h.0; in_at = h.1; out_zero = s.out_zero; in_zero = s.in_zero }; numbered_out = tt; rises_out = omega arith; sends = refl }
  numbers f e (server_opens m) s g = let h = at e _ g.0 s in let z = s.out_zero h.0 in record { keeps_sound = record { out_at = refl; in_at = h.1; out_zero = λ q'. never q'; in_zero = s.in_zero }; numbered_out = (sym z, tt); rises_out = rw z refl; sends = refl }
  numbers f e (greets r) s g = let h = at e _ g.0 s in record { keeps_sound = record { out_at = h.0; in_at = h.1; out_zero = s.out_zero; in_zero = s.in_zero }; numbered_out = tt; rises_out = omega arith; sends = refl }
  numbers f e (offers p) s g = let h = at e _ g.0 s in record { keeps_sound = record { out_at = h.0; in_at = h.1; out_zero = s.out_zero; in_zero = s.in_zero }; numbered_out = tt; rises_out = omega arith; sends = refl }
  numbers f e (trusts_certificates m rest) s g = let h = at e _ g.0 s in record { keeps_sound = record { out_at = h.0; in_at = h.1; out_zero = s.out_zero; in_zero = s.in_zero }; numbered_out = tt; rises_out = omega arith; sends = refl }
  numbers f e (trusts_signature m rest) s g = let h = at e _ g.0 s in record { keeps_sound = record { out_at = h.0; in_at = h.1; out_zero = s.out_zero; in_zero = s.in_zero }; numbered_out = tt; rises_out = omega arith; sends = refl }
  numbers f e (exchanges q w) s g = let h = at e _ g.0 s in let z = s.out_zero h.0 in record { keeps_sound = record { out_at = refl; in_at = h.1; out_zero = λ q'. never q'; in_zero = s.in_zero }; numbered_out = (sym z, tt); rises_out = rw z refl; sends = refl }
  numbers f e (unwraps q m rest) s g = let h = at e _ g.0 s in record { keeps_sound = record { out_at = h.0; in_at = h.1; out_zero = s.out_zero; in_zero = s.in_zero }; numbered_out = tt; rises_out = omega arith; sends = refl }
  numbers f e (sends x) s g = let h = at e _ g.0 s in record { keeps_sound = record { out_at = s.out_at; in_at = s.in_at; out_zero = counted_zero e s; in_zero = s.in_zero }; numbered_out = put_numbers f e _ _ _ refl; rises_out = put-length f e data_kind x _ refl; sends = rw h.0 refl }

  pub record Reads (e : End H) (d : Deed) (o : Outcome H) : Type 0 where
    pub none_opened : o.opened ≡ []
    pub same_reads : o.end.reads ≡ e.reads
    pub frees : o.released ≡ released_by d

  pub reads : (f : List ℕ) (e : End H) (d : Deed) → Sound e → Fits K e d → Reads e d (perform K P f e d)
  reads f e waits s g = record { none_opened = refl; same_reads = refl; frees = refl }
  reads f e halts s g = record { none_opened = refl; same_reads = refl; frees = refl }
  reads f e closes s g = record { none_opened = refl; same_reads = refl; frees = refl }
  reads f e (raises l n) s g = record { none_opened = refl; same_reads = refl; frees = refl }
  reads f e client_changes s g = record { none_opened = refl; same_reads = sym (s.in_zero (at e _ g.0 s).1); frees = refl }
  reads f e server_changes s g = record { none_opened = refl; same_reads = sym (s.in_zero (at e _ g.0 s).1); frees = refl }
  reads f e (buffers x) s g = record { none_opened = refl; same_reads = refl; frees = refl }
  reads f e (releases x) s g = record { none_opened = refl; same_reads = refl; frees = refl }
  reads f e (takes_client_hello r u m rest) s g = record { none_opened = refl; same_reads = refl; frees = refl }
  reads f e (takes_server_hello r u m rest) s g = record { none_opened = refl; same_reads = refl; frees = refl }
  reads f e (takes_done m rest) s g = record { none_opened = refl; same_reads = refl; frees = refl }
  reads f e keeps_certificates s g = record { none_opened = refl; same_reads = refl; frees = refl }
  reads f e keeps_signature s g = record { none_opened = refl; same_reads = refl; frees = refl }
  reads f e keeps_wrapped s g = record { none_opened = refl; same_reads = refl; frees = refl }
  reads f e fails_check s g = record { none_opened = refl; same_reads = refl; frees = refl }
  reads f e (client_opens m) s g = record { none_opened = refl; same_reads = refl; frees = refl }
  reads f e (server_opens m) s g = record { none_opened = refl; same_reads = refl; frees = refl }
  reads f e (greets r) s g = record { none_opened = refl; same_reads = refl; frees = refl }
  reads f e (offers p) s g = record { none_opened = refl; same_reads = refl; frees = refl }
  reads f e (trusts_certificates m rest) s g = record { none_opened = refl; same_reads = refl; frees = refl }
  reads f e (trusts_signature m rest) s g = record { none_opened = refl; same_reads = refl; frees = refl }
  reads f e (exchanges q w) s g = record { none_opened = refl; same_reads = refl; frees = refl }
  reads f e (unwraps q m rest) s g = record { none_opened = refl; same_reads = refl; frees = refl }
  reads f e (sends x) s g = record { none_opened = refl; same_reads = refl; frees = refl }

  -- ---- the numbers and the readings of one call
  pub record Local (e : End H) (o : Outcome H) : Type 0 where
    pub sound : Sound o.end
    pub numbered_out : Numbered e.writes (sealed_in o.writes)
    pub rises_out : o.end.writes ≡ e.writes + length (sealed_in o.writes)
    pub sends : readings (sealed_in o.writes) ≡ o.sent
    pub numbered_in : Numbered e.reads o.opened
    pub rises_in : o.end.reads ≡ e.reads + length o.opened
    pub frees : (readings o.opened ≡ o.released) ⊎ ((o.released ≡ []) × (over o.end.stage ≡ true))
    -- an end that is over stays so, and neither opens nor releases nor writes
    pub stays : over e.stage ≡ true → (o.opened ≡ []) × (o.released ≡ []) × (over o.end.stage ≡ true) × (o.writes ≡ [])

  handed_frees : (d : Deed) → handed d ≡ false → released_by d ≡ []
  handed_frees d q = grind arith

  at_rest : (n : ℕ) (f : List ℕ) (e : End H) (d : Deed) → Sound e → Fits K e d → released_by d ≡ [] → over e.stage ≡ false → Local e (consuming n (perform K P f e d))
  at_rest _ f e d s g q live =
      let n = numbers f e d s g in
      let r = reads f e d s g in
      let a = r.none_opened in
      let b = r.same_reads in
      let c = r.frees ∙ q in
      record { sound = n.keeps_sound; numbered_out = n.numbered_out; rises_out = n.rises_out; sends = n.sends; numbered_in = rw a tt; rises_in = rw a (omega arith); frees = inl (rw a (sym c)); stays = λ h. never (sym h ∙ live) }

  noted : (n : ℕ) (f : List ℕ) (e : End H) (k : ℕ) (y : List ℕ) (d : Deed) → Sound (one_read K e) → Fits K (one_read K e) d → over e.stage ≡ false
      → ((readings (opened_as K e k y ∷ []) ≡ released_by d) ⊎ ((released_by d ≡ []) × (over (perform K P f (one_read K e) d).end.stage ≡ true)))
      → Local e (consuming n (noting (opened_as K e k y) (perform K P f (one_read K e) d)))
  noted _ f e k y d s g live h =
      let n = numbers f (one_read K e) d s g in
      let m = reads f (one_read K e) d s g in
      record { sound = n.keeps_sound; numbered_out = n.numbered_out; rises_out = n.rises_out; sends = n.sends; numbered_in = (refl, tt); rises_in = m.same_reads; frees = rw m.frees h; stays = λ z. never (sym z ∙ live) }

  pub alert_frees : (x : List ℕ) → [] ≡ released_by (on_alert x)
  alert_frees [] = refl
  alert_frees (l ∷ []) = refl
  alert_frees (l ∷ (n ∷ [])) = pair_by (λ d. [] ≡ released_by d) refl refl refl refl l n
  alert_frees (l ∷ (n ∷ (x ∷ xs))) = refl

  change_frees : (t : Stage) → [] ≡ released_by (on_change t)
  change_frees t = grind arith

  -- what a content releases, by its kind
  Freed : (f : List ℕ) (e : End H) (c : List (List ℕ)) (d : Deed) → Type 0
  Freed f e c d = (c ≡ released_by d) ⊎ ((released_by d ≡ []) × (over (perform K P f e d).end.stage ≡ true))

  kind_frees : (f : List ℕ) (e : End H) (k : ℕ) (y : List ℕ) → Freed f e (cond (eqb k data_kind) (y ∷ []) []) (on_kind e k y)
  unfolding Freed
  kind_frees f e k y = go (eqb k change_kind) (eqb k alert_kind) (eqb k handshake_kind) (eqb k data_kind) refl refl refl refl
    where
      only : (n : ℕ) → eqb k n ≡ true → eqb n data_kind ≡ false → eqb k data_kind ≡ true → true ≡ false
      only n a b c = let h = eqb-true k n a in sym c ∙ ap (λ z. eqb z data_kind) h ∙ b

      opens : (b : Bool) → ((y ∷ []) ≡ released_by (cond b (releases y) (raises AtContent 10))) ⊎ ((released_by (cond b (releases y) (raises AtContent 10)) ≡ []) × (over (perform K P f e (cond b (releases y) (raises AtContent 10))).end.stage ≡ true))
      opens true = inl refl
      opens false = inr (refl, refl)

      go : (b1 b2 b3 b4 : Bool) → eqb k change_kind ≡ b1 → eqb k alert_kind ≡ b2 → eqb k handshake_kind ≡ b3 → eqb k data_kind ≡ b4
          → Freed f e (cond b4 (y ∷ []) []) (cond b1 (cond (is_one y) (cond (is_none e.buffered) (on_change e.stage) (raises AtContent 10)) (raises AtContent 50)) (cond b2 (on_alert y) (cond b3 (cond (is_open e.stage) (raises AtContent 10) (buffers y)) (cond b4 (cond (is_open e.stage) (releases y) (raises AtContent 10)) waits))))
      go true b2 b3 true q1 q2 q3 q4 = never (only change_kind q1 refl q4)
      go true b2 b3 false q1 q2 q3 q4 = inl (grind (arith, change_frees e.stage))
      go false true b3 true q1 q2 q3 q4 = never (only alert_kind q2 refl q4)
      go false true b3 false q1 q2 q3 q4 = inl (alert_frees y)
      go false false true true q1 q2 q3 q4 = never (only handshake_kind q3 refl q4)
      go false false true false q1 q2 q3 q4 = inl (grind arith)
      go false false false true q1 q2 q3 q4 = opens (is_open e.stage)
      go false false false false q1 q2 q3 q4 = inl refl

  content_frees : (f : List ℕ) (e : End H) (k : ℕ) (y : List ℕ) → Freed f e (cond (eqb k data_kind) (y ∷ []) []) (on_content e k y)
  unfolding Freed
  content_frees f e k y = go (is_none y) (leb (length y) content_limit)
    where
      go : (b1 b2 : Bool) → Freed f e (cond (eqb k data_kind) (y ∷ []) []) (cond b1 (raises AtRecord 50) (cond b2 (on_kind e k y) (raises AtRecord 22)))
      go true b2 = inr (refl, refl)
      go false true = kind_frees f e k y
      go false false = inr (refl, refl)

  bare_frees : (e : End H) (k : ℕ) (y : List ℕ) → Sound e → e.reads_protected ≡ false → released_by (on_content e k y) ≡ []
  bare_frees e k y s q = go (is_none y) (leb (length y) content_limit)
    where
      shut : is_open e.stage ≡ false
      shut = let h = s.in_at in grind arith

      kinds : (b1 b2 b3 b4 : Bool) → released_by (cond b1 (cond (is_one y) (cond (is_none e.buffered) (on_change e.stage) (raises AtContent 10)) (raises AtContent 50)) (cond b2 (on_alert y) (cond b3 (cond (is_open e.stage) (raises AtContent 10) (buffers y)) (cond b4 (cond (is_open e.stage) (releases y) (raises AtContent 10)) waits)))) ≡ []
      kinds true b2 b3 b4 = grind (arith, change_frees e.stage)
      kinds false true b3 b4 = sym (alert_frees y)
      kinds false false true b4 = grind arith
      kinds false false false true = rw shut refl
      kinds false false false false = refl

      go : (b1 b2 : Bool) → released_by (cond b1 (raises AtRecord 50) (cond b2 (on_kind e k y) (raises AtRecord 22))) ≡ []
      go true b2 = refl
      go false true = kinds (eqb k change_kind) (eqb k alert_kind) (eqb k handshake_kind) (eqb k data_kind)
      go false false = refl

  pub sound_read : (e : End H) → Sound e → e.reads_protected ≡ true → Sound (one_read K e)
  sound_read e s q = record { out_at = s.out_at; in_at = rw q at s.in_at; out_zero = s.out_zero; in_zero = never }

  pub local : (e : End H) (c : Call) → Sound e → Local e (step K P e c)
  unfolding Freed
  local e c s =
      step_by K P e (Local e) c
      (record {
        refused = λ r. record { sound = s; numbered_out = tt; rises_out = omega arith; sends = refl; numbered_in = tt; rises_in = omega arith; frees = inl refl; stays = λ h. (refl, refl, h, refl) };
        done = λ n f d l g h _ _. at_rest n f e d s g (handed_frees d h) l;
        plain = λ n f k x l q g _ _ _. at_rest n f e (on_content e k x) s g (bare_frees e k x s q) l;
        under = λ n f k x l q g _ _ _ _. noted n f e k x (on_content (one_read K e) k x) (sound_read e s q) g l (content_frees f (one_read K e) k x);
        wants = λ l. let z = at_rest 0 [] e waits s tt refl l in record { sound = z.sound; numbered_out = z.numbered_out; rises_out = z.rises_out; sends = z.sends; numbered_in = z.numbered_in; rises_in = z.rises_in; frees = z.frees; stays = z.stays };
      })
