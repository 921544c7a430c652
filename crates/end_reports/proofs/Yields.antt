-- What a call yields: refused, or by what it has done.
use Rattle.std.proofs.Common.{◌≡◌, ℕ, false, List, [], ◌∷◌, length, Some, None, Ok, Err, sym, refl, ap, ◌∙◌, append-nil, zero-le}
use Rattle.octets.specs.Laid.{laid}
use Rattle.octets.proofs.Lays.{laid_first}
use Rattle.sm3.specs.Hash.{Running}
use Rattle.model.specs.declared.refusal.Refusal.{Refusal}
use Rattle.model.specs.Protections.{Protection}
use Rattle.model.specs.Endpoint.{End, close, hand_in, send}
use Rattle.std.specs.Option.{option_map}
use Rattle.model.specs.Outcomes.{Write, Outcome, consuming, octets, flat}
use Rattle.model.specs.Deeds.{perform, closes, sends}
use Rattle.model.proofs.Accepting.{refused_as, acted_as}
use Rattle.model.specs.Steps.{taken}
use Rattle.records.specs.Records.{received, limit_of}
use Rattle.model.specs.Refusals.{close_refusal, hand_in_refusal, send_refusal, message_ready}
use Rattle.model.specs.Results.{Seen, seen, close_yields, hand_in_yields, send_yields}
use Rattle.model.specs.Tlcp.{tlcp}
use Rattle.end_reports.specs.declared.report.Report.{Report}
use Rattle.end_reports.specs.Reports.{Done, done, done_by, seen_by, seen_by_hand_in, fault_told, quiet}

-- ---- what was done and released nothing, as it is seen
pub record Plain (o : Outcome Running) : Type 0 where
  pub accepted : o.refused ≡ None
  pub keeps : o.released ≡ []
  pub sated : o.more ≡ false

-- all that is seen, from what was done
abbrev pub seen_of_done : Done → Seen Running
seen_of_done d = record { result = Ok (record { stage = d.stage; written = d.written; fault = d.fault; consumed = 0; released = 0; more = false }); end = d.end; output = d.output; place = [] }

pub plain_seen : (P : Protection) (o : Outcome Running) (out : List ℕ) → Plain o → seen_of_done (done P o out) ≡ seen P (consuming 0 o) out []
plain_seen P o out p = simp (p.accepted, p.keeps, p.sated)

-- ---- nothing written, no fault
pub laid_nothing : (o : List ℕ) → laid o 0 [] ≡ o
laid_nothing o = laid_first o [] (zero-le)

pub quiet_done : (P : Protection) (o : Outcome Running) (out : List ℕ) (r : Report) (e : End Running) → r ≡ quiet e.stage → e ≡ o.end → o.writes ≡ [] → o.fault ≡ None
    → done_by r e out ≡ done P o out
quiet_done P o out r e er ee ew ef = simp (er, ee, ew, ef, laid_nothing)

-- ---- close
pub close_refused : (P : Protection) (e : End Running) (f out : List ℕ) (r : Refusal) → close_refusal e.stage (length f) (length out) ≡ Some r
    → seen_by (Err r) e out ≡ close_yields tlcp P e f out
unfolding close_yields
close_refused P e f out r q = sym (ap (λ o. seen P o out []) (refused_as tlcp P e (close f (length out)) r q))

pub close_accepted : (P : Protection) (e : End Running) (f out : List ℕ) {d : Done} → close_refusal e.stage (length f) (length out) ≡ None
    → d ≡ done P (perform tlcp P f e closes) out → seen_of_done d ≡ close_yields tlcp P e f out
unfolding close_yields
close_accepted P e f out {d} q p =
    ap seen_of_done p ∙ plain_seen P (perform tlcp P f e closes) out (record { accepted = refl; keeps = refl; sated = refl })
    ∙ sym (ap (λ o. seen P o out []) (acted_as tlcp P e (close f (length out)) q))

-- ---- hand in
pub hand_in_refused : (P : Protection) (e : End Running) (xs f out pl : List ℕ) (r : Refusal) → hand_in_refusal e.stage (message_ready e) (length f) (length out) (length pl) ≡ Some r
    → seen_by_hand_in (Err r) e out pl ≡ hand_in_yields tlcp P e xs f out pl
unfolding hand_in_yields
hand_in_refused P e xs f out pl r q = sym (ap (λ o. seen P o out pl) (refused_as tlcp P e (hand_in xs f (length out) (length pl)) r q))

pub hand_in_accepted : (P : Protection) (e : End Running) (xs f out pl : List ℕ) {s : Seen Running} → hand_in_refusal e.stage (message_ready e) (length f) (length out) (length pl) ≡ None
    → s ≡ seen P (taken tlcp P f e (received (limit_of e.reads_protected) xs)) out pl → s ≡ hand_in_yields tlcp P e xs f out pl
unfolding hand_in_yields
hand_in_accepted P e xs f out pl {s} q p = p ∙ sym (ap (λ o. seen P o out pl) (acted_as tlcp P e (hand_in xs f (length out) (length pl)) q))

-- ---- send
pub send_refused : (P : Protection) (e : End Running) (x f out : List ℕ) (r : Refusal) → send_refusal e.stage e.writes (length x) (length f) (length out) ≡ Some r
    → seen_by (Err r) e out ≡ send_yields tlcp P e x f out
unfolding send_yields
send_refused P e x f out r q = sym (ap (λ o. seen P o out []) (refused_as tlcp P e (send x f (length out)) r q))

pub send_accepted : (P : Protection) (e : End Running) (x f out : List ℕ) {d : Done} → send_refusal e.stage e.writes (length x) (length f) (length out) ≡ None
    → d ≡ done P (perform tlcp P f e (sends x)) out → seen_of_done d ≡ send_yields tlcp P e x f out
unfolding send_yields
send_accepted P e x f out {d} q p =
    ap seen_of_done p ∙ plain_seen P (perform tlcp P f e (sends x)) out (record { accepted = refl; keeps = refl; sated = refl })
    ∙ sym (ap (λ o. seen P o out []) (acted_as tlcp P e (send x f (length out)) q))

-- one record written
pub one_written : (P : Protection) (o : Outcome Running) (out : List ℕ) (w : Write) (r : Report) (e : End Running) (after : List ℕ) → o.writes ≡ w ∷ [] → e ≡ o.end → o.fault ≡ option_map fault_told r.fault
    → r.stage ≡ o.end.stage → r.written ≡ length (octets P o.end.protection w) → after ≡ laid out 0 (octets P o.end.protection w) → done_by r e after ≡ done P o out
one_written P o out w r e after ew ee ef es er ea =
    let n : octets P o.end.protection w ≡ flat P o.end.protection o.writes = sym (ap (flat P o.end.protection) ew ∙ append-nil (octets P o.end.protection w)) in
    simp (es, er, ee, ea, n, ef)
