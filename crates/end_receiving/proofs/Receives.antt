-- A record of a known kind: its outcome, by its content and by what that is judged to do.
use Rattle.std.proofs.Common.{◌≡◌, ℕ, ◌+◌, ◌-◌, ◌*◌, ◌≤◌, min, Bool, true, false, cond, ◌&&◌, eqb, leb, List, [], ◌∷◌, ◌++◌, length, take, None, Ok, Err, Result, sym, refl, ap, ◌∙◌, append-nil, arith, leb-true}
use Rattle.std.proofs.lemmas.List.{take_at, length-append, length-take}
use Rattle.records.specs.declared.fault.Fault.{Fault}
use Rattle.records.specs.declared.fault.Alert.TheVariants.{UnexpectedMessage, BadRecordMac}
use Rattle.records.specs.declared.fault.Layer.TheVariants.{Record as AtRecord}
use Rattle.records.specs.Faults.{alert_number}
use Rattle.octets.specs.Laid.{laid}
use Rattle.records.specs.Kinds.{known_kind}
use Rattle.records.specs.Records.{Received, more, faulty, whole, received}
use Rattle.protection.specs.declared.error.OpenError.{OpenError}
use Rattle.protection.specs.Limits.{content_limit}
use Rattle.handshake.specs.Parts.{is_none}
use Rattle.sm3.specs.Hash.{Running}
use Rattle.model.specs.declared.stage.Stage.{Stage}
use Rattle.model.specs.Limits.{read_limit}
use Rattle.model.specs.Stages.{over}
use Rattle.model.specs.Protections.{Protection, opened_with}
use Rattle.model.specs.Endpoint.{End, with_in}
use Rattle.model.specs.Outcomes.{Outcome, consuming}
use Rattle.model.specs.Deeds.{Deed, perform, raises, waits}
use Rattle.model.specs.Contents.{on_content, on_content_at, on_kind_at}
use Rattle.model.specs.Steps.{on_record, on_opening, taken}
use Rattle.model.proofs.Accepting.{record_accepted, record_whole}
use Rattle.model.specs.Results.{Seen, seen, zeros, released_octets}
use Rattle.model.specs.Tlcp.{tlcp}
use Rattle.end_rules.specs.Effects.{effect_deed, content_deed}
use Rattle.end_rules.specs.declared.content.ContentEffect.{ContentEffect}
use Rattle.end_rules.specs.declared.content.ContentEffect.TheVariants.{PassBy, Close, Die, ClientChange, ServerChange, Buffer, Release}
use Rattle.end_reports.specs.declared.report.Report.{Report}
use Rattle.end_receiving.specs.declared.receipt.Receipt.{Receipt}
use Rattle.end_reports.specs.declared.report.HandInReport.{HandInReport}
use Rattle.end_reports.specs.Reports.{Done, done, done_by, quiet, handed, wanted, seen_by_hand_in}
use Rattle.end_reports.proofs.Yields.{quiet_done, laid_nothing}
use Rattle.end_receiving.specs.Contents.{record_fault, opened_or_fault, content_at, counted_at, content_length, content_placed, kept_by, Takes}

-- an answer is not two things
absurdly : {A : Type 0} → ◌≡◌ {A = ℕ} 0 1 → A
absurdly q = absurd (omega arith)

-- ---- an answer by its length is an answer
pub from_length : (z : Result (List ℕ) Fault) (n : ℕ) → ◌≡◌ {A = Result ℕ Fault} (Ok n) (content_length z) → (y : List ℕ) × (z ≡ Ok y) × (n ≡ length y)
from_length (Ok y) n q = (y, refl, cc)
from_length (Err t) n q = absurdly (cc)

pub from_fault : (z : Result (List ℕ) Fault) (t : Fault) → ◌≡◌ {A = Result ℕ Fault} (Err t) (content_length z) → z ≡ Err t
from_fault (Ok y) t q = absurdly (cc)
from_fault (Err u) t q = cc

-- ---- a content in the opening place
pub content_front : (z : Result (List ℕ) Fault) (y pl : List ℕ) (n m : ℕ) → z ≡ Ok y → n ≡ length y → length pl ≡ m → pl ≡ content_placed z m
    → (take n pl ≡ y) × (n ≤ m) × (pl ≡ take n pl ++ zeros (m - n))
content_front z y pl n m q en em ep =
    let p : pl ≡ y ++ zeros (m - length y) = ep ∙ ap (λ u. content_placed u m) q in
    let t : take n pl ≡ y = ap (take n) p ∙ take_at y (zeros (m - length y)) n (sym en) in
    let l : length pl ≡ length y + length (zeros (m - length y)) = ap length p ∙ length-append y _ in
    (t, omega arith, p ∙ ap (λ u. u ++ zeros (m - length y)) (sym t) ∙ ap (λ u. take n pl ++ zeros (m - u)) (sym en))

-- ---- only what is judged a fault raises: what is not is no longer than it may be
pub judged_short : (s : Stage) (b : Bool) (k : ℕ) (y : List ℕ) (a : ContentEffect) → content_deed (Ok a) y ≡ on_content_at s b k y → length y ≤ content_limit
judged_short s b k y a q = go (is_none y) (leb (length y) content_limit) refl a q
  where
    go : (n l : Bool) → leb (length y) content_limit ≡ l → (a : ContentEffect)
        → effect_deed y a ≡ cond n (raises AtRecord 50) (cond l (on_kind_at s b k y) (raises AtRecord 22)) → length y ≤ content_limit
    go n true p a q = leb-true _ _ p
    go true false p PassBy q = absurdly (cc)
    go true false p Close q = absurdly (cc)
    go true false p Die q = absurdly (cc)
    go true false p ClientChange q = absurdly (cc)
    go true false p ServerChange q = absurdly (cc)
    go true false p Buffer q = absurdly (cc)
    go true false p Release q = absurdly (cc)
    go false false p PassBy q = absurdly (cc)
    go false false p Close q = absurdly (cc)
    go false false p Die q = absurdly (cc)
    go false false p ClientChange q = absurdly (cc)
    go false false p ServerChange q = absurdly (cc)
    go false false p Buffer q = absurdly (cc)
    go false false p Release q = absurdly (cc)

-- what was judged of the front of the place was judged of the content
pub judged_as : (s : Stage) (b : Bool) (k n : ℕ) (pl y bf : List ℕ) (r : Result ContentEffect Fault) → content_deed r (take (n - 0) pl) ≡ on_content_at s b k (take (n - 0) pl)
    → b ≡ is_none bf → take n pl ≡ y → content_deed r y ≡ on_content_at s (is_none bf) k y
judged_as s b k n pl y bf r j eb ty =
    let nz : n - 0 ≡ n = omega arith in
    let t : take (n - 0) pl ≡ y = ap (λ u. take u pl) nz ∙ ty in
    ap (λ u. content_deed r u) (sym t) ∙ j ∙ ap (λ u. on_content_at s b k u) t ∙ ap (λ u. on_content_at s u k y) eb

-- buffered and judged content together find room
pub joins_fit : (len n : ℕ) (pl y : List ℕ) → len ≤ 4095 → take n pl ≡ y → length y ≤ content_limit → len + length (take (n - 0) pl) ≤ 20480
joins_fit len n pl y short ty h =
    let nz : n - 0 ≡ n = omega arith in
    let t : length (take (n - 0) pl) ≡ length y = ap (λ u. length (take u pl)) nz ∙ ap length ty in
    omega arith

module _ (P : Protection) (f : List ℕ) (e : End Running) (k : ℕ) (x out : List ℕ) where
  -- ---- no content: the fault is raised
  pub faulty_done : (b : Bool) (t : Fault) → content_at b P e k x ≡ Err t
      → (done P (perform tlcp P f e (raises t.layer (alert_number t.alert))) out ≡ done P (on_record tlcp P f e b k x) out) × ((on_record tlcp P f e b k x).released ≡ [])
  faulty_done false t q = absurdly (cc)
  faulty_done true t q = go (leb read_limit e.reads) (opened_with P e.protection e.reads k x) q
    where
      raised : (u : Fault) → u ≡ t → done P (perform tlcp P f e (raises t.layer (alert_number t.alert))) out ≡ done P (perform tlcp P f e (raises u.layer (alert_number u.alert))) out
      raised u s = ap (λ v. done P (perform tlcp P f e (raises v.layer (alert_number v.alert))) out) (sym s)

      go : (l : Bool) (z : Result (List ℕ) OpenError) → cond l (Err (record_fault UnexpectedMessage)) (opened_or_fault z) ≡ Err t
          → (done P (perform tlcp P f e (raises t.layer (alert_number t.alert))) out ≡ done P (cond l (perform tlcp P f e (raises AtRecord 10)) (on_opening tlcp P f e k z)) out)
          × ((cond l (perform tlcp P f e (raises AtRecord 10)) (on_opening tlcp P f e k z)).released ≡ [])
      go true z q = (raised (record_fault UnexpectedMessage) (cc), refl)
      go false (Err y) q = (raised (record_fault BadRecordMac) (cc), refl)
      go false (Ok y) q = absurdly (cc)

  -- ---- a content: what it is judged to do, at the end that has counted the record
  pub content_done : (b : Bool) (y : List ℕ) → content_at b P e k x ≡ Ok y
      → (done P (perform tlcp P f (counted_at b e) (on_content (counted_at b e) k y)) out ≡ done P (on_record tlcp P f e b k x) out)
      × ((perform tlcp P f (counted_at b e) (on_content (counted_at b e) k y)).released ≡ (on_record tlcp P f e b k x).released)
  content_done false y q =
      let s : y ≡ x = cc in
      (ap (λ z. done P (perform tlcp P f e (on_content e k z)) out) s, ap (λ z. (perform tlcp P f e (on_content e k z)).released) s)
  content_done true y q = go (leb read_limit e.reads) (opened_with P e.protection e.reads k x) q
    where
      go : (l : Bool) (z : Result (List ℕ) OpenError) → cond l (Err (record_fault UnexpectedMessage)) (opened_or_fault z) ≡ Ok y
          → (done P (perform tlcp P f (with_in true (e.reads + 1) e) (on_content (with_in true (e.reads + 1) e) k y)) out ≡ done P (cond l (perform tlcp P f e (raises AtRecord 10)) (on_opening tlcp P f e k z)) out)
          × ((perform tlcp P f (with_in true (e.reads + 1) e) (on_content (with_in true (e.reads + 1) e) k y)).released ≡ (cond l (perform tlcp P f e (raises AtRecord 10)) (on_opening tlcp P f e k z)).released)
      go true z q = absurdly (cc)
      go false (Err u) q = absurdly (cc)
      go false (Ok u) q =
          let s : y ≡ u = cc in (
            ap (λ z. done P (perform tlcp P f (with_in true (e.reads + 1) e) (on_content (with_in true (e.reads + 1) e) k z)) out) s,
            ap (λ z. (perform tlcp P f (with_in true (e.reads + 1) e) (on_content (with_in true (e.reads + 1) e) k z)).released) s,
          )

  -- what an effect releases
  pub effect_released : (e1 : End Running) (y : List ℕ) (a : ContentEffect) → released_octets (perform tlcp P f e1 (effect_deed y a)).released ≡ kept_by a y
  effect_released e1 y PassBy = refl
  effect_released e1 y Close = refl
  effect_released e1 y Die = refl
  effect_released e1 y ClientChange = refl
  effect_released e1 y ServerChange = refl
  effect_released e1 y Buffer = refl
  effect_released e1 y Release = append-nil y

  -- ---- the record taken: with no content, with a fault in it, and done
  pub takes_no_content : (b : Bool) (t : Fault) (n : ℕ) (e1 : End Running) (after pl : List ℕ) → content_at b P e k x ≡ Err t → e1 ≡ e → after ≡ out → over e.stage ≡ false
      → Takes P f (on_record tlcp P f e b k x) out n (Err t) e1 after pl
  takes_no_content b t n e1 after pl q s a r =
      let h = faulty_done b t q in
      (ap (λ u. done P (perform tlcp P f u (raises t.layer (alert_number t.alert))) out) s ∙ h.0, h.1, a, ap (λ (u : End Running). over u.stage) s ∙ r)

  pub still_running : (b : Bool) → over (counted_at b e).stage ≡ over e.stage
  still_running false = refl
  still_running true = refl

  pub takes_fault : (b : Bool) (t : Fault) (n : ℕ) (y : List ℕ) (e1 : End Running) (after pl : List ℕ) → content_at b P e k x ≡ Ok y → e1 ≡ counted_at b e
      → content_deed (Err t) y ≡ on_content e1 k y → after ≡ out → over e.stage ≡ false
      → Takes P f (on_record tlcp P f e b k x) out n (Err t) e1 after pl
  takes_fault b t n y e1 after pl q s j a r =
      let h = content_done b y q in
      let D : End Running → Deed → Done = λ u d. done P (perform tlcp P f u d) out in
      let w : D e1 (raises t.layer (alert_number t.alert)) ≡ D (counted_at b e) (on_content (counted_at b e) k y) =
      ap (D e1) j ∙ ap (λ u. D u (on_content u k y)) s in
      let v : ◌≡◌ {A = List (List ℕ)} [] (perform tlcp P f (counted_at b e) (on_content (counted_at b e) k y)).released =
      ap (λ d. (perform tlcp P f e1 d).released) j ∙ ap (λ u. (perform tlcp P f u (on_content u k y)).released) s in
      (w ∙ h.0, sym (v ∙ h.1), a, ap (λ (u : End Running). over u.stage) s ∙ still_running b ∙ r)

  pub takes_done : (b : Bool) (a : ContentEffect) (n : ℕ) (y : List ℕ) (e1 e2 : End Running) (after pl : List ℕ) (r : Receipt) → content_at b P e k x ≡ Ok y → e1 ≡ counted_at b e
      → content_deed (Ok a) y ≡ on_content e1 k y → done_by r.report e2 after ≡ done P (perform tlcp P f e1 (effect_deed y a)) out
      → r.released ≡ length (kept_by a y) → pl ≡ kept_by a y ++ zeros (n - length (kept_by a y))
      → Takes P f (on_record tlcp P f e b k x) out n (Ok r) e2 after pl
  takes_done b a n y e1 e2 after pl r q s j d l p =
      let h = content_done b y q in
      let w : done P (perform tlcp P f e1 (effect_deed y a)) out ≡ done P (perform tlcp P f (counted_at b e) (on_content (counted_at b e) k y)) out =
      ap (λ u. done P (perform tlcp P f e1 u) out) j ∙ ap (λ u. done P (perform tlcp P f u (on_content u k y)) out) s in
      let v : (perform tlcp P f e1 (effect_deed y a)).released ≡ (perform tlcp P f (counted_at b e) (on_content (counted_at b e) k y)).released =
      ap (λ u. (perform tlcp P f e1 u).released) j ∙ ap (λ u. (perform tlcp P f u (on_content u k y)).released) s in
      let z : kept_by a y ≡ released_octets (on_record tlcp P f e b k x).released = sym (effect_released e1 y a) ∙ ap released_octets (v ∙ h.1) in
      (d ∙ w ∙ h.0, l ∙ ap length z, p ∙ ap (λ u. u ++ zeros (n - length u)) z)

-- zeros behind nothing
all_zeros : (n : ℕ) → zeros n ≡ zeros (n - 0)
all_zeros n = let q : n ≡ n - 0 = omega arith in ap zeros q

-- ---- what a hand in has done, as it is seen
module _ (P : Protection) (o : Outcome Running) (out : List ℕ) where
  pub hand_seen : (n m : ℕ) (r : Report) (e : End Running) (after pl : List ℕ) (released : ℕ) → o.refused ≡ None → o.more ≡ false
      → done_by r e after ≡ done P o out → released ≡ length (released_octets o.released) → pl ≡ released_octets o.released ++ zeros (m - length (released_octets o.released))
      → (before : List ℕ) → length before ≡ m → seen_by_hand_in (Ok (handed r n released)) e after pl ≡ seen P (consuming n o) out before
  hand_seen n m r e after pl rel ea em d el ep before eb =
      let F : Done → Seen Running = λ u. record { result = Ok (record { stage = u.stage; written = u.written; fault = u.fault; consumed = n; released = rel; more = false }); end = u.end; output = u.output; place = pl } in
      ap F d ∙ simp (el, ep, ea, em, eb)

-- only the length of the opening place counts
pub seen_lengths : (P : Protection) (o : Outcome Running) (out a b : List ℕ) → o.refused ≡ None → length a ≡ length b → seen P o out a ≡ seen P o out b
seen_lengths P o out a b ea el = simp (ea, el)

-- a whole record is no longer than may be
pub received_short : (limit : ℕ) (xs : List ℕ) (k : ℕ) (x : List ℕ) → received limit xs ≡ whole k x → length x ≤ limit
received_short limit [] k x q = absurdly (cc)
received_short limit (a ∷ []) k x q = absurdly (cc)
received_short limit (a ∷ (b ∷ [])) k x q = absurdly (cc)
received_short limit (a ∷ (b ∷ (c ∷ []))) k x q = absurdly (cc)
received_short limit (a ∷ (b ∷ (c ∷ (d ∷ [])))) k x q = absurdly (cc)
received_short limit (a ∷ (b ∷ (c ∷ (d ∷ (h ∷ xs))))) k x q = go (eqb b 1 && eqb c 1) (leb (d * 256 + h) limit) (leb (d * 256 + h) (length xs)) refl q
  where
    go : (v l w : Bool) → leb (d * 256 + h) limit ≡ l
        → cond v (cond l (cond w (whole a (take (d * 256 + h) xs)) more) (faulty 22)) (faulty 70) ≡ whole k x → length x ≤ limit
    go false l w p q = absurdly (cc)
    go true false w p q = absurdly (cc)
    go true true false p q = absurdly (cc)
    go true true true p q =
        let s : take (d * 256 + h) xs ≡ x = cc in
        let n : d * 256 + h ≤ limit = leb-true _ _ p in
        let t : length x ≡ min (d * 256 + h) (length xs) = ap length (sym s) ∙ length-take (d * 256 + h) xs in
        omega arith

-- ---- a whole record: dropped, taken, or at fault
module _ (P : Protection) (f : List ℕ) (e : End Running) (k : ℕ) (x out before : List ℕ) where
  by_kind : (b : Bool) → known_kind k ≡ b
      → taken tlcp P f e (whole k x) ≡ consuming (length x + 5) (cond b (on_record tlcp P f e e.reads_protected k x) (perform tlcp P f e waits))
  by_kind b q = ap (λ u. consuming (length x + 5) (cond u (on_record tlcp P f e e.reads_protected k x) (perform tlcp P f e waits))) q

  pub dropped_seen : (r : HandInReport) (q : Report) → known_kind k ≡ false → q ≡ quiet e.stage → r ≡ handed q (length x + 5) 0 → before ≡ zeros (length before)
      → seen_by_hand_in (Ok r) e out before ≡ seen P (taken tlcp P f e (whole k x)) out before
  dropped_seen r q un eq er clean =
      let o = perform tlcp P f e waits in
      ap (λ u. seen_by_hand_in (Ok u) e out before) er
      ∙ hand_seen P o out (length x + 5) (length before) q e out before 0 refl refl (quiet_done P o out q e eq refl refl refl) refl (clean ∙ all_zeros (length before)) before refl
      ∙ ap (λ u. seen P u out before) (sym (by_kind false un))

  pub taken_seen : (r : HandInReport) (t : Receipt) (e1 : End Running) (after pl : List ℕ) → known_kind k ≡ true
      → Takes P f (on_record tlcp P f e e.reads_protected k x) out (length before) (Ok t) e1 after pl → r ≡ handed t.report (length x + 5) t.released
      → seen_by_hand_in (Ok r) e1 after pl ≡ seen P (taken tlcp P f e (whole k x)) out before
  taken_seen r t e1 after pl un h er =
      let o = on_record tlcp P f e e.reads_protected k x in
      ap (λ u. seen_by_hand_in (Ok u) e1 after pl) er
      ∙ hand_seen P o out (length x + 5) (length before) t.report e1 after pl t.released
      (record_accepted tlcp P f e e.reads_protected k x) (record_whole tlcp P f e e.reads_protected k x) h.0 h.1 h.2 before refl
      ∙ ap (λ u. seen P u out before) (sym (by_kind true un))

  pub raised_seen : (r : HandInReport) (q : Report) (t : Fault) (e1 e2 : End Running) (mid after pl0 pl : List ℕ) → known_kind k ≡ true
      → Takes P f (on_record tlcp P f e e.reads_protected k x) out (length before) (Err t) e1 mid pl0
      → done_by q e2 after ≡ done P (perform tlcp P f e1 (raises t.layer (alert_number t.alert))) mid → r ≡ handed q (length x + 5) 0 → pl ≡ zeros (length before)
      → seen_by_hand_in (Ok r) e2 after pl ≡ seen P (taken tlcp P f e (whole k x)) out before
  raised_seen r q t e1 e2 mid after pl0 pl un h d er ep =
      let o = on_record tlcp P f e e.reads_protected k x in
      let w : done_by q e2 after ≡ done P o out = d ∙ ap (λ u. done P (perform tlcp P f e1 (raises t.layer (alert_number t.alert))) u) h.2 ∙ h.0 in
      let z : 0 ≡ length (released_octets o.released) = ap (λ u. length (released_octets u)) (sym h.1) in
      let v : pl ≡ released_octets o.released ++ zeros (length before - length (released_octets o.released)) =
      ep ∙ all_zeros (length before) ∙ ap (λ u. released_octets u ++ zeros (length before - length (released_octets u))) (sym h.1) in
      ap (λ u. seen_by_hand_in (Ok u) e2 after pl) er
      ∙ hand_seen P o out (length x + 5) (length before) q e2 after pl 0 (record_accepted tlcp P f e e.reads_protected k x) (record_whole tlcp P f e e.reads_protected k x) w z v before refl
      ∙ ap (λ u. seen P u out before) (sym (by_kind true un))

-- ---- a header at fault, a record not whole
module _ (P : Protection) (f : List ℕ) (e : End Running) (out before wiped : List ℕ) (clean : wiped ≡ zeros (length before)) where
  pub wanted-seen : (z : Received) → more ≡ z → seen_by_hand_in (Ok (wanted e.stage)) e out wiped ≡ seen P (taken tlcp P f e z) out before
  wanted-seen z q =
      let w : wiped ≡ zeros (length before - 0) = clean ∙ all_zeros (length before) in
      ap (λ u. record { result = Ok (record { stage = e.stage; written = 0; fault = None; consumed = 0; released = 0; more = true }); end = e; output = u; place = wiped }) (sym (laid_nothing out))
      ∙ ap (λ u. record { result = Ok (record { stage = e.stage; written = 0; fault = None; consumed = 0; released = 0; more = true }); end = e; output = laid out 0 []; place = u }) w
      ∙ ap (λ u. seen P (taken tlcp P f e u) out before) q
