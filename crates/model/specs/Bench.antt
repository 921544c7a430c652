-- The pieces for the bench, as one fact about the definitions: of every hash and every protection, of every end
-- at the stage named with an empty buffer, with any output and opening place of sufficient size; the whole result of each.
use Rattle.std.specs.Prelude.{◌≡◌, ℕ, ◌≤◌, true, false, List, [], ◌∷◌, length, Some, None, Ok}
use Rattle.octets.specs.Laid.{laid}
use Rattle.records.specs.declared.fault.Layer.{Layer}
use Rattle.records.specs.declared.fault.Layer.TheVariants.{Record as AtRecord, Content as AtContent}
use Rattle.records.specs.Kinds.{alert_kind}
use Rattle.protection.specs.Limits.{fresh_size}
use Rattle.model.specs.declared.stage.Stage.TheVariants.{AwaitClientKeyExchange, ServerAwaitChange, ServerAwaitFinished, Dead}
use Rattle.model.specs.Stages.{asking, over}
use Rattle.model.specs.Limits.{reply_space, place_space}
use Rattle.model.specs.Schedule.{Schedule}
use Rattle.model.specs.Protections.{Protection}
use Rattle.model.specs.Endpoint.{End, with_stage, with_in, numbered, gone}
use Rattle.model.specs.Outcomes.{octets, put}
use Rattle.model.specs.Deeds.{alerting}
use Rattle.model.specs.Results.{Seen, zeros, hand_in_yields}

module _ {H : Type 0} where
  -- an end that takes records: not over, no question open, nothing buffered
  pub record TakesRecords (e : End H) : Type 0 where
    pub lives : over e.stage ≡ false
    pub asks_not : asking e.stage ≡ false
    pub nothing_buffered : e.buffered ≡ []

-- what a hand in brings beside its octets: 16 fresh octets, and space
pub record Enough (fresh out place : List ℕ) : Type 0 where
  pub sixteen : length fresh ≡ fresh_size
  pub output_space : reply_space ≤ length out
  pub opening_space : place_space ≤ length place

module _ {H : Type 0} (K : Schedule H) (P : Protection) where
  -- more octets are needed: all stays as it was, and the opening place is zeros
  abbrev pub wants_more : End H → List ℕ → List ℕ → Seen H
  wants_more e out place = record { result = Ok (record { stage = e.stage; written = 0; fault = None; consumed = 0; released = 0; more = true }); end = e; output = out; place = zeros (length place) }

  -- so many octets consumed, nothing written, and the end as given
  abbrev pub quietly : End H → ℕ → List ℕ → List ℕ → Seen H
  quietly e n out place = record { result = Ok (record { stage = e.stage; written = 0; fault = None; consumed = n; released = 0; more = false }); end = e; output = out; place = zeros (length place) }

  -- an alert raised at a layer, so many octets consumed: it is written at level 2, and the end is dead
  abbrev pub with_alert : End H → List ℕ → ℕ → Layer → ℕ → List ℕ → List ℕ → Seen H
  with_alert e fresh a l n out place =
      let x = octets P e.protection (put fresh e alert_kind (alerting 2 a)) in
      record { result = Ok (record { stage = Dead; written = length x; fault = Some (record { alert = a; layer = l }); consumed = n; released = 0; more = false }); end = gone Dead (numbered e); output = laid out 0 x; place = zeros (length place) }

  -- the ten pieces
  pub record Bench : Type 0 where
    -- 16 01 01 00: more
    pub short_header : (e : End H) (f out place : List ℕ) → TakesRecords e → Enough f out place
        → hand_in_yields K P e (22 ∷ 1 ∷ 1 ∷ 0 ∷ []) f out place ≡ wants_more e out place
    -- 16 03 01 00 01 00: 70
    pub other_version : (e : End H) (f out place : List ℕ) → TakesRecords e → Enough f out place
        → hand_in_yields K P e (22 ∷ 3 ∷ 1 ∷ 0 ∷ 1 ∷ 0 ∷ []) f out place ≡ with_alert e f 70 AtRecord 0 out place
    -- bare 16 01 01 40 01: 22
    pub bare_too_long : (e : End H) (f out place : List ℕ) → TakesRecords e → Enough f out place → e.reads_protected ≡ false
        → hand_in_yields K P e (22 ∷ 1 ∷ 1 ∷ 64 ∷ 1 ∷ []) f out place ≡ with_alert e f 22 AtRecord 0 out place
    -- protected 17 01 01 48 01: 22
    pub protected_too_long : (e : End H) (f out place : List ℕ) → TakesRecords e → Enough f out place → e.reads_protected ≡ true
        → hand_in_yields K P e (23 ∷ 1 ∷ 1 ∷ 72 ∷ 1 ∷ []) f out place ≡ with_alert e f 22 AtRecord 0 out place
    -- protected 17 01 01 48 00 alone: more
    pub protected_longest : (e : End H) (f out place : List ℕ) → TakesRecords e → Enough f out place → e.reads_protected ≡ true
        → hand_in_yields K P e (23 ∷ 1 ∷ 1 ∷ 72 ∷ 0 ∷ []) f out place ≡ wants_more e out place
    -- bare 18 01 01 00 01 ff: dropped, 6 consumed
    pub unknown_kind : (e : End H) (f out place : List ℕ) → TakesRecords e → Enough f out place → e.reads_protected ≡ false
        → hand_in_yields K P e (24 ∷ 1 ∷ 1 ∷ 0 ∷ 1 ∷ 255 ∷ []) f out place ≡ quietly e 6 out place
    -- 14 01 01 00 01 01 at 25: stage 26, reading protected from number 0
    pub change_awaited : (e : End H) (f out place : List ℕ) → TakesRecords e → Enough f out place → e.reads_protected ≡ false → e.stage ≡ ServerAwaitChange
        → hand_in_yields K P e (20 ∷ 1 ∷ 1 ∷ 0 ∷ 1 ∷ 1 ∷ []) f out place ≡ quietly (with_in true 0 (with_stage ServerAwaitFinished e)) 6 out place
    -- the same at 23: 10
    pub change_too_early : (e : End H) (f out place : List ℕ) → TakesRecords e → Enough f out place → e.reads_protected ≡ false → e.stage ≡ AwaitClientKeyExchange
        → hand_in_yields K P e (20 ∷ 1 ∷ 1 ∷ 0 ∷ 1 ∷ 1 ∷ []) f out place ≡ with_alert e f 10 AtContent 6 out place
    -- 15 01 01 00 02 01 5a: passed by
    pub user_canceled : (e : End H) (f out place : List ℕ) → TakesRecords e → Enough f out place → e.reads_protected ≡ false
        → hand_in_yields K P e (21 ∷ 1 ∷ 1 ∷ 0 ∷ 2 ∷ 1 ∷ 90 ∷ []) f out place ≡ quietly e 7 out place
    -- 01 34 as its content: 47
    pub unlisted_alert : (e : End H) (f out place : List ℕ) → TakesRecords e → Enough f out place → e.reads_protected ≡ false
        → hand_in_yields K P e (21 ∷ 1 ∷ 1 ∷ 0 ∷ 2 ∷ 1 ∷ 52 ∷ []) f out place ≡ with_alert e f 47 AtContent 7 out place
