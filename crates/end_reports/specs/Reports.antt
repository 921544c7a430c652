-- What the code's reports tell, in the terms of the definitions.
use Rattle.std.specs.Prelude.{◌≡◌, ℕ, true, false, List, [], length, None, Ok, Err, Option, Result}
use Rattle.std.specs.Option.{option_map}
use Rattle.octets.specs.Laid.{laid}
use Rattle.records.specs.declared.fault.Fault.{Fault as Found}
use Rattle.records.specs.Faults.{alert_number}
use Rattle.sm3.specs.Hash.{Running}
use Rattle.model.specs.declared.stage.Stage.{Stage}
use Rattle.model.specs.declared.refusal.Refusal.{Refusal}
use Rattle.model.specs.Protections.{Protection}
use Rattle.model.specs.Endpoint.{End}
use Rattle.model.specs.Outcomes.{Fault, Outcome, output}
use Rattle.model.specs.Results.{Told, Seen}
use Rattle.end_reports.specs.declared.report.Report.{Report}
use Rattle.end_reports.specs.declared.report.HandInReport.{HandInReport}

-- a fault by the number of its alert
abbrev pub fault_told : Found → Fault
fault_told f = record { alert = alert_number f.alert; layer = f.layer }

-- a report: it consumes and releases nothing
abbrev pub told_by : Report → Told
told_by r = record { stage = r.stage; written = r.written; fault = option_map fault_told r.fault; consumed = 0; released = 0; more = false }

-- the report of a hand in
abbrev pub told_by_hand_in : HandInReport → Told
told_by_hand_in r = record { stage = r.stage; written = r.written; fault = option_map fault_told r.fault; consumed = r.consumed; released = r.released; more = r.more }

-- a report read so, or the refusal
abbrev pub answer_of : {A : Type 0} → (A → Told) → Result A Refusal → Result Told Refusal
answer_of f (Ok r) = Ok (f r)
answer_of f (Err e) = Err e

-- all that is seen of a call: its answer, the end and the output after it
abbrev pub seen_by : Result Report Refusal → End Running → List ℕ → Seen Running
seen_by r e out = record { result = answer_of told_by r; end = e; output = out; place = [] }

-- of a hand in also the opening place
abbrev pub seen_by_hand_in : Result HandInReport Refusal → End Running → List ℕ → List ℕ → Seen Running
seen_by_hand_in r e out place = record { result = answer_of told_by_hand_in r; end = e; output = out; place = place }

-- refused: the one is the other
abbrev pub Kept : {A X : Type 0} → Result A Refusal → X → X → Type 0
Kept (Ok r) before after = Unit {0}
Kept (Err e) before after = after ≡ before

-- ---- what an accepted call has done, before it is told
pub record Done : Type 0 where
  pub stage : Stage
  pub written : ℕ
  pub fault : Option Fault
  pub end : End Running
  pub output : List ℕ

-- by an outcome, to an output
abbrev pub done : Protection → Outcome Running → List ℕ → Done
done P o out = record { stage = o.end.stage; written = length (output P o); fault = o.fault; end = o.end; output = laid out 0 (output P o) }

-- as the code reports it
abbrev pub done_by : Report → End Running → List ℕ → Done
done_by r e out = record { stage = r.stage; written = r.written; fault = option_map fault_told r.fault; end = e; output = out }

-- the report of nothing written and no fault
abbrev pub quiet : Stage → Report
quiet s = record { stage = s; written = 0; fault = None }

-- a report as that of a hand in
abbrev pub handed : Report → ℕ → ℕ → HandInReport
handed r consumed released = record { stage = r.stage; written = r.written; fault = r.fault; consumed = consumed; released = released; more = false }

-- the report of a record that is not whole
abbrev pub wanted : Stage → HandInReport
wanted s = record { stage = s; written = 0; fault = None; consumed = 0; released = 0; more = true }
