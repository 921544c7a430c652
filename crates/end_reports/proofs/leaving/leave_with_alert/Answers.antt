use Rattle.std.proofs.Common.{append-nil, rules}
use Rattle.end_reports.proofs.leaving.leave_with_alert.Goals as goal

pub returns : goal.returns
returns g c = record { written = simp (append-nil) (search rules); after = simp (append-nil) (search rules); end = c.leave_after_record.ensures _ }
