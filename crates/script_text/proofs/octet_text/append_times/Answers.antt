use Rattle.std.proofs.Common.{rules}
use Rattle.script_text.proofs.Repeats.{repeated_none, repeated_more}
use Rattle.script_text.proofs.octet_text.append_times.Goals as goal

pub loop-i-init : goal.loop-i-init
loop-i-init c = search (rules, repeated_none)

pub loop-i-preserved : goal.loop-i-preserved
loop-i-preserved c = search (rules, repeated_more)
