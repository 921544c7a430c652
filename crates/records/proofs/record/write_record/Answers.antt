use Rattle.std.proofs.Common.{rules}
use Rattle.octets.proofs.Lays.{laid-laid}
use Rattle.records.proofs.record.write_record.Goals as goal

pub returns : goal.returns
returns c = record { end = search rules; after = search (rules, laid-laid) }
