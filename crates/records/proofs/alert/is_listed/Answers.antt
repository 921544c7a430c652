use Rattle.std.proofs.Common.{rules}
use Rattle.records.proofs.Numbering.{listed_is}
use Rattle.records.proofs.alert.is_listed.Goals as goal

pub returns : goal.returns
returns c = search (rules, listed_is)
