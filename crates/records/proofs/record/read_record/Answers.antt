use Rattle.std.proofs.Common.{rules}
use Rattle.records.proofs.Framing.{header_read}
use Rattle.records.proofs.record.read_record.Goals as goal

pub returns : goal.returns
returns c =
    record {
      says = header_read c.args.limit c.args.octets.now (search rules) (search rules) (search rules);
      layer = search rules;
    }
