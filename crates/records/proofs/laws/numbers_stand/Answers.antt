use Rattle.std.proofs.Common.{refl}
use Rattle.records.specs.Faults.{alert_number, alerts, level_number, levels}
use Rattle.records.specs.Kinds.{kind_number, kinds}
use Rattle.records.proofs.Numbering.{numbered_has, listed_is, known_is, alert_back, level_back, kind_back}
use Rattle.records.proofs.laws.numbers_stand.Goals as goal

pub returns : goal.returns
returns c =
    record {
      alerts = (alert_back, numbered_has alert_number alerts);
      levels = (level_back, numbered_has level_number levels);
      kinds = (kind_back, numbered_has kind_number kinds);
      list = (refl, listed_is);
      four = known_is;
    }
