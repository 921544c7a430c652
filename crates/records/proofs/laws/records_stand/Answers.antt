use Rattle.records.proofs.Receiving.{reads_back, writes_again, parts_fix, makes_octets, more_only, more_always, completes}
use Rattle.records.proofs.laws.records_stand.Goals as goal

pub returns : goal.returns
returns c =
    record {
      back = reads_back;
      again = writes_again;
      fixed = parts_fix;
      makes = makes_octets;
      only = more_only;
      always = more_always;
      completes = completes;
    }
