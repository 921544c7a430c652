use Rattle.std.proofs.Common.{◌≡◌, length, rules}
use Rattle.gcm.proofs.Values.{value_sum, sum}
use Rattle.gcm.proofs.blocks.load.Goals as goal

pub returns : goal.returns
unfolding sum
returns c = let e : length c.args.block ≡ 16 = search rules in value_sum c.args.block e c.from_be_bytes.ensures
